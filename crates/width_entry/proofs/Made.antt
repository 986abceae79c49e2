-- An entry for a width is as its code says.
use Rattle.width_entry.proofs.Common.{◌≡◌, ℕ, ◌+◌, ◌-◌, ◌<◌, ◌≤◌, List, length, refl, sym, ap, ◌∙◌}
use Rattle.width_entry.proofs.Common.{subst, arith, ◌^◌, WIDTH_MAX, WALK_MAX, Uop, Microprogram}
use Rattle.width_entry.proofs.Common.{Shape, Issue, issue, start, IsLegalCode}
use Rattle.width_entry.specs.Lines.{AreNameable, line_room}
use Rattle.width_entry.specs.Code.{behind, line_code}
use Rattle.width_entry.specs.Widths.{IsForWidth, moved, test_steps}
use Rattle.width_entry.proofs.Legal.{behind_legal, long_is}
use Rattle.width_entry.proofs.Lines.{line_room_is}
use Rattle.width_entry.proofs.Widths.{elsewhere, here}

module _ (e : Microprogram) (n : ℕ) (cs : List Issue) (some : 0 < n) (narrow : n ≤ WIDTH_MAX)
    (named : AreNameable e.shape n cs) (room : length (line_code cs) + 11 + length e.code < 2 ^ 16)
  where
    abbrev code : List Uop
    code = behind n (line_code cs) e.code

    by_is : length (line_code cs) + 11 ≡ line_room cs + 11
    by_is = let room = line_room_is cs in omega (arith, room)

    for_width : IsForWidth n cs e (record { name = e.name; shape = e.shape; code = code })
    for_width = record {
      name = refl;
      shape = refl;
      long = let long = long_is n (line_code cs) e.code in omega (arith, long, by_is);
      here = here e.shape n cs e.code some narrow named room;
      elsewhere = λ m pos le ne. elsewhere e.shape n cs e.code m some narrow pos ne
          ∙ ap (λ by. moved by (issue e.shape e.code m (WALK_MAX - test_steps n m) 0 start)) by_is;
    }

    legal : IsLegalCode e.shape e.code → IsLegalCode e.shape code
    legal own = behind_legal e.shape n cs e.code (omega (arith, narrow)) named own room

    pub made_is : (name : List ℕ) (shape : Shape) (items : List Uop) → name ≡ e.name
        → shape ≡ e.shape → items ≡ code
        → IsForWidth n cs e (record { name = name; shape = shape; code = items })
    made_is name shape items same alike is =
        subst (λ x. IsForWidth n cs e (record { name = x; shape = shape; code = items })) (sym same)
        (subst (λ x. IsForWidth n cs e (record { name = e.name; shape = x; code = items }))
        (sym alike)
        (subst (λ x. IsForWidth n cs e (record { name = e.name; shape = e.shape; code = x }))
        (sym is) for_width))

    pub made_legal : (shape : Shape) (items : List Uop) → IsLegalCode e.shape e.code
        → shape ≡ e.shape → items ≡ code → IsLegalCode shape items
    made_legal shape items own alike is =
        subst (λ x. IsLegalCode x items) (sym alike)
        (subst (IsLegalCode e.shape) (sym is) (legal own))
