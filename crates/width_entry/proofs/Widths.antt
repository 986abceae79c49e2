-- What the code of an entry for a width issues at that width, and at all others.
use Rattle.width_entry.proofs.Common.{◌≡◌, ℕ, suc, ◌+◌, ◌-◌, ◌*◌, ◌<◌, ◌≤◌, List, ◌∷◌, ◌++◌, length}
use Rattle.width_entry.proofs.Common.{map, refl, sym, ap, ◌∙◌, arith, Some, ◌≢◌, ◌^◌, if◌then◌else◌}
use Rattle.width_entry.proofs.Common.{slice_get, ⊎_elim, cases_lt, lt-ltb, WIDTH_MAX, WALK_MAX, Uop}
use Rattle.width_entry.proofs.Common.{Done, SetI, Shape, Ended, Issue, issue, start, trace}
use Rattle.width_entry.proofs.Common.{trace_is}
use Rattle.std.proofs.lemmas.Bool.{le-ltb}
use Rattle.width_entry.specs.Lines.{AreNameable}
use Rattle.width_entry.specs.Code.{behind, line_code, moved_uop, test_code}
use Rattle.width_entry.specs.Widths.{moved, test_steps}
use Rattle.width_entry.proofs.Steps.{beyond, go}
use Rattle.width_entry.proofs.Tests.{BeginsWithTest, above, begun, below, cleared, same}
use Rattle.width_entry.proofs.Lines.{line_does, line_room_is}
use Rattle.width_entry.proofs.Moved.{moved_walk}
use Rattle.width_entry.proofs.Legal.{behind_is, front, front_long}

module _ (shape : Shape) (n : ℕ) (cs : List Issue) (own : List Uop) where
  abbrev line : List Uop
  line = line_code cs

  abbrev code : List Uop
  code = behind n line own

  abbrev other : ℕ
  other = length line + 9

  begins : BeginsWithTest n other code
  begins = record {
    at0 = refl;
    at1 = refl;
    at2 = refl;
    at3 = refl;
    at4 = refl;
    at5 = refl;
    at6 = refl;
    at7 = refl;
  }

  abbrev end : List Uop
  end = Done ∷ SetI 0 0 ∷ SetI 1 0 ∷ map (moved_uop (length line + 11)) own

  -- an instruction behind the line
  behind_line : (k : ℕ) → slice_get code (k + length line + 8) ≡ slice_get end k
  behind_line k =
      beyond (test_code n other) (line ++ end) (k + length line) (k + length line + 8) refl
      ∙ beyond line end k (k + length line) refl

  first_cleared : slice_get code other ≡ Some (SetI 0 0)
  first_cleared = let at : other ≡ 1 + length line + 8 = omega arith in
      ap (slice_get code) at ∙ behind_line 1

  second_cleared : slice_get code (other + 1) ≡ Some (SetI 1 0)
  second_cleared = let at : other + 1 ≡ 2 + length line + 8 = omega arith in
      ap (slice_get code) at ∙ behind_line 2

  -- at the width
  pub here : 0 < n → n ≤ WIDTH_MAX → AreNameable shape n cs
      → length line + 11 + length own < 2 ^ 16 → trace shape code n ≡ Ended cs
  here some narrow named room =
      let less : n ≡ suc (n - 1) = omega arith in
      let long = line_room_is cs in
      let left = WALK_MAX - (4 * n + 3) in
      sym (trace_is shape code n)
      ∙ begun shape code n n other begins WALK_MAX (WALK_MAX - 2) (omega arith)
      ∙ ap (λ x. go shape code n (WALK_MAX - 2) 2 x x) less
      ∙ same shape code n n other begins (n - 1) left (WALK_MAX - 2) (omega arith)
      ∙ line_does shape code n cs (test_code n other)
      (SetI 0 0 ∷ SetI 1 0 ∷ map (moved_uop (length line + 11)) own) left 0 0 named refl
      (omega (arith, long, room, narrow))

  -- from the entry's own first instruction on
  own_walk : (m left : ℕ) → go shape code m left (other + 1 + 1) 0 0
      ≡ moved (length line + 11) (issue shape own m left 0 start)
  own_walk m left =
      ap (λ us. issue shape us m left (other + 1 + 1) start) (behind_is n line own)
      ∙ moved_walk shape m (length line + 11) own (front n line) (front_long n line) left 0
      (other + 1 + 1) start (omega arith)

  abbrev Elsewhere : ℕ → Type 0
  Elsewhere m = trace shape code m ≡ moved (length line + 11)
      (issue shape own m (WALK_MAX - test_steps n m) 0 start)

  -- at a lesser width
  lesser : (m : ℕ) → 0 < m → n ≤ WIDTH_MAX → m < n → Elsewhere m
  lesser m some narrow lt =
      let next : n ≡ suc (n - 1) = omega arith in
      let steps : test_steps n m ≡ 4 * m + 6 =
      ap (λ b. if b then 4 * m + 6 else 4 * n + 5) (lt-ltb m n lt) in
      let left = WALK_MAX - (4 * m + 6) in
      sym (trace_is shape code m)
      ∙ begun shape code n m other begins WALK_MAX (WALK_MAX - 2) (omega arith)
      ∙ ap (go shape code m (WALK_MAX - 2) 2 m) next
      ∙ below shape code n m other begins m (n - 1 - m) (n - 1) (left + 2) (WALK_MAX - 2)
      (omega arith) (omega arith)
      ∙ cleared shape code n m other begins (left + 2) left 0 (suc (n - 1 - m)) refl first_cleared
      second_cleared
      ∙ own_walk m left
      ∙ ap (λ s. moved (length line + 11) (issue shape own m (WALK_MAX - s) 0 start)) (sym steps)

  -- at a greater width
  greater : (m : ℕ) → 0 < n → n ≤ WIDTH_MAX → n < m → Elsewhere m
  greater m some narrow lt =
      let next : n ≡ suc (n - 1) = omega arith in
      let more : m ≡ suc (m - 1) = omega arith in
      let steps : test_steps n m ≡ 4 * n + 5 =
      ap (λ b. if b then 4 * m + 6 else 4 * n + 5) (le-ltb m n (omega (arith, lt))) in
      let left = WALK_MAX - (4 * n + 5) in
      sym (trace_is shape code m)
      ∙ begun shape code n m other begins WALK_MAX (WALK_MAX - 2) (omega arith)
      ∙ ap (λ x. go shape code m (WALK_MAX - 2) 2 x n) more
      ∙ ap (go shape code m (WALK_MAX - 2) 2 (suc (m - 1))) next
      ∙ above shape code n m other begins (n - 1) (m - n - 1) (m - 1) (left + 2) (WALK_MAX - 2)
      (omega arith) (omega arith)
      ∙ cleared shape code n m other begins (left + 2) left (suc (m - n - 1)) 0 refl first_cleared
      second_cleared
      ∙ own_walk m left
      ∙ ap (λ s. moved (length line + 11) (issue shape own m (WALK_MAX - s) 0 start)) (sym steps)

  pub elsewhere : (m : ℕ) → 0 < n → n ≤ WIDTH_MAX → 0 < m → m ≢ n → Elsewhere m
  elsewhere m some narrow pos ne =
      ⊎_elim (λ lt. lesser m pos narrow lt) (λ le. greater m some narrow (omega (arith, le, ne)))
      (cases_lt m n)
