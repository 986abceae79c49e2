-- The code of an entry for a width is legal.
use Rattle.width_entry.proofs.Common.{and_from, and_parts, ◌≡◌, ℕ, zero, suc, ◌+◌, ◌-◌, ◌*◌, ◌<◌}
use Rattle.width_entry.proofs.Common.{◌≤◌, true, List, [], ◌∷◌, ◌++◌, length, map, refl, sym, ap}
use Rattle.width_entry.proofs.Common.{◌∙◌, subst, ⊎_elim, arith, ◌&&◌, ◌^◌, ◌==◌, if◌then◌else◌}
use Rattle.width_entry.proofs.Common.{nat_lt, nat_le, slice_get, option_map, cases_lt, eqb-true}
use Rattle.width_entry.proofs.Common.{lt-ltb, le-leb, eqb-suc-zero, append_assoc, length-append}
use Rattle.width_entry.proofs.Common.{slice_get-map, RowSpace, RowRef, Uop, Done, SetI, SetN, SetT}
use Rattle.width_entry.proofs.Common.{Mov, Add, AddI, SubI, Bnez, Aap, Ap, Shape, Issue, IssueAap}
use Rattle.width_entry.proofs.Common.{IssueAp, is_issued_in, IsLegalCode, may_be_first}
use Rattle.width_entry.proofs.Common.{may_be_second, some_first}
use Rattle.std.specs.List.{AllByRecursion}
use Rattle.std.proofs.lemmas.Bool.{ltb-true}
use Rattle.std.proofs.Math.Nat.{mul_comm, mul-le-mul_left}
use Rattle.std.proofs.lemmas.List.{length-map}
use Rattle.op_text.specs.declared.tree.Kind.{Kind}
use Rattle.uprog_code.specs.Shape.{results}
use Rattle.uprog_code.specs.Machine.{in_kind}
use Rattle.uprog_code.specs.Legal.{is_first, is_legal, is_place, is_row, is_second}
use Rattle.uprog_code.specs.declared.code.RowSpace.TheVariants as space
use Rattle.width_entry.specs.Lines.{AreNameable, is_named, is_nameable, is_position}
use Rattle.width_entry.specs.Code.{behind, command_code, line_code, moved_uop, no_register, row_by}
use Rattle.width_entry.specs.Code.{setting, test_code}
use Rattle.width_entry.proofs.Lines.{set_is}
use Rattle.width_entry.proofs.Steps.{beyond}

all_append : {X : Type 0} (P : X → Type 0) (xs ys : List X) → AllByRecursion P xs
    → AllByRecursion P ys → AllByRecursion P (xs ++ ys)
all_append P [] ys h k = k
all_append P (x ∷ xs) ys h k = (h.0, all_append P xs ys h.1 k)

kind_there : (ks : List Kind) (which n i : ℕ) → in_kind (slice_get ks which) n i ≡ true
    → nat_lt which (length ks) ≡ true
kind_there [] which n i h = absurd (cc)
kind_there (k ∷ ks) zero n i h = lt-ltb 0 (length (k ∷ ks)) (omega arith)
kind_there (k ∷ ks) (suc which) n i h =
    let rest = ltb-true which (length ks) (kind_there ks which n i h) in
    lt-ltb (suc which) (length (k ∷ ks)) (omega (arith, rest))

-- a word of scratch with a position is one of the words
word_there : (which n i words : ℕ) → nat_lt (which * n + i) (n * words) ≡ true
    → nat_lt which words ≡ true
word_there which n i words h =
    let c = ltb-true (which * n + i) (n * words) h in
    ⊎_elim (λ lt. lt-ltb which words lt) (λ (le : words ≤ which).
    let a : n * words ≤ n * which = mul-le-mul_left n le in
    let b : which * n ≡ n * which = mul_comm which n in
    absurd (omega (arith, a, b, c))) (cases_lt which words)

no_suc : (i : ℕ) → (suc i == 0) ≡ true → ⊥
no_suc i h = let e : suc i ≡ 0 = eqb-true (suc i) 0 h in absurd (omega arith)

-- what names the position, where a register holds it
abbrev index_by : ℕ → RowSpace → ℕ → ℕ
index_by r s zero = no_register s
index_by r s (suc i) = r

module _ (shape : Shape) (n : ℕ) where
  place_by : (r : ℕ) (s : RowSpace) (which i : ℕ) → nat_le r 8 ≡ true
      → is_issued_in shape n s which i ≡ true → is_position s i ≡ true
      → is_place shape s which (index_by r s i) ≡ true
  place_by r space.B which zero small h p = and_from (nat_lt which 16) true h refl
  place_by r space.B which (suc i) small h p = absurd (no_suc i p)
  place_by r space.C which zero small h p = and_from (nat_lt which 2) true h refl
  place_by r space.C which (suc i) small h p = absurd (no_suc i p)
  place_by r space.Result which zero small h p =
      and_from (nat_lt which (length (results shape))) true (kind_there (results shape) which n 0 h) refl
  place_by r space.Result which (suc i) small h p = and_from (nat_lt which (length (results shape)))
      (nat_le r 8) (kind_there (results shape) which n (suc i) h) small
  place_by r space.Source which zero small h p =
      and_from (nat_lt which (length shape.sources)) true (kind_there shape.sources which n 0 h) refl
  place_by r space.Source which (suc i) small h p = and_from (nat_lt which (length shape.sources))
      (nat_le r 8) (kind_there shape.sources which n (suc i) h) small
  place_by r space.ScratchBit which zero small h p = and_from (nat_lt which shape.bits) true h refl
  place_by r space.ScratchBit which (suc i) small h p = absurd (no_suc i p)
  place_by r space.ScratchWord which zero small h p =
      and_from (nat_lt which shape.words) true (word_there which n 0 shape.words h) refl
  place_by r space.ScratchWord which (suc i) small h p = and_from (nat_lt which shape.words)
      (nat_le r 8) (word_there which n (suc i) shape.words h) small
  place_by r space.Spill which zero small h p = and_from (nat_lt which 32) true h refl
  place_by r space.Spill which (suc i) small h p = absurd (no_suc i p)

  index_is : (r : ℕ) (x : RowRef) (i : ℕ) → x.index ≡ i
      → (row_by r x).index ≡ index_by r x.space i
  index_is r x zero e = ap (λ j. if j == 0 then no_register x.space else r) e
  index_is r x (suc i) e =
      ap (λ j. if j == 0 then no_register x.space else r) e
      ∙ ap (λ c. if c then no_register x.space else r) (eqb-suc-zero i)

  row_legal : (r : ℕ) (x : RowRef) → nat_le r 8 ≡ true → is_named shape n x ≡ true
      → is_row shape (row_by r x) ≡ true
  row_legal r x small h =
      let b = and_parts (is_issued_in shape n x.space x.which x.index) (is_position x.space x.index) h in
      ap (is_place shape x.space x.which) (index_is r x x.index refl)
      ∙ place_by r x.space x.which x.index small b.0 b.1

  set_one : (size r : ℕ) (s : RowSpace) (which i : ℕ) → nat_lt r 8 ≡ true
      → nat_le (suc i) 1023 ≡ true → AllByRecursion (λ u. is_legal shape size u ≡ true)
      (setting r (record { space = s; which = which; index = suc i }))
  set_one size r s which i small p =
      subst (AllByRecursion (λ u. is_legal shape size u ≡ true)) (sym (set_is r s which i))
      (and_from (nat_lt r 8) (nat_le (suc i) 1023) small p, tt)

  setting_legal : (size r : ℕ) (s : RowSpace) (which i : ℕ) → nat_lt r 8 ≡ true
      → is_position s i ≡ true
      → AllByRecursion (λ u. is_legal shape size u ≡ true)
      (setting r (record { space = s; which = which; index = i }))
  setting_legal size r s which zero small p = tt
  setting_legal size r space.Result which (suc i) small p =
      set_one size r space.Result which i small p
  setting_legal size r space.Source which (suc i) small p =
      set_one size r space.Source which i small p
  setting_legal size r space.ScratchWord which (suc i) small p =
      set_one size r space.ScratchWord which i small p
  setting_legal size r space.B which (suc i) small p = absurd (no_suc i p)
  setting_legal size r space.C which (suc i) small p = absurd (no_suc i p)
  setting_legal size r space.ScratchBit which (suc i) small p = absurd (no_suc i p)
  setting_legal size r space.Spill which (suc i) small p = absurd (no_suc i p)

  position_of : (x : RowRef) → is_named shape n x ≡ true → is_position x.space x.index ≡ true
  position_of x h = (and_parts (is_issued_in shape n x.space x.which x.index)
      (is_position x.space x.index) h).1

  command_legal : (size : ℕ) (c : Issue) → is_nameable shape n c ≡ true
      → AllByRecursion (λ u. is_legal shape size u ≡ true) (command_code c)
  command_legal size (IssueAp x) h =
      let b = and_parts (is_named shape n x) (may_be_first x.space x.which) h in
      all_append (λ u. is_legal shape size u ≡ true) (setting 0 x) (Ap (row_by 0 x) ∷ [])
      (setting_legal size 0 x.space x.which x.index refl (position_of x b.0)) (
        and_from (is_row shape (row_by 0 x)) (may_be_first x.space x.which) (row_legal 0 x refl b.0) b.1,
        tt,
      )
  command_legal size (IssueAap x y) h =
      let b = and_parts (is_named shape n x && may_be_first x.space x.which)
      (is_named shape n y && may_be_second y.space) h in
      let c = and_parts (is_named shape n x) (may_be_first x.space x.which) b.0 in
      let d = and_parts (is_named shape n y) (may_be_second y.space) b.1 in
      let P : Uop → Type 0 = λ u. is_legal shape size u ≡ true in
      let aap = Aap (row_by 0 x) (row_by 1 y) in
      all_append P (setting 0 x) (setting 1 y ++ aap ∷ [])
      (setting_legal size 0 x.space x.which x.index refl (position_of x c.0))
      (all_append P (setting 1 y) (aap ∷ [])
      (setting_legal size 1 y.space y.which y.index refl (position_of y d.0)) (
        and_from (is_first shape (row_by 0 x)) (is_second shape (row_by 1 y))
            (and_from (is_row shape (row_by 0 x)) (may_be_first x.space x.which) (row_legal 0 x refl c.0) c.1)
            (and_from (is_row shape (row_by 1 y)) (may_be_second y.space) (row_legal 1 y refl d.0) d.1),
        tt,
      ))

  line_legal : (size : ℕ) (cs : List Issue) → AreNameable shape n cs
      → AllByRecursion (λ u. is_legal shape size u ≡ true) (line_code cs)
  line_legal size [] h = tt
  line_legal size (c ∷ cs) h = all_append (λ u. is_legal shape size u ≡ true) (command_code c)
      (line_code cs) (command_legal size c h.0) (line_legal size cs h.1)

  moved_legal : (by own size : ℕ) (u : Uop) → own + by ≤ size → is_legal shape own u ≡ true
      → is_legal shape size (moved_uop by u) ≡ true
  moved_legal by own size Done le h = h
  moved_legal by own size (SetI r k) le h = h
  moved_legal by own size (SetN r) le h = h
  moved_legal by own size (SetT r) le h = h
  moved_legal by own size (Mov r s) le h = h
  moved_legal by own size (Add r s) le h = h
  moved_legal by own size (AddI r k) le h = h
  moved_legal by own size (SubI r k) le h = h
  moved_legal by own size (Bnez r t) le h =
      let b = and_parts (nat_lt r 8) (nat_lt t own) h in
      let lt = ltb-true t own b.1 in
      and_from (nat_lt r 8) (nat_lt (t + by) size) b.0 (lt-ltb (t + by) size (omega (arith, lt, le)))
  moved_legal by own size (Aap x y) le h = h
  moved_legal by own size (Ap x) le h = h

  all_moved : (by own size : ℕ) (us : List Uop) → own + by ≤ size
      → AllByRecursion (λ u. is_legal shape own u ≡ true) us
      → AllByRecursion (λ u. is_legal shape size u ≡ true) (map (moved_uop by) us)
  all_moved by own size [] le h = tt
  all_moved by own size (u ∷ us) le h =
      (moved_legal by own size u le h.0, all_moved by own size us le h.1)

  test_legal : (size other : ℕ) → 8 < size → other < size → n ≤ 1023
      → AllByRecursion (λ u. is_legal shape size u ≡ true) (test_code n other)
  test_legal size other lt some small =
      let jump = lt-ltb other size some in
      let four = lt-ltb 4 size (omega (arith, lt)) in
      let back = lt-ltb 2 size (omega (arith, lt)) in
      (refl, (le-leb n 1023 small, (four, (jump, (refl, (refl, (back, (jump, tt))))))))

-- how long it is
pub long_is : (n : ℕ) (line own : List Uop) → length (behind n line own)
    ≡ length line + 11 + length own
long_is n line own =
    let rest = Done ∷ SetI 0 0 ∷ SetI 1 0 ∷ map (moved_uop (length line + 11)) own in
    let whole = length-append line rest in
    let same = length-map own (moved_uop (length line + 11)) in
    let front = length-append (test_code n (length line + 9)) (line ++ rest) in
    omega (arith, whole, same, front)

-- what stands before the entry's own code
abbrev pub front : ℕ → List Uop → List Uop
front n line = test_code n (length line + 9) ++ (line ++ Done ∷ SetI 0 0 ∷ SetI 1 0 ∷ [])

pub front_long : (n : ℕ) (line : List Uop) → length (front n line) ≡ length line + 11
front_long n line =
    let all = length-append (test_code n (length line + 9)) (line ++ Done ∷ SetI 0 0 ∷ SetI 1 0 ∷ [])
    in let rest = length-append line (Done ∷ SetI 0 0 ∷ SetI 1 0 ∷ []) in
    omega (arith, all, rest)

pub behind_is : (n : ℕ) (line own : List Uop)
    → behind n line own ≡ front n line ++ map (moved_uop (length line + 11)) own
behind_is n line own =
    let test = test_code n (length line + 9) in
    let end = Done ∷ SetI 0 0 ∷ SetI 1 0 ∷ [] in
    let moved = map (moved_uop (length line + 11)) own in
    sym (append_assoc test (line ++ end) moved ∙ ap (λ us. test ++ us) (append_assoc line end moved))

pub behind_legal : (shape : Shape) (n : ℕ) (cs : List Issue) (own : List Uop) → n ≤ 1023
    → AreNameable shape n cs → IsLegalCode shape own
    → length (line_code cs) + 11 + length own < 2 ^ 16
    → IsLegalCode shape (behind n (line_code cs) own)
behind_legal shape n cs own small named legal room =
    let line = line_code cs in
    let code = behind n line own in
    let long = long_is n line own in
    let some = some_first shape own legal in
    let size = length code in
    let P : Uop → Type 0 = λ u. is_legal shape size u ≡ true in
    let moved = map (moved_uop (length line + 11)) own in
    let far = front_long n line in
    let last = beyond (front n line) moved (length own - 1) (length code - 1)
    (omega (arith, far, long, some)) in
    record {
      short = omega (arith, room, long);
      each = all_append P (test_code n (length line + 9)) (line ++ (Done ∷ SetI 0 0 ∷ SetI 1 0 ∷ moved))
          (test_legal shape n size (length line + 9) (omega (arith, long, some))
          (omega (arith, long, some)) small)
          (all_append P line (Done ∷ SetI 0 0 ∷ SetI 1 0 ∷ moved) (line_legal shape n size cs named) (
            refl,
            (
              refl,
              (
                refl,
                all_moved shape n (length line + 11) (length own) size own
                    (omega (arith, long)) legal.each,
              ),
            ),
          ));
      last =
          ap (λ us. slice_get us (length code - 1)) (behind_is n line own)
          ∙ last
          ∙ slice_get-map (moved_uop (length line + 11)) own (length own - 1)
          ∙ ap (option_map (moved_uop (length line + 11))) legal.last;
    }
