-- What is known of an instruction that is not refused.
use Rattle.machine_model.proofs.Common.{◌≡◌, ℕ, zero, suc, ◌+◌, Bool, true, false, not, eqb, List}
use Rattle.machine_model.proofs.Common.{[], ◌∷◌, ◌++◌, length, map, Option, Some, None, refl, sym}
use Rattle.machine_model.proofs.Common.{◌∙◌, ap, subst, arith, length-append, is_none}
use Rattle.machine_model.proofs.Common.{AllByRecursion, nat_tests, Kind, width, need, results}
use Rattle.machine_model.proofs.Common.{Geometry, Object, free, Named, objects_of, has_name, Place}
use Rattle.machine_model.proofs.Common.{limit_of}
use Rattle.std.specs.Prelude.{take, drop}
use Rattle.std.specs.List.{zip}
use Rattle.machine_model.specs.declared.Why.{Why}
use Rattle.machine_model.specs.declared.Why.TheVariants as why
use Rattle.machine_model.specs.Routines.{Routine}
use Rattle.machine_model.specs.Refusals.{first, when, at_place, rows_of, goes_past, is_absent, is_misfit}
use Rattle.machine_model.specs.Refusals.{walks_badly, bbop_conditions, dsts_in, srcs_in, meets_one}
use Rattle.machine_model.specs.Refusals.{meet_before}

-- where no condition holds, neither the first does nor any after it
pub first_none : (c : Option Why) (rest : List (Option Why)) → first (c ∷ rest) ≡ None
    → (c ≡ None) × (first rest ≡ None)
first_none None rest h = (refl, h)
first_none (Some w) rest h = cc

-- a condition that tells no reason does not hold
pub when_none : (b : Bool) (w : Why) → when b w ≡ None → b ≡ false
when_none true w h = cc
when_none false w h = refl

-- where no place is told, neither the first is at fault nor any after it
pub place_none : (w : ℕ → Why) (k : ℕ) (b : Bool) (bs : List Bool) → at_place w k (b ∷ bs) ≡ None
    → (b ≡ false) × (at_place w (k + 1) bs ≡ None)
place_none w k true bs h = cc
place_none w k false bs h = (refl, h)

-- what is not refused for being absent is there
pub not_false : (b : Bool) → not b ≡ false → b ≡ true
not_false true h = refl
not_false false h = cc

-- the operand of a load, fill or print that is not refused is there, within its object
pub operand_is : (absent past : Bool) (rest : List (Option Why))
    → first (when absent (why.NoObject 0) ∷ when past (why.Slice 0) ∷ rest) ≡ None
    → (absent ≡ false) × (past ≡ false) × (first rest ≡ None)
operand_is absent past rest h =
    let one = first_none (when absent (why.NoObject 0)) (when past (why.Slice 0) ∷ rest) h in
    let two = first_none (when past (why.Slice 0)) rest one.1 in
    (when_none absent (why.NoObject 0) one.0, when_none past (why.Slice 0) two.0, two.1)

-- the operand is a part of an object, as wide as its kind, of the count
pub record IsOperand (table : List Named) (count n : ℕ) (kind : Kind) (p : Place) : Type 0 where
  pub present : has_name table p.name ≡ true
  pub inside : goes_past table p ≡ false
  pub wide : (rows_of table p).width ≡ width kind n
  pub counted : (rows_of table p).count ≡ count

-- each operand is as the conditions want it, in order
pub data AreOperands (table : List Named) (count n : ℕ) : List Kind → List Place → Type 0 where
  none : AreOperands table count n [] []
  more : (kind : Kind) (kinds : List Kind) (p : Place) (places : List Place)
      → IsOperand table count n kind p → AreOperands table count n kinds places
      → AreOperands table count n (kind ∷ kinds) (p ∷ places)

-- no destination has a bit of one before it
abbrev pub Differ : List Place → List Place → Type 0
Differ before [] = Unit {0}
Differ before (p ∷ places) = (meets_one before p ≡ false) × Differ (p ∷ before) places

-- no source has a bit of a destination
abbrev pub AreOthers : List Place → List Place → Type 0
AreOthers dsts srcs = AllByRecursion (λ p. meets_one dsts p ≡ false) srcs

equal_tested : (a b : ℕ) → eqb a b ≡ true → a ≡ b
equal_tested a b h = grind (arith, nat_tests)

operands : (table : List Named) (count n k j l m : ℕ) (w z x y : ℕ
    → Why) (kinds : List Kind) (places : List Place) → length places ≡ length kinds
    → at_place w k (map (λ p. is_absent table p.name) places) ≡ None
    → at_place z j (map (goes_past table) places) ≡ None
    → at_place x l (map (is_misfit n) (zip kinds (map (rows_of table) places))) ≡ None
    → at_place y m (map (λ o. not (eqb o.count count)) (map (rows_of table) places)) ≡ None
    → AreOperands table count n kinds places
operands table count n k j l m w z x y [] [] e a d b c = none
operands table count n k j l m w z x y [] (p ∷ places) e a d b c = absurd (omega arith)
operands table count n k j l m w z x y (kind ∷ kinds) [] e a d b c = absurd (omega arith)
operands table count n k j l m w z x y (kind ∷ kinds) (p ∷ places) e a d b c =
    let a' = place_none w k (is_absent table p.name)
    (map (λ p. is_absent table p.name) places) a in
    let d' = place_none z j (goes_past table p) (map (goes_past table) places) d in
    let b' = place_none x l (is_misfit n (kind, rows_of table p))
    (map (is_misfit n) (zip kinds (map (rows_of table) places))) b in
    let c' = place_none y m (not (eqb (rows_of table p).count count))
    (map (λ o. not (eqb o.count count)) (map (rows_of table) places)) c in
    more kind kinds p places
    (record {
      present = not_false _ a'.0;
      inside = d'.0;
      wide = equal_tested _ _ (not_false _ b'.0);
      counted = equal_tested _ _ (not_false _ c'.0);
    })
    (operands table count n (k + 1) (j + 1) (l + 1) (m + 1) w z x y kinds places (omega arith) a'.1
    d'.1 b'.1 c'.1)

-- the operands of the first kinds, and the others
pub parted : (table : List Named) (count n : ℕ) (ks js : List Kind) (xs ys : List Place)
    → length xs ≡ length ks → AreOperands table count n (ks ++ js) (xs ++ ys)
    → AreOperands table count n ks xs × AreOperands table count n js ys
parted table count n [] js [] ys e all = (none, all)
parted table count n [] js (x ∷ xs) ys e all = absurd (omega arith)
parted table count n (k ∷ ks) js [] ys e all = absurd (omega arith)
parted table count n (k ∷ ks) js (x ∷ xs) ys e (more _ _ _ _ op rest) =
    let p = parted table count n ks js xs ys (omega arith) rest in (more k ks x xs op p.0, p.1)

others : (w : ℕ → Why) (k : ℕ) (dsts srcs : List Place)
    → at_place w k (map (meets_one dsts) srcs) ≡ None → AreOthers dsts srcs
others w k dsts [] h = tt
others w k dsts (s ∷ srcs) h = let p = place_none w k (meets_one dsts s) (map (meets_one dsts) srcs)
    h in (p.0, others w (k + 1) dsts srcs p.1)

apart : (w : ℕ → Why) (k : ℕ) (before dsts : List Place) (rest : List Bool)
    → at_place w k (meet_before before dsts ++ rest) ≡ None → Differ before dsts
    × (at_place w (k + length dsts) rest ≡ None)
apart w k before [] rest h = let e : k ≡ k + 0 = omega arith in
    (tt, ap (λ i. at_place w i rest) (sym e) ∙ h)
apart w k before (d ∷ dsts) rest h =
    let p = place_none w k (meets_one before d) (meet_before (d ∷ before) dsts ++ rest) h in
    let q = apart w (k + 1) (d ∷ before) dsts rest p.1 in
    let e : k + suc (length dsts) ≡ k + 1 + length dsts = omega arith in
    ((p.0, q.0), ap (λ i. at_place w i rest) e ∙ q.1)

-- so many places and the others are all
lengths : (m : ℕ) (places : List Place) (k : ℕ) → length places ≡ m + k
    → (length (take m places) ≡ m) × (length (drop m places) ≡ k)
    × (take m places ++ drop m places ≡ places)
lengths zero places k e = (refl, omega (arith, e), refl)
lengths (suc m) [] k e = absurd (omega arith)
lengths (suc m) (x ∷ places) k e = let r = lengths m places k (omega arith) in
    (omega (arith, r.0), r.1, ap (λ l. x ∷ l) r.2)

-- what is known of a bbop that is not refused
pub record IsGood (g : Geometry) (table : List Named) (o : Routine) (places : List Place)
    (count n : ℕ) : Type 0 where
  pub destinations : AreOperands table count n (results o.shape) (dsts_in o.shape places)
  pub sources : AreOperands table count n o.shape.sources (srcs_in o.shape places)
  pub differ : Differ [] (dsts_in o.shape places)
  pub others : AreOthers (dsts_in o.shape places) (srcs_in o.shape places)
  pub walks : walks_badly (o.trace n) ≡ None
  pub room : is_none (free (limit_of g) (objects_of table) (need o.shape n)) ≡ false

-- a bbop that passes all conditions has operands that fit, a walk that ends, and room for its
-- scratch
pub good : (g : Geometry) (table : List Named) (o : Routine) (places : List Place) (count n : ℕ)
    → first (bbop_conditions (limit_of g) table o places count n) ≡ None
    → IsGood g table o places count n
good g table o places count n h =
    let ks = results o.shape in
    let dsts = dsts_in o.shape places in
    let srcs = srcs_in o.shape places in
    let objects = map (rows_of table) places in
    let absent = map (λ (p : Place). is_absent table p.name) places in
    let past = map (goes_past table) places in
    let misfit = map (is_misfit n) (zip (ks ++ o.shape.sources) objects) in
    let count_off = map (λ (p : Object). not (eqb p.count count)) objects in
    let same = meet_before [] dsts ++ map (meets_one dsts) srcs in
    let c6 = when (is_none (free (limit_of g) (objects_of table) (need o.shape n))) why.NoRows
    ∷ [] in
    let c5 = walks_badly (o.trace n) ∷ c6 in
    let c4 = at_place why.Overlap 0 same ∷ c5 in
    let c3 = at_place why.Size 0 count_off ∷ c4 in
    let c2 = at_place why.Width 0 misfit ∷ c3 in
    let later = at_place why.Slice 0 past ∷ c2 in
    let c1 = at_place why.NoObject 0 absent ∷ later in
    let arity = first_none (when (not (eqb (length places) (length (ks ++ o.shape.sources))))
    why.Arity) c1 h in
    let present = first_none (at_place why.NoObject 0 absent) later arity.1 in
    let inside = first_none (at_place why.Slice 0 past) c2 present.1 in
    let wide = first_none (at_place why.Width 0 misfit) c3 inside.1 in
    let counted = first_none (at_place why.Size 0 count_off) c4 wide.1 in
    let other = first_none (at_place why.Overlap 0 same) c5 counted.1 in
    let walks = first_none (walks_badly (o.trace n)) c6 other.1 in
    let room = first_none (when (is_none (free (limit_of g) (objects_of table) (need o.shape n)))
    why.NoRows) [] walks.1 in
    let all : length places ≡ length (ks ++ o.shape.sources) =
    equal_tested _ _ (not_false _ (when_none _ _ arity.0)) in
    let long = lengths (length ks) places (length o.shape.sources) (all
    ∙ length-append ks o.shape.sources) in
    let every = operands table count n 0 0 0 0 why.NoObject why.Slice why.Width why.Size
    (ks ++ o.shape.sources) places all present.0 inside.0 wide.0 counted.0 in
    let both = parted table count n ks o.shape.sources dsts srcs long.0
    (subst (AreOperands table count n (ks ++ o.shape.sources)) (sym long.2) every) in
    let apart' = apart why.Overlap 0 [] dsts (map (meets_one dsts) srcs) other.0 in
    record {
      destinations = both.0;
      sources = both.1;
      differ = apart'.0;
      others = others why.Overlap (0 + length dsts) dsts srcs apart'.1;
      walks = walks.0;
      room = when_none _ _ room.0;
    }
