-- The refusals of the three copies are one.
use Rattle.guard_model.proofs.Common.{◌≡◌, ℕ, suc, Bool, true, not, eqb, leb, List, [], ◌∷◌, ◌++◌}
use Rattle.guard_model.proofs.Common.{length, map, Option, Some, None, refl, ◌∙◌, ap, arith, take}
use Rattle.guard_model.proofs.Common.{zero, Geometry, Object, Named, limit_of, Place, Load, Fill}
use Rattle.guard_model.proofs.Common.{Free, Why, Routines, when, rows_of, goes_past, is_absent}
use Rattle.guard_model.proofs.Common.{refusal, dsts_of, srcs_of, drop}
use Rattle.std.proofs.Common.{◌^◌}
use Rattle.std.specs.List.{zip}
use Rattle.op_text.specs.declared.tree.Kind.{Kind}
use Rattle.uprog_code.specs.Shape.{width, results}
use Rattle.machine_model.specs.Routines.{Routine}
use Rattle.machine_model.specs.Refusals.{first, at_place, is_misfit, bbop_refusal, bbop_conditions}
use Rattle.machine_model.specs.Refusals.{operand_conditions, grant_conditions, meets_one}
use Rattle.machine_model.specs.Refusals.{meet_before}
use Rattle.machine_model.specs.declared.Why.TheVariants as why
use Rattle.guard_model.specs.Guarded.{place_on}
use Rattle.guard_model.proofs.Names.{IsLike}

abbrev pub named : ℕ → List Place → List Place
named c places = map (place_on c) places

-- what is alike of each operand is so of the list
all_alike : {X : Type 0} (f h : Place → X) (c : ℕ) → ((p : Place) → f (place_on c p) ≡ h p)
    → (places : List Place) → map f (named c places) ≡ map h places
all_alike f h c e [] = refl
all_alike f h c e (p ∷ places) = rw (e p, all_alike f h c e places) refl

misfits : (table lone : List Named) (c n : ℕ) → IsLike table lone c → (kinds : List Kind)
    (places : List Place)
    → map (is_misfit n) (zip kinds (map (rows_of table) (named c places))) ≡ map (is_misfit n)
    (zip kinds (map (rows_of lone) places))
misfits table lone c n like [] places = refl
misfits table lone c n like (kind ∷ kinds) [] = refl
misfits table lone c n like (kind ∷ kinds) (p ∷ places) =
    ap (λ w. not (eqb w (width kind n)) ∷ map (is_misfit n)
    (zip kinds (map (rows_of table) (named c places)))) (like.wide p)
    ∙ ap (λ rest. not (eqb (rows_of lone p).width (width kind n)) ∷ rest)
    (misfits table lone c n like kinds places)

sizes : (table lone : List Named) (c count : ℕ) → IsLike table lone c → (places : List Place)
    → map (λ (o : Object). not (eqb o.count count)) (map (rows_of table) (named c places)) ≡ map
    (λ (o : Object). not (eqb o.count count)) (map (rows_of lone) places)
sizes table lone c count like [] = refl
sizes table lone c count like (p ∷ places) =
    ap (λ w. not (eqb w count) ∷ map (λ (o : Object). not (eqb o.count count))
    (map (rows_of table) (named c places))) (like.counted p)
    ∙ ap (λ rest. not (eqb (rows_of lone p).count count) ∷ rest)
    (sizes table lone c count like places)

same_letter : (c : ℕ) → eqb c c ≡ true
same_letter c = grind (arith)

meets_like : (c : ℕ) (others : List Place) (p : Place)
    → meets_one (named c others) (place_on c p) ≡ meets_one others p
meets_like c [] p = refl
meets_like c (other ∷ others) p = rw (same_letter c, meets_like c others p) refl

before_like : (c : ℕ) (before places : List Place)
    → meet_before (named c before) (named c places) ≡ meet_before before places
before_like c before [] = refl
before_like c before (p ∷ places) =
    ap (λ b. b ∷ meet_before (named c (p ∷ before)) (named c places)) (meets_like c before p)
    ∙ ap (λ bs. meets_one before p ∷ bs) (before_like c (p ∷ before) places)

-- the first of the copies' operands, and the others
pub taken : (k c : ℕ) (places : List Place) → take k (named c places) ≡ named c (take k places)
taken zero c places = refl
taken (suc k) c [] = refl
taken (suc k) c (p ∷ places) = ap (λ r. place_on c p ∷ r) (taken k c places)

pub dropped : (k c : ℕ) (places : List Place) → drop k (named c places) ≡ named c (drop k places)
dropped zero c places = refl
dropped (suc k) c [] = refl
dropped (suc k) c (p ∷ places) = dropped k c places

overlaps : (k c : ℕ) (places : List Place)
    → meet_before [] (take k (named c places))
    ++ map (meets_one (take k (named c places))) (drop k (named c places))
    ≡ meet_before [] (take k places) ++ map (meets_one (take k places)) (drop k places)
overlaps k c places =
    ap (λ ds. meet_before [] ds ++ map (meets_one ds) (drop k (named c places)))
    (taken k c places)
    ∙ ap (λ ss. meet_before [] (named c (take k places))
    ++ map (meets_one (named c (take k places))) ss) (dropped k c places)
    ∙ ap (λ bs. bs ++ map (meets_one (named c (take k places))) (named c (drop k places)))
    (before_like c [] (take k places))
    ∙ ap (λ bs. meet_before [] (take k places) ++ bs)
    (all_alike (meets_one (named c (take k places))) (meets_one (take k places)) c
    (meets_like c (take k places)) (drop k places))

long : (c : ℕ) (places : List Place) → length (named c places) ≡ length places
long c [] = refl
long c (p ∷ places) = ap suc (long c places)

-- the conditions on a bbop of copies, on the operands by the lone table
abbrev pub mixed_conditions : Geometry → List Named → List Named → Routine → List Place → ℕ → ℕ
    → List (Option Why)
mixed_conditions g table lone o places count n =
    when (not (eqb (length places) (length (results o.shape ++ o.shape.sources)))) why.Arity
    ∷ operand_conditions lone o.shape places count n
    ++ grant_conditions (limit_of g) table o n

six : {X : Type 0} (a b c d e f p q r s t u : X) (rest : List X) → a ≡ p → b ≡ q → c ≡ r → d ≡ s
    → e ≡ t → f ≡ u → a ∷ b ∷ c ∷ d ∷ e ∷ f ∷ rest ≡ p ∷ q ∷ r ∷ s ∷ t ∷ u ∷ rest
six a b c d e f p q r s t u rest g h i j k l = rw (g, h, i, j, k, l) refl

mixed : (g : Geometry) (table lone : List Named) (c : ℕ) → IsLike table lone c → (o : Routine)
    (places : List Place) (count n : ℕ)
    → bbop_conditions (limit_of g) table o (named c places) count n
    ≡ mixed_conditions g table lone o places count n
mixed g table lone c like o places count n =
    six _ _ _ _ _ _ _ _ _ _ _ _ (grant_conditions (limit_of g) table o n)
    (ap (λ l. when (not (eqb l (length (results o.shape ++ o.shape.sources)))) why.Arity)
    (long c places))
    (ap (at_place why.NoObject 0) (all_alike (λ p. is_absent table p.name)
    (λ p. is_absent lone p.name) c (λ p. like.absent p.name) places))
    (ap (at_place why.Slice 0)
    (all_alike (goes_past table) (goes_past lone) c like.past places))
    (ap (at_place why.Width 0)
    (misfits table lone c n like (results o.shape ++ o.shape.sources) places))
    (ap (at_place why.Size 0) (sizes table lone c count like places))
    (ap (at_place why.Overlap 0) (overlaps (length (results o.shape)) c places))

abbrev pub mixed_refusal : Geometry → List Named → List Named → Option Routine → List Place
    → ℕ → ℕ → Option Why
mixed_refusal g table lone None places count n = Some why.NoOp
mixed_refusal g table lone (Some o) places count n =
    first (mixed_conditions g table lone o places count n)

pub bbop_like : (g : Geometry) (table lone : List Named) (c : ℕ) → IsLike table lone c
    → (found : Option Routine) (places : List Place) (count n : ℕ)
    → bbop_refusal g table found (named c places) count n
    ≡ mixed_refusal g table lone found places count n
bbop_like g table lone c like None places count n = refl
bbop_like g table lone c like (Some o) places count n = ap first
    (mixed g table lone c like o places count n)

-- the destinations and the sources among the copies' operands
pub dsts_like : (c : ℕ) (found : Option Routine) (places : List Place)
    → dsts_of found (named c places) ≡ named c (dsts_of found places)
dsts_like c None places = refl
dsts_like c (Some o) places = taken (length (results o.shape)) c places

pub srcs_like : (c : ℕ) (found : Option Routine) (places : List Place)
    → srcs_of found (named c places) ≡ named c (srcs_of found places)
srcs_like c None places = refl
srcs_like c (Some o) places = dropped (length (results o.shape)) c places

abbrev load_by : Bool → Bool → ℕ → ℕ → List ℕ → Option Why
load_by absent past width count values = first
    (when absent (why.NoObject 0) ∷ when past (why.Slice 0)
    ∷ when (not (eqb (length values) count)) why.Count
    ∷ at_place why.Range 1 (map (λ v. leb (2 ^ width) v) values) ∷ [])

load_same : (a b p q : Bool) (v w m n : ℕ) (values : List ℕ) → a ≡ b → p ≡ q → v ≡ w → m ≡ n
    → load_by a p v m values ≡ load_by b q w n values
load_same a b p q v w m n values e f h i = rw (e, f, h, i) refl

pub load_like : (g : Geometry) (operations : Routines) (table lone : List Named) (c : ℕ)
    → IsLike table lone c → (place : Place) (values : List ℕ) → refusal g operations table
    (Load (place_on c place) values) ≡ refusal g operations lone (Load place values)
load_like g operations table lone c like place values = load_same _ _ _ _ _ _ _ _ values
    (like.absent place.name) (like.past place) (like.wide place) (like.counted place)

abbrev fill_by : Bool → Bool → ℕ → ℕ → Option Why
fill_by absent past width value = first
    (when absent (why.NoObject 0) ∷ when past (why.Slice 0)
    ∷ when (leb (2 ^ width) value) (why.Range 1) ∷ [])

fill_same : (a b p q : Bool) (v w value : ℕ) → a ≡ b → p ≡ q → v ≡ w
    → fill_by a p v value ≡ fill_by b q w value
fill_same a b p q v w value e f h = rw (e, f, h) refl

pub fill_like : (g : Geometry) (operations : Routines) (table lone : List Named) (c : ℕ)
    → IsLike table lone c → (place : Place) (value : ℕ) → refusal g operations table
    (Fill (place_on c place) value) ≡ refusal g operations lone (Fill place value)
fill_like g operations table lone c like place value = fill_same _ _ _ _ _ _ value
    (like.absent place.name) (like.past place) (like.wide place)

pub free_like : (g : Geometry) (operations : Routines) (table lone : List Named) (c : ℕ)
    → IsLike table lone c → (name : List ℕ) → refusal g operations table (Free (c ∷ name))
    ≡ refusal g operations lone (Free name)
free_like g operations table lone c like name = ap (λ b. when b (why.NoObject 0)) (like.absent name)
