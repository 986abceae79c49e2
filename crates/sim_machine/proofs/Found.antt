-- Where a condition on operands holds first.
use Rattle.sim_machine.proofs.Common.{◌≡◌, ℕ, ◌+◌, Bool, false, List, [], ◌∷◌, ◌++◌, ◌==◌, true}
use Rattle.sim_machine.proofs.Common.{length, map, Some, None, Option, Result, Ok, Err, results}
use Rattle.sim_machine.proofs.Common.{Named, Place, Routine, first, operand_conditions}
use Rattle.sim_machine.proofs.Common.{bbop_conditions, refl, sym, ◌∙◌, ap, option_map, Why}
use Rattle.sim_machine.proofs.Common.{is_misfit, look_up-some, Kind, Object}
use Rattle.std.proofs.Common.{zip, position}
use Rattle.std.specs.Prelude.{IfErr, if◌then◌else◌}
use Rattle.machine_model.specs.Refusals.{grant_conditions, at_place}
use Rattle.machine_model.proofs.First.{at_place-map}
use Rattle.machine_model.specs.declared.Why.TheVariants as why

map_map : {X Y Z : Type 0} (f : Y → Z) (h : X → Y) (xs : List X)
    → map f (map h xs) ≡ map (λ x. f (h x)) xs
map_map f h [] = refl
map_map f h (x ∷ xs) = ap (λ rest. f (h x) ∷ rest) (map_map f h xs)

pub at_place-map_map : {X Y : Type 0} (reason : ℕ → Why) (k : ℕ) (p : Y → Bool) (h : X
    → Y) (xs : List X) → at_place reason k (map p (map h xs))
    ≡ option_map (λ i. reason (k + i)) (position (λ x. p (h x)) xs)
at_place-map_map reason k p h xs = rw (map_map p h xs) (at_place-map reason k (λ x. p (h x)) xs)

zip-map : {K X Y : Type 0} (h : X → Y) (ks : List K) (xs : List X)
    → zip ks (map h xs) ≡ map (λ p. (p.0, h p.1)) (zip ks xs)
zip-map h [] xs = refl
zip-map h (k ∷ ks) [] = refl
zip-map h (k ∷ ks) (x ∷ xs) = ap (λ rest. (k, h x) ∷ rest) (zip-map h ks xs)

pub at_place-zip : {K X Y : Type 0} (reason : ℕ → Why) (k : ℕ) (p : K × Y → Bool) (h : X
    → Y) (ks : List K) (xs : List X) →
    at_place reason k (map p (zip ks (map h xs)))
    ≡ option_map (λ i. reason (k + i)) (position (λ pair. p (pair.0, h pair.1)) (zip ks xs))
at_place-zip reason k p h ks xs = rw (zip-map h ks xs)
    (at_place-map_map reason k p (λ pair. (pair.0, h pair.1)) (zip ks xs))

pub misfit-none : {X : Type 0} (n : ℕ) (kinds found : List Kind) (f : X → Object) (srcs : List X)
    (b : Bool) → b ≡ false → found ≡ kinds
    → None ≡ position (λ pair. is_misfit n (pair.0, f pair.1)) (zip found srcs)
    → None ≡ (if b then Some (why.Width 0) else at_place why.Width 1
    (map (is_misfit n) (zip kinds (map f srcs))))
misfit-none n kinds found f srcs b e same h =
    rw (e, ← same) (ap (option_map (λ i. why.Width (1 + i))) h
    ∙ sym (at_place-zip why.Width 1 (is_misfit n) f found srcs))

pub ruleset places = (at_place-map, at_place-map_map, at_place-zip, look_up-some)

-- where none of the first conditions holds
first_after : (xs ys : List (Option Why)) → first xs ≡ None → first (xs ++ ys) ≡ first ys
first_after [] ys e = refl
first_after (None ∷ xs) ys e = first_after xs ys e
first_after (Some reason ∷ xs) ys e = absurd (cc)

-- operands that fit leave the conditions on the walk and on the scratch
pub refused_last : {X : Type 0} (limit : ℕ) (table : List Named) (o : Routine)
    (places : List Place) (count n : ℕ) (result : Result X Why)
    → (length places == length (results o.shape ++ o.shape.sources)) ≡ true
    → first (operand_conditions table o.shape places count n) ≡ None
    → IfErr result (λ reason. first (grant_conditions limit table o n) ≡ Some reason)
    → IfErr result (λ reason. first (bbop_conditions limit table o places count n) ≡ Some reason)
refused_last limit table o places count n (Ok x) fit none refused = tt
refused_last limit table o places count n (Err reason) fit none refused =
    rw fit (first_after (operand_conditions table o.shape places count n)
    (grant_conditions limit table o n) none ∙ refused)
