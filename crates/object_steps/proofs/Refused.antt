-- The first condition that holds.
use Rattle.object_steps.proofs.Common.{◌≡◌, ℕ, ◌+◌, ◌<◌, false, List, [], ◌∷◌, Option, Some, None}
use Rattle.object_steps.proofs.Common.{map, position, refl, sym, ◌∙◌, ap, arith, nat_le, All, ◌^◌}
use Rattle.object_steps.proofs.Common.{option_map, nat_tests, Why, at_place, first, at_place-map}
use Rattle.std.specs.List.{AllByRecursion}
use Rattle.std.proofs.lemmas.List.Elements.{All-from_recursion}
use Rattle.machine_model.proofs.Facts.{place_none}
use Rattle.machine_model.specs.declared.Why.TheVariants as why

pub alone : (found : Option Why) → first (found ∷ []) ≡ found
alone None = refl
alone (Some reason) = refl

small_value : (n v : ℕ) → nat_le (2 ^ n) v ≡ false → v < 2 ^ n
small_value n v h = grind (arith, nat_tests)

small_values : (reason : ℕ → Why) (n k : ℕ) (values : List ℕ)
    → at_place reason k (map (λ v. nat_le (2 ^ n) v) values) ≡ None
    → AllByRecursion (λ v. v < 2 ^ n) values
small_values reason n k [] h = tt
small_values reason n k (v ∷ values) h =
    let here = place_none reason k (nat_le (2 ^ n) v) (map (λ v. nat_le (2 ^ n) v) values) h in
    (small_value n v here.0, small_values reason n (k + 1) values here.1)

-- where no value is too great, all are small
pub all_small : (n : ℕ) (values : List ℕ)
    → None ≡ position (λ v. nat_le (2 ^ n) v) values → All (λ v. v < 2 ^ n) values
all_small n values e = All-from_recursion (λ v. v < 2 ^ n) values (small_values (λ k. why.Range k) n
    1 values (at_place-map (λ k. why.Range k) 1 (λ v. nat_le (2 ^ n) v) values
    ∙ ap (option_map (λ i. why.Range (1 + i))) (sym e)))
