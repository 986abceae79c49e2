-- The place of the first instruction that names a long name.
use Rattle.tmr_guard.proofs.Common.{◌≡◌, ℕ, Bool, true, false, not, cond, List, [], ◌∷◌, map}
use Rattle.tmr_guard.proofs.Common.{length, refl, ◌∙◌, ◌+◌, ap, Some, None, Option}
use Rattle.std.proofs.Common.{ltb}
use Rattle.std.specs.List.{position, prefix_len}
use Rattle.std.proofs.lemmas.List.{length-map}

prefix_case : (b : Bool) (m n : ℕ) → m ≡ n → cond b (1 + m) 0 ≡ cond b (1 + n) 0
prefix_case true m n e = ap (λ k. 1 + k) e
prefix_case false m n e = refl

prefix_mapped : {X Y : Type 0} (p : Y → Bool) (h : X → Y) (xs : List X)
    → prefix_len p (map h xs) ≡ prefix_len (λ x. p (h x)) xs
prefix_mapped p h [] = refl
prefix_mapped p h (x ∷ xs) = prefix_case (p (h x)) _ _ (prefix_mapped p h xs)

abbrev place_in : ℕ → ℕ → Option ℕ
place_in n size = cond (ltb n size) (Some n) None

pub position_mapped : {X Y : Type 0} (p : Y → Bool) (h : X → Y) (xs : List X)
    → position p (map h xs) ≡ position (λ x. p (h x)) xs
position_mapped p h xs =
    ap (λ n. place_in n (length (map h xs))) (prefix_mapped (λ y. not (p y)) h xs)
    ∙ ap (place_in (prefix_len (λ x. not (p (h x))) xs)) (length-map xs h)
