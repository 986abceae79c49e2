-- Each part of a list, as far as a loop has come.
use Rattle.std.proofs.Common.{ℕ, zero, suc, ◌≤◌, List, [], ◌∷◌, length, take, map, arith}
use Rattle.op_text.specs.Spelling.{Each}

pub each_all : {A : Type 0} (ok : A → Type 0) (xs : List A) (i : ℕ) → length xs ≤ i
    → Each ok (take i xs) → Each ok xs
each_all ok [] i l h = tt
each_all ok (y ∷ xs) zero l h = absurd (omega arith)
each_all ok (y ∷ xs) (suc i) l h = (h.0, each_all ok xs i (omega arith) h.1)

pub each_mapped : {A B : Type 0} (ok : B → Type 0) (f : A → B) (xs : List A)
    → Each (λ a. ok (f a)) xs → Each ok (map f xs)
each_mapped ok f [] h = tt
each_mapped ok f (x ∷ xs) h = (h.0, each_mapped ok f xs h.1)
