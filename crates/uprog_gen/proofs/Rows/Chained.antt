-- Rounds that find their states alone may stand after any.
use Rattle.uprog_gen.proofs.Common.{◌≡◌, ℕ, true, List, [], ◌∷◌, ◌++◌, refl, list_all, and_parts}
use Rattle.uprog_gen.proofs.Common.{and_from, Block, RoundOf, states_in, is_alive, finds, left_by}
use Rattle.uprog_gen.proofs.Common.{chained}

-- what is found where none is alive is found anywhere
find_any : (alive ws : List ℕ) → list_all (λ w. is_alive w []) ws ≡ true
    → list_all (λ w. is_alive w alive) ws ≡ true
find_any alive [] h = refl
find_any alive (w ∷ ws) h = cc

pub both_chained : (xs ys : List (RoundOf Block)) (alive : List ℕ) → chained alive xs ≡ true
    → chained [] ys ≡ true → chained alive (xs ++ ys) ≡ true
both_chained [] [] alive h k = refl
both_chained [] (r ∷ rs) alive h k =
    let p = and_parts (finds [] r.part) (chained (left_by r.part) rs) k in
    and_from (finds alive r.part) (chained (left_by r.part) rs)
    (find_any alive (states_in r.part.reads) p.0) p.1
both_chained (r ∷ rs) ys alive h k =
    let p = and_parts (finds alive r.part) (chained (left_by r.part) rs) h in
    and_from (finds alive r.part) (chained (left_by r.part) (rs ++ ys)) p.0
    (both_chained rs ys (left_by r.part) p.1 k)
