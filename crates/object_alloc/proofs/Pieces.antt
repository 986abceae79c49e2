-- Lists of pieces of one length.
use Rattle.object_alloc.proofs.Common.{◌≡◌, ℕ, zero, suc, ◌+◌, ◌*◌, ◌<◌, ◌≤◌, List, [], ◌∷◌, ◌++◌}
use Rattle.object_alloc.proofs.Common.{length, take, drop, refl, sym, ap, ◌∙◌, arith, flat_map}
use Rattle.object_alloc.proofs.Common.{range_with_len, take_at, drop_at, drop-drop, take_all}
use Rattle.object_alloc.proofs.Common.{length-append}

pub take-add : {X : Type 0} (m n : ℕ) (xs : List X)
    → take (m + n) xs ≡ take m xs ++ take n (drop m xs)
take-add zero n xs = let e : 0 + n ≡ n = omega arith in ap (λ (k : ℕ). take k xs) e
take-add (suc m) n [] = take_all (suc m + n) [] (omega arith) ∙ sym (take_all n [] (omega arith))
take-add (suc m) n (x ∷ xs) = let e : suc m + n ≡ suc (m + n) = omega arith in
    ap (λ (k : ℕ). take k (x ∷ xs)) e ∙ ap (λ (ys : List _). x ∷ ys) (take-add m n xs)

-- the pieces one after the other
pub joined : {X : Type 0} (size : ℕ) (xs : List X) (a n : ℕ)
    → flat_map (λ k. take size (drop (size * k) xs)) (range_with_len a n)
    ≡ take (size * n) (drop (size * a) xs)
joined size xs a zero = let e : size * 0 ≡ 0 = omega arith in rw e refl
joined size xs a (suc n) =
    let e : size * suc n ≡ size + size * n = omega arith in
    let after : size * a + size ≡ size * (a + 1) = omega arith in
    let next : drop size (drop (size * a) xs) ≡ drop (size * (a + 1)) xs =
    drop-drop size (size * a) xs ∙ ap (λ (k : ℕ). drop k xs) after in
    ap (λ (ys : List _). take size (drop (size * a) xs) ++ ys) (joined size xs (a + 1) n
    ∙ ap (take (size * n)) (sym next))
    ∙ sym (take-add size (size * n) (drop (size * a) xs))
    ∙ ap (λ (k : ℕ). take k (drop (size * a) xs)) (sym e)

pub joined_all : {X : Type 0} (size : ℕ) (xs : List X) (n : ℕ)
    → flat_map (λ k. take size (drop (size * k) xs)) (range_with_len 0 n) ≡ take (size * n) xs
joined_all size xs n = let none : size * 0 ≡ 0 = omega arith in
    joined size xs 0 n ∙ ap (λ (k : ℕ). take (size * n) (drop k xs)) none

-- the same pieces
pub flat_map-range : {X : Type 0} (f g : ℕ → List X) (a n : ℕ)
    → ((k : ℕ) → a ≤ k → k < a + n → f k ≡ g k)
    → flat_map f (range_with_len a n) ≡ flat_map g (range_with_len a n)
flat_map-range f g a zero h = refl
flat_map-range f g a (suc n) h = rw (
  h a (omega arith) (omega arith),
  flat_map-range f g (a + 1) n (λ k l m. h k (omega arith) (omega arith)),
) refl

pub length-pieces : {X : Type 0} (size : ℕ) (f : ℕ → List X) (a n : ℕ)
    → ((k : ℕ) → a ≤ k → k < a + n → length (f k) ≡ size)
    → length (flat_map f (range_with_len a n)) ≡ size * n
length-pieces size f a zero h = omega arith
length-pieces size f a (suc n) h = omega (
  arith,
  length-append (f a) (flat_map f (range_with_len (a + 1) n)),
  h a (omega arith) (omega arith),
  length-pieces size f (a + 1) n (λ k l m. h k (omega arith) (omega arith)),
)

-- one of the pieces
pub piece_at : {X : Type 0} (size : ℕ) (f : ℕ → List X) (a n i : ℕ) → i < n
    → ((k : ℕ) → a ≤ k → k < a + n → length (f k) ≡ size)
    → take size (drop (size * i) (flat_map f (range_with_len a n))) ≡ f (a + i)
piece_at size f a zero i l h = absurd (omega arith)
piece_at size f a (suc n) zero l h =
    let none : size * 0 ≡ 0 = omega arith in
    let same : a ≡ a + 0 = omega arith in
    let rest : List _ = flat_map f (range_with_len (a + 1) n) in
    ap (λ (k : ℕ). take size (drop k (f a ++ rest))) none
    ∙ take_at (f a) rest size (h a (omega arith) (omega arith)) ∙ ap f same
piece_at size f a (suc n) (suc i) l h =
    let rest : List _ = flat_map f (range_with_len (a + 1) n) in
    let e : size * suc i ≡ size + size * i = omega arith in
    let past : drop (size * suc i) (f a ++ rest) ≡ drop (size * i) rest =
    ap (λ (k : ℕ). drop k (f a ++ rest)) e ∙ sym (drop-drop (size * i) size (f a ++ rest))
    ∙ ap (drop (size * i)) (drop_at (f a) rest size (h a (omega arith) (omega arith))) in
    let same : a + 1 + i ≡ a + suc i = omega arith in
    ap (take size) past ∙ piece_at size f (a + 1) n i (omega arith) (λ k m o.
    h k (omega arith) (omega arith)) ∙ ap f same
