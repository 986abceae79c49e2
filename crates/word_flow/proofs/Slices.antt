-- The number that so many bits from a place on spell.
use Rattle.word_flow.proofs.Common.{value_below, value_same, pow-add, pow-suc, number, false, arith}
use Rattle.word_flow.proofs.Common.{zero, Bool, refl, ◌≡◌, suc, ◌+◌, ◌*◌, ◌^◌, ◌<◌, ◌∙◌, bit, ap, ℕ}

unfoldable pub val : (ℕ → Bool) → ℕ → ℕ → ℕ
val f a k = number (λ j. f (a + j)) k

pub val_same : (f g : ℕ → Bool) (a k : ℕ) → ((j : ℕ) → j < k → f (a + j) ≡ g (a + j)) → val f a k
    ≡ val g a k
unfolding val
val_same f g a k h = value_same (λ j. f (a + j)) (λ j. g (a + j)) k h

pub val_below : (f : ℕ → Bool) (a k : ℕ) → val f a k < 2 ^ k
unfolding val
val_below f a k = value_below (λ j. f (a + j)) k

pub agree_val : (f : ℕ → Bool) (n : ℕ) → number f n ≡ val f 0 n
unfolding val
agree_val f n = value_same f (λ j. f (0 + j)) n (λ j lj. ap f (omega arith))

pub val_none : (a k : ℕ) → val (λ r. false) a k ≡ 0
unfolding val
val_none a zero = refl
val_none a (suc k) = omega (arith, val_none a k)

pub val_one : (f : ℕ → Bool) (a : ℕ) → val f a 1 ≡ bit (f a)
unfolding val
val_one f a = let b = ap (λ v. bit (f v)) (let e : a + 0 ≡ a = omega arith in e) in omega (arith, b)

pub power : (k : ℕ) → 2 ^ (k + 1) ≡ 2 * 2 ^ k
power k = let e : k + 1 ≡ suc k = omega arith in
    let p = pow-suc 2 k in ap (λ z. 2 ^ z) e ∙ omega (arith, p)

-- one bit more, at the top and at the bottom
pub val_more : (f : ℕ → Bool) (a k r : ℕ) → a + k ≡ r
    → val f a (k + 1) ≡ val f a k + 2 ^ k * bit (f r)
unfolding val
val_more f a k r e = let b = ap (λ v. bit (f v) * 2 ^ k) e in
    let z : k + 1 ≡ suc k = omega arith in ap (val f a) z ∙ omega (arith, b)

pub val_front : (f : ℕ → Bool) (a k : ℕ) → val f a (k + 1) ≡ bit (f a) + 2 * val f (a + 1) k
unfolding val
val_front f a zero = val_one f a ∙ omega arith
val_front f a (suc k) =
    let z : suc k + 1 ≡ suc (suc k) = omega arith in
    let y : suc k ≡ k + 1 = omega arith in
    let h = ap (val f a) y ∙ val_front f a k in
    let b = ap (λ v. bit (f v) * 2 ^ suc k) (let e : a + 1 + k ≡ a + suc k = omega arith in e) in
    let p = ap (λ z. bit (f (a + 1 + k)) * z) (pow-suc 2 k) in
    ap (val f a) z ∙ omega (arith, h, b, p)

-- the low positions and the others
pub val_split : (f : ℕ → Bool) (k m : ℕ) → val f 0 (k + m) ≡ val f 0 k + 2 ^ k * val f k m
unfolding val
val_split f k zero = let e : k + 0 ≡ k = omega arith in rw e (omega arith)
val_split f k (suc m) =
    let e : k + suc m ≡ suc (k + m) = omega arith in
    let w = ap (λ z. bit (f z) * 2 ^ (k + m)) (let u : 0 + (k + m) ≡ k + m = omega arith in u) in
    let q = ap (λ z. bit (f (k + m)) * z) (pow-add 2 k m) in
    ap (val f 0) e ∙ omega (arith, val_split f k m, w, q)
