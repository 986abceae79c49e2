-- Rows and the numbers that they spell.
use Rattle.guard_model.proofs.Common.{◌≡◌, ℕ, zero, suc, ◌+◌, ◌*◌, ◌<◌, Bool, true, false, refl}
use Rattle.guard_model.proofs.Common.{sym, ◌∙◌, ap, arith, D, Column, number}
use Rattle.bit_rows.specs.Bits.{bit_number}

bits_same : (p q : Bool) (u v : ℕ) → bit_number p + 2 * u ≡ bit_number q + 2 * v → (p ≡ q) × (u ≡ v)
bits_same true true u v e = (refl, omega arith)
bits_same false false u v e = (refl, omega arith)
bits_same true false u v e = absurd (omega arith)
bits_same false true u v e = absurd (omega arith)

-- rows that spell the same number are the same
pub bits_of_number : (a b n k : ℕ) (s t : Column) → number a n s ≡ number b n t → k < n → s
    (D (a + k)) ≡ t (D (b + k))
bits_of_number a b zero k s t e l = absurd (omega arith)
bits_of_number a b (suc n) zero s t e l =
    let both = bits_same (s (D a)) (t (D b)) (number (a + 1) n s) (number (b + 1) n t) e in
    let x : a + 0 ≡ a = omega arith in
    let y : b + 0 ≡ b = omega arith in
    rw (x, y) both.0
bits_of_number a b (suc n) (suc k) s t e l =
    let both = bits_same (s (D a)) (t (D b)) (number (a + 1) n s) (number (b + 1) n t) e in
    let x : a + suc k ≡ a + 1 + k = omega arith in
    let y : b + suc k ≡ b + 1 + k = omega arith in
    rw (x, y) (bits_of_number (a + 1) (b + 1) n k s t both.1 (omega arith))

-- the same rows spell the same number
pub number_of_bits : (a b n : ℕ) (s t : Column) → ((k : ℕ) → k < n → s (D (a + k)) ≡ t (D (b + k)))
    → number a n s ≡ number b n t
number_of_bits a b zero s t e = refl
number_of_bits a b (suc n) s t e =
    let x : a + 0 ≡ a = omega arith in
    let y : b + 0 ≡ b = omega arith in
    let first : s (D a) ≡ t (D b) = ap (λ r. s (D r)) (sym x) ∙ e 0 (omega arith) ∙ ap
    (λ r. t (D r)) y in
    let rest : number (a + 1) n s ≡ number (b + 1) n t = number_of_bits (a + 1) (b + 1) n s t
    (λ k l.
    let p : a + suc k ≡ a + 1 + k = omega arith in
    let q : b + suc k ≡ b + 1 + k = omega arith in
    ap (λ r. s (D r)) (sym p) ∙ e (suc k) (omega arith) ∙ ap (λ r. t (D r)) q) in
    ap (λ b. bit_number b + 2 * number (a + 1) n s) first ∙ ap
    (λ m. bit_number (t (D b)) + 2 * m) rest
