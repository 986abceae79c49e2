-- The numbers of the flows' proofs are those of the statements.
use Rattle.word_flow.proofs.Common.{◌≡◌, ◌⊎◌, inl, inr, ℕ, zero, suc, ◌+◌, ◌-◌, ◌*◌, ◌^◌, ◌<◌, ◌≤◌}
use Rattle.word_flow.proofs.Common.{Bool, true, false, sym, ap, ◌∙◌, cond, arith, ◌==◌, ◌/◌, ◌%◌}
use Rattle.word_flow.proofs.Common.{nat_lt, cases_eq, eq-eqb, ne_eqb, lt-ltb, mod-mul-add}
use Rattle.word_flow.proofs.Common.{div-mul-add, pow-suc, pow-zero, ones_of, ones_of_none}
use Rattle.word_flow.proofs.Common.{ones_of_more, value_below, last_sum, majority}
use Rattle.word_flow.proofs.Counting.{bit, number, tally}
use Rattle.word_lower.proofs.Setting as set

-- one bit spells itself
pub one_bit : (b : Bool) → set.number (λ v. b) 1 ≡ set.bit b
one_bit b = grind arith

-- the number of ones is that of the number that the bits spell
pub tally_ones : (f : ℕ → Bool) (n : ℕ) → tally f 0 n ≡ ones_of n (number f n)
unfolding tally
tally_ones f zero = sym (ones_of_none f)
tally_ones f (suc n) = let e : 0 + n ≡ n = omega arith in
    ap (λ x. x + bit (f (0 + n))) (tally_ones f n) ∙ ap (λ x. ones_of n (number f n) + bit (f x)) e
    ∙ sym (ones_of_more f n)

-- what is left below 2 ^ n of a product
pub product_low : (f : ℕ → Bool) (n over x : ℕ) → number f n + over * 2 ^ n ≡ x
    → set.number f n ≡ x % 2 ^ n
product_low f n over x e = last_sum (set.number f n) over (2 ^ n) x (value_below f n) e

-- a quotient and what is left, as the operations have them
pub quotient_is : (a b q r p : ℕ) → a ≡ q * b + r → (0 < b → r < b) → (b ≡ 0 → q + 1 ≡ p)
    → q ≡ cond (b == 0) (p - 1) (a / b)
quotient_is a b q r p e small none = by (cases_eq b 0)
  where
    by : (b ≡ 0) ⊎ (b ≡ 0 → ⊥) → q ≡ cond (b == 0) (p - 1) (a / b)
    by (inl z) = let h = none z in rw (eq-eqb b 0 z) (omega (arith, h))
    by (inr nz) = let h : r < b = small (omega (arith, nz)) in
        rw (ne_eqb b 0 nz) (sym (div-mul-add q b r h) ∙ ap (λ x. x / b) (sym e))

pub remainder_is : (a b q r : ℕ) → a ≡ q * b + r → (0 < b → r < b) → r ≡ cond (b == 0) a (a % b)
remainder_is a b q r e small = by (cases_eq b 0)
  where
    by : (b ≡ 0) ⊎ (b ≡ 0 → ⊥) → r ≡ cond (b == 0) a (a % b)
    by (inl z) = let h : q * b ≡ q * 0 = ap (λ x. q * x) z in
        rw (eq-eqb b 0 z) (omega (arith, e, h))
    by (inr nz) = let h : r < b = small (omega (arith, nz)) in
        rw (ne_eqb b 0 nz) (sym (mod-mul-add q b r h) ∙ ap (λ x. x % b) (sym e))

-- a state that is set once a bit is
pub any_gives : (a e : ℕ → Bool) (n : ℕ) → e 0 ≡ false
    → ((i : ℕ) → i < n → e (suc i) ≡ majority true (a i) (e i)) → e n ≡ nat_lt 0 (set.number a n)
unfolding majority
any_gives a e zero start h = start
any_gives a e (suc n) start h =
    h n (omega arith) ∙ ap (majority true (a n)) (any_gives a e n start (λ i lt. h i (omega arith)))
    ∙ by (a n) (set.number a n) (2 ^ n) (value_below a n)
  where
    by : (b : Bool) (v p : ℕ) → v < p → majority true b (nat_lt 0 v) ≡ nat_lt 0 (v + set.bit b * p)
    by true v p lt = sym (lt-ltb 0 (v + 1 * p) (omega arith))
    by false v p lt = let e : v ≡ v + 0 * p = omega arith in ap (nat_lt 0) e

-- a state that stays set while each bit is
pub all_gives : (a e : ℕ → Bool) (n : ℕ) → e 0 ≡ true
    → ((i : ℕ) → i < n → e (suc i) ≡ majority false (a i) (e i))
    → e n ≡ (set.number a n == 2 ^ n - 1)
unfolding majority
all_gives a e zero start h = start
all_gives a e (suc n) start h =
    let p : 2 ^ suc n ≡ 2 * 2 ^ n = pow-suc 2 n ∙ omega arith in
    h n (omega arith) ∙ ap (majority false (a n)) (all_gives a e n start (λ i lt. h i (omega arith)))
    ∙ by (a n) (set.number a n) (2 ^ n) (value_below a n)
    ∙ ap (λ q. set.number a n + set.bit (a n) * 2 ^ n == q - 1) (sym p)
  where
    by : (b : Bool) (v p : ℕ) → v < p
        → majority false b (v == p - 1) ≡ (v + set.bit b * p == 2 * p - 1)
    by true v p lt = elim (cases_eq v (p - 1)) [
      | inl e ↦ eq-eqb v (p - 1) e ∙ sym (eq-eqb (v + 1 * p) (2 * p - 1) (omega (arith, e, lt)))
      | inr ne ↦ ne_eqb v (p - 1) ne
          ∙ sym (ne_eqb (v + 1 * p) (2 * p - 1) (λ z. ne (omega (arith, z, lt))))
    ]
    by false v p lt = sym (ne_eqb (v + 0 * p) (2 * p - 1) (λ z. absurd (omega (arith, z, lt))))

pub twice_below : (n : ℕ) → 2 * n ≤ n * n + 1
twice_below zero = omega arith
twice_below (suc n) = grind arith

pub half_below : (n c : ℕ) → 2 * c + n ≡ n * n → c ≡ (n - 1) * n / 2
half_below zero c e = omega (arith, e)
half_below (suc k) c e =
    let one : suc k - 1 ≡ k = omega arith in
    let g = ap (λ x. x * suc k) one in
    let d : (suc k - 1) * suc k ≡ 2 * c = omega (arith, e, g) in
    sym (ap (λ x. x / 2) d ∙ omega arith)

-- a square, as the ceilings have it
pub square : (n : ℕ) → n ^ 2 ≡ n * n
square n = let e : n ^ 2 ≡ n ^ 1 * n = pow-suc n 1 in let f : n ^ 1 ≡ n ^ 0 * n = pow-suc n 0 in
    let z : n ^ 0 ≡ 1 = pow-zero n in e ∙ ap (λ x. x * n) (f ∙ ap (λ x. x * n) z ∙ omega arith)
