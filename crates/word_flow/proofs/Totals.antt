-- What a count takes, in closed form.
use Rattle.word_flow.proofs.Common.{◌≡◌, ℕ, zero, suc, ◌+◌, ◌-◌, ◌*◌, ◌^◌, ◌<◌, Bool, cond, refl}
use Rattle.word_flow.proofs.Common.{sym, ap, ◌∙◌, subst, arith, ◌==◌, ◌/◌, ◌%◌, ne_eqb, sum_by-cons}
use Rattle.word_flow.proofs.Common.{pow-suc, ones_of, bits}
use Rattle.word_flow.proofs.Counts.{digits, count_total}
use Rattle.word_flow.proofs.Counting.{level_cost, levels_cost}

one_bit : (x : ℕ) → x < 2 → cond (x == 1) 1 0 ≡ x
one_bit zero lt = refl
one_bit (suc zero) lt = refl
one_bit (suc (suc x)) lt = absurd (omega (arith, lt))

ones_more : (k e : ℕ) → ones_of (suc k) e ≡ e % 2 + ones_of k (e / 2)
unfolding bits
ones_more k e = sum_by-cons (λ (b : Bool). cond b 1 0) (e % 2 == 1) (bits (e / 2) k)
    ∙ ap (λ x. x + ones_of k (e / 2)) (one_bit (e % 2) (omega arith))

ones_none : (k : ℕ) → ones_of k 0 ≡ 0
unfolding bits
ones_none zero = refl
ones_none (suc k) = let h = ones_none k in let m = ones_more k 0 in omega (arith, h, m)

levels_none : (k : ℕ) → levels_cost k 0 ≡ k
unfolding level_cost levels_cost
levels_none zero = refl
levels_none (suc k) = let h = levels_none k in omega (arith, h)

filled : (e h : ℕ) → e / 2 ≡ suc h → level_cost e ≡ 6 * suc h + 2
unfolding level_cost
filled e h is = ap (λ v. cond (v == 0) (cond (e == 0) 1 0) (6 * v + 2)) is
    ∙ ap (λ b. cond b (cond (e == 0) 1 0) (6 * suc h + 2))
    (ne_eqb (suc h) 0 (λ z. absurd (omega (arith, z))))

digits_more : (k e : ℕ) → digits (suc k) (suc e) ≡ 1 + digits k (suc e / 2)
digits_more k e = ap (λ b. cond b 0 (1 + digits k (suc e / 2)))
    (ne_eqb (suc e) 0 (λ z. absurd (omega (arith, z))))

digits_none : (k : ℕ) → digits k 0 ≡ 0
digits_none zero = refl
digits_none (suc k) = refl

closed : (k e : ℕ) → suc e < 2 ^ k → levels_cost k (suc e) + 6 * ones_of k (suc e) + 2
    ≡ 6 * suc e + digits k (suc e) + k
unfolding level_cost levels_cost
closed zero e lt = absurd (let z : 2 ^ 0 ≡ 1 = refl in omega (arith, lt, z))
closed (suc k) e lt = by (suc e / 2) refl (λ h below. closed k h below)
  where
    n : ℕ
    n = suc e

    by : (h : ℕ) → n / 2 ≡ h
        → ((h : ℕ) → suc h < 2 ^ k → levels_cost k (suc h) + 6 * ones_of k (suc h) + 2
        ≡ 6 * suc h + digits k (suc h) + k) → levels_cost (suc k) n + 6 * ones_of (suc k) n + 2
        ≡ 6 * n + digits (suc k) n + suc k
    by zero is before =
        let one : n ≡ 1 = omega (arith, is) in
        let c = levels_none k in
        let o = ones_none k in
        let m = ones_more k 1 in
        let d = digits_none k in
        subst (λ n. levels_cost (suc k) n + 6 * ones_of (suc k) n + 2 ≡ 6 * n + digits (suc k) n
        + suc k) (sym one) (omega (arith, c, o, m, d))
    by (suc h) is before =
        let p : 2 ^ suc k ≡ 2 ^ k * 2 = pow-suc 2 k in
        let i = before h (omega (arith, is, lt, p)) in
        let f = filled n h is in
        let m = ones_more k n in
        let d = digits_more k e in
        let a = ap (λ h. levels_cost k h) is in
        let b = ap (λ h. ones_of k h) is in
        let c = ap (λ h. digits k h) is in
        omega (arith, i, f, m, d, a, b, c, is)

small_power : (n : ℕ) → n < 2 ^ n
small_power zero = omega arith
small_power (suc n) = let h = small_power n in let p : 2 ^ suc n ≡ 2 ^ n * 2 = pow-suc 2 n in
    omega (arith, h, p)

-- what a count of so many bits takes
pub total_is : (n : ℕ) → 1 < n → levels_cost n n ≡ count_total n
total_is zero lt = absurd (omega (arith, lt))
total_is (suc e) lt = let c = closed (suc e) e (small_power (suc e)) in
    let t : count_total (suc e) ≡ 7 * suc e + digits (suc e) (suc e) - 2 - 6 * ones_of (suc e) (suc e) =
    ap (λ b. cond b 1 (7 * suc e + digits (suc e) (suc e) - 2 - 6 * ones_of (suc e) (suc e)))
    (ne_eqb (suc e) 1 (λ z. absurd (omega (arith, z, lt)))) in
    omega (arith, c, t)
