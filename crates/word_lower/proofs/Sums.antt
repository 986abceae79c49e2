-- Loops with a carry, as numbers.
use Rattle.word_lower.proofs.Common.{◌≡◌, ℕ, zero, suc, ◌+◌, ◌-◌, ◌*◌, ◌/◌, ◌^◌, ◌%◌, ◌<◌, ◌≤◌}
use Rattle.word_lower.proofs.Common.{Bool, true, false, not, refl, sym, ap, ◌∙◌, arith, nat_lt}
use Rattle.word_lower.proofs.Common.{nat_tests, majority, differ}
use Rattle.std.proofs.lemmas.Nat.{mod-mul-add}
use Rattle.std.proofs.Math.Nat.{pow-suc}
use Rattle.word_lower.proofs.Setting.{bit, number}

abbrev pub digits : (ℕ → ℕ) → ℕ → ℕ
digits x zero = 0
digits x (suc n) = digits x n + x n * 2 ^ n

one_digit : (v w a x p low d s : ℕ) → v + 2 * w ≡ x + a → low + a * p ≡ d + s
    → low + v * p + w * (p * 2) ≡ d + x * p + s
one_digit v w a x p low d s e h = let k : (v + 2 * w) * p ≡ (x + a) * p = ap (λ z. z * p) e in
    omega (arith, k, h)

-- a carry goes through all positions: the sum of what is added at each
pub carry_sum : (x : ℕ → ℕ) (y c : ℕ → Bool) (n : ℕ)
    → ((i : ℕ) → i < n → bit (y i) + 2 * bit (c (suc i)) ≡ x i + bit (c i))
    → number y n + bit (c n) * 2 ^ n ≡ digits x n + bit (c 0)
carry_sum x y c zero h = omega arith
carry_sum x y c (suc n) h =
    rw pow-suc (one_digit (bit (y n)) (bit (c (suc n))) (bit (c n)) (x n) (2 ^ n) (number y n)
    (digits x n) (bit (c 0)) (h n (omega arith)) (carry_sum x y c n (λ i lt. h i (omega arith))))

-- bits that are the same spell the same number
pub value_same : (f g : ℕ → Bool) (n : ℕ) → ((k : ℕ) → k < n → f k ≡ g k) → number f n ≡ number g n
value_same f g zero h = refl
value_same f g (suc n) h = ap (λ x. x + bit (f n) * 2 ^ n)
    (value_same f g n (λ k lt. h k (omega arith)))
    ∙ ap (λ b. number g n + bit b * 2 ^ n) (h n (omega arith))

-- n bits spell a number below 2 ^ n
pub value_below : (f : ℕ → Bool) (n : ℕ) → number f n < 2 ^ n
value_below f zero = omega arith
value_below f (suc n) = rw pow-suc (step_below (f n) (number f n) (2 ^ n) (value_below f n))
  where
    step_below : (b : Bool) (v p : ℕ) → v < p → v + bit b * p < p * 2
    step_below b v p h = grind arith

pub digits_two : (f g : ℕ → Bool) (n : ℕ) → digits (λ i. bit (f i) + bit (g i)) n
    ≡ number f n + number g n
digits_two f g zero = refl
digits_two f g (suc n) = let e = digits_two f g n in omega (arith, e)

pub digits_double : (f : ℕ → Bool) (n : ℕ) → digits (λ i. 2 * bit (f i)) n ≡ 2 * number f n
digits_double f zero = refl
digits_double f (suc n) = let e = digits_double f n in omega (arith, e)

bit_not : (b : Bool) → bit (not b) + bit b ≡ 1
bit_not b = grind arith

pub value_not : (f : ℕ → Bool) (n : ℕ) → number (λ i. not (f i)) n + number f n + 1 ≡ 2 ^ n
value_not f zero = refl
value_not f (suc n) =
    let e = value_not f n in
    let k : (bit (not (f n)) + bit (f n)) * 2 ^ n ≡ 1 * 2 ^ n =
    ap (λ z. z * 2 ^ n) (bit_not (f n)) in
    rw pow-suc (omega (arith, e, k))

-- two words are added with a carry
pub sum_two : (a b y c : ℕ → Bool) (n : ℕ) → ((i : ℕ) → i < n
    → bit (y i) + 2 * bit (c (suc i)) ≡ bit (a i) + bit (b i) + bit (c i))
    → number y n + bit (c n) * 2 ^ n ≡ number a n + number b n + bit (c 0)
sum_two a b y c n h = let e = carry_sum (λ i. bit (a i) + bit (b i)) y c n h in
    omega (arith, e, digits_two a b n)

-- what is left of a sum without its last carry
pub last_sum : (y c p x : ℕ) → y < p → y + c * p ≡ x → y ≡ x % p
last_sum y c p x lt e = let f : c * p + y ≡ x = omega (arith, e) in
    sym (mod-mul-add c p y lt) ∙ ap (λ z. z % p) f

pub add_gives : (a b y c : ℕ → Bool) (n : ℕ) → c 0 ≡ false
    → ((i : ℕ) → i < n → bit (y i) + 2 * bit (c (suc i)) ≡ bit (a i) + bit (b i) + bit (c i))
    → number y n ≡ (number a n + number b n) % 2 ^ n
add_gives a b y c n start h =
    let e = sum_two a b y c n h in
    let s = ap bit start in
    last_sum (number y n) (bit (c n)) (2 ^ n) (number a n + number b n) (value_below y n)
    (omega (arith, e, s))

-- the difference, and the borrow's complement
pub less_two : (a b y c : ℕ → Bool) (n : ℕ) → ((i : ℕ) → i < n
    → bit (y i) + 2 * bit (c (suc i)) ≡ bit (a i) + bit (not (b i)) + bit (c i))
    → number y n + bit (c n) * 2 ^ n + number b n + 1 ≡ number a n + 2 ^ n + bit (c 0)
less_two a b y c n h = let e = sum_two a (λ i. not (b i)) y c n h in omega (arith, e, value_not b n)

pub sub_gives : (a b y c : ℕ → Bool) (n : ℕ) → c 0 ≡ true
    → ((i : ℕ) → i < n → bit (y i) + 2 * bit (c (suc i)) ≡ bit (a i) + bit (not (b i)) + bit (c i))
    → number y n ≡ (number a n + 2 ^ n - number b n) % 2 ^ n
sub_gives a b y c n start h =
    let e = less_two a b y c n h in
    let s = ap bit start in
    let lb = value_below b n in
    last_sum (number y n) (bit (c n)) (2 ^ n) (number a n + 2 ^ n - number b n) (value_below y n)
    (omega (arith, e, s, lb))

abbrev xor3 : Bool → Bool → Bool → Bool
xor3 a b c = differ (differ a b) c

pub full : (a b c : Bool) → bit (xor3 a b c) + 2 * bit (majority a b c) ≡ bit a + bit b + bit c
unfolding majority
full a b c = grind arith

carry_says : (c : Bool) (y a b p s : ℕ) → y < p → b < p → a < p → y + bit c * p + b + 1 ≡ a + p + s
    → s ≤ 1 → c ≡ nat_lt b (a + s)
carry_says c y a b p s ly lb la e ls = grind (arith, nat_tests)

bit_le : (b : Bool) → bit b ≤ 1
bit_le b = grind arith

-- the last carry of a and the complement of b compares them
pub compare : (a b c : ℕ → Bool) (n : ℕ) → ((i : ℕ) → i < n
    → c (suc i) ≡ majority (a i) (not (b i)) (c i))
    → c n ≡ nat_lt (number b n) (number a n + bit (c 0))
compare a b c n h =
    let y = λ (i : ℕ). xor3 (a i) (not (b i)) (c i) in
    let e = less_two a b y c n (λ i lt. ap (λ z. bit (y i) + 2 * bit z) (h i lt)
    ∙ full (a i) (not (b i)) (c i)) in
    carry_says (c n) (number y n) (number a n) (number b n) (2 ^ n) (bit (c 0)) (value_below y n)
    (value_below b n) (value_below a n) e (bit_le (c 0))

-- the top bit says which half the word is in
pub top_half : (a : ℕ → Bool) (m : ℕ) → nat_lt (number a (suc m)) (2 ^ m) ≡ not (a m)
top_half a m = by (a m) (number a m) (2 ^ m) (value_below a m)
  where
    by : (b : Bool) (v p : ℕ) → v < p → nat_lt (v + bit b * p) p ≡ not b
    by b v p h = grind (arith, nat_tests)

-- bits that are all 0 spell 0
pub value_false : (n : ℕ) → number (λ i. false) n ≡ 0
value_false zero = refl
value_false (suc n) = let e = value_false n in omega (arith, e)

-- each bit one position up, and none in the lowest place
lifted : (ℕ → Bool) → ℕ → Bool
lifted a zero = false
lifted a (suc i) = a i

-- upwards: each position but the lowest gets the bit below it
pub shl1_gives : (a y : ℕ → Bool) (n : ℕ) → y 0 ≡ false
    → ((i : ℕ) → suc i < n → y (suc i) ≡ a i) → number y n ≡ (2 * number a n) % 2 ^ n
unfolding lifted
shl1_gives a y n start h =
    let e = carry_sum (λ i. 2 * bit (a i)) y (lifted a) n (λ i lt. let p = ap bit (each i lt) in
    omega (arith, p)) in
    let g = digits_double a n in
    last_sum (number y n) (bit (lifted a n)) (2 ^ n) (2 * number a n) (value_below y n)
    (omega (arith, e, g))
  where
    each : (i : ℕ) → i < n → y i ≡ lifted a i
    each zero lt = start
    each (suc i) lt = h i lt

-- the lowest bit, and the others one position down
pub value_low : (a : ℕ → Bool) (m : ℕ) → number a (suc m)
    ≡ bit (a 0) + 2 * number (λ k. a (suc k)) m
value_low a zero = omega arith
value_low a (suc m) = let e = value_low a m in rw pow-suc (omega (arith, e))

-- downwards: each position but the top one gets the bit above it
pub shr1_gives : (a y : ℕ → Bool) (m : ℕ) → y m ≡ false → ((i : ℕ) → i < m → y i ≡ a (suc i))
    → number y (suc m) ≡ number a (suc m) / 2
shr1_gives a y m top h =
    let e = value_same y (λ k. a (suc k)) m h in
    let f = value_low a m in
    let z = ap bit top in
    let w : number y (suc m) ≡ number (λ k. a (suc k)) m =
    omega (arith, ap (λ (b : ℕ). b * 2 ^ m) z, e) in
    w ∙ half (a 0) (number (λ k. a (suc k)) m) ∙ ap (λ x. x / 2) (sym f)
  where
    half : (b : Bool) (v : ℕ) → v ≡ (bit b + 2 * v) / 2
    half b v = let le = bit_le b in omega (arith, le)
