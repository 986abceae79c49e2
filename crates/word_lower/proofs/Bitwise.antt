-- Bit by bit, and all bits of a word, as numbers.
use Rattle.word_lower.proofs.Common.{◌≡◌, ℕ, suc, ◌+◌, ◌-◌, ◌*◌, ◌^◌, Bool, true, false, not, cond}
use Rattle.word_lower.proofs.Common.{refl, ap, sym, ◌∙◌, arith, nat_lt, nat_le, ◌==◌, ◌&&◌, ◌||◌}
use Rattle.word_lower.proofs.Common.{nat_tests, majority, differ, bit_by_bit}
use Rattle.std.proofs.Common.{min, max}
use Rattle.word_lower.proofs.Setting.{bit, number}
use Rattle.word_lower.proofs.Lists.{by_bits}
use Rattle.word_lower.proofs.Sums.{value_same, value_not, value_false, top_half}

pub value_and : (a b : ℕ → Bool) (n : ℕ) → number (λ i. majority false (a i) (b i)) n
    ≡ bit_by_bit (λ x y. x && y) n (number a n) (number b n)
unfolding majority
value_and a b n = by_bits (λ x y. x && y) a b n

pub value_or : (a b : ℕ → Bool) (n : ℕ) → number (λ i. majority true (a i) (b i)) n
    ≡ bit_by_bit (λ x y. x || y) n (number a n) (number b n)
unfolding majority
value_or a b n = by_bits (λ x y. x || y) a b n

-- the exclusive or of two bits, as its graph makes it
abbrev pub unlike_of : Bool → Bool → Bool
unlike_of x y = majority true (majority false (not x) y) (majority false x (not y))

unlike_bit : (x y : Bool) → unlike_of x y ≡ differ x y
unfolding majority
unlike_bit x y = grind arith

pub value_unlike : (a b : ℕ → Bool) (n : ℕ) → number (λ i. unlike_of (a i) (b i)) n
    ≡ bit_by_bit differ n (number a n) (number b n)
value_unlike a b n = value_same _ _ n (λ i lt. unlike_bit (a i) (b i)) ∙ by_bits differ a b n

-- x where s is set, else y, as its graph makes it
abbrev pub chosen_of : Bool → Bool → Bool → Bool
chosen_of x y s = majority true (majority false x s) (majority y (not s) (majority false x s))

chosen_bit : (x y s : Bool) → chosen_of x y s ≡ cond s x y
unfolding majority
chosen_bit x y s = grind arith

pub value_cond : (a b : ℕ → Bool) (s : Bool) (n : ℕ) → number (λ i. chosen_of (a i) (b i) s) n
    ≡ cond s (number a n) (number b n)
value_cond a b s n = value_same _ _ n (λ i lt. chosen_bit (a i) (b i) s) ∙ by s
  where
    by : (s : Bool) → number (λ i. cond s (a i) (b i)) n ≡ cond s (number a n) (number b n)
    by true = refl
    by false = refl

pub value_chosen : (a b : ℕ → Bool) (s : Bool) (n : ℕ) → number (λ i. chosen_of (a i) (b i) s) n
    ≡ cond (number (λ i. s) 1 == 1) (number a n) (number b n)
value_chosen a b s n = value_cond a b s n ∙ ap (λ c. cond c (number a n) (number b n)) (by s)
  where
    by : (s : Bool) → s ≡ (number (λ i. s) 1 == 1)
    by true = refl
    by false = refl

pub value_inverted : (a : ℕ → Bool) (n : ℕ) → number (λ i. not (a i)) n ≡ 2 ^ n - 1 - number a n
value_inverted a n = let e = value_not a n in omega (arith, e)

pub value_true : (n : ℕ) → number (λ i. true) n ≡ 2 ^ n - 1
value_true n = let e = value_not (λ i. false) n in let f = value_false n in omega (arith, e, f)

-- a word without its bits where its top bit is set
pub relu_gives : (a : ℕ → Bool) (m : ℕ) → number (λ i. majority false (a i) (not (a m))) (suc m)
    ≡ cond (nat_lt (number a (suc m)) (2 ^ m)) (number a (suc m)) 0
unfolding majority
relu_gives a m =
    by (not (a m)) ∙ ap (λ c. cond c (number a (suc m)) 0) (sym (top_half a m))
  where
    kept : (b c : Bool) → majority false b c ≡ cond c b false
    kept b c = grind arith

    by : (c : Bool) → number (λ i. majority false (a i) c) (suc m) ≡ cond c (number a (suc m)) 0
    by true = value_same _ _ (suc m) (λ i lt. kept (a i) true)
    by false = value_same _ _ (suc m) (λ i lt. kept (a i) false) ∙ value_false (suc m)

pub least : (a b : ℕ) → cond (nat_lt b a) b a ≡ min a b
least a b = grind (arith, nat_tests)

pub greatest : (a b : ℕ) → cond (nat_lt b a) a b ≡ max a b
greatest a b = grind (arith, nat_tests)

-- the order the other way round
pub at_least : (a b : ℕ) → nat_lt b (a + 1) ≡ nat_le b a
at_least a b = grind (arith, nat_tests)

-- words of which each is at least the other are one
pub both_least : (x y : ℕ) → majority false (nat_lt y (x + 1)) (nat_lt x (y + 1)) ≡ (x == y)
unfolding majority
both_least x y = grind (arith, nat_tests)

-- the other of two comparisons, with the words the other way round
pub turned_bit : (x y c : Bool) → majority (not x) y c ≡ majority y (not x) c
unfolding majority
turned_bit x y c = grind arith

pub added_digit : (x y c : Bool) → bit (majority c (not (majority x y c)) (majority x y (not c)))
    + 2 * bit (majority x y c) ≡ bit x + bit y + bit c
unfolding majority
added_digit x y c = grind arith

-- a borrow, as the complement of a carry
pub lessened_digit : (x y c : Bool)
    → (let d = majority (not x) c (majority x y (not c)) in
    bit (majority (not y) (majority x y (not c)) d) + 2 * bit (not d)
    ≡ bit x + bit (not y) + bit (not c))
unfolding majority
lessened_digit x y c = grind arith
