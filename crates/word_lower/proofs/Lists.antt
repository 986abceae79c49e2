-- The number that bits spell, by their list and by their positions.
use Rattle.word_lower.proofs.Common.{◌≡◌, ℕ, zero, suc, ◌+◌, ◌*◌, ◌/◌, ◌%◌, Bool, List, [], ◌∷◌}
use Rattle.word_lower.proofs.Common.{map, refl, sym, ap, ◌∙◌, arith, ◌==◌, nat_tests, value, bits}
use Rattle.word_lower.proofs.Common.{bit_by_bit}
use Rattle.std.specs.Prelude.{count_by, cond}
use Rattle.std.specs.List.{range_with_len}
use Rattle.std.proofs.lemmas.List.Sums.{sum_by-cons}
use Rattle.op_text.specs.Values.{both, ones_of}
use Rattle.word_lower.proofs.Setting.{bit, number}
use Rattle.word_lower.proofs.Sums.{value_same, value_low}

-- the bits at positions a and on
abbrev pub listed : (ℕ → Bool) → ℕ → ℕ → List Bool
listed f a n = map f (range_with_len a n)

low_bit : (b : Bool) (w : ℕ) → ((bit b + 2 * w) % 2 == 1) ≡ b
low_bit b w = grind (arith, nat_tests)

high_bits : (b : Bool) (w : ℕ) → (bit b + 2 * w) / 2 ≡ w
high_bits b w = grind arith

shift : (f : ℕ → Bool) (a n : ℕ) → number (λ i. f (a + suc i)) n ≡ number (λ i. f (a + 1 + i)) n
shift f a n = value_same (λ i. f (a + suc i)) (λ i. f (a + 1 + i)) n (λ i lt. let e : a + suc i
    ≡ a + 1 + i = omega arith in ap f e)

split : (f : ℕ → Bool) (a n : ℕ) → number (λ i. f (a + i)) (suc n)
    ≡ bit (f a) + 2 * number (λ i. f (a + 1 + i)) n
split f a n = let e : a + 0 ≡ a = omega arith in
    value_low (λ i. f (a + i)) n ∙ ap (λ x. bit (f x) + 2 * number (λ i. f (a + suc i)) n) e
    ∙ ap (λ x. bit (f a) + 2 * x) (shift f a n)

from_bits : (f : ℕ → Bool) (a n : ℕ) → bits (number (λ i. f (a + i)) n) n ≡ listed f a n
unfolding bits
from_bits f a zero = refl
from_bits f a (suc n) =
    let w = number (λ i. f (a + 1 + i)) n in
    ap (λ v. (v % 2 == 1) ∷ bits (v / 2) n) (split f a n)
    ∙ ap (λ b. b ∷ bits ((bit (f a) + 2 * w) / 2) n) (low_bit (f a) w)
    ∙ ap (λ v. f a ∷ bits v n) (high_bits (f a) w)
    ∙ ap (λ bs. f a ∷ bs) (from_bits f (a + 1) n)

from_value : (f : ℕ → Bool) (a n : ℕ) → value (listed f a n) ≡ number (λ i. f (a + i)) n
from_value f a zero = refl
from_value f a (suc n) = ap (λ x. bit (f a) + 2 * x) (from_value f (a + 1) n) ∙ sym (split f a n)

none_more : (f : ℕ → Bool) (n : ℕ) → number (λ i. f (0 + i)) n ≡ number f n
none_more f n = value_same (λ i. f (0 + i)) f n (λ i lt. let e : 0 + i ≡ i = omega arith in ap f e)

-- the lowest bits of the number are the bits
pub bits_of_number : (f : ℕ → Bool) (n : ℕ) → bits (number f n) n ≡ listed f 0 n
bits_of_number f n = ap (λ v. bits v n) (sym (none_more f n)) ∙ from_bits f 0 n

-- the bits spell the number
pub value_of_list : (f : ℕ → Bool) (n : ℕ) → value (listed f 0 n) ≡ number f n
value_of_list f n = from_value f 0 n ∙ none_more f n

both_mapped : (g : Bool → Bool → Bool) (f h : ℕ → Bool) (xs : List ℕ)
    → both g (map f xs) (map h xs) ≡ map (λ i. g (f i) (h i)) xs
both_mapped g f h [] = refl
both_mapped g f h (x ∷ xs) = ap (λ bs. g (f x) (h x) ∷ bs) (both_mapped g f h xs)

-- numbers are combined bit by bit
pub by_bits : (g : Bool → Bool → Bool) (f h : ℕ → Bool) (n : ℕ)
    → number (λ i. g (f i) (h i)) n ≡ bit_by_bit g n (number f n) (number h n)
by_bits g f h n = sym (
    ap (λ bs. value (both g bs (bits (number h n) n))) (bits_of_number f n)
    ∙ ap (λ bs. value (both g (listed f 0 n) bs)) (bits_of_number h n)
    ∙ ap value (both_mapped g f h (range_with_len 0 n))
    ∙ value_of_list (λ i. g (f i) (h i)) n)

one_if : (b : Bool) → cond b 1 0 ≡ bit b
one_if b = grind arith

-- how many of the bits at positions a and on are set
ones : (ℕ → Bool) → ℕ → ℕ → ℕ
ones f a n = count_by (λ b. b) (listed f a n)

none_set : (f : ℕ → Bool) (a : ℕ) → ones f a 0 ≡ 0
unfolding ones
none_set f a = refl

ones_first : (f : ℕ → Bool) (a n : ℕ) → ones f a (suc n) ≡ bit (f a) + ones f (a + 1) n
unfolding ones
ones_first f a n = sum_by-cons (λ (b : Bool). cond b 1 0) (f a) (listed f (a + 1) n)
    ∙ ap (λ x. x + ones f (a + 1) n) (one_if (f a))

ones_last : (f : ℕ → Bool) (a n : ℕ) → ones f a (suc n) ≡ ones f a n + bit (f (a + n))
ones_last f a zero = let e : a + 0 ≡ a = omega arith in let g = ap (λ x. bit (f x)) e in
    let h = ones_first f a 0 in let k = none_set f (a + 1) in let l = none_set f a in
    omega (arith, g, h, k, l)
ones_last f a (suc n) =
    let e : a + 1 + n ≡ a + suc n = omega arith in
    let p = ones_first f a (suc n) in
    let q = ones_last f (a + 1) n in
    let r = ones_first f a n in
    let s = ap (λ x. bit (f x)) e in
    omega (arith, p, q, r, s)

-- of no bits none is 1
pub ones_of_none : (f : ℕ → Bool) → ones_of 0 (number f 0) ≡ 0
unfolding bits
ones_of_none f = refl

-- how many bits of a number are set
pub ones_of_more : (f : ℕ → Bool) (n : ℕ) → ones_of (suc n) (number f (suc n))
    ≡ ones_of n (number f n) + bit (f n)
unfolding ones
ones_of_more f n =
    let e : 0 + n ≡ n = omega arith in
    ap (count_by (λ b. b)) (bits_of_number f (suc n))
    ∙ ones_last f 0 n
    ∙ ap (λ x. ones f 0 n + bit (f x)) e
    ∙ ap (λ bs. count_by (λ b. b) bs + bit (f n)) (sym (bits_of_number f n))
