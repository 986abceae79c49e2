-- Words bit by bit, and eight words stored at once
use Rattle.std.proofs.Common.{◌≡◌, ℕ, ◌+◌, ◌-◌, ◌<◌, ◌≤◌, ◌^◌, ◌==◌, ◌&&◌, ◌||◌, Bool, true, false}
use Rattle.std.proofs.Common.{not, bit_and, bit_or, refl, min, max, List, length, get_or, take}
use Rattle.std.proofs.Common.{drop, ap, ◌∙◌, sym, arith, inl, inr, get_or-take, get_or-drop, subst}
use Rattle.std.specs.Int.{bit_not, w64}
use Rattle.std.proofs.lemmas.Bool.{cases_lt}
use Rattle.std.proofs.lemmas.Bool.Decides.{nat_tests}
use Rattle.std.proofs.lemmas.Nat.Bits.{bit_at_and, bit_at_or, bit_at_not, bit_at-lt}
use Rattle.std.proofs.lemmas.Simd.{get_or-put_chunk_below, get_or-put_chunk_at}
use Rattle.std.proofs.lemmas.Simd.{get_or-put_chunk_above}
use Rattle.std.proofs.lemmas.Grind.{common_steps}
use lib.Lanes.{put_chunk}
use Rattle.bit_rows.specs.Bits.{majority, bit_at, majority_word}

-- at numbers that are bits
least : (a b : ℕ) → a < 2 → b < 2 → (min a b == 1) ≡ ((a == 1) && (b == 1))
least a b l m = grind (arith, nat_tests)

most : (a b : ℕ) → a < 2 → b < 2 → (max a b == 1) ≡ ((a == 1) || (b == 1))
most a b l m = grind (arith, nat_tests)

-- the and of two words is that of their bits
pub and-bit : (a b k : ℕ) → bit_at (bit_and a b) k ≡ (bit_at a k && bit_at b k)
and-bit a b k = ap (λ n. n == 1) (bit_at_and a b k) ∙ least _ _ (bit_at-lt a k) (bit_at-lt b k)

-- the or of two words is that of their bits
pub or-bit : (a b k : ℕ) → bit_at (bit_or a b) k ≡ (bit_at a k || bit_at b k)
or-bit a b k = ap (λ n. n == 1) (bit_at_or a b k) ∙ most _ _ (bit_at-lt a k) (bit_at-lt b k)

majority-by-and-or : (a b c : Bool) → ((a && b) || (c && (a || b))) ≡ majority a b c
unfolding majority
majority-by-and-or true true true = refl
majority-by-and-or true true false = refl
majority-by-and-or true false true = refl
majority-by-and-or true false false = refl
majority-by-and-or false true true = refl
majority-by-and-or false true false = refl
majority-by-and-or false false true = refl
majority-by-and-or false false false = refl

pub majority-bit : (a b c k : ℕ) → bit_at (majority_word a b c) k
    ≡ majority (bit_at a k) (bit_at b k) (bit_at c k)
majority-bit a b c k =
    or-bit (bit_and a b) (bit_and c (bit_or a b)) k
    ∙ ap (λ x. x || bit_at (bit_and c (bit_or a b)) k) (and-bit a b k)
    ∙ ap (λ x. (bit_at a k && bit_at b k) || x) (and-bit c (bit_or a b) k)
    ∙ ap (λ x. (bit_at a k && bit_at b k) || (bit_at c k && x)) (or-bit a b k)
    ∙ majority-by-and-or (bit_at a k) (bit_at b k) (bit_at c k)

not-number : (a : ℕ) → a < 2 → ((1 - a) == 1) ≡ not (a == 1)
not-number a l = grind (arith, nat_tests)

-- the complement of a word is that of each of its 64 bits
pub not-bit : (a k : ℕ) → a < 2 ^ 64 → k < 64 → bit_at (bit_not w64 a) k ≡ not (bit_at a k)
not-bit a k l m = ap (λ n. n == 1) (bit_at_not w64 a k l m) ∙ not-number _ (bit_at-lt a k)

-- eight words of a slice
pub part-length : (xs : List ℕ) (at : ℕ) → at + 8 ≤ length xs → length (take 8 (drop at xs)) ≡ 8
part-length xs at l = grind (arith, common_steps)

pub part-at : (xs : List ℕ) (at k : ℕ) → k < 8 → get_or (take 8 (drop at xs)) k 0
    ≡ get_or xs (at + k) 0
part-at xs at k l = rw (get_or-take, get_or-drop) refl

-- eight words more that meet it
pub eight-more : (P : ℕ → ℕ → Type 0) (xs ys : List ℕ) (at : ℕ) → length ys ≡ 8 → at + 8 ≤ length xs
    → ((k : ℕ) → k < 8 → P (at + k) (get_or ys k 0))
    → ((k : ℕ) → k < at → P k (get_or xs k 0)) → (k : ℕ) → k < at + 8
    → P k (get_or (put_chunk at xs ys) k 0)
eight-more P xs ys at e l eight before k h = elim (cases_lt k at) [
  | inl b ↦ rw (get_or-put_chunk_below at xs ys k 0 b) (before k b)
  | inr b ↦ (let here : k ≡ at + (k - at) = omega arith in
      let put : get_or (put_chunk at xs ys) (at + (k - at)) 0 ≡ get_or ys (k - at) 0 =
      get_or-put_chunk_at at xs ys (k - at) 0 (omega arith) (omega arith) in
      subst (λ n. P n (get_or (put_chunk at xs ys) n 0)) (sym here)
      (subst (P (at + (k - at))) (sym put) (eight (k - at) (omega arith))))
]

-- and those above stay
pub eight-above : (xs ys zs : List ℕ) (at : ℕ) → length ys ≡ 8
    → ((k : ℕ) → at ≤ k → get_or xs k 0 ≡ get_or zs k 0) → (k : ℕ) → at + 8 ≤ k
    → get_or (put_chunk at xs ys) k 0 ≡ get_or zs k 0
eight-above xs ys zs at e above k h = get_or-put_chunk_above at xs ys k 0 (omega arith)
    ∙ above k (omega arith)

-- the majority of three words that are those of other rows
pub same-majority : (a b c d e f : List ℕ) (n : ℕ) → get_or a n 0 ≡ get_or d n 0
    → get_or b n 0 ≡ get_or e n 0 → get_or c n 0 ≡ get_or f n 0
    → majority_word (get_or a n 0) (get_or b n 0) (get_or c n 0)
    ≡ majority_word (get_or d n 0) (get_or e n 0) (get_or f n 0)
same-majority a b c d e f n x y z = rw (x, y, z) refl
