-- `free` is the least base.
use Rattle.object_alloc.proofs.Common.{false_from_ne_true, ◌≡◌, ℕ, zero, suc, ◌+◌, ◌<◌, ◌≤◌, Bool}
use Rattle.object_alloc.proofs.Common.{true, false, not, ◌&&◌, cond, List, [], ◌∷◌, Option, Some}
use Rattle.object_alloc.proofs.Common.{None, refl, sym, ◌∙◌, ap, inl, inr, arith, list_all, find}
use Rattle.object_alloc.proofs.Common.{range_with_len, All, cases_lt, nat_tests, list_all_at}
use Rattle.std.proofs.lemmas.Bool.{and_parts}
use Rattle.std.proofs.Common.{ltb}
use Rattle.std.specs.Prelude.{MatchOption}
use Rattle.object_alloc.specs.declared.table.Object.{Object}
use Rattle.object_alloc.specs.Free.{has_row, is_free, are_free, free, AreFree, IsLeastFree}
use Rattle.object_alloc.proofs.Bases.{all_range}
use Rattle.object_alloc.proofs.Tables.{in_range}

pub all_tests : (p : Object → Bool) (xs : List Object) → All (λ o. p o ≡ false) xs
    → list_all (λ o. not (p o)) xs ≡ true
all_tests p [] h = refl
all_tests p (x ∷ xs) h = rw (h 0 x (omega arith))
    (all_tests p xs (λ k d l. h (suc k) d (omega arith)))

tests_all : (p : Object → Bool) (xs : List Object) → list_all (λ o. not (p o)) xs ≡ true
    → All (λ o. p o ≡ false) xs
tests_all p xs h k d l = false_from_ne_true _ (λ t. let f : list_all (λ o. not (p o)) xs
    ≡ false = list_all_at (λ o. not (p o)) xs k d l (rw t refl) in cc)

-- the test of k rows says that they are free
pub are-AreFree : (limit : ℕ) (objects : List Object) (k base : ℕ)
    → are_free limit objects k base ≡ true → AreFree limit objects k base
are-AreFree limit objects k base h row l m =
    let one = in_range (is_free limit objects) base k row h l m in
    let parts = and_parts (ltb row limit) (list_all (λ o. not (has_row o row)) objects) one in
    (grind (arith, nat_tests), tests_all (λ o. has_row o row) objects parts.1)

pub AreFree-are : (limit : ℕ) (objects : List Object) (k base : ℕ) → AreFree limit objects k base
    → are_free limit objects k base ≡ true
AreFree-are limit objects k base h =
    all_range (is_free limit objects) base k (λ row l m.
    let free = h row l m in
    let clear = all_tests (λ o. has_row o row) objects free.1 in
    grind (arith, nat_tests))

-- a base past the limit has no rows that are free, and with no rows 0 is one
range_least : (p : ℕ → Bool) (a n : ℕ) → MatchOption (find p (range_with_len a n)) ((c : ℕ) → a ≤ c
    → c < a + n → p c ≡ false) (λ b. (p b ≡ true) × ((c : ℕ) → a ≤ c → c < b → p c ≡ false))
range_least p a zero = λ c l m. absurd (omega arith)
range_least p a (suc n) = least_case p a n (p a) refl (range_least p (a + 1) n) where
  none_more : (p : ℕ → Bool) (a n : ℕ) → p a ≡ false
      → ((c : ℕ) → a + 1 ≤ c → c < a + 1 + n → p c ≡ false) → (c : ℕ) → a ≤ c → c < a + suc n
      → p c ≡ false
  none_more p a n e h c l m = elim (cases_lt a c) [
    | inl lt ↦ h c (omega arith) (omega arith)
    | inr ge ↦ let s : a ≡ c = omega arith in ap p (sym s) ∙ e
  ]

  some_more : (p : ℕ → Bool) (a b : ℕ) → p a ≡ false → ((c : ℕ) → a + 1 ≤ c → c < b → p c ≡ false)
      → (c : ℕ) → a ≤ c → c < b → p c ≡ false
  some_more p a b e h c l m = elim (cases_lt a c) [
    | inl lt ↦ h c (omega arith) m
    | inr ge ↦ let s : a ≡ c = omega arith in ap p (sym s) ∙ e
  ]

  inner : (p : ℕ → Bool) (a n : ℕ) (f : Option ℕ) → p a ≡ false
      → MatchOption f ((c : ℕ) → a + 1 ≤ c → c < a + 1 + n → p c ≡ false) (λ b. (p b ≡ true)
      × ((c : ℕ) → a + 1 ≤ c → c < b → p c ≡ false))
      → MatchOption f ((c : ℕ) → a ≤ c → c < a + suc n → p c ≡ false) (λ b. (p b ≡ true)
      × ((c : ℕ) → a ≤ c → c < b → p c ≡ false))
  inner p a n None e h = none_more p a n e h
  inner p a n (Some b) e h = (h.0, some_more p a b e h.1)

  least_case : (p : ℕ → Bool) (a n : ℕ) (t : Bool) → p a ≡ t
      → MatchOption (find p (range_with_len (a + 1) n)) ((c : ℕ) → a + 1 ≤ c → c < a + 1 + n
      → p c ≡ false) (λ b. (p b ≡ true) × ((c : ℕ) → a + 1 ≤ c → c < b → p c ≡ false))
      → MatchOption (cond t (Some a) (find p (range_with_len (a + 1) n))) ((c : ℕ) → a ≤ c
      → c < a + suc n → p c ≡ false) (λ b. (p b ≡ true) × ((c : ℕ) → a ≤ c → c < b → p c ≡ false))
  least_case p a n true e h = (e, λ c l m. absurd (omega arith))
  least_case p a n false e h = inner p a n (find p (range_with_len (a + 1) n)) e h

far : (limit : ℕ) (objects : List Object) (k c : ℕ) → AreFree limit objects k c → limit < c
    → are_free limit objects k 0 ≡ true
far limit objects zero c h l = refl
far limit objects (suc k) c h l = let r = (h c (omega arith) (omega arith)).0 in
    absurd (omega arith)

least_of : (limit : ℕ) (objects : List Object) (k : ℕ) (f : Option ℕ)
    → MatchOption f ((c : ℕ) → 0 ≤ c → c < 0 + (limit + 1)
    → are_free limit objects k c ≡ false) (λ b. (are_free limit objects k b ≡ true)
    × ((c : ℕ) → 0 ≤ c → c < b → are_free limit objects k c ≡ false))
    → IsLeastFree limit objects k f
least_of limit objects k None h = λ base are.
    elim (cases_lt limit base) [
      | inl lt ↦ let at_zero = far limit objects k base are lt in
          let none = h 0 (omega arith) (omega arith) in cc
      | inr ge ↦ let is = AreFree-are limit objects k base are in
          let none = h base (omega arith) (omega arith) in cc
    ]
least_of limit objects k (Some b) h = (
  are-AreFree limit objects k b h.0,
  λ other are. elim (cases_lt other b) [
    | inl lt ↦ let is = AreFree-are limit objects k other are in
        let none = h.1 other (omega arith) lt in cc
    | inr ge ↦ ge
  ],
)

pub free_is_least : (limit : ℕ) (objects : List Object) (k : ℕ)
    → IsLeastFree limit objects k (free limit objects k)
unfolding free
free_is_least limit objects k = least_of limit objects k _
    (range_least (are_free limit objects k) 0 (limit + 1))
