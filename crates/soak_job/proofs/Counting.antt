-- How the loops go on: the cases, the values of a source, and the sum of a bank.
use Rattle.soak_job.proofs.Common.{◌≡◌, ℕ, zero, suc, ◌+◌, ◌*◌, ◌/◌, ◌%◌, ◌^◌, ◌<◌, ◌≤◌, List, []}
use Rattle.soak_job.proofs.Common.{◌∷◌, ◌++◌, length, map, take, drop, get_or, refl, sym, ap, ◌∙◌}
use Rattle.soak_job.proofs.Common.{arith, cond, not, Option, Some, None, is_none, sum_by, All}
use Rattle.soak_job.proofs.Common.{flat_map, range_with_len, AllByRecursion, mod-lt, drop-cons}
use Rattle.soak_job.proofs.Common.{pow_pos, nat_tests, Kind, Word, WordOp, param, second_kind, Bool}
use Rattle.soak_job.proofs.Common.{true, false}
use Rattle.std.proofs.Common.{set, append_assoc}
use Rattle.std.specs.Prelude.{is_some}
use Rattle.std.proofs.lemmas.List.Elements.{All-from_recursion}
use Rattle.std.proofs.lemmas.List.Sums.{sum_by-append}
use Rattle.std.proofs.Math.Nat.{add-mod, mod-eq_of_lt}
use Rattle.std.proofs.Math.Pow.{pow-lt}
use Rattle.std.proofs.Math.Seq.{take-suc-set}
use Rattle.std.proofs.lemmas.List.FromFn.{map-range_with_len_more}
use Rattle.transpose_unit.specs.Stage.{stage_rows}
use Rattle.rand_xoshiro.specs.SplitMix64.{mix_u64}
use Rattle.soak_job.specs.declared.cases.Case.{Case}
use Rattle.soak_job.specs.Cases.{at_widths, params_of, singles}
use Rattle.soak_job.specs.Words.{elements, value_at, values_of, word_at}

first_cases : (op : WordOp) (ops : List WordOp) (b : Bool) → is_none (second_kind op) ≡ b
    → flat_map at_widths (singles (op ∷ ops))
    ≡ cond b (at_widths op) [] ++ flat_map at_widths (singles ops)
first_cases op ops true e =
    ap (λ b. flat_map at_widths (cond b (op ∷ singles ops) (singles ops))) e
first_cases op ops b e =
    ap (λ b. flat_map at_widths (cond b (op ∷ singles ops) (singles ops))) e

none_by : (k : Option Kind) (b : Bool) → is_some k ≡ not b → is_none k ≡ b
none_by None true e = refl
none_by None false e = cc
none_by (Some k) true e = cc
none_by (Some k) false e = refl

-- the cases of the operations in rows
abbrev pub cases_in : {R : Type 0} → (R → WordOp) → List R → List Case
cases_in f rows = flat_map at_widths (singles (map f rows))

-- the cases of one row more, if its operation has one result
pub cases_more : {R : Type 0} (f : R → WordOp) (rows : List R) (i : ℕ) (d : R)
    (all items new : List Case) (k : Option Kind) (b : Bool) → i < length rows
    → k ≡ second_kind (f (get_or rows i d)) → is_some k ≡ not b
    → new ≡ items ++ cond b (at_widths (f (get_or rows i d))) []
    → all ≡ items ++ cases_in f (drop i rows) → all ≡ new ++ cases_in f (drop (i + 1) rows)
cases_more f rows i d all items new k b l e s n h =
    let one : suc i ≡ i + 1 = omega arith in
    let op : WordOp = f (get_or rows i d) in
    let rest : List WordOp = map f (drop (i + 1) rows) in
    h ∙ ap (λ xs. items ++ cases_in f xs) (drop-cons rows i d l)
    ∙ ap (λ j. items ++ cases_in f (get_or rows i d ∷ drop j rows)) one
    ∙ ap (λ (cs : List Case). items ++ cs)
    (first_cases op rest b (ap (λ (j : Option Kind). is_none j) (sym e) ∙ none_by k b s))
    ∙ sym (append_assoc items (cond b (at_widths op) []) (flat_map at_widths (singles rest)))
    ∙ ap (λ (cs : List Case). cs ++ flat_map at_widths (singles rest)) (sym n)

-- the bit that a width shifts out
pub shifted : (b : ℕ) → b ≤ 64 → 1 * 2 ^ b % 2 ^ 128 ≡ 2 ^ b
shifted b l =
    let one : 1 * 2 ^ b ≡ 2 ^ b = omega arith in
    let small : 2 ^ b < 2 ^ 128 = pow-lt {i = b} {j = 128} (omega arith) in
    ap (λ x. x % 2 ^ 128) one ∙ mod-eq_of_lt small

small_each : (state bits : ℕ) (is : List ℕ)
    → AllByRecursion (λ v. v < 2 ^ bits) (map (value_at state bits) is)
small_each state bits [] = tt
small_each state bits (i ∷ is) = (mod-lt (word_at state i) (pow_pos bits), small_each state bits is)

-- each value has so many bits
pub values_small : (state bits : ℕ) → All (λ v. v < 2 ^ bits) (values_of state bits)
values_small state bits = All-from_recursion (λ v. v < 2 ^ bits) (values_of state bits)
    (small_each state bits (range_with_len 0 elements))

-- one value more
pub values_more : (values : List ℕ) (f : ℕ → ℕ) (i x : ℕ) → i < length values → x ≡ f i
    → take i values ≡ map f (range_with_len 0 i)
    → take (i + 1) (set values i x) ≡ map f (range_with_len 0 (i + 1))
values_more values f i x l e h =
    let one : i + 1 ≡ suc i = omega arith in
    ap (λ n. take n (set values i x)) one ∙ take-suc-set values i x l
    ∙ ap (λ (front : List ℕ). front ++ x ∷ []) h
    ∙ ap (λ y. map f (range_with_len 0 i) ++ y ∷ []) e
    ∙ sym (map-range_with_len_more f 0 i i (omega arith))

-- the sum over a list is that of its first and of its rest
pub sum_cons : {X : Type 0} (f : X → ℕ) (x : X) (xs : List X)
    → sum_by f (x ∷ xs) ≡ f x + sum_by f xs
sum_cons f x xs =
    let h : sum_by f (x ∷ xs) ≡ sum_by f (x ∷ []) + sum_by f xs = sum_by-append f (x ∷ []) xs in
    let one : sum_by f (x ∷ []) ≡ 0 + f x = refl in omega (arith, h, one)

sums_from : (f : ℕ → ℕ) (a n : ℕ)
    → sum_by f (range_with_len a (suc n)) ≡ sum_by f (range_with_len a n) + f (a + n)
sums_from f a zero = let e : f a ≡ f (a + 0) = ap f (omega arith) in omega (arith, e)
sums_from f a (suc n) =
    let rest = sums_from f (a + 1) n in
    let e : f (a + 1 + n) ≡ f (a + suc n) = ap f (omega arith) in
    let whole : sum_by f (range_with_len a (suc (suc n)))
    ≡ f a + sum_by f (range_with_len (a + 1) (suc n)) =
    sum_cons f a (range_with_len (a + 1) (suc n)) in
    let part : sum_by f (range_with_len a (suc n)) ≡ f a + sum_by f (range_with_len (a + 1) n) =
    sum_cons f a (range_with_len (a + 1) n) in omega (arith, rest, e, whole, part)

sums_more : (f : ℕ → ℕ) (k : ℕ)
    → sum_by f (range_with_len 0 (suc k)) ≡ sum_by f (range_with_len 0 k) + f k
sums_more f k = let e : f (0 + k) ≡ f k = ap f (omega arith) in sums_from f 0 k
    ∙ ap (λ x. sum_by f (range_with_len 0 k) + x) e

-- one number more
pub sum_more : (sum : ℕ) (f : ℕ → ℕ) (k all x : ℕ)
    → all ≡ (sum + sum_by f (range_with_len 0 k)) % 2 ^ 64 → x ≡ f k % 2 ^ 64
    → (all + x) % 2 ^ 64 ≡ (sum + sum_by f (range_with_len 0 (k + 1))) % 2 ^ 64
sum_more sum f k all x h e =
    let s : ℕ = sum_by f (range_with_len 0 k) in
    let one : k + 1 ≡ suc k = omega arith in
    let more : sum_by f (range_with_len 0 (k + 1)) ≡ s + f k =
    ap (λ n. sum_by f (range_with_len 0 n)) one ∙ sums_more f k in
    let whole : sum + (s + f k) ≡ sum + s + f k = omega arith in
    ap (λ y. (y + x) % 2 ^ 64) h ∙ ap (λ y. ((sum + s) % 2 ^ 64 + y) % 2 ^ 64) e
    ∙ sym (add-mod (sum + s) (f k) (2 ^ 64))
    ∙ ap (λ y. y % 2 ^ 64) (sym whole)
    ∙ ap (λ y. (sum + y) % 2 ^ 64) (sym more)

-- a word and the state after it
pub drawn_parts : (word next state before : ℕ) → (word, next) ≡ mix_u64 before → before ≡ state
    → (word ≡ (mix_u64 state).0) × (next ≡ (mix_u64 state).1)
drawn_parts word next state before e f = (
  ap (λ (p : ℕ × ℕ). p.0) e ∙ ap (λ s. (mix_u64 s).0) f,
  ap (λ (p : ℕ × ℕ). p.1) e ∙ ap (λ s. (mix_u64 s).1) f,
)

rows-low : (n : ℕ) → n ≤ 64 → stage_rows n ≡ 64
rows-low n l = grind (arith, nat_tests)

-- the words of a row of the stage
pub two_words : (n : ℕ) (stage : List ℕ) → n ≤ 64 → length stage ≡ 128
    → length stage / stage_rows n ≡ 2
two_words n stage l e = rw (e, rows-low n l) refl
