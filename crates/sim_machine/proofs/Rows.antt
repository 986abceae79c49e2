-- Rows among all rows, and events row by row.
use Rattle.sim_machine.proofs.Common.{◌≡◌, ℕ, zero, suc, ◌+◌, ◌*◌, ◌<◌, ◌≤◌, List, [], ◌∷◌, ◌++◌}
use Rattle.sim_machine.proofs.Common.{map, refl, sym, ◌∙◌, ap, subst, arith, append_assoc}
use Rattle.sim_machine.proofs.Common.{append-nil, flat_map, range_with_len, mul-le-mul_right, Event}
use Rattle.sim_machine.proofs.Common.{Geometry, Named, ChipView, Did}
use Rattle.std.proofs.Common.{add-one}
use Rattle.std.proofs.Math.Nat.{suc-mul, mul-suc, mul-le-mul_left, mul_comm, mul_assoc}
use Rattle.std.proofs.lemmas.List.FromFn.{map-range_with_len_more}
use Rattle.object_alloc.specs.Spelling.{Rows, head_bytes, rows_bytes, image_bytes}
use Rattle.dram_model.proofs.EventLaws.{Did-more}

-- one more row
pub next_row : (f : ℕ → Event) (k : ℕ) (a b c : ChipView) → Did (map f (range_with_len 0 k)) a b
    → Did (f k ∷ []) b c → Did (map f (range_with_len 0 (k + 1))) a c
next_row f k a b c d e = rw (map-range_with_len_more f 0 k k (omega arith)) (Did-more _ _ a b c d e)

flat_suc : {X : Type 0} (E : ℕ → List X) (a n : ℕ) → flat_map E (range_with_len a (suc n))
    ≡ flat_map E (range_with_len a n) ++ E (a + n)
flat_suc E a zero = let e : a + 0 ≡ a = omega arith in append-nil (E a) ∙ ap E (sym e)
flat_suc E a (suc n) =
    let e : a + 1 + n ≡ a + suc n = omega arith in
    ap (λ (xs : List _). E a ++ xs) (flat_suc E (a + 1) n)
    ∙ sym (append_assoc (E a) (flat_map E (range_with_len (a + 1) n)) (E (a + 1 + n)))
    ∙ ap (λ (k : ℕ). (E a ++ flat_map E (range_with_len (a + 1) n)) ++ E k) e

-- one more bank
pub next_bank : (E : ℕ → List Event) (k : ℕ) (a b c : ChipView)
    → Did (flat_map E (range_with_len 0 k)) a b → Did (E k) b c
    → Did (flat_map E (range_with_len 0 (k + 1))) a c
next_bank E k a b c d e =
    let z : 0 + k ≡ k = omega arith in
    rw (add-one k, flat_suc E 0 k, z) (Did-more _ _ a b c d e)

before_all : (banks rows bank row : ℕ) → bank < banks → row < rows
    → bank * rows + row + 1 ≤ banks * rows
before_all banks rows bank row l k =
    let next : suc bank ≤ banks = omega arith in
    let up = mul-le-mul_right rows next in
    let one = suc-mul bank rows in
    omega (arith, up, one)

in_bytes : (words i n : ℕ) → i + 1 ≤ n → 8 * words * i + 8 * words ≤ 8 * words * n
in_bytes words i n h =
    let up = mul-le-mul_left (8 * words) h in
    let one = mul-suc (8 * words) i in
    let e : i + 1 ≡ suc i = omega arith in
    let up' : 8 * words * suc i ≤ 8 * words * n = subst (λ k. 8 * words * k ≤ 8 * words * n) e up in
    omega (arith, up', one)

regroup : (banks rows words : ℕ) → 8 * words * (banks * rows) ≡ 8 * (banks * rows * words)
regroup banks rows words = mul_assoc 8 words (banks * rows)
    ∙ ap (λ x. 8 * x) (mul_comm words (banks * rows))

-- a row lies within all rows
pub row_within : (banks rows words bank row : ℕ) → bank < banks → row < rows
    → 8 * words * (bank * rows + row) + 8 * words ≤ 8 * (banks * rows * words)
row_within banks rows words bank row l k =
    subst (λ x. 8 * words * (bank * rows + row) + 8 * words
    ≤ x) (regroup banks rows words) (in_bytes words (bank * rows + row) (banks * rows)
    (before_all banks rows bank row l k))

pub row_fits : (banks rows words bank row all : ℕ) → bank < banks → row < rows
    → all ≡ 8 * (banks * rows * words) → 8 * words * (bank * rows + row) + 8 * words ≤ all
row_fits banks rows words bank row all l k e = rw e (row_within banks rows words bank row l k)

-- one more row of bytes
pub next_bytes : (E : ℕ → List ℕ) (k : ℕ) (before now next : List ℕ)
    → now ≡ before ++ flat_map E (range_with_len 0 k) → next ≡ now ++ E k
    → next ≡ before ++ flat_map E (range_with_len 0 (k + 1))
next_bytes E k before now next e h =
    let z : 0 + k ≡ k = omega arith in
    rw (add-one k, flat_suc E 0 k, z) (h ∙ ap (λ xs. xs ++ E k) e
    ∙ append_assoc before (flat_map E (range_with_len 0 k)) (E k))

pub more_reads : (k c r : ℕ) → r + k * c + c ≡ r + (k + 1) * c
more_reads k c r = rw (add-one k, suc-mul k c) (omega arith)

pub one_times_more : (k c : ℕ) → k * c + c ≡ (k + 1) * c
one_times_more k c = rw (add-one k, suc-mul k c) refl

-- a head and rows are an image
pub image_is : (g : Geometry) (table : List Named) (rows : Rows) (empty head file : List ℕ)
    → empty ≡ [] → head ≡ empty ++ head_bytes g table → file ≡ head ++ rows_bytes g rows
    → file ≡ image_bytes g table rows
unfolding image_bytes
image_is g table rows empty head file e f h =
    h ∙ ap (λ xs. xs ++ rows_bytes g rows) (f ∙ ap (λ xs. xs ++ head_bytes g table) e)
