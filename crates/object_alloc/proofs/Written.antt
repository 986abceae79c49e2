-- Bytes that are appended.
use Rattle.object_alloc.proofs.Common.{◌≡◌, ℕ, zero, suc, ◌+◌, ◌-◌, ◌*◌, false, Some, List, [], ◌∷◌}
use Rattle.object_alloc.proofs.Common.{◌++◌, Bool, length, take, refl, sym, ap, ◌∙◌, append_assoc}
use Rattle.object_alloc.proofs.Common.{arith, flat_map, range_with_len, flat_map-append, append-nil}
use Rattle.object_alloc.proofs.Common.{take_all, bits, Geometry, column_count, IsBytes}
use Rattle.std.proofs.Common.{replicate}
use Rattle.std.specs.Prelude.{slice_get}
use Rattle.std.proofs.lemmas.Option.{slice_get_within, get_or_from_slice_get}
use Rattle.std.proofs.lemmas.List.{replicate-append-replicate, length-replicate, take_more}
use Rattle.object_alloc.specs.Bytes.{bits_of_bytes, bytes_of_bits}
use Rattle.object_alloc.specs.Spelling.{object_bytes, head_bytes, rows_bytes, blank_rows}
use Rattle.object_alloc.specs.Spelling.{image_bytes, opening_bytes, geometry_bytes}
use Rattle.object_alloc.specs.Listed.{Named}
use Rattle.object_alloc.specs.Reading.{rows_size}
use Rattle.object_alloc.proofs.Pieces.{flat_map-range}
use Rattle.object_alloc.proofs.Rows.{bytes-bits, whole_size}

pub five : (start a b c d e : List ℕ) → ((((start ++ a) ++ b) ++ c) ++ d) ++ e
    ≡ start ++ ((a ++ b) ++ (c ++ (d ++ e)))
five start a b c d e = simp append_assoc

-- ---- zeros

zero_bits : bits 0 8 ≡ replicate 8 false
unfolding bits
zero_bits = refl

bits-zeros : (n : ℕ) → bits_of_bytes (replicate n 0) ≡ replicate (8 * n) false
bits-zeros zero = refl
bits-zeros (suc n) =
    let more : 8 + 8 * n ≡ 8 * suc n = omega arith in
    ap (λ (xs : List Bool). xs ++ bits_of_bytes (replicate n 0)) zero_bits
    ∙ ap (λ (xs : List Bool). replicate 8 false ++ xs) (bits-zeros n)
    ∙ replicate-append-replicate 8 (8 * n) false ∙ ap (λ (k : ℕ). replicate k false) more

zeros_are_bytes : (n : ℕ) → IsBytes (replicate n 0)
zeros_are_bytes zero i = omega arith
zeros_are_bytes (suc n) zero = omega arith
zeros_are_bytes (suc n) (suc i) = zeros_are_bytes n i

bytes-zeros : (n : ℕ) → bytes_of_bits n (replicate (8 * n) false) ≡ replicate n 0
bytes-zeros n = ap (bytes_of_bits n) (sym (bits-zeros n))
    ∙ bytes-bits n (replicate n 0) (zeros_are_bytes n) (length-replicate {A = ℕ} n 0)

zero_pieces : (size a n : ℕ) → flat_map (λ _. replicate {A = ℕ} size 0) (range_with_len a n)
    ≡ replicate (size * n) 0
zero_pieces size a zero = let none : size * 0 ≡ 0 = omega arith in
    ap (λ (k : ℕ). replicate {A = ℕ} k 0) (sym none)
zero_pieces size a (suc n) =
    let more : size + size * n ≡ size * suc n = omega arith in
    ap (λ (xs : List ℕ). replicate size 0 ++ xs) (zero_pieces size (a + 1) n)
    ∙ replicate-append-replicate {A = ℕ} size (size * n) 0
    ∙ ap (λ (k : ℕ). replicate {A = ℕ} k 0) more

pub rows-zeros : (g : Geometry) → rows_bytes g (blank_rows g) ≡ replicate (rows_size g) 0
rows-zeros g =
    let size : 64 * g.words ≡ 8 * (8 * g.words) = omega arith in
    let one : bytes_of_bits (8 * g.words) (replicate (column_count g) false)
    ≡ replicate (8 * g.words) 0 =
    ap (λ (n : ℕ). bytes_of_bits (8 * g.words) (replicate n false)) size
    ∙ bytes-zeros (8 * g.words) in
    flat_map-range (λ bank. flat_map (λ row. bytes_of_bits (8 * g.words) (blank_rows g bank row))
    (range_with_len 0 g.rows)) (λ _. replicate (8 * g.words * g.rows) 0) 0 g.banks (λ bank l m.
    flat_map-range (λ row. bytes_of_bits (8 * g.words) (blank_rows g bank row)) (λ _.
    replicate (8 * g.words) 0) 0 g.rows (λ row o p. one) ∙ zero_pieces (8 * g.words) 0 g.rows)
    ∙ zero_pieces (8 * g.words * g.rows) 0 g.banks
    ∙ ap (λ (k : ℕ). replicate {A = ℕ} k 0) (whole_size g)

-- one object more
pub objects_more : (pairs : List Named) (k : ℕ) (named : Named) → slice_get pairs k ≡ Some named
    → flat_map object_bytes (take (k + 1) pairs) ≡ flat_map object_bytes (take k pairs)
    ++ object_bytes named
objects_more pairs k named e =
    ap (flat_map object_bytes) (take_more pairs k named (slice_get_within pairs k named e)
    ∙ ap (λ (x : Named). take k pairs ++ x ∷ []) (get_or_from_slice_get pairs k named named e))
    ∙ flat_map-append object_bytes (take k pairs) (named ∷ [])
    ∙ ap (λ (xs : List ℕ). flat_map object_bytes (take k pairs)
    ++ xs) (append-nil (object_bytes named))

-- the file of no objects
pub empty_is : (g : Geometry) (file : List ℕ) (len size : ℕ)
    → file ≡ ([] ++ (opening_bytes ++ geometry_bytes g)) ++ (0 ∷ 0 ∷ []) → len ≡ 14
    → size ≡ rows_size g → take (14 + size) file ++ replicate (14 + size - len) 0
    ≡ image_bytes g [] (blank_rows g)
unfolding image_bytes
empty_is g file len size e l s =
    let whole : file ≡ head_bytes g [] = e ∙ append_assoc opening_bytes (geometry_bytes g) (0 ∷ 0
    ∷ []) in
    let count : length file ≡ 14 = ap length whole in
    let left : 14 + size - len ≡ rows_size g = omega arith in
    ap (λ (xs : List ℕ). xs ++ replicate (14 + size - len) 0)
    (take_all (14 + size) file (omega arith) ∙ whole)
    ∙ ap (λ (n : ℕ). head_bytes g [] ++ replicate n 0) left
    ∙ ap (λ (xs : List ℕ). head_bytes g [] ++ xs) (sym (rows-zeros g))
