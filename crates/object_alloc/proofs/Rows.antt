-- Rows of bits and their bytes.
use Rattle.object_alloc.proofs.Common.{◌≡◌, ℕ, zero, suc, ◌+◌, ◌-◌, ◌*◌, ◌/◌, ◌%◌, ◌^◌, ◌<◌, ◌≤◌}
use Rattle.object_alloc.proofs.Common.{◌==◌, Bool, List, [], ◌∷◌, ◌++◌, length, get_or, take, drop}
use Rattle.object_alloc.proofs.Common.{refl, sym, ap, ◌∙◌, arith, inl, inr, flat_map}
use Rattle.object_alloc.proofs.Common.{range_with_len, pow-succ', get_or-map, length-map}
use Rattle.object_alloc.proofs.Common.{length-append, take_at, drop_at, drop-drop, take_all}
use Rattle.object_alloc.proofs.Common.{get_or-range_with_len, length-range_with_len, cases_lt}
use Rattle.object_alloc.proofs.Common.{nat_tests, bits, Geometry, column_count, IsBytes}
use Rattle.std.proofs.Common.{map, mul-add, mul_assoc, mul_comm, mul-le-mul_left}
use Rattle.std.proofs.lemmas.List.{ext_get_or, length-take, length-drop, get_or-take, get_or-drop}
use Rattle.std.proofs.lemmas.List.{get_or_past, drop-take, take-take}
use Rattle.std.proofs.lemmas.Nat.{mul-add-lt}
use Rattle.bit_rows.specs.Bits.{value, bit_number}
use Rattle.bit_rows.proofs.Words.{length-bits, bits-cons}
use Rattle.object_alloc.specs.Bytes.{bits_of_bytes, bytes_of_bits}
use Rattle.object_alloc.specs.Spelling.{Rows, rows_bytes, row_at, rows_in}
use Rattle.object_alloc.specs.Reading.{rows_size}
use Rattle.object_alloc.proofs.Pieces.{joined_all, flat_map-range, length-pieces, piece_at}

low_bit : (v : ℕ) → bit_number (v % 2 == 1) + 2 * (v / 2) ≡ v
low_bit v = grind (arith, nat_tests)

-- the number that its own bits spell
pub value-bits : (n v : ℕ) → v < 2 ^ n → value (bits v n) ≡ v
unfolding bits
value-bits zero v l = omega arith
value-bits (suc n) v l =
    let half : v / 2 < 2 ^ n = omega (arith, pow-succ' 2 n) in
    ap (λ (k : ℕ). bit_number (v % 2 == 1) + 2 * k) (value-bits n (v / 2) half) ∙ low_bit v

pub bits-value : (bs : List Bool) → bits (value bs) (length bs) ≡ bs
unfolding bits
bits-value [] = refl
bits-value (b ∷ bs) =
    let e : bit_number b + 2 * value bs ≡ 2 * value bs + bit_number b = omega arith in
    ap (λ (v : ℕ). bits v (suc (length bs))) e ∙ bits-cons (value bs) (length bs) b
    ∙ ap (λ (cs : List Bool). b ∷ cs) (bits-value bs)

-- bytes have eight bits each
pub length-bits_of_bytes : (bytes : List ℕ) → length (bits_of_bytes bytes) ≡ 8 * length bytes
length-bits_of_bytes [] = refl
length-bits_of_bytes (b ∷ bytes) = omega (
  arith,
  length-append (bits b 8) (bits_of_bytes bytes),
  length-bits b 8,
  length-bits_of_bytes bytes,
)

-- eight of the bits are a byte
byte_bits : (bytes : List ℕ) (k : ℕ) → k < length bytes
    → take 8 (drop (8 * k) (bits_of_bytes bytes)) ≡ bits (get_or bytes k 0) 8
byte_bits [] k l = absurd (omega arith)
byte_bits (b ∷ bytes) zero l = let none : 8 * 0 ≡ 0 = refl in
    take_at (bits b 8) (bits_of_bytes bytes) 8 (length-bits b 8)
byte_bits (b ∷ bytes) (suc k) l =
    let e : 8 * suc k ≡ 8 + 8 * k = omega arith in
    let past : drop (8 * suc k) (bits b 8 ++ bits_of_bytes bytes)
    ≡ drop (8 * k) (bits_of_bytes bytes) =
    ap (λ (n : ℕ). drop n (bits b 8 ++ bits_of_bytes bytes)) e
    ∙ sym (drop-drop (8 * k) 8 (bits b 8 ++ bits_of_bytes bytes))
    ∙ ap (drop (8 * k)) (drop_at (bits b 8) (bits_of_bytes bytes) 8 (length-bits b 8)) in
    ap (take 8) past ∙ byte_bits bytes k (omega arith)

-- the bytes of the bits of bytes
pub bytes-bits : (count : ℕ) (bytes : List ℕ) → IsBytes bytes → length bytes ≡ count
    → bytes_of_bits count (bits_of_bytes bytes) ≡ bytes
bytes-bits count bytes fits e =
    let size : length (bytes_of_bits count (bits_of_bytes bytes)) ≡ count =
    simp length-map (length-range_with_len 0 count) in
    ext_get_or 0 (bytes_of_bits count (bits_of_bytes bytes)) bytes (size ∙ sym e) (λ k l.
    let lies : k < count = omega (arith, size) in
    let place : get_or (range_with_len 0 count) k 0 ≡ k = get_or-range_with_len 0 count k 0 lies
    ∙ omega arith in
    let inside : k < length (range_with_len 0 count) =
    omega (arith, length-range_with_len 0 count) in
    get_or-map (λ j. value (take 8 (drop (8 * j) (bits_of_bytes bytes)))) (range_with_len 0 count) k
    0 0 inside
    ∙ ap (λ (j : ℕ). value (take 8 (drop (8 * j) (bits_of_bytes bytes)))) place
    ∙ ap value (byte_bits bytes k (omega (arith, e))) ∙ value-bits 8 (get_or bytes k 0) (fits k))

-- the bits of the bytes of bits
bits-bytes_from : (row : List Bool) (a n : ℕ) → 8 * (a + n) ≤ length row
    → bits_of_bytes (map (λ k. value (take 8 (drop (8 * k) row))) (range_with_len a n))
    ≡ flat_map (λ k. take 8 (drop (8 * k) row)) (range_with_len a n)
bits-bytes_from row a zero l = refl
bits-bytes_from row a (suc n) l =
    let part : List Bool = take 8 (drop (8 * a) row) in
    let size : length (take 8 (drop (8 * a) row)) ≡ 8 =
    omega (arith, length-take 8 (drop (8 * a) row), length-drop (8 * a) row) in
    let back : bits (value (take 8 (drop (8 * a) row))) 8 ≡ take 8 (drop (8 * a) row) =
    ap (λ (n : ℕ). bits (value (take 8 (drop (8 * a) row))) n) (sym size)
    ∙ bits-value (take 8 (drop (8 * a) row)) in
    rw (back, bits-bytes_from row (a + 1) n (omega arith)) refl

-- a row in bytes is that row
pub bits-bytes : (count : ℕ) (row : List Bool) → length row ≡ 8 * count
    → bits_of_bytes (bytes_of_bits count row) ≡ row
bits-bytes count row e =
    bits-bytes_from row 0 count (omega arith) ∙ joined_all 8 row count
    ∙ take_all (8 * count) row (omega (arith, e))

-- a row takes so many bytes
pub length-bytes_of_bits : (count : ℕ) (row : List Bool) → length (bytes_of_bits count row) ≡ count
length-bytes_of_bits count row = simp length-map (length-range_with_len 0 count)

-- ---- all the rows

IsBytes-part : (n m : ℕ) (bytes : List ℕ) → IsBytes bytes → IsBytes (take m (drop n bytes))
IsBytes-part n m bytes fits i = elim (cases_lt i m) [
  | inl lt ↦ rw (get_or-take m (drop n bytes) i 0 lt, get_or-drop) (fits (n + i))
  | inr le ↦
      rw (get_or_past (take m (drop n bytes)) i 0 (omega (arith, length-take m (drop n bytes))))
      (omega arith)
]

-- the place of a row, in two steps
two_steps : (size rows bank row : ℕ) → size * (bank * rows + row) ≡ size * rows * bank + size * row
two_steps size rows bank row = mul-add size (bank * rows) row
    ∙ ap (λ (n : ℕ). n + size * row) (ap (λ (n : ℕ). size * n) (mul_comm bank rows)
    ∙ sym (mul_assoc size rows bank))

pub whole_size : (g : Geometry) → 8 * g.words * g.rows * g.banks ≡ rows_size g
whole_size g = mul_assoc (8 * g.words) g.rows g.banks ∙ mul_assoc 8 g.words (g.rows * g.banks)
    ∙ ap (λ (n : ℕ). 8 * n) (mul_comm g.words (g.rows * g.banks)
    ∙ ap (λ (n : ℕ). n * g.words) (mul_comm g.rows g.banks))

row_inside : (g : Geometry) (bank row : ℕ) → bank < g.banks → row < g.rows → (len : ℕ)
    → len ≡ rows_size g → 8 * g.words * (bank * g.rows + row) + 8 * g.words ≤ len
row_inside g bank row l m len e =
    let place : bank * g.rows + row + 1 ≤ g.banks * g.rows =
    omega (arith, mul-add-lt bank g.rows row g.banks l m, mul_comm g.rows g.banks) in
    let spread : 8 * g.words * (bank * g.rows + row + 1) ≤ 8 * g.words * (g.banks * g.rows) =
    mul-le-mul_left (8 * g.words) place in
    let total : 8 * g.words * (g.banks * g.rows) ≡ rows_size g =
    mul_assoc 8 g.words (g.banks * g.rows)
    ∙ ap (λ (n : ℕ). 8 * n) (mul_comm g.words (g.banks * g.rows)) in
    let one_more : 8 * g.words * (bank * g.rows + row + 1) ≡ 8 * g.words * (bank * g.rows + row) + 8
    * g.words = mul-add (8 * g.words) (bank * g.rows + row) 1 ∙ omega arith in
    omega arith

pub length-row_at : (g : Geometry) (bytes : List ℕ) (bank row : ℕ) → bank < g.banks → row < g.rows
    → length bytes ≡ rows_size g → length (row_at g bytes bank row) ≡ 8 * g.words
length-row_at g bytes bank row l m e =
    let inside = row_inside g bank row l m (length bytes) e in
    omega (
      arith,
      length-take (8 * g.words) (drop (8 * g.words * (bank * g.rows + row)) bytes),
      length-drop (8 * g.words * (bank * g.rows + row)) bytes,
    )

-- the rows that bytes spell have all their columns
pub rows-shaped : (g : Geometry) (bytes : List ℕ) (bank row : ℕ) → bank < g.banks → row < g.rows
    → length bytes ≡ rows_size g → length (rows_in g bytes bank row) ≡ column_count g
rows-shaped g bytes bank row l m e = omega (
  arith,
  length-bits_of_bytes (row_at g bytes bank row),
  length-row_at g bytes bank row l m e,
)

-- the bytes of the rows that bytes spell
pub rows-in : (g : Geometry) (bytes : List ℕ) → IsBytes bytes → length bytes ≡ rows_size g
    → rows_bytes g (rows_in g bytes) ≡ bytes
rows-in g bytes fits e =
    let size : ℕ = 8 * g.words in
    let bank_size : ℕ = 8 * g.words * g.rows in
    let all : bank_size * g.banks ≡ rows_size g = whole_size g in
    let one : (bank : ℕ) → 0 ≤ bank → bank < 0 + g.banks
    → flat_map (λ row. bytes_of_bits (8 * g.words) (rows_in g bytes bank row))
    (range_with_len 0 g.rows) ≡ take bank_size (drop (bank_size * bank) bytes) = λ bank l m.
    flat_map-range (λ row. bytes_of_bits (8 * g.words) (rows_in g bytes bank row))
    (λ row. take size (drop (size * row) (drop (bank_size * bank) bytes))) 0 g.rows (λ row o p.
    let at : size * (bank * g.rows + row) ≡ bank_size * bank + size * row =
    two_steps size g.rows bank row in
    let len : length (row_at g bytes bank row) ≡ size =
    length-row_at g bytes bank row (omega arith) (omega arith) e in
    bytes-bits size (row_at g bytes bank row)
    (IsBytes-part (size * (bank * g.rows + row)) size bytes fits) len
    ∙ ap (take size) (ap (λ (n : ℕ). drop n bytes) at
    ∙ sym (drop-drop (size * row) (bank_size * bank) bytes)))
    ∙ joined_all size (drop (bank_size * bank) bytes) g.rows in
    flat_map-range (λ bank. flat_map (λ row. bytes_of_bits (8 * g.words) (rows_in g bytes bank row))
    (range_with_len 0 g.rows)) (λ bank. take bank_size (drop (bank_size * bank) bytes)) 0
    g.banks one
    ∙ joined_all bank_size bytes g.banks ∙ take_all (bank_size * g.banks) bytes
    (omega (arith, all, e))

pub length-rows_bytes : (g : Geometry) (rows : Rows) → length (rows_bytes g rows) ≡ rows_size g
length-rows_bytes g rows =
    length-pieces (8 * g.words * g.rows) (λ bank. flat_map
    (λ row. bytes_of_bits (8 * g.words) (rows bank row)) (range_with_len 0 g.rows)) 0 g.banks
    (λ bank l m.
    length-pieces (8 * g.words) (λ row. bytes_of_bits (8 * g.words) (rows bank row)) 0 g.rows
    (λ row o p. length-bytes_of_bits (8 * g.words) (rows bank row)))
    ∙ whole_size g

-- a piece of a front of a list
take_within : {X : Type 0} (n m k : ℕ) (xs : List X) → n + m ≤ k
    → take m (drop n (take k xs)) ≡ take m (drop n xs)
take_within n m k xs l =
    let e : k ≡ n + (k - n) = omega arith in
    ap (λ (j : ℕ). take m (drop n (take j xs))) e ∙ ap (take m) (drop-take n (k - n) xs)
    ∙ take-take m (k - n) (drop n xs) (omega arith)

-- the bytes of one row among those of all
pub row-at : (g : Geometry) (rows : Rows) (bank row : ℕ) → bank < g.banks → row < g.rows
    → row_at g (rows_bytes g rows) bank row ≡ bytes_of_bits (8 * g.words) (rows bank row)
row-at g rows bank row l m =
    let size : ℕ = 8 * g.words in
    let bank_size : ℕ = 8 * g.words * g.rows in
    let of_bank : ℕ → List ℕ = λ b. flat_map (λ r. bytes_of_bits (8 * g.words) (rows b r))
    (range_with_len 0 g.rows) in
    let all : List ℕ = rows_bytes g rows in
    let len : (b : ℕ) → 0 ≤ b → b < 0 + g.banks → length (of_bank b) ≡ bank_size =
    λ b o p. length-pieces size (λ r. bytes_of_bits size (rows b r)) 0 g.rows (λ r q s.
    length-bytes_of_bits size (rows b r)) in
    let at : size * (bank * g.rows + row) ≡ bank_size * bank + size * row =
    two_steps size g.rows bank row in
    let inside : size * row + size ≤ bank_size = let next : size * (row + 1) ≤ size * g.rows =
    mul-le-mul_left size (omega arith) in omega (arith, mul-add size row 1) in
    let bank_is : take bank_size (drop (bank_size * bank) all) ≡ of_bank bank =
    piece_at bank_size of_bank 0 g.banks bank l len ∙ ap of_bank (omega_zero bank) in
    ap (take size) (ap (λ (n : ℕ). drop n all) at
    ∙ sym (drop-drop (size * row) (bank_size * bank) all))
    ∙ sym (take_within (size * row) size bank_size (drop (bank_size * bank) all) inside)
    ∙ ap (λ (xs : List ℕ). take size (drop (size * row) xs)) bank_is
    ∙ piece_at size (λ r. bytes_of_bits size (rows bank r)) 0 g.rows row m (λ r q s.
    length-bytes_of_bits size (rows bank r))
    ∙ ap (λ (r : ℕ). bytes_of_bits size (rows bank r)) (omega_zero row)
  where
    omega_zero : (n : ℕ) → 0 + n ≡ n
    omega_zero n = omega arith

pub rows-again : (g : Geometry) (rows : Rows) (bank row : ℕ) → bank < g.banks → row < g.rows
    → length (rows bank row) ≡ column_count g
    → rows_in g (rows_bytes g rows) bank row ≡ rows bank row
rows-again g rows bank row l m e = ap bits_of_bytes (row-at g rows bank row l m)
    ∙ bits-bytes (8 * g.words) (rows bank row) (omega arith)
