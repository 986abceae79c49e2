-- Columns of a stage.
use Rattle.transpose_unit.proofs.Common.{◌≡◌, ℕ, zero, suc, ◌+◌, ◌-◌, ◌*◌, ◌/◌, ◌%◌, ◌^◌, ◌<◌, ◌≤◌}
use Rattle.transpose_unit.proofs.Common.{Bool, true, false, List, ◌∷◌, ◌++◌, length, get_or, take}
use Rattle.transpose_unit.proofs.Common.{drop, map, refl, sym, ap, ◌∙◌, arith, inl, inr}
use Rattle.transpose_unit.proofs.Common.{mul-le-mul_right, mul_comm, mul-add, range_with_len}
use Rattle.transpose_unit.proofs.Common.{get_or-take, get_or-drop, get_or-map, length-map}
use Rattle.transpose_unit.proofs.Common.{length-take, length-drop, cases_lt, bool_byte, value}
use Rattle.transpose_unit.proofs.Common.{bit_at, bit_in, bits_of_words, D, Column, row_in, number}
use Rattle.std.proofs.Math.Nat.{pow-succ'}
use Rattle.std.proofs.lemmas.List.{ext_get_or, drop-take, take-take, drop_at, take_at}
use Rattle.std.proofs.lemmas.List.{drop-append-le, take-append-le}
use Rattle.std.proofs.lemmas.List.FromFn.{length-range_with_len, get_or-range_with_len}
use Rattle.bit_rows.specs.Bits.{bit_number}
use Rattle.bit_rows.proofs.Words.{words-at}
use Rattle.dram_model.specs.Column.{blank}
use Rattle.transpose_unit.specs.Stage.{stage_row, stage_number}

byte-is-number : (b : Bool) → bool_byte b ≡ bit_number b
byte-is-number true = refl
byte-is-number false = refl

number-small : (b : Bool) → bit_number b ≤ 1
number-small true = omega arith
number-small false = omega arith

-- the bit of a column in a row of the stage
pub stage_bit : (words k column : ℕ) (stage : List ℕ) → column < 64 * words
    → k * words + words ≤ length stage → bit_in (bits_of_words (stage_row words stage k)) column
    ≡ bit_at (get_or stage (k * words + column / 64) 0) (column % 64)
stage_bit words k column stage l inside =
    let q : column / 64 < words = omega arith in
    let r : column % 64 < 64 = omega arith in
    let at : column ≡ 64 * (column / 64) + column % 64 = omega arith in
    let long : column / 64 < length (stage_row words stage k) =
    omega (arith, length-take words (drop (k * words) stage), length-drop (k * words) stage) in
    ap (bit_in (bits_of_words (stage_row words stage k))) at
    ∙ words-at (stage_row words stage k) (column / 64) (column % 64) long r
    ∙ ap (λ (w : ℕ). bit_at w (column % 64)) (get_or-take words (drop (k * words) stage)
    (column / 64) 0 q ∙ get_or-drop (k * words) stage (column / 64) 0)

-- a bit more below
pub value_more : (f : ℕ → Bool) (n k v : ℕ) (b : Bool) → 0 < k → k ≤ n → b ≡ f (k - 1)
    → v < 2 ^ (n - k) → v ≡ value (map f (range_with_len k (n - k)))
    → (2 * v + bool_byte b < 2 ^ (n - (k - 1)))
    × (2 * v + bool_byte b ≡ value (map f (range_with_len (k - 1) (n - (k - 1)))))
value_more f n k v b some l e small h =
    let left : n - (k - 1) ≡ suc (n - k) = omega arith in
    let next : k - 1 + 1 ≡ k = omega arith in
    let one : value (map f (range_with_len (k - 1) (suc (n - k))))
    ≡ bit_number (f (k - 1)) + 2 * v = ap (λ (j : ℕ). bit_number (f (k - 1)) + 2
    * value (map f (range_with_len j (n - k)))) next
    ∙ ap (λ (x : ℕ). bit_number (f (k - 1)) + 2 * x) (sym h) in
    rw (byte-is-number b) (
      rw (left, pow-succ' 2 (n - k)) (omega (arith, number-small b)),
      rw left (ap (λ (c : Bool). 2 * v + bit_number c) e ∙ omega arith ∙ sym one),
    )

-- ---- reading

pub one_row : (k words rows : ℕ) → k + 1 ≤ rows → k * words + words ≤ rows * words
one_row k words rows l = let more : (k + 1) * words ≤ rows * words = mul-le-mul_right words l in
    omega (arith, mul_comm (k + 1) words, mul-add words k 1, mul_comm words k)

take_within : {X : Type 0} (n m k : ℕ) (xs : List X) → n + m ≤ k
    → take m (drop n (take k xs)) ≡ take m (drop n xs)
take_within n m k xs l =
    let e : k ≡ n + (k - n) = omega arith in
    ap (λ (j : ℕ). take m (drop n (take j xs))) e ∙ ap (take m) (drop-take n (k - n) xs)
    ∙ take-take m (k - n) (drop n xs) (omega arith)

-- a row more in the stage
pub rows_more : (words k start : ℕ) (stage row rest : List ℕ) (f : ℕ → List Bool)
    → start ≡ k * words → start + words ≤ length stage → length row ≡ words
    → bits_of_words row ≡ f k
    → ((j : ℕ) → j < k → bits_of_words (stage_row words stage j) ≡ f j) → (j : ℕ) → j < k + 1
    → bits_of_words (stage_row words (take start stage ++ (row ++ rest)) j) ≡ f j
rows_more words k start stage row rest f e inside len new old j l =
    let front : length (take start stage) ≡ start = omega (arith, length-take start stage) in
    elim (cases_lt j k) [
      | inl lt ↦ (
          let next : j + 1 ≤ k = omega arith in
          let below : j * words + words ≤ start = let more : (j + 1) * words ≤ k * words =
          mul-le-mul_right words next in omega (
            arith,
            mul_comm (j + 1) words,
            mul-add words j 1,
            mul_comm words j,
          ) in
          let part : List ℕ = drop (j * words) (take start stage) in
          let long : length (drop (j * words) (take start stage)) ≡ start - j * words =
          omega (arith, length-drop (j * words) (take start stage)) in
          ap bits_of_words (ap (take words) (drop-append-le (j * words) (take start stage) (row
          ++ rest) (omega arith)) ∙ take-append-le words part (row ++ rest) (omega arith)
          ∙ take_within (j * words) words start stage below)
          ∙ old j lt)
      | inr ge ↦ (
          let same : j ≡ k = omega arith in
          let at : j * words ≡ start = ap (λ (i : ℕ). i * words) same ∙ sym e in
          ap bits_of_words (ap (λ (n : ℕ). take words (drop n (take start stage ++ (row ++ rest))))
          at ∙ ap (take words) (drop_at (take start stage) (row ++ rest) start front)
          ∙ take_at row rest words len)
          ∙ new ∙ ap f (sym same))
    ]

shifted : (h : ℕ → Bool) (base a n : ℕ) → map (λ k. h (base + k)) (range_with_len a n)
    ≡ map h (range_with_len (base + a) n)
shifted h base a zero = refl
shifted h base a (suc n) = let next : base + (a + 1) ≡ base + a + 1 = omega arith in
    ap (λ (bs : List Bool). h (base + a) ∷ bs) (shifted h base (a + 1) n
    ∙ ap (λ (i : ℕ). map h (range_with_len i n)) next)

pub map-range : {X : Type 0} (f h : ℕ → X) (a n : ℕ) → ((k : ℕ) → a ≤ k → k < a + n → f k ≡ h k)
    → map f (range_with_len a n) ≡ map h (range_with_len a n)
map-range f h a zero e = refl
map-range f h a (suc n) e = rw (
  e a (omega arith) (omega arith),
  map-range f h (a + 1) n (λ k l m. e k (omega arith) (omega arith)),
) refl

-- a stage whose rows are those of the columns spells their numbers
pub columns_read : (words base n count : ℕ) (stage : List ℕ) (columns : List Column)
    → length columns ≡ count → ((k : ℕ) → k < n
    → bits_of_words (stage_row words stage k) ≡ row_in (base + k) columns)
    → map (stage_number words n stage) (range_with_len 0 count) ≡ map (number base n) columns
columns_read words base n count stage columns e rows =
    let size : length (map (stage_number words n stage) (range_with_len 0 count)) ≡ count =
    length-map (range_with_len 0 count) (stage_number words n stage)
    ∙ length-range_with_len 0 count in
    let size2 : length (map (number base n) columns) ≡ count = length-map columns (number base n)
    ∙ e in
    ext_get_or 0 (map (stage_number words n stage) (range_with_len 0 count))
    (map (number base n) columns) (size ∙ sym size2) (λ c l.
    let lies : c < count = omega (arith, size) in
    let inside : c < length (range_with_len 0 count) =
    omega (arith, length-range_with_len 0 count) in
    let there : c < length columns = omega arith in
    let at : get_or (range_with_len 0 count) c 0 ≡ c = get_or-range_with_len 0 count c 0 lies
    ∙ omega arith in
    let none : base + 0 ≡ base = omega arith in
    get_or-map (stage_number words n stage) (range_with_len 0 count) c 0 0 inside
    ∙ ap (stage_number words n stage) at
    ∙ ap value (map-range (λ k. bit_in (bits_of_words (stage_row words stage k)) c) (λ k.
    get_or columns c blank (D (base + k))) 0 n (λ k o m.
    ap (λ (bs : List Bool). bit_in bs c) (rows k (omega arith))
    ∙ get_or-map (λ (s : Column). s (D (base + k))) columns c blank false there)
    ∙ shifted (λ row. get_or columns c blank (D row)) base 0 n
    ∙ ap (λ (i : ℕ). map (λ row. get_or columns c blank (D row)) (range_with_len i n)) none)
    ∙ sym (get_or-map (number base n) columns c blank 0 there))

-- ---- transposing
