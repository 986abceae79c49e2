-- The segments of an object: the rows of each, and their writes.
use Rattle.transpose_unit.proofs.Common.{◌≡◌, ℕ, zero, suc, ◌+◌, ◌-◌, ◌*◌, ◌<◌, ◌≤◌, Bool, List}
use Rattle.transpose_unit.proofs.Common.{◌++◌, length, get_or, drop, map, replicate, refl, sym, ap}
use Rattle.transpose_unit.proofs.Common.{◌∙◌, arith, inl, inr, mul-le-mul_right, mul_comm, mul-add}
use Rattle.transpose_unit.proofs.Common.{range_with_len, flat_map, cases_lt, length-map}
use Rattle.transpose_unit.proofs.Common.{length-take, length-drop, get_or-take, get_or-drop}
use Rattle.transpose_unit.proofs.Common.{get_or-map, get_or_append_left, bit_at, bits_of_words}
use Rattle.transpose_unit.proofs.Common.{Geometry, column_count, Event, Write, segments_of, size_of}
use Rattle.transpose_unit.proofs.Common.{padded_to, part_of, row_bits}
use Rattle.std.proofs.lemmas.Grind.{div_ceil_times}
use Rattle.std.proofs.lemmas.List.{append-nil, append_assoc, get_or-append_right, get_or_past}
use Rattle.bit_rows.proofs.Words.{words-eq}
use Rattle.dram_model.proofs.RowWrites.{part_length as part_is_long}
pub use Rattle.dram_model.proofs.RowWrites.{padded_length}
use Rattle.transpose_unit.specs.Stage.{stage_row, stage_events}
use Rattle.transpose_unit.proofs.Columns.{map-range}

-- the segments of a count cover it, and are no more than the banks that do
pub segments_cover : (g : Geometry) (count : ℕ) → 0 < column_count g → count ≤ size_of g count
segments_cover g count some = omega (
  arith,
  (div_ceil_times count (column_count g) some).0,
  mul_comm (column_count g) (segments_of g count),
)

pub segments_fit : (g : Geometry) (count banks : ℕ) → 0 < column_count g
    → count ≤ column_count g * banks → segments_of g count ≤ banks
segments_fit g count banks some fits = elim (cases_lt banks (segments_of g count)) [
  | inl lt ↦ (let next : banks + 1 ≤ segments_of g count = omega arith in
      let more : (banks + 1) * column_count g ≤ segments_of g count * column_count g =
      mul-le-mul_right (column_count g) next in
      let one : (banks + 1) * column_count g ≡ column_count g * banks + column_count g =
      omega (arith, mul_comm (banks + 1) (column_count g), mul-add (column_count g) banks 1) in
      absurd (omega (arith, (div_ceil_times count (column_count g) some).1)))
  | inr ge ↦ ge
]

zeros : (n i : ℕ) → get_or (replicate {A = ℕ} n 0) i 0 ≡ 0
zeros zero i = refl
zeros (suc n) zero = refl
zeros (suc n) (suc i) = zeros n i

-- past the values stand zeros
pub padded_at : (size : ℕ) (values : List ℕ) (i : ℕ)
    → get_or (padded_to size values) i 0 ≡ get_or values i 0
padded_at size values i = elim (cases_lt i (length values)) [
  | inl lt ↦ get_or_append_left values (replicate (size - length values) 0) 0 i lt
  | inr ge ↦ get_or-append_right values (replicate (size - length values) 0) (length values) i 0
      refl ge ∙ zeros (size - length values) (i - length values) ∙ sym (get_or_past values i 0 ge)
]

pub part_length : (g : Geometry) (numbers : List ℕ) (segments bank : ℕ)
    → length numbers ≡ column_count g * segments → bank < segments
    → length (part_of g numbers bank) ≡ column_count g
part_length g numbers segments bank e l =
    part_is_long (column_count g) segments numbers bank e l

-- the rows of a stage are those of the numbers in one bank
pub stage_is : (g : Geometry) (numbers values stage : List ℕ) (segments bank rows k : ℕ)
    → length numbers ≡ column_count g * segments → bank < segments
    → ((i : ℕ) → get_or numbers i 0 ≡ get_or values i 0)
    → length stage ≡ rows * g.words → k < rows
    → ((w c : ℕ) → w < g.words → c < 64 → bit_at (get_or stage (k * g.words + w) 0) c
    ≡ bit_at (get_or values (bank * column_count g + 64 * w + c) 0) k)
    → bits_of_words (stage_row g.words stage k) ≡ row_bits g numbers bank k
stage_is g numbers values stage segments bank rows k e l same size lk h =
    let next : k + 1 ≤ rows = omega arith in
    let inside : k * g.words + g.words ≤ rows * g.words =
    let more : (k + 1) * g.words ≤ rows * g.words = mul-le-mul_right g.words next in
    omega (arith, mul_comm (k + 1) g.words, mul-add g.words k 1, mul_comm g.words k) in
    let len : length (stage_row g.words stage k) ≡ g.words =
    omega (
      arith,
      length-take g.words (drop (k * g.words) stage),
      length-drop (k * g.words) stage,
    ) in
    let part : length (part_of g numbers bank) ≡ column_count g =
    part_length g numbers segments bank e l in
    let count : length (row_bits g numbers bank k) ≡ 64 * length (stage_row g.words stage k) =
    length-map (part_of g numbers bank) (λ v. bit_at v k) ∙ part
    ∙ ap (λ (n : ℕ). 64 * n) (sym len) in
    sym (words-eq (row_bits g numbers bank k) (stage_row g.words stage k) count (λ q r lq lr.
    let w : q < g.words = omega arith in
    let column : 64 * q + r < column_count g = omega arith in
    let there : 64 * q + r < length (part_of g numbers bank) = omega arith in
    let sum : bank * column_count g + (64 * q + r) ≡ bank * column_count g + 64 * q + r =
    omega arith in
    get_or-map (λ v. bit_at v k) (part_of g numbers bank) (64 * q + r) 0 _ there
    ∙ ap (λ (v : ℕ). bit_at v k) (get_or-take (column_count g)
    (drop (bank * column_count g) numbers) (64 * q + r) 0 column
    ∙ get_or-drop (bank * column_count g) numbers (64 * q + r) 0
    ∙ same (bank * column_count g + (64 * q + r)) ∙ ap (λ (i : ℕ). get_or values i 0) sum)
    ∙ sym (h q r w lr)
    ∙ ap (λ (x : ℕ). bit_at x r) (sym (get_or-take g.words (drop (k * g.words) stage) q 0 w
    ∙ get_or-drop (k * g.words) stage q 0))))

-- the writes of one bank
abbrev pub bank_events : Geometry → (base n : ℕ) → List ℕ → ℕ → List Event
bank_events g base n numbers bank = map (λ k. Write bank (base + k) (row_bits g numbers bank k))
    (range_with_len 0 n)

pub stage_events_are : (g : Geometry) (base n : ℕ) (numbers values stage : List ℕ)
    (segments bank rows : ℕ) → n ≤ rows → length numbers ≡ column_count g * segments
    → bank < segments → ((i : ℕ) → get_or numbers i 0 ≡ get_or values i 0)
    → length stage ≡ rows * g.words
    → ((k w c : ℕ) → k < rows → w < g.words → c < 64
    → bit_at (get_or stage (k * g.words + w) 0) c
    ≡ bit_at (get_or values (bank * column_count g + 64 * w + c) 0) k)
    → stage_events g.words bank base n stage ≡ bank_events g base n numbers bank
stage_events_are g base n numbers values stage segments bank rows narrow e l same size h =
    map-range (λ k. Write bank (base + k) (bits_of_words (stage_row g.words stage k))) (λ k.
    Write bank (base + k) (row_bits g numbers bank k)) 0 n (λ k o m.
    ap (λ (row : List Bool). Write bank (base + k) row)
    (stage_is g numbers values stage segments bank rows k e l same size (omega arith) (λ w c.
    h k w c (omega arith))))

-- a bank more
pub flat_map-range_more : {X : Type 0} (f : ℕ → List X) (a n : ℕ)
    → flat_map f (range_with_len a (suc n)) ≡ flat_map f (range_with_len a n) ++ f (a + n)
flat_map-range_more f a zero = let e : a ≡ a + 0 = omega arith in append-nil (f a) ∙ ap f e
flat_map-range_more f a (suc n) =
    let e : a + 1 + n ≡ a + suc n = omega arith in
    ap (λ (xs : List _). f a ++ xs) (flat_map-range_more f (a + 1) n
    ∙ ap (λ (k : ℕ). flat_map f (range_with_len (a + 1) n) ++ f k) e)
    ∙ sym (append_assoc (f a) (flat_map f (range_with_len (a + 1) n)) (f (a + suc n)))

pub banks_more : (g : Geometry) (base n : ℕ) (numbers : List ℕ) (bank : ℕ)
    → flat_map (bank_events g base n numbers) (range_with_len 0 (bank + 1))
    ≡ flat_map (bank_events g base n numbers) (range_with_len 0 bank)
    ++ bank_events g base n numbers bank
banks_more g base n numbers bank =
    let one : bank + 1 ≡ suc bank = omega arith in
    let none : 0 + bank ≡ bank = omega arith in
    ap (λ (k : ℕ). flat_map (bank_events g base n numbers) (range_with_len 0 k)) one
    ∙ flat_map-range_more (bank_events g base n numbers) 0 bank
    ∙ ap (λ (k : ℕ). flat_map (bank_events g base n numbers) (range_with_len 0 bank)
    ++ bank_events g base n numbers k) none

-- where there is an element, a row has words
pub words_some : (words banks count : ℕ) → 0 < count → count ≤ 64 * words * banks → 0 < words
words_some zero banks count l h = let none : 64 * 0 * banks ≡ 0 = omega arith in
    absurd (omega arith)
words_some (suc words) banks count l h = omega arith
