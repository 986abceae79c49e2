-- What the writes of an object leave in the columns.
use Rattle.transpose_unit.proofs.Common.{◌≡◌, ℕ, zero, suc, ◌+◌, ◌-◌, ◌*◌, ◌^◌, ◌<◌, ◌≤◌, Bool}
use Rattle.transpose_unit.proofs.Common.{false, List, [], ◌∷◌, length, map, drop, replicate, refl}
use Rattle.transpose_unit.proofs.Common.{sym, ◌∙◌, ap, arith, inl, inr, mul_comm, range_with_len}
use Rattle.transpose_unit.proofs.Common.{flat_map, cases_lt, nat_tests, pow_pos, Geometry, D}
use Rattle.transpose_unit.proofs.Common.{Column, Counters, Banks, after, all_counted, Write, number}
use Rattle.transpose_unit.proofs.Common.{column_count, segments_of, numbers_in, size_of, padded_to}
use Rattle.transpose_unit.proofs.Common.{part_of, row_bits, write_events}
use Rattle.std.proofs.Common.{All}
use Rattle.std.specs.List.{AllByRecursion}
use Rattle.std.proofs.lemmas.List.{take_all}
use Rattle.dram_model.specs.declared.address.Cell.{Cell}
use Rattle.dram_model.specs.declared.address.Cell.TheVariants.{T, Dcc, C}
use Rattle.dram_model.specs.Column.{is_written}
use Rattle.dram_model.specs.Chip.{with_row}
use Rattle.dram_model.proofs.EventLaws.{on_bank_all}
use Rattle.dram_model.proofs.RowWrites.{writes_numbers, OnOwn, each_inside, each_after, all_own}
use Rattle.dram_model.proofs.RowWrites.{whole, map_parts, all_append, all_take, all_drop, all_zero}
use Rattle.transpose_unit.proofs.Events.{banks_counted}
pub use Rattle.dram_model.proofs.RowWrites.{rows_are}
use Rattle.transpose_unit.specs.Laws.{is_in_rows, WritesHold}
use Rattle.transpose_unit.proofs.Segments.{bank_events, segments_cover, padded_length, part_length}

own_events : (g : Geometry) (base n : ℕ) (numbers : List ℕ) → OnOwn (bank_events g base n numbers)
own_events g base n numbers = all_own (column_count g) base n numbers

all_by : (P : ℕ → Type 0) (xs : List ℕ) → All P xs → AllByRecursion P xs
all_by P [] h = tt
all_by P (x ∷ xs) h = (h 0 x (omega arith), all_by P xs (λ k d l. h (suc k) d (omega arith)))

pub numbers_hold : (g : Geometry) (base n : ℕ) (values : List ℕ) (banks : Banks) → 0 < g.words
    → All (λ v. v < 2 ^ n) values
    → ((bank : ℕ) → bank < segments_of g (length values) → length (banks bank) ≡ column_count g)
    → numbers_in g (after (write_events g base n values) banks) base n (length values)
    ≡ padded_to (size_of g (length values)) values
unfolding write_events
numbers_hold g base n values banks some small shaped =
    let count : ℕ = length values in
    let segments : ℕ = segments_of g (length values) in
    let numbers : List ℕ = padded_to (size_of g (length values)) values in
    let long : length (padded_to (size_of g (length values)) values)
    ≡ column_count g * segments_of g (length values) =
    padded_length (size_of g (length values)) values
    (segments_cover g (length values) (omega arith)) in
    let narrow : AllByRecursion (λ v. v < 2 ^ n) numbers =
    all_append (λ v. v < 2 ^ n) values (replicate (size_of g (length values) - length values) 0)
    (all_by (λ v. v < 2 ^ n) values small)
    (all_zero (λ v. v < 2 ^ n) (size_of g (length values) - length values) (pow_pos n)) in
    let new : Banks = after (flat_map (bank_events g base n numbers) (range_with_len 0 segments))
    banks in
    map_parts (number base n) new (column_count g) numbers 0 segments (λ bank l m.
    let lt : bank < segments_of g (length values) = omega arith in
    let fits : length (banks bank) ≡ length (part_of g numbers bank) =
    shaped bank lt ∙ sym (part_length g numbers segments bank long lt) in
    ap (map (number base n)) (each_inside (bank_events g base n numbers) 0 segments banks bank
    (own_events g base n numbers) l m)
    ∙ writes_numbers bank base n (part_of g numbers bank) (banks bank) fits
    (all_take (λ v. v < 2 ^ n) (column_count g) (drop (bank * column_count g) numbers)
    (all_drop (λ v. v < 2 ^ n) (bank * column_count g) numbers narrow)))
    ∙ whole (column_count g) segments numbers
    ∙ take_all (segments * column_count g) numbers
    (omega (arith, long, mul_comm (column_count g) (segments_of g (length values))))

-- cells of other rows
cell_kept : (row : ℕ) (bits : List Bool) (columns : List Column) (cell : Cell)
    → is_written (D row) cell ≡ false → map (λ (s : Column). s cell) (with_row row bits columns)
    ≡ map (λ (s : Column). s cell) columns
cell_kept row [] columns cell h = refl
cell_kept row (b ∷ bits) [] cell h = refl
cell_kept row (b ∷ bits) (s ∷ columns) cell h =
    rw h (ap (λ (rest : List Bool). s cell ∷ rest) (cell_kept row bits columns cell h))

outside : (base n k : ℕ) (cell : Cell) → k < n → is_in_rows base n cell ≡ false
    → is_written (D (base + k)) cell ≡ false
outside base n k (D row) l h = grind (arith, nat_tests)
outside base n k (T j) l h = refl
outside base n k (Dcc j) l h = refl
outside base n k (C j) l h = refl

rows_kept : (bank base : ℕ) (row : ℕ → List Bool) (a m n : ℕ) (columns : List Column) (cell : Cell)
    → a + m ≤ n → is_in_rows base n cell ≡ false
    → map (λ (s : Column). s cell) (on_bank_all
    (map (λ k. Write bank (base + k) (row k)) (range_with_len a m)) columns)
    ≡ map (λ (s : Column). s cell) columns
rows_kept bank base row a zero n columns cell l h = refl
rows_kept bank base row a (suc m) n columns cell l h =
    rows_kept bank base row (a + 1) m n (with_row (base + a) (row a) columns) cell (omega arith) h
    ∙ cell_kept (base + a) (row a) columns cell (outside base n a cell (omega arith) h)

-- rows that a load does not write are as they were
pub others_hold : (g : Geometry) (base n : ℕ) (values : List ℕ) (banks : Banks) (bank : ℕ)
    (cell : Cell) → is_in_rows base n cell ≡ false
    → map (λ (s : Column). s cell) (after (write_events g base n values) banks bank)
    ≡ map (λ (s : Column). s cell) (banks bank)
unfolding write_events
others_hold g base n values banks bank cell h =
    let numbers : List ℕ = padded_to (size_of g (length values)) values in
    let segments : ℕ = segments_of g (length values) in
    elim (cases_lt bank (segments_of g (length values))) [
      | inl lt ↦
          (ap (map (λ (s : Column). s cell)) (each_inside (bank_events g base n numbers) 0 segments
          banks bank (own_events g base n numbers) (omega arith) (omega arith))
          ∙ rows_kept bank base (row_bits g numbers bank) 0 n n (banks bank) cell (omega arith) h)
      | inr ge ↦ ap (map (λ (s : Column). s cell))
          (each_after (bank_events g base n numbers) 0 segments banks bank
          (own_events g base n numbers) (omega arith))
    ]

pub after_first : (g : Geometry) (base n : ℕ) (numbers : List ℕ) (banks : Banks) (count bank : ℕ)
    → count ≤ bank → after (flat_map (bank_events g base n numbers) (range_with_len 0 count)) banks
    bank ≡ banks bank
after_first g base n numbers banks count bank l =
    each_after (bank_events g base n numbers) 0 count banks bank (own_events g base n numbers)
    (omega arith)

pub after_hold : (g : Geometry) (base n : ℕ) (values : List ℕ) (banks : Banks) (bank : ℕ)
    → (bank < segments_of g (length values) → ⊥)
    → after (write_events g base n values) banks bank ≡ banks bank
unfolding write_events
after_hold g base n values banks bank h = after_first g base n
    (padded_to (size_of g (length values)) values) banks (segments_of g (length values)) bank
    (elim (cases_lt bank (segments_of g (length values))) [ inl lt ↦ absurd (h lt) | inr ge ↦ ge ])

-- a load is counted as a write for each row in each bank
pub counted_hold : (g : Geometry) (base n : ℕ) (values : List ℕ) (counters : Counters)
    → all_counted (write_events g base n values) counters
    ≡ record counters { writes = counters.writes + n * segments_of g (length values) }
unfolding write_events
counted_hold g base n values counters =
    banks_counted base n (row_bits g (padded_to (size_of g (length values)) values)) 0
    (segments_of g (length values)) counters

pub writes_hold : WritesHold
writes_hold = record {
  numbers = numbers_hold;
  others = others_hold;
  following = after_hold;
  counted = counted_hold;
}
