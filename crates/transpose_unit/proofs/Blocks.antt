-- The numbers of a block of columns.
use Rattle.transpose_unit.proofs.Common.{◌≡◌, ℕ, ◌+◌, ◌-◌, ◌*◌, ◌/◌, ◌%◌, ◌^◌, ◌<◌, ◌≤◌, List}
use Rattle.transpose_unit.proofs.Common.{length, get_or, sym, ap, ◌∙◌, arith, inl, inr, cases_lt}
use Rattle.transpose_unit.proofs.Common.{value, bit_at, bit_in, bits_of_words, WIDTH_MAX}
use Rattle.dram_model.proofs.RowWrites.{value_bits}
use Rattle.transpose_unit.specs.Stage.{stage_row, stage_rows, stage_number}
use Rattle.transpose_unit.proofs.Columns.{stage_bit, map-range, one_row}
use Rattle.transpose_unit.proofs.Rows.{rows-enough}
use Rattle.transpose_unit.proofs.Sets.{bit-part}

-- bits of a number that has two words
joined_low : (low high k : ℕ) → k < 64 → bit_at (low + 2 ^ 64 * high) k ≡ bit_at low k
joined_low low high k l =
    let same : (low + 2 ^ 64 * high) / 2 ^ 0 % 2 ^ 64 ≡ low / 2 ^ 0 % 2 ^ 64 = omega arith in
    let at : 0 + k ≡ k = omega arith in
    sym (bit-part (low + 2 ^ 64 * high) 0 k 64 l ∙ ap (bit_at (low + 2 ^ 64 * high)) at)
    ∙ ap (λ (v : ℕ). bit_at v k) same ∙ bit-part low 0 k 64 l ∙ ap (bit_at low) at

joined_high : (low high k : ℕ) → low < 2 ^ 64 → k < 64
    → bit_at (low + 2 ^ 64 * high) (64 + k) ≡ bit_at high k
joined_high low high k small l =
    let same : (low + 2 ^ 64 * high) / 2 ^ 64 % 2 ^ 64 ≡ high / 2 ^ 0 % 2 ^ 64 = omega arith in
    let at : 0 + k ≡ k = omega arith in
    sym (bit-part (low + 2 ^ 64 * high) 64 k 64 l) ∙ ap (λ (v : ℕ). bit_at v k) same
    ∙ bit-part high 0 k 64 l ∙ ap (bit_at high) at

-- the words of a column, in the rows below 64 and past them, spell its number
pub two_words : (words n w c low high : ℕ) (stage : List ℕ) → w < words → c < 64 → n ≤ WIDTH_MAX
    → stage_rows n * words ≡ length stage → low < 2 ^ 64
    → ((k : ℕ) → k < 64 → bit_at low k ≡ bit_at (get_or stage ((0 + k) * words + w) 0) c)
    → ((k : ℕ) → 64 + k < n → k < 64
    → bit_at high k ≡ bit_at (get_or stage ((64 + k) * words + w) 0) c)
    → (low + 2 ^ 64 * high) % 2 ^ n ≡ stage_number words n stage (64 * w + c)
two_words words n w c low high stage lw lc narrow whole small lows highs =
    let v : ℕ = low + 2 ^ 64 * high in
    let column : ℕ = 64 * w + c in
    let word : (64 * w + c) / 64 ≡ w = omega arith in
    let bit : (64 * w + c) % 64 ≡ c = omega arith in
    let lies : 64 * w + c < 64 * words = omega arith in
    let none : (low + 2 ^ 64 * high) / 2 ^ 0 ≡ low + 2 ^ 64 * high = omega arith in
    let own : (k : ℕ) → k < n
    → bit_at (low + 2 ^ 64 * high) k ≡ bit_at (get_or stage (k * words + w) 0) c = λ k l.
    elim (cases_lt k 64) [
      | inl lt ↦ (let at : 0 + k ≡ k = omega arith in joined_low low high k lt ∙ lows k lt
          ∙ ap (λ (j : ℕ). bit_at (get_or stage (j * words + w) 0) c) at)
      | inr ge ↦ (let at : 64 + (k - 64) ≡ k = omega arith in
          let less : 64 + (k - 64) < n = omega arith in
          let few : k - 64 < 64 = omega arith in
          ap (bit_at (low + 2 ^ 64 * high)) (sym at) ∙ joined_high low high (k - 64) small few
          ∙ highs (k - 64) less few
          ∙ ap (λ (j : ℕ). bit_at (get_or stage (j * words + w) 0) c) at)
    ] in
    ap (λ (x : ℕ). x % 2 ^ n) (sym none) ∙ sym (value_bits v 0 n)
    ∙ ap value (map-range (bit_at v) (λ k. bit_in (bits_of_words (stage_row words stage k)) column)
    0 n (λ k o m.
    let l : k < n = omega arith in
    let next : k + 1 ≤ stage_rows n = omega (arith, rows-enough n narrow) in
    let inside : k * words + words ≤ length stage =
    omega (arith, one_row k words (stage_rows n) next, whole) in
    own k l
    ∙ ap (λ (i : ℕ). bit_at (get_or stage (k * words + i) 0) c) (sym word)
    ∙ ap (bit_at (get_or stage (k * words + column / 64) 0)) (sym bit)
    ∙ sym (stage_bit words k column stage lies inside)))
