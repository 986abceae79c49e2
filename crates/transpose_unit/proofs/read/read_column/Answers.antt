use Rattle.transpose_unit.proofs.Common.{◌≡◌, ℕ, ◌+◌, ◌-◌, ◌*◌, ◌/◌, ◌%◌, ◌<◌, ◌≤◌, List, length}
use Rattle.transpose_unit.proofs.Common.{get_or, sym, ap, ◌∙◌, arith, mul-add-lt, bit_at, bit_in}
use Rattle.transpose_unit.proofs.Common.{bits_of_words}
use Rattle.transpose_unit.specs.Stage.{stage_row}
use Rattle.transpose_unit.proofs.Columns.{stage_bit, value_more}
use Rattle.transpose_unit.proofs.Rows.{rows-enough, one-more, byte-small, placed}
use Rattle.transpose_unit.proofs.read.read_column.Goals as goal

pub loop-k-preserved : goal.loop-k-preserved
loop-k-preserved c =
    let h = c.loop-k.invariant in
    let stage : List ℕ = c.args.stage.now in
    let column : ℕ = c.args.column in
    let words : ℕ = length c.args.stage.now / c.stage_rows.result in
    let k : ℕ = c.loop-k.k - 1 in
    let rows = rows-enough c.args.n c.requires.narrow in
    let below : c.loop-k.k - 1 < c.stage_rows.result = omega (arith, rows, c.stage_rows.ensures) in
    let whole : c.stage_rows.result * (length c.args.stage.now / c.stage_rows.result)
    ≡ length c.args.stage.now = rw c.stage_rows.ensures c.requires.stage in
    let lies : c.args.column < 64 * (length c.args.stage.now / c.stage_rows.result) =
    rw c.stage_rows.ensures c.requires.column in
    let some : length c.args.stage.now / c.stage_rows.result - 1
    < length c.args.stage.now / c.stage_rows.result = omega arith in
    let inside : (c.loop-k.k - 1) * (length c.args.stage.now / c.stage_rows.result)
    + length c.args.stage.now / c.stage_rows.result ≤ length c.args.stage.now =
    omega (arith, mul-add-lt k words (words - 1) c.stage_rows.result below some, whole) in
    let at : bit_at (get_or stage (c.from.result * words + column / 64) 0) (column % 64)
    ≡ bit_at (get_or stage (k * words + column / 64) 0) (column % 64) =
    ap (λ (j : ℕ). bit_at (get_or stage (j * words + column / 64) 0) (column % 64)) c.from.ensures
    in
    let bit = c.bit_of_word.ensures ∙ at ∙ sym (stage_bit words k column stage (omega arith) inside)
    in
    let more = value_more (λ j. bit_in (bits_of_words (stage_row words stage j)) column) c.args.n
    c.loop-k.k c.loop-k.v c.bit_of_word.result c.loop-k-test.true c.loop-k.auto.k bit h.small
    h.value in
    record { small = more.0; value = more.1 }

pub overflow_mul-v : goal.overflow_mul-v
overflow_mul-v c = omega (
  arith,
  one-more c.args.n c.loop-k.k c.loop-k.v c.loop-k-test.true
      c.loop-k.auto.k c.requires.narrow c.loop-k.invariant.small,
)

pub overflow_add-v : goal.overflow_add-v
overflow_add-v c = omega (
  arith,
  one-more c.args.n c.loop-k.k c.loop-k.v c.loop-k-test.true
      c.loop-k.auto.k c.requires.narrow c.loop-k.invariant.small,
  byte-small c.bit_of_word.result,
)

pub overflow_mul-at : goal.overflow_mul-at
overflow_mul-at c =
    let rows : c.args.n ≤ c.stage_rows.result =
    omega (arith, rows-enough c.args.n c.requires.narrow, c.stage_rows.ensures) in
    let whole : c.stage_rows.result * (length c.args.stage.now / c.stage_rows.result)
    ≡ length c.args.stage.now = rw c.stage_rows.ensures c.requires.stage in
    let lies : c.args.column < 64 * (length c.args.stage.now / c.stage_rows.result) =
    rw c.stage_rows.ensures c.requires.column in
    omega (
      arith,
      placed c.stage_rows.result c.args.n c.loop-k.k c.from.result
          (length c.args.stage.now / c.stage_rows.result) c.args.column (length c.args.stage.now)
          rows
          c.loop-k-test.true c.loop-k.auto.k c.from.ensures whole lies,
    )

pub overflow_add-at : goal.overflow_add-at
overflow_add-at c =
    let rows : c.args.n ≤ c.stage_rows.result =
    omega (arith, rows-enough c.args.n c.requires.narrow, c.stage_rows.ensures) in
    let whole : c.stage_rows.result * (length c.args.stage.now / c.stage_rows.result)
    ≡ length c.args.stage.now = rw c.stage_rows.ensures c.requires.stage in
    let lies : c.args.column < 64 * (length c.args.stage.now / c.stage_rows.result) =
    rw c.stage_rows.ensures c.requires.column in
    omega (
      arith,
      placed c.stage_rows.result c.args.n c.loop-k.k c.from.result
          (length c.args.stage.now / c.stage_rows.result) c.args.column (length c.args.stage.now)
          rows
          c.loop-k-test.true c.loop-k.auto.k c.from.ensures whole lies,
    )

pub offset_bounds-stage-at : goal.offset_bounds-stage-at
offset_bounds-stage-at c =
    let rows : c.args.n ≤ c.stage_rows.result =
    omega (arith, rows-enough c.args.n c.requires.narrow, c.stage_rows.ensures) in
    let whole : c.stage_rows.result * (length c.args.stage.now / c.stage_rows.result)
    ≡ length c.args.stage.now = rw c.stage_rows.ensures c.requires.stage in
    let lies : c.args.column < 64 * (length c.args.stage.now / c.stage_rows.result) =
    rw c.stage_rows.ensures c.requires.column in
    omega (
      arith,
      placed c.stage_rows.result c.args.n c.loop-k.k c.from.result
          (length c.args.stage.now / c.stage_rows.result) c.args.column (length c.args.stage.now)
          rows
          c.loop-k-test.true c.loop-k.auto.k c.from.ensures whole lies,
    )

pub bounds-stage-at : goal.bounds-stage-at
bounds-stage-at c =
    let rows : c.args.n ≤ c.stage_rows.result =
    omega (arith, rows-enough c.args.n c.requires.narrow, c.stage_rows.ensures) in
    let whole : c.stage_rows.result * (length c.args.stage.now / c.stage_rows.result)
    ≡ length c.args.stage.now = rw c.stage_rows.ensures c.requires.stage in
    let lies : c.args.column < 64 * (length c.args.stage.now / c.stage_rows.result) =
    rw c.stage_rows.ensures c.requires.column in
    omega (
      arith,
      placed c.stage_rows.result c.args.n c.loop-k.k c.from.result
          (length c.args.stage.now / c.stage_rows.result) c.args.column (length c.args.stage.now)
          rows
          c.loop-k-test.true c.loop-k.auto.k c.from.ensures whole lies,
    )
