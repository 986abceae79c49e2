use Rattle.transpose_unit.proofs.Common.{◌≡◌, ℕ, ◌+◌, ◌∙◌, ◌*◌, ◌-◌, ◌≤◌, refl, ap, arith}
use Rattle.transpose_unit.proofs.Common.{Kept-more, bits_of_words, Geometry, Banks, row_in}
use Rattle.transpose_unit.proofs.Common.{column_count}
use Rattle.dram_model.proofs.EventLaws.{DidRead-more}
use borrow.Rule.Slice.PartMut.{post_of}
use Rattle.transpose_unit.proofs.Columns.{rows_more, columns_read, one_row}
use Rattle.transpose_unit.specs.Stage.{stage_rows}
use Rattle.transpose_unit.proofs.Rows.{rows-enough}
use Rattle.transpose_unit.proofs.read.read_segment.Goals as goal

pub loop-k-preserved : goal.loop-k-preserved
loop-k-preserved g c =
    let dram = g.D.Dram in
    let kept = c.loop-k.invariant in
    let words : ℕ = c.args.g.words in
    let start : ℕ = c.from.result * c.from-words.result in
    let at : c.from.result * c.from-words.result ≡ c.loop-k.k * c.args.g.words =
    rw (c.from.ensures, c.from-words.ensures) refl in
    let next : c.loop-k.k + 1 ≤ stage_rows c.args.n =
    omega (arith, rows-enough c.args.n c.requires.narrow) in
    let inside : c.loop-k.k * c.args.g.words + c.args.g.words
    ≤ stage_rows c.args.n * c.args.g.words =
    one_row c.loop-k.k c.args.g.words (stage_rows c.args.n) next in
    let first = dram.view c.args.dram.now in
    let now = dram.view c.loop-k.dram in
    let new = dram.view c.read_row.new.self in
    let read : bits_of_words c.read_row.new.out
    ≡ row_in (c.args.base + c.loop-k.k) (first.banks c.args.bank) =
    c.in_ok-read_row.ensures.read
    ∙ ap (λ (n : ℕ). row_in (c.args.base + n) (now.banks c.args.bank)) c.from-in-loop-k.ensures
    ∙ ap (λ (banks : Banks). row_in (c.args.base + c.loop-k.k) (banks c.args.bank)) kept.did.banks
    in
    record {
      borrow = c.in_ok-read_row.ensures.borrow ∙ kept.borrow;
      kept = Kept-more first now new kept.kept c.in_ok-read_row.ensures.kept;
      did = DidRead-more c.loop-k.k 1 first now new kept.did c.in_ok-read_row.ensures.did;
      rows = rows_more words c.loop-k.k start c.loop-k.stage c.read_row.new.out
          (post_of start (start + c.from-words.result - start) c.loop-k.stage) (λ k.
          row_in (c.args.base + k) (first.banks c.args.bank)) at
          (omega (arith, at, inside, c.requires.stage)) (omega arith) read kept.rows;
    }

pub returns-clause-numbers : goal.returns-clause-numbers
returns-clause-numbers g c =
    let dram = g.D.Dram in
    let width = g.met.D.Dram.width c.args.dram.now c.requires.begun c.args.bank
    (omega (arith, ap (λ (x : Geometry). x.banks) c.requires.geometry, c.requires.bank)) in
    columns_read c.args.g.words c.args.base c.args.n (column_count c.args.g) c.loop-k.stage
    ((dram.view c.args.dram.now).banks c.args.bank) (width
    ∙ ap (λ (x : Geometry). 64 * x.words) c.requires.geometry) (λ k l.
    c.loop-k.invariant.rows k (omega arith))

pub slice_bounds-read_row-end : goal.slice_bounds-read_row-end
slice_bounds-read_row-end g c =
    let at : c.from.result * c.from-words.result ≡ c.loop-k.k * c.args.g.words =
    rw (c.from.ensures, c.from-words.ensures) refl in
    let next : c.loop-k.k + 1 ≤ stage_rows c.args.n =
    omega (arith, rows-enough c.args.n c.requires.narrow) in
    omega (
      arith,
      at,
      c.from-words.ensures,
      one_row c.loop-k.k c.args.g.words (stage_rows c.args.n)
          next,
      c.requires.stage,
    )
