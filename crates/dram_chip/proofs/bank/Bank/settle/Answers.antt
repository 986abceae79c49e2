use Rattle.std.proofs.Common.{◌≡◌, ◌∙◌, ◌<◌, sym, ap, subst, arith, true, false, length}
use Rattle.std.proofs.lemmas.List.{length-map}
use Rattle.dram_model.specs.Column.{read, drive, settle as settle_of, is_cell}
use Rattle.dram_model.specs.declared.address.Line.{Line}
use Rattle.dram_model.specs.declared.address.Cell.TheVariants.{T}
use Rattle.dram_chip.specs.declared.b_group.Wire.{Wire}
use Rattle.dram_chip.specs.Rows.{column_at, columns_of, data_row_count}
use Rattle.dram_chip.proofs.Cells.{reads-again}
use Rattle.dram_chip.proofs.Wordlines.{settle-step, kept-wire, line_at, lines_in, wire_at}
use Rattle.dram_chip.proofs.Wordlines.{wire-line, wired-at}
use Rattle.dram_chip.proofs.bank.Bank.settle.Goals as goal

pub returns-in-D-clause-settled : goal.returns-in-D-clause-settled
returns-in-D-clause-settled c = λ k h.
    let v = read (column_at c.args.self.now k) c.args.src.line in
    c.drive.ensures.driven k h
    ∙ ap (λ line. drive line v (column_at c.args.self.now k)) c.wire_of.ensures.line
    ∙ ap (λ y. settle_of y v (column_at c.args.self.now k)) (sym c.in-D.is)

pub drive-requires-in-loop-wire-clause-line : goal.drive-requires-in-loop-wire-clause-line
drive-requires-in-loop-wire-clause-line c = subst (λ n. is_cell n (wire_at
    c.b_wires-wire-items.result.now c.loop-wire.wire-index).line.cell ≡ true)
    (sym c.loop-wire.invariant.rows) (kept-wire (data_row_count c.args.self.now) c.in-B.k c.loop-wire.wire-index
    c.args.y c.b_wires-wire-items.result.now (record {
      group = c.in-B.is;
      range = c.requires.range;
      lines = c.b_wires-wire-items.ensures.lines;
    }) c.loop-wire-test.true).0

pub drive-requires-in-loop-wire-clause-kept : goal.drive-requires-in-loop-wire-clause-kept
drive-requires-in-loop-wire-clause-kept c = (kept-wire (data_row_count c.args.self.now) c.in-B.k c.loop-wire.wire-index
    c.args.y c.b_wires-wire-items.result.now (record {
      group = c.in-B.is;
      range = c.requires.range;
      lines = c.b_wires-wire-items.ensures.lines;
    }) c.loop-wire-test.true).1

pub loop-wire-preserved : goal.loop-wire-preserved
loop-wire-preserved c =
    let was = c.loop-wire.invariant in
    let wires = c.b_wires-wire-items.result.now in
    let i = c.loop-wire.wire-index in
    let lines = lines_in wires in
    let line : Line = (wire_at wires i).line in
    let at : line ≡ line_at lines i = wire-line wires i in
    let inside : i < length lines = omega (
      arith,
      length-map wires (λ (w : Wire). w.line),
      c.loop-wire-test.true,
    ) in
    let both = kept-wire (data_row_count c.args.self.now) c.in-B.k c.loop-wire.wire-index
    c.args.y c.b_wires-wire-items.result.now (record {
      group = c.in-B.is;
      range = c.requires.range;
      lines = c.b_wires-wire-items.ensures.lines;
    }) c.loop-wire-test.true in
    record {
      ready = c.drive-in-loop-wire.ensures.ready;
      rows = c.drive-in-loop-wire.ensures.rows ∙ was.rows;
      columns = c.drive-in-loop-wire.ensures.columns ∙ was.columns;
      cell = both.0;
      wired = wired-at wires i c.b_wires-wire-items.ensures.wired c.loop-wire-test.true;
      settled = λ k h.
          let here : k < columns_of c.loop-wire.self = omega (arith, was.columns) in
          settle-step lines i (record { cell = T 0; inverted = false })
          (read (column_at c.args.self.now k) c.args.src.line)
          (read (column_at c.loop-wire.self k) c.loop-wire.from.line) (column_at c.args.self.now k)
          (column_at c.loop-wire.self k) (column_at c.drive-in-loop-wire.new.self k)
          inside (was.settled k h) (was.kept k h)
          (c.drive-in-loop-wire.ensures.driven k here ∙ ap (λ l. drive l
          (read (column_at c.loop-wire.self k) c.loop-wire.from.line) (column_at c.loop-wire.self k))
          at);
      kept = λ k h.
          let here : k < columns_of c.loop-wire.self = omega (arith, was.columns) in
          ap (λ s. read s line) (c.drive-in-loop-wire.ensures.driven k here)
          ∙ reads-again line (read (column_at c.loop-wire.self k) c.loop-wire.from.line)
          (column_at c.loop-wire.self k) both.1 ∙ was.kept k h;
    }
