use Rattle.std.proofs.Common.{◌/◌, ◌%◌, ◌∙◌, ap, length, arith}
use Rattle.dram_chip.specs.Rows.{place}
use Rattle.dram_chip.proofs.Cells.{ready-with, column-with, ends-apart, drove, drove-constants}
use Rattle.dram_chip.proofs.bank.Bank.drive.Goals as goal

pub move_row-requires-clause-apart : goal.move_row-requires-clause-apart
move_row-requires-clause-apart c = ends-apart c.args.self.now.words (place c.args.src.line.cell)
    (place c.args.wire.line.cell) c.wire_start-from.result c.wire_start-to.result c.wire_start-from.ensures.start
    c.wire_start-to.ensures.start

pub returns-clause-ready : goal.returns-clause-ready
returns-clause-ready c = ready-with c.args.self.now c.move_row.new.all c.requires.ready
    (c.move_row.ensures.length ∙ ap length c.deref_mut.ensures.value)
    (drove-constants c.args.self.now.words c.wire_start-to.result c.args.self.now.all.items
    c.deref_mut.result.now c.move_row.new.all c.args.wire.line.cell c.deref_mut.ensures.value
    c.requires.ready.constant c.requires.kept
    c.wire_start-to.ensures.start c.move_row.ensures.below c.move_row.ensures.above)

pub returns-clause-driven : goal.returns-clause-driven
returns-clause-driven c = λ k h.
    column-with c.args.self.now c.move_row.new.all k (c.move_row.ensures.length
    ∙ ap length c.deref_mut.ensures.value)
    ∙ drove c.args.self.now.words c.args.self.now.rows k c.wire_start-from.result c.wire_start-to.result
    c.args.self.now.all.items c.deref_mut.result.now c.move_row.new.all c.args.wire.line c.args.src.line
    c.deref_mut.ensures.value c.requires.ready.constant c.requires.src c.requires.kept h
    c.wire_start-from.ensures.start c.wire_start-to.ensures.start
    (c.move_row.ensures.moved (k / 64) (k % 64) (omega arith) (omega arith))
    c.move_row.ensures.below c.move_row.ensures.above
