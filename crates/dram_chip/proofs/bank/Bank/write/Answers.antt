use Rattle.std.proofs.Common.{◌≡◌, ◌∙◌, ap, length, arith}
use Rattle.dram_chip.proofs.Cells.{ready-with, column-with, set-row, set-constants}
use Rattle.dram_chip.proofs.bank.Bank.write.Goals as goal

pub returns-clause-ready : goal.returns-clause-ready
returns-clause-ready c =
    let fits : length c.args.words.now ≡ c.args.self.now.words = omega (arith, c.requires.fits) in
    ready-with c.args.self.now c.set_row.new.all c.requires.ready (c.set_row.ensures.length
    ∙ ap length c.deref_mut.ensures.value)
    (set-constants c.args.self.now.words c.args.row c.start-to.result c.args.self.now.all.items
    c.deref_mut.result.now c.set_row.new.all c.args.words.now c.deref_mut.ensures.value fits
    c.requires.ready.constant
    c.start-to.ensures.start c.set_row.ensures.below c.set_row.ensures.above)

pub returns-clause-written : goal.returns-clause-written
returns-clause-written c = λ k h.
    let fits : length c.args.words.now ≡ c.args.self.now.words = omega (arith, c.requires.fits) in
    column-with c.args.self.now c.set_row.new.all k (c.set_row.ensures.length
    ∙ ap length c.deref_mut.ensures.value)
    ∙ set-row c.args.self.now.words c.args.row k c.start-to.result c.args.self.now.all.items
    c.deref_mut.result.now c.set_row.new.all c.args.words.now c.deref_mut.ensures.value fits h
    c.start-to.ensures.start c.set_row.ensures.set c.set_row.ensures.below c.set_row.ensures.above
