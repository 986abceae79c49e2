use Rattle.std.proofs.Common.{◌≡◌, length, arith}
use Rattle.dram_chip.proofs.Cells.{got-row}
use Rattle.dram_chip.proofs.bank.Bank.read.Goals as goal

pub returns-clause-read : goal.returns-clause-read
returns-clause-read c = λ k h.
    let fits : length c.get_row.new.out ≡ c.args.self.now.words =
    omega (arith, c.requires.fits, c.get_row.ensures.length) in
    got-row c.args.self.now.words c.args.row k c.start-from.result c.args.self.now.all.items
    c.deref.result.now c.get_row.new.out c.deref.ensures.value fits h c.start-from.ensures.start
    (λ q r l. c.get_row.ensures.got q r (omega (arith, c.get_row.ensures.length)))
