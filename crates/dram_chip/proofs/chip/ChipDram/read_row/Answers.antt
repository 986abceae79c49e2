use Rattle.std.proofs.Common.{◌*◌, ◌<◌, ◌∙◌, arith, sym, ap, subst}
use Rattle.bit_rows.specs.Bits.{bits_of_words}
use Rattle.bit_rows.proofs.Words.{length-words}
use Rattle.dram_chip.specs.ChipRows.{Fits}
use Rattle.dram_chip.specs.ChipWidth.{begun-banks}
use Rattle.dram_chip.proofs.Banks.{bank-gave-row, fits-at}
use Rattle.dram_chip.proofs.chip.ChipDram.read_row.Goals as goal

pub read-requires-clause-ready : goal.read-requires-clause-ready
read-requires-clause-ready c =
    let has = begun-banks c.args.self.now.begun c.args.self.now.geometry
    c.args.self.now.banks.items c.requires.begun in
    let fits : Fits c.args.self.now.geometry c.index.result.now =
    fits-at _ _ c.args.bank c.index.result.now has c.requires.bank c.index.ensures in
    fits.ready

pub read-requires-clause-row : goal.read-requires-clause-row
read-requires-clause-row c =
    let has = begun-banks c.args.self.now.begun c.args.self.now.geometry
    c.args.self.now.banks.items c.requires.begun in
    let fits : Fits c.args.self.now.geometry c.index.result.now =
    fits-at _ _ c.args.bank c.index.result.now has c.requires.bank c.index.ensures in
    subst (λ r. c.args.row < r) (sym fits.rows) c.requires.row

pub read-requires-clause-fits : goal.read-requires-clause-fits
read-requires-clause-fits c =
    let has = begun-banks c.args.self.now.begun c.args.self.now.geometry
    c.args.self.now.banks.items c.requires.begun in
    let fits : Fits c.args.self.now.geometry c.index.result.now =
    fits-at _ _ c.args.bank c.index.result.now has c.requires.bank c.index.ensures in
    fits.columns ∙ ap (λ n. 64 * n) (sym c.requires.words)

pub returns-clause-read : goal.returns-clause-read
returns-clause-read c =
    let has = begun-banks c.args.self.now.begun c.args.self.now.geometry
    c.args.self.now.banks.items c.requires.begun in
    let fits : Fits c.args.self.now.geometry c.index.result.now =
    fits-at _ _ c.args.bank c.index.result.now has c.requires.bank c.index.ensures in
    bank-gave-row c.args.self.now.banks.items c.args.bank c.index.result.now c.args.row
    (bits_of_words c.read.new.words) (omega (arith, has.count, c.requires.bank)) c.index.ensures
    (length-words c.read.new.words ∙ ap (λ n. 64 * n) (c.read.ensures.length ∙ c.requires.words)
    ∙ sym fits.columns) c.read.ensures.read
