use Rattle.std.proofs.Common.{ap, sym, ◌∙◌}
use Rattle.bit_rows.specs.Bits.{bit_at, flip_if}
use Rattle.bit_rows.proofs.WordBits.{not-bit}
use Rattle.dram_chip.proofs.rows.flipped.Goals as goal

pub returns-then-inverted : goal.returns-then-inverted
returns-then-inverted c = λ r h. not-bit c.args.word r c.ranges.word.fits h
    ∙ ap (λ b. flip_if b (bit_at c.args.word r)) (sym c.if-inverted.true)
