use Rattle.std.proofs.Common.{◌==◌, ap, ◌∙◌, sym}
use Rattle.std.specs.Int.{w64}
use Rattle.std.proofs.lemmas.Nat.Bits.{bit_at_set_same, bit_at_set_other, bit_at_clear_same}
use Rattle.std.proofs.lemmas.Nat.Bits.{bit_at_clear_other}
use Rattle.bit_rows.proofs.bits.with_bit.Goals as goal

pub returns-then-b-clause-bit : goal.returns-then-b-clause-bit
returns-then-b-clause-bit c = ap (λ n. n == 1) (bit_at_set_same w64 c.args.word c.args.k c.requires)
    ∙ sym c.if-b.true

pub returns-then-b-clause-others : goal.returns-then-b-clause-others
returns-then-b-clause-others c = λ r l h. ap (λ n.
    n == 1) (bit_at_set_other w64 c.args.word c.args.k c.requires r h)

pub returns-else-b-clause-bit : goal.returns-else-b-clause-bit
returns-else-b-clause-bit c = ap (λ n. n == 1) (bit_at_clear_same w64 c.args.word c.args.k
    c.requires)
    ∙ sym c.if-b.false

pub returns-else-b-clause-others : goal.returns-else-b-clause-others
returns-else-b-clause-others c = λ r l h. ap (λ n.
    n == 1) (bit_at_clear_other w64 c.args.word c.args.k c.requires r l h)
