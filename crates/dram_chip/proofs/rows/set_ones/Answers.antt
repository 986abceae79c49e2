use Rattle.std.proofs.Common.{◌≡◌, ℕ, ◌+◌, ◌<◌, ◌==◌, true, ap, ◌∙◌, arith}
use Rattle.std.proofs.lemmas.Nat.Bits.{bit_at_ones}
use Rattle.bit_rows.specs.Bits.{bit_at}
use Rattle.dram_chip.proofs.rows.set_ones.Goals as goal

one : (r : ℕ) → r < 64 → bit_at 18446744073709551615 r ≡ true
one r l = ap (λ n. n == 1) (bit_at_ones 64 r l)

pub returns-clause-ones : goal.returns-clause-ones
returns-clause-ones c = λ q r h l. ap (λ w. bit_at w r) (c.loop-i.invariant.ones (c.args.to + q)
    (omega arith) (omega arith)) ∙ one r l
