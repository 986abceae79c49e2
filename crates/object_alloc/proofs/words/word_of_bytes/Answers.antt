use Rattle.object_alloc.proofs.Common.{ℕ, ap, ◌∙◌, arith, bits}
use Rattle.object_alloc.proofs.Bits.{word-bytes}
use Rattle.object_alloc.proofs.words.word_of_bytes.Goals as goal

pub returns : goal.returns
returns c = ap (λ (v : ℕ). bits v 64) c.from_le_bytes.ensures
    ∙ word-bytes c.args.bytes.now c.requires (λ i. omega (arith, c.type_inv.bytes i))
