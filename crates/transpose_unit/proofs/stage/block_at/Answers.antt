use Rattle.transpose_unit.proofs.Common.{◌+◌, ◌/◌, ◌%◌, ◌^◌, ◌∙◌, get_or, arith, length-set}
use Rattle.transpose_unit.proofs.Sets.{set_more}
use Rattle.transpose_unit.proofs.stage.block_at.Goals as goal

pub loop-i-preserved : goal.loop-i-preserved
loop-i-preserved c = let h = c.loop-i.invariant in record {
  size = length-set c.loop-i.block c.loop-i.i c.part_at.result ∙ h.size;
  below = set_more 0 c.loop-i.block c.loop-i.i c.part_at.result (λ k.
      get_or c.args.values.now (c.args.start + k) 0 / 2 ^ c.args.first % 2 ^ 64)
      (omega (arith, h.size)) c.part_at.ensures h.below;
}

pub returns : goal.returns
returns c = λ k l. c.loop-i.invariant.below k (omega arith)
