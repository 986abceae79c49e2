use Rattle.transpose_unit.proofs.Common.{arith}
use Rattle.transpose_unit.proofs.Sets.{blocks_more}
use Rattle.transpose_unit.proofs.stage.fill_rows.Goals as goal

pub loop-w-preserved : goal.loop-w-preserved
loop-w-preserved c =
    blocks_more c.args.values.now c.loop-w.stage c.put_block.new.stage c.block_at-block.result
    c.transpose64.new.m c.args.start c.args.first c.args.words c.loop-w.w (omega arith)
    c.block_at-block.ensures c.transpose64.ensures c.put_block.ensures.own
    c.put_block.ensures.others
    c.loop-w.invariant
