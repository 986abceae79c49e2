use Rattle.transpose_unit.proofs.Common.{refl, ◌∙◌, arith, mul-add-lt}
use Rattle.transpose_unit.proofs.Sets.{column_more, column_others}
use Rattle.transpose_unit.proofs.stage.put_block.Goals as goal

pub loop-k-preserved : goal.loop-k-preserved
loop-k-preserved c =
    let h = c.loop-k.invariant in
    record {
      own = column_more c.args.words c.args.w c.loop-k.k _ c.loop-k.stage c.args.block.now
          c.requires.words (omega (
            arith,
            mul-add-lt c.loop-k.k c.args.words c.args.w 64
                (omega arith) c.requires.words,
          )) refl h.own;
      others = λ j v l ne. column_others c.args.words c.args.w c.loop-k.k _ c.loop-k.stage j v
          c.requires.words l ne ∙ h.others j v l ne;
    }
