use Rattle.mig_rewrite.proofs.Agreeing.{agree-values, values-agree}
use Rattle.mig_rewrite.proofs.agree.agree_at.Goals as goal

pub returns-clause-agree : goal.returns-clause-agree
returns-clause-agree c =
    let same = rw (c.deref.ensures.value, c.deref-2.ensures.value) at c.same_outputs.ensures in (
      λ yes. agree-values c.args.m.now.mig c.args.r.now.mig c.args.m.now.outs.items
          c.args.r.now.outs.items c.args.bits.now c.evaluate.new.values c.evaluate-2.new.values
          c.evaluate.ensures.values c.evaluate-2.ensures.values c.requires.named
          c.requires.named_others c.requires.outputs (same.0 yes),
      λ all. same.1 (values-agree c.args.m.now.mig c.args.r.now.mig c.args.m.now.outs.items
          c.args.r.now.outs.items c.args.bits.now c.evaluate.new.values c.evaluate-2.new.values
          c.evaluate.ensures.values c.evaluate-2.ensures.values c.requires.named
          c.requires.named_others c.requires.outputs all),
    )
