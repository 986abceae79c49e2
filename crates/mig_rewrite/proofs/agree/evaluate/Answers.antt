use Rattle.mig_rewrite.proofs.Common.{◌∙◌, ◌<◌, ap, arith, size_of, node_value}
use Rattle.mig_rewrite.specs.Plan.{is_marked}
use Rattle.mig_rewrite.proofs.Agreeing.{more-values, node-computed}
use Rattle.mig_rewrite.proofs.agree.evaluate.Goals as goal

pub loop-k-init : goal.loop-k-init
loop-k-init c = record {
  long = c.put_inputs.ensures.long ∙ c.requires.long;
  has = λ v fits j b. c.put_inputs.ensures.values v fits j
      (omega (arith, b, c.inputs.ensures.inputs));
}

pub loop-k-preserved : goal.loop-k-preserved
loop-k-preserved c =
    let above : c.args.m.now.inputs < c.loop-k.k =
    omega (arith, c.loop-k.auto.k, c.inputs.ensures.inputs) in
    let below : c.loop-k.k < size_of c.args.m.now =
    omega (arith, c.loop-k-test.true, c.size-k-end.ensures) in
    record {
      long = c.put.ensures.long ∙ c.loop-k.invariant.long;
      has = more-values c.args.m.now c.args.bits.now c.loop-k.values c.put.new.values c.loop-k.k
          c.loop-k.invariant.has c.put.ensures.others (λ v fits.
          c.put.ensures.here ∙ c.node_value_of-value.ensures
          ∙ ap (node_value (is_marked c.loop-k.values)) c.node_of.ensures
          ∙ node-computed c.args.m.now c.args.bits.now c.loop-k.values c.loop-k.k
          c.inputs.ensures.graph above below c.loop-k.invariant.has v fits);
    }

pub returns-clause-values : goal.returns-clause-values
returns-clause-values c = λ v fits j b. c.loop-k.invariant.has v fits j
    (omega (arith, b, c.loop-k-test.false, c.size-k-end.ensures))
