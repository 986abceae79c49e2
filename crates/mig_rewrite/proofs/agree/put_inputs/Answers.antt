use Rattle.mig_rewrite.proofs.Common.{◌∙◌, ◌<◌, ◌+◌, arith}
use Rattle.mig_rewrite.proofs.Agreeing.{first-value, more-values, input-value}
use Rattle.mig_rewrite.proofs.agree.put_inputs.Goals as goal

pub loop-k-init : goal.loop-k-init
loop-k-init c = record {
  long = c.put.ensures.long ∙ c.requires.long;
  has = first-value c.args.m.now c.args.bits.now c.put.new.values c.put.ensures.here;
}

pub loop-k-preserved : goal.loop-k-preserved
loop-k-preserved c =
    let b : c.loop-k.k < c.args.m.now.inputs =
    omega (arith, c.loop-k-test.true, c.inputs-inputs.ensures.inputs) in
    record {
      long = c.put-in-loop-k.ensures.long ∙ c.loop-k.invariant.long;
      has = more-values c.args.m.now c.args.bits.now c.loop-k.values c.put-in-loop-k.new.values
          (c.loop-k.k + 1) c.loop-k.invariant.has c.put-in-loop-k.ensures.others (λ v fits.
          c.put-in-loop-k.ensures.here
          ∙ input-value c.args.m.now c.args.bits.now c.loop-k.k b c.requires.bits v fits);
    }

pub returns-clause-values : goal.returns-clause-values
returns-clause-values c = λ v fits j b. c.loop-k.invariant.has v fits j
    (omega (arith, b, c.loop-k-test.false, c.inputs-inputs.ensures.inputs))
