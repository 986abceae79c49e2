use Rattle.mig_rewrite.proofs.Common.{◌∙◌, sym, arith, false≢true, KeepsOutputs}
use Rattle.mig_rewrite.specs.Offers.{IsOffered}
use Rattle.mig_rewrite.proofs.Keeping.{keeps-twice}
use Rattle.mig_rewrite.proofs.standing.kept.Goals as goal
use Rattle.mig_rewrite.proofs.standing.kept.Goals.{After-size-2}

-- what is made of the sketch is what it offers
offered : (c : After-size-2)
    → IsOffered c.args.offer.now c.in_ok-new.new.mig c.in_ok-new.new.outs.items
offered c =
    let made = c.in_ok-made.ensures in
    let new = c.in_ok-new.ensures in
    record {
      inputs = new.keeps.inputs ∙ made.inputs;
      long = new.keeps.long ∙ made.long;
      count = omega (arith, new.count, made.count);
      values = λ bits j b. new.keeps.values bits j (omega (arith, b, new.keeps.long))
          ∙ made.values bits j (omega (arith, b, new.keeps.long, made.long));
    }

pub returns-then-size-clause-dropped : goal.returns-then-size-clause-dropped
returns-then-size-clause-dropped c = λ right.
    let same = c.in_ok-new.ensures.keeps.inputs ∙ c.in_ok-made.ensures.inputs ∙ right.inputs in
    record {
      graph = c.in_ok-new.new.mig;
      outs = c.in_ok-new.new.outs.items;
      offered = offered (goal.at.returns-then-size-clause-dropped c).After-size-2;
      reduced = c.in_ok-new.ensures.reduced;
      reached = c.in_ok-new.ensures.reached;
      more = omega (arith, same, c.if-size.true, c.size.ensures, c.size-2.ensures);
    }

pub returns-then-branch-clause-offered : goal.returns-then-branch-clause-offered
returns-then-branch-clause-offered c =
    offered (goal.at.returns-then-branch-clause-offered c).After-size-2

pub returns-clause-dropped : goal.returns-clause-dropped
returns-clause-dropped c = λ right.
    let m = c.args.m.now in
    let made = c.in_ok-made.made in
    let new = c.in_ok-new.new in
    let first : KeepsOutputs m.mig m.outs.items made.mig made.outs.items = record {
      inputs = c.in_ok-made.ensures.inputs ∙ right.inputs;
      long = c.in_ok-made.ensures.long ∙ right.long;
      values = λ bits j b. c.in_ok-made.ensures.values bits j (omega (arith, b, right.long))
          ∙ right.values bits j b;
    } in
    let keeps = keeps-twice m.mig made.mig new.mig m.outs.items made.outs.items new.outs.items first
    c.in_ok-new.ensures.keeps in
    absurd (false≢true (sym c.if-branch.false ∙ c.in_ok-keeps_outputs.ensures.1 (right.few, keeps)))
