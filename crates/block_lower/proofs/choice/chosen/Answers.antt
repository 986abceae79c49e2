use Rattle.block_lower.proofs.Common.{length, subst, refl, inr, IfSome, IfOk-weaker}
use Rattle.std.proofs.Common.{IfNone}
use Rattle.block_lower.specs.Choice.{HasFound, IsUnfit}
use Rattle.block_lower.proofs.Counting.{no-dearer, none-fewer}
use Rattle.block_lower.proofs.choice.chosen.Goals as goal

pub returns-in-Some-clause-own : goal.returns-in-Some-clause-own
returns-in-Some-clause-own c =
    let g = c.args.graph.mig in
    let outs = c.args.graph.outs.items in
    let found = subst (λ o. IfSome o (λ cmds. HasFound c.args.reads.now c.args.writes.now g outs
    cmds.items)) c.in-Some.is c.in_ok-found.ensures.some in
    IfOk-weaker c.least_of.result _ _ (λ r f. no-dearer c.args.reads.now c.args.writes.now g outs
    c.in-Some.found.items (length r.found.items) found f.first_too) c.least_of.ensures.fewest

-- no body is made of the graph, which stands as it is
pub returns-in-None-clause-found : goal.returns-in-None-clause-found
returns-in-None-clause-found c =
    let g = c.args.graph.mig in
    let outs = c.args.graph.outs.items in
    inr (record {
      unfit = subst (λ o. IfNone o (IsUnfit c.args.reads.now c.args.writes.now g outs)) c.in-None.is
          c.in_ok-found.ensures.none;
      same = refl;
      same_outs = refl;
      none = c.new.ensures.items;
    })

pub returns-in-None-clause-others : goal.returns-in-None-clause-others
returns-in-None-clause-others c = rw c.new.ensures.items (none-fewer c.args.others.items)
