use Rattle.mig_rewrite.proofs.Common.{arith}
use Rattle.mig_rewrite.proofs.Keeping.{keeps-twice}
use Rattle.mig_rewrite.proofs.merged.Goals as goal

pub returns-clause-keeps : goal.returns-clause-keeps
returns-clause-keeps c =
    let old = c.args.m.now in
    let made = c.in_ok-made.made in
    let new = c.in_ok-new.new in
    keeps-twice old.mig made.mig new.mig old.outs.items made.outs.items new.outs.items
    c.in_ok-made.ensures.keeps c.in_ok-new.ensures.keeps

pub returns-clause-count : goal.returns-clause-count
returns-clause-count c = omega (arith, c.in_ok-made.ensures.count, c.in_ok-new.ensures.count)
