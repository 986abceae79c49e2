use Rattle.op_lang.proofs.Common.{ap, List, ℕ, Param}
use Rattle.op_lang.proofs.Loops.{added-more, mapped-more}
use Rattle.op_lang.proofs.names.define_all.Goals as goal

pub loop-name-preserved : goal.loop-name-preserved
loop-name-preserved c =
    let made : List ℕ → Param = λ n. record { name = n; kind = c.args.kind } in
    added-more _ _ _ _ _ _ _ c.loop-name.invariant
    c.in_ok-define.ensures (ap made c.copied.ensures) (mapped-more made c.args.names.now
    c.loop-name.name-index c.name-item.result c.loop-name-test.true c.name-item.is)
