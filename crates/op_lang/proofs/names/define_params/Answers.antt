use Rattle.op_lang.proofs.Common.{ap, List, ℕ, Param}
use Rattle.op_lang.proofs.Loops.{added-more, taken-more}
use Rattle.op_lang.proofs.names.define_params.Goals as goal

pub loop-param-preserved : goal.loop-param-preserved
loop-param-preserved c =
    let x = c.param-item.result in
    let made : List ℕ → Param = λ n. record { name = n; kind = x.kind } in
    added-more _ _ _ _ _ _ _ c.loop-param.invariant
    c.in_ok-define.ensures (ap made c.copied.ensures) (taken-more c.args.params.now
    c.loop-param.param-index x c.loop-param-test.true c.param-item.is)
