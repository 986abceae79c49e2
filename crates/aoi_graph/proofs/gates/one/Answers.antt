use Rattle.std.proofs.lemmas.Result.{IfOk-weaker}
use Rattle.aoi_graph.proofs.gates.one.Goals as goal

pub returns-clause-held : goal.returns-clause-held
returns-clause-held c = IfOk-weaker c.gate-2.result _ _ (λ r h inputs o.
    h inputs tt (c.in_ok-zero.ensures.held inputs tt o)) c.gate-2.ensures.held
