use Rattle.tmr_guard.proofs.Common.{on_err}
use Rattle.tmr_guard.proofs.Flipping.{six_did}
use Rattle.tmr_guard.proofs.Stops.{at_first, after_some, six_stopped}
use Rattle.tmr_guard.proofs.votes.vote_row.Goals as goal

pub returns-clause-did : goal.returns-clause-did
returns-clause-did g c = six_did c.aap-6.result _ _ _ _ _ _ _ _ _ _ _ _ _
    c.in_ok-aap.ensures.did c.in_ok-aap-2.ensures.did c.in_ok-aap-3.ensures.did
    c.in_ok-aap-4.ensures.did c.in_ok-aap-5.ensures.did c.aap-6.ensures.did

pub returns-in_err-aap-clause-stopped : goal.returns-in_err-aap-clause-stopped
returns-in_err-aap-clause-stopped g c = on_err c.from_residual.result
    (at_first _ _ _ _ c.in_err-aap.ensures.failed c.in_err-aap.ensures.no_event)

pub returns-in_err-aap-2-clause-stopped : goal.returns-in_err-aap-2-clause-stopped
returns-in_err-aap-2-clause-stopped g c = on_err c.from_residual-in_err-aap-2.result
    (after_some _ _ _ _ _ c.in_ok-aap.ensures.did c.in_ok-aap.ensures.kept
    (at_first _ _ _ _ c.in_err-aap-2.ensures.failed c.in_err-aap-2.ensures.no_event))

pub returns-in_err-aap-3-clause-stopped : goal.returns-in_err-aap-3-clause-stopped
returns-in_err-aap-3-clause-stopped g c = on_err c.from_residual-in_err-aap-3.result
    (after_some _ _ _ _ _ c.in_ok-aap.ensures.did c.in_ok-aap.ensures.kept
    (after_some _ _ _ _ _ c.in_ok-aap-2.ensures.did c.in_ok-aap-2.ensures.kept
    (at_first _ _ _ _ c.in_err-aap-3.ensures.failed c.in_err-aap-3.ensures.no_event)))

pub returns-in_err-aap-4-clause-stopped : goal.returns-in_err-aap-4-clause-stopped
returns-in_err-aap-4-clause-stopped g c = on_err c.from_residual-in_err-aap-4.result
    (after_some _ _ _ _ _ c.in_ok-aap.ensures.did c.in_ok-aap.ensures.kept
    (after_some _ _ _ _ _ c.in_ok-aap-2.ensures.did c.in_ok-aap-2.ensures.kept
    (after_some _ _ _ _ _ c.in_ok-aap-3.ensures.did c.in_ok-aap-3.ensures.kept
    (at_first _ _ _ _ c.in_err-aap-4.ensures.failed c.in_err-aap-4.ensures.no_event))))

pub returns-in_err-aap-5-clause-stopped : goal.returns-in_err-aap-5-clause-stopped
returns-in_err-aap-5-clause-stopped g c = on_err c.from_residual-in_err-aap-5.result
    (after_some _ _ _ _ _ c.in_ok-aap.ensures.did c.in_ok-aap.ensures.kept
    (after_some _ _ _ _ _ c.in_ok-aap-2.ensures.did c.in_ok-aap-2.ensures.kept
    (after_some _ _ _ _ _ c.in_ok-aap-3.ensures.did c.in_ok-aap-3.ensures.kept
    (after_some _ _ _ _ _ c.in_ok-aap-4.ensures.did c.in_ok-aap-4.ensures.kept
    (at_first _ _ _ _ c.in_err-aap-5.ensures.failed c.in_err-aap-5.ensures.no_event)))))

pub returns-clause-stopped : goal.returns-clause-stopped
returns-clause-stopped g c = six_stopped c.aap-6.result _ _ _ _ _ _ _ _ _ _ _ _ _
    c.in_ok-aap.ensures.did c.in_ok-aap-2.ensures.did c.in_ok-aap-3.ensures.did
    c.in_ok-aap-4.ensures.did c.in_ok-aap-5.ensures.did c.in_ok-aap.ensures.kept
    c.in_ok-aap-2.ensures.kept c.in_ok-aap-3.ensures.kept c.in_ok-aap-4.ensures.kept
    c.in_ok-aap-5.ensures.kept c.aap-6.ensures.failed c.aap-6.ensures.no_event
