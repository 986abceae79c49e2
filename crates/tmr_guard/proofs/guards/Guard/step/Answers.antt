use Rattle.tmr_guard.proofs.Common.{◌∙◌, ap, view_of, ChipFault, WriteFault, geometry_of}
use Rattle.tmr_guard.proofs.Common.{operations_by, table_in, first_stranger}
use Rattle.tmr_guard.specs.Steps.{machine_in}
use Rattle.tmr_guard.proofs.Came.{when_answered, when_err, when_fault, when_ok}
use Rattle.tmr_guard.proofs.guards.Guard.step.Goals as goal

pub returns-clause-reply : goal.returns-clause-reply
returns-clause-reply g c =
    when_answered _ _ _ _ _ _ _ _ c.step_of.result c.step_of.ensures.came

pub returns-clause-table : goal.returns-clause-table
returns-clause-table g c =
    when_ok _ _ _ _ _ _ _ _ c.step_of.result (λ reply h. h.ran.tables) c.step_of.ensures.came

pub returns-clause-triples : goal.returns-clause-triples
returns-clause-triples g c =
    let m = machine_in c.args.self.now in
    when_ok _ _ _ _ _ _ _ _ c.step_of.result (λ reply h. ap first_stranger h.ran.tables
    ∙ c.tables_stay_guarded.ensures.kept (geometry_of m) (operations_by m) (table_in m)
    (view_of c.args.instr.now) c.adds_name.ensures c.requires.triples) c.step_of.ensures.came

pub returns-clause-turn : goal.returns-clause-turn
returns-clause-turn g c =
    when_ok _ _ _ _ _ _ _ _ c.step_of.result (λ reply h. h.ran.turns) c.step_of.ensures.came

pub returns-clause-did : goal.returns-clause-did
returns-clause-did g c =
    when_ok _ _ _ _ _ _ _ _ c.step_of.result (λ reply h. h.ran.did) c.step_of.ensures.came

pub returns-clause-rises : goal.returns-clause-rises
returns-clause-rises g c =
    when_ok _ _ _ _ _ _ _ _ c.step_of.result (λ reply h. h.rises) c.step_of.ensures.came

pub returns-clause-sent : goal.returns-clause-sent
returns-clause-sent g c =
    when_ok _ _ _ _ _ _ _ _ c.step_of.result (λ reply h. h.sent) c.step_of.ensures.came

pub returns-clause-unfailed : goal.returns-clause-unfailed
returns-clause-unfailed g c =
    when_ok _ _ _ _ _ _ _ _ c.step_of.result (λ reply h. h.unfailed) c.step_of.ensures.came

pub returns-clause-chip_fault : goal.returns-clause-chip_fault
returns-clause-chip_fault g c =
    when_fault _ _ _ _ _ _ _ _ c.step_of.result ChipFault (λ f e h. h.chip_rose e)
    c.step_of.ensures.came

pub returns-clause-unsent : goal.returns-clause-unsent
returns-clause-unsent g c =
    when_fault _ _ _ _ _ _ _ _ c.step_of.result ChipFault (λ f e h. h.unsent e)
    c.step_of.ensures.came

pub returns-clause-write_fault : goal.returns-clause-write_fault
returns-clause-write_fault g c =
    when_fault _ _ _ _ _ _ _ _ c.step_of.result WriteFault (λ f e h. h.sink_rose e)
    c.step_of.ensures.came

pub returns-clause-done : goal.returns-clause-done
returns-clause-done g c =
    when_fault _ _ _ _ _ _ _ _ c.step_of.result WriteFault (λ f e h. h.done e)
    c.step_of.ensures.came

pub returns-clause-read : goal.returns-clause-read
returns-clause-read g c =
    when_fault _ _ _ _ _ _ _ _ c.step_of.result WriteFault (λ f e h. h.read e)
    c.step_of.ensures.came

pub returns-clause-part : goal.returns-clause-part
returns-clause-part g c =
    when_err _ _ _ _ _ _ _ _ c.step_of.result (λ f h. h.part) c.step_of.ensures.came

pub returns-clause-left : goal.returns-clause-left
returns-clause-left g c =
    when_fault _ _ _ _ _ _ _ _ c.step_of.result ChipFault (λ f e h. h.left e)
    c.step_of.ensures.came
