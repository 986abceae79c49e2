use Rattle.sim_machine.proofs.Common.{ap, map, ◌∙◌, Err, view_of}
use Rattle.sim_machine.proofs.Alone.{bbop_done, bbop_failed}
use Rattle.sim_machine.proofs.machine.Machine.bbop_step.Goals as goal

pub returns-in-Err-clause-went : goal.returns-in-Err-clause-went
returns-in-Err-clause-went g c =
    let is = ap (map view_of) c.from_ref.ensures.value in
    record {
      kept = c.wave.ensures.kept;
      sink_faults = c.wave.ensures.sink_faults;
      comes = bbop_failed _ _ _ _ _ _ _ _ _ c.wave.ensures.same is c.requires.bbop c.in-Err.fault
          (λ e. c.in-Err.ensures.turn_unsent (ap Err e))
          (λ e. c.in-Err.ensures.stopped (ap Err e)) (λ e. c.in-Err.ensures.unsent (ap Err e))
          (λ e. c.in-Err.ensures.done (ap Err e)) (λ e. c.in-Err.ensures.write_fault (ap Err e))
          (λ e. c.in-Err.ensures.part (ap Err e));
    }

pub returns-in-Ok-clause-went : goal.returns-in-Ok-clause-went
returns-in-Ok-clause-went g c =
    let is = ap (map view_of) c.from_ref.ensures.value in
    record {
      kept = c.wave.ensures.kept;
      sink_faults = c.wave.ensures.sink_faults;
      comes = bbop_done _ _ _ _ _ _ _ _ _ c.wave.ensures.same is c.requires.bbop
          c.as_slice.result.now _ (c.as_slice.ensures.value ∙ c.in-Ok.ensures.replies)
          c.in-Ok.ensures.turn c.in-Ok.ensures.did c.in-Ok.ensures.sent c.in-Ok.ensures.unfailed;
    }
