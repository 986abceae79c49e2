use Rattle.sim_machine.proofs.Common.{ap, view_of}
use Rattle.sim_machine.specs.Machine.{turn_in}
use Rattle.sim_machine.proofs.Comings.{goes, when_answered, when_chip, when_err, when_ok}
use Rattle.sim_machine.proofs.Comings.{when_sink}
use Rattle.sim_machine.proofs.Keeping.{laid_of, turned}
use Rattle.sim_machine.proofs.Rising.{instr_rises}
use Rattle.sim_machine.proofs.machine.Machine.step.Goals as goal

pub returns-clause-borrow : goal.returns-clause-borrow
returns-clause-borrow g c = c.step_of.ensures.borrow

pub returns-clause-kept : goal.returns-clause-kept
returns-clause-kept g c = c.step_of.ensures.went.kept

pub returns-clause-sink_faults : goal.returns-clause-sink_faults
returns-clause-sink_faults g c = c.step_of.ensures.went.sink_faults

pub returns-clause-goes_on : goal.returns-clause-goes_on
returns-clause-goes_on g c = goes _ _ _ _ _ _ _ _ c.step_of.result c.step_of.ensures.went.comes

pub returns-clause-reply : goal.returns-clause-reply
returns-clause-reply g c =
    when_answered _ _ _ _ _ _ _ _ c.step_of.result c.step_of.ensures.went.comes

pub returns-clause-machine : goal.returns-clause-machine
returns-clause-machine g c =
    when_ok _ _ _ _ _ _ _ _ c.step_of.result (λ reply h. h.machine)
    c.step_of.ensures.went.comes

pub returns-clause-laid : goal.returns-clause-laid
returns-clause-laid g c = laid_of c.self.inside _ c.self.invariant.set c.self.view_is

pub returns-clause-did : goal.returns-clause-did
returns-clause-did g c =
    when_ok _ _ _ _ _ _ _ _ c.step_of.result (λ reply h. h.did)
    c.step_of.ensures.went.comes

pub returns-clause-sent : goal.returns-clause-sent
returns-clause-sent g c =
    when_ok _ _ _ _ _ _ _ _ c.step_of.result (λ reply h. h.sent)
    c.step_of.ensures.went.comes

pub returns-clause-unfailed : goal.returns-clause-unfailed
returns-clause-unfailed g c =
    when_ok _ _ _ _ _ _ _ _ c.step_of.result (λ reply h. h.unfailed)
    c.step_of.ensures.went.comes

pub returns-clause-rises : goal.returns-clause-rises
returns-clause-rises g c =
    when_ok _ _ _ _ _ _ _ _ c.step_of.result (λ reply h. instr_rises c.args.self.now
    (view_of c.args.instr.now) _ _ (laid_of c.self.inside _ c.self.invariant.set c.self.view_is)
    c.requires.plain h.did.counters)
    c.step_of.ensures.went.comes

pub returns-clause-same_table : goal.returns-clause-same_table
returns-clause-same_table g c =
    when_err _ _ _ _ _ _ _ _ c.step_of.result (λ h. h.same)
    (λ h. turned c.args.self.now c.step_of.new.self _ h.machine)
    c.step_of.ensures.went.comes

pub returns-clause-chip_fault : goal.returns-clause-chip_fault
returns-clause-chip_fault g c =
    when_chip _ _ _ _ _ _ _ _ c.step_of.result (λ h. h.failed) c.step_of.ensures.went.comes

pub returns-clause-same_turn : goal.returns-clause-same_turn
returns-clause-same_turn g c =
    when_chip _ _ _ _ _ _ _ _ c.step_of.result (λ h. h.turn) c.step_of.ensures.went.comes

pub returns-clause-turn_unsent : goal.returns-clause-turn_unsent
returns-clause-turn_unsent g c =
    when_sink _ _ _ _ _ _ _ _ c.step_of.result (λ h. ap turn_in h.machine)
    c.step_of.ensures.went.comes

pub returns-clause-stopped : goal.returns-clause-stopped
returns-clause-stopped g c =
    when_chip _ _ _ _ _ _ _ _ c.step_of.result (λ h. h.stopped) c.step_of.ensures.went.comes

pub returns-clause-left : goal.returns-clause-left
returns-clause-left g c =
    when_chip _ _ _ _ _ _ _ _ c.step_of.result (λ h. h.left) c.step_of.ensures.went.comes

pub returns-clause-unsent : goal.returns-clause-unsent
returns-clause-unsent g c =
    when_chip _ _ _ _ _ _ _ _ c.step_of.result (λ h. h.unsent) c.step_of.ensures.went.comes

pub returns-clause-done : goal.returns-clause-done
returns-clause-done g c =
    when_sink _ _ _ _ _ _ _ _ c.step_of.result (λ h. h.did) c.step_of.ensures.went.comes

pub returns-clause-read : goal.returns-clause-read
returns-clause-read g c =
    when_sink _ _ _ _ _ _ _ _ c.step_of.result (λ h. h.read) c.step_of.ensures.went.comes

pub returns-clause-write_fault : goal.returns-clause-write_fault
returns-clause-write_fault g c =
    when_sink _ _ _ _ _ _ _ _ c.step_of.result (λ h. h.rose) c.step_of.ensures.went.comes

pub returns-clause-part : goal.returns-clause-part
returns-clause-part g c =
    when_err _ _ _ _ _ _ _ _ c.step_of.result (λ h. h.part) (λ h. h.part)
    c.step_of.ensures.went.comes
