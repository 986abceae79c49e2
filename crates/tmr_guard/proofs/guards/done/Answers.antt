use Rattle.tmr_guard.proofs.Common.{ap, refl, view_of, geometry_of, program_of, table_in, turn_in}
use Rattle.tmr_guard.proofs.Common.{ℕ, subst, StoppedWithin, piece_of}
use Rattle.tmr_guard.proofs.Runs.{ran_one}
use Rattle.sim_machine.proofs.Stepping.{none_read}
use Rattle.sim_machine.specs.Machine.{events_by}
use Rattle.tmr_guard.proofs.guards.done.Goals as goal

pub returns-in-Ok-clause-did : goal.returns-in-Ok-clause-did
returns-in-Ok-clause-did g c =
    let m = c.args.m.now in
    let n = c.step.new.self in
    record {
      ran = ran_one (geometry_of m) (program_of m) (turn_in m) (turn_in n) (table_in m)
          (table_in n) (view_of c.args.instr.now) (g.D.Dram.view c.args.dram.now)
          (g.D.Dram.view c.step.new.dram) (ap table_in c.in-Ok.ensures.machine)
          (ap turn_in c.in-Ok.ensures.machine) c.in-Ok.ensures.did;
      answer = c.in-Ok.ensures.reply;
    }

pub returns-in-Err-ChipFault-clause-left : goal.returns-in-Err-ChipFault-clause-left
returns-in-Err-ChipFault-clause-left g c silent =
    let V = g.D.Dram.view in
    let instr = view_of c.args.instr.now in
    subst (λ (n : ℕ). StoppedWithin n (events_by c.args.m.now (piece_of instr))
    (V c.args.dram.now).banks (V c.step.new.dram).banks) (none_read c.args.m.now instr silent)
    (c.in-Err-ChipFault.ensures.left (rw c.in-Err-ChipFault.field-0-is refl))
