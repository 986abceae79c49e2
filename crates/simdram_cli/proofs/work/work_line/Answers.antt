use Rattle.simdram_cli.proofs.Common.{refl, subst, StoppedWithin, view_of, Alone, Piece, doing}
use Rattle.simdram_cli.proofs.Common.{events_by, is_print}
use Rattle.sim_machine.proofs.Stepping.{alone}
use Rattle.simdram_cli.proofs.Sending.{instr_done, instr_failed, untold}
use Rattle.std.proofs.Common.{◌≡◌}
use Rattle.dram_model.specs.Chip.{after}
use Rattle.cli_model.specs.Waves.{and_reading}
use Rattle.sim_machine.specs.Machine.{banks_read, reads_by}
use Rattle.sim_machine.specs.Steps.{DidAndRead}
use Rattle.simdram_cli.proofs.work.work_line.Goals as goal

pub returns-in-Ok-clause-goes : goal.returns-in-Ok-clause-goes
returns-in-Ok-clause-goes g c files =
    instr_done (and_reading (banks_read c.args.machine.now (view_of c.args.instr.now))
    (doing (g.D.Dram.view c.args.chip.now).banks
    (events_by c.args.machine.now (Alone (view_of c.args.instr.now)))))
    (is_print (view_of c.args.instr.now)) _ files (g.S.Sink.view c.args.out.now)
    (g.S.Sink.view c.step.new.out) (g.D.Dram.view c.args.chip.now) (g.D.Dram.view c.step.new.dram)
    c.in-Ok.ensures.sent c.in-Ok.ensures.unfailed c.in-Ok.ensures.did.faults
    (subst (λ (p : Piece). (g.D.Dram.view c.step.new.dram).banks ≡ after
    (events_by c.args.machine.now p) (g.D.Dram.view c.args.chip.now).banks)
    (alone (view_of c.args.instr.now) c.requires.alone) c.in-Ok.ensures.did.banks)

pub returns-in-Err-clause-goes : goal.returns-in-Err-clause-goes
returns-in-Err-clause-goes g c files =
    rw c.fault_stop.ensures (instr_failed (and_reading (banks_read c.args.machine.now
    (view_of c.args.instr.now)) (doing (g.D.Dram.view c.args.chip.now).banks
    (events_by c.args.machine.now (Alone (view_of c.args.instr.now))))) c.in-Err.fault
    (is_print (view_of c.args.instr.now)) _
    files (g.S.Sink.view c.args.out.now) (g.S.Sink.view c.step.new.out)
    (g.D.Dram.view c.args.chip.now) (g.D.Dram.view c.step.new.dram) (record {
      sink = c.step.ensures.sink_faults;
      chip = c.step.ensures.kept.faults;
      chip_rose = λ e. (c.in-Err.ensures.chip_fault (rw e refl)).rose;
      unfailed = λ e. untold c.args.machine.now (view_of c.args.instr.now)
          (reads_by c.args.machine.now (view_of c.args.instr.now)) (g.D.Dram.view c.args.chip.now)
          (g.D.Dram.view c.step.new.dram) (λ other. subst (λ (p : Piece). DidAndRead
          (events_by c.args.machine.now p)
          (reads_by c.args.machine.now (view_of c.args.instr.now)) (g.D.Dram.view c.args.chip.now)
          (g.D.Dram.view c.step.new.dram)) (alone (view_of c.args.instr.now) c.requires.alone)
          (c.in-Err.ensures.done (rw e refl) other)) (c.in-Err.ensures.read (rw e refl));
      left = λ e. subst (λ (p : Piece). StoppedWithin (banks_read c.args.machine.now
          (view_of c.args.instr.now)) (events_by c.args.machine.now p)
          (g.D.Dram.view c.args.chip.now).banks (g.D.Dram.view c.step.new.dram).banks)
          (alone (view_of c.args.instr.now) c.requires.alone) (c.in-Err.ensures.left (rw e refl));
      unsent = λ e other. c.in-Err.ensures.unsent (rw e refl) other;
      sink_rose = λ e. c.in-Err.ensures.write_fault (rw e refl);
      part = λ e. c.in-Err.ensures.part;
      cut = λ is. c.in-Err.ensures.part;
    }))
