use Rattle.simdram_cli.proofs.Common.{refl, sym, ◌∙◌, ap, map, count_by, length-map, view_of}
use Rattle.simdram_cli.proofs.Common.{is_refused, waves_are_answered, geometry_of, operations_by}
use Rattle.simdram_cli.proofs.Common.{table_in, turn_in}
use Rattle.simdram_cli.proofs.Sending.{wave_did, wave_failed, wave_sent}
use Rattle.simdram_cli.proofs.work.work_wave.Goals as goal

pub returns-in-Ok-clause-done : goal.returns-in-Ok-clause-done
returns-in-Ok-clause-done g c =
    let m = c.args.machine.now in
    let wave = map view_of c.args.wave.now in
    let answered = waves_are_answered (geometry_of m) (operations_by m) (table_in m) wave
    c.requires.bbops in
    record {
      turn = c.in-Ok.ensures.turn;
      table = ap table_in c.wave.ensures.same ∙ sym answered.tables;
      laid = c.wave.ensures.laid;
      did = wave_did (geometry_of m) (operations_by m) (table_in m) wave _
          (g.D.Dram.view c.args.chip.now) (g.D.Dram.view c.wave.new.dram) c.requires.bbops
          c.in-Ok.ensures.did;
      rises = c.in-Ok.ensures.rises;
      refused_is = (rw (c.as_slice.ensures.value, c.in-Ok.ensures.replies) at c.refusals.ensures)
          ∙ ap (count_by is_refused) (sym answered.answers);
    }

pub returns-in-Ok-clause-goes : goal.returns-in-Ok-clause-goes
returns-in-Ok-clause-goes g c files =
    let m = c.args.machine.now in
    wave_sent (geometry_of m) (operations_by m) (turn_in m) (table_in m)
    (g.D.Dram.view c.args.chip.now).banks
    c.args.number (map view_of c.args.wave.now) files (g.S.Sink.view c.args.out.now)
    (g.S.Sink.view c.wave.new.out) (g.D.Dram.view c.args.chip.now) (g.D.Dram.view c.wave.new.dram)
    c.requires.bbops (rw length-map c.requires.some) c.in-Ok.ensures.sent
    c.in-Ok.ensures.unfailed c.in-Ok.ensures.did.faults c.in-Ok.ensures.did.banks

pub returns-in-Err-clause-goes : goal.returns-in-Err-clause-goes
returns-in-Err-clause-goes g c files =
    let m = c.args.machine.now in
    rw c.fault_stop.ensures (wave_failed c.in-Err.failed (geometry_of m) (operations_by m)
    (turn_in m) (table_in m) (g.D.Dram.view c.args.chip.now).banks c.args.number
    (map view_of c.args.wave.now)
    files (g.S.Sink.view c.args.out.now) (g.S.Sink.view c.wave.new.out)
    (g.D.Dram.view c.args.chip.now) (g.D.Dram.view c.wave.new.dram) c.requires.bbops
    (rw length-map c.requires.some) (record {
      sink = c.wave.ensures.sink_faults;
      chip = c.wave.ensures.kept.faults;
      chip_rose = λ e. c.in-Err.ensures.chip_fault (rw e refl);
      unfailed = λ e. let did = c.in-Err.ensures.done (rw e refl) in (did.faults, did.banks);
      stopped = λ e. let s = c.in-Err.ensures.stopped (rw e refl) in record {
        done = s.done;
        bank = s.bank;
        command = s.command;
        failed = s.failed;
        others = s.others;
        alone = λ b other below. s.alone b other (rw c.requires.geometry below);
      };
      unsent = λ e. c.in-Err.ensures.unsent (rw e refl);
      sink_rose = λ e. c.in-Err.ensures.write_fault (rw e refl);
      part = λ e. c.in-Err.ensures.part (rw e refl);
    }))
