use Rattle.simdram_cli.proofs.Common.{map, ◌∙◌, ap, err_from_is_err_and, Kept-more, found_in}
use Rattle.simdram_cli.proofs.Common.{view_of, machine_in, geometry_of, table_in, world, Done}
use Rattle.simdram_cli.proofs.Common.{Stopped}
use Rattle.guard_job.specs.declared.scripts.Outcome.{Outcome}
use Rattle.simdram_cli.specs.Guard.{guard_job}
use Rattle.simdram_cli.specs.Inputs.{image_found}
use Rattle.simdram_cli.specs.Stops.{reason_of}
use Rattle.simdram_cli.proofs.Guarding.{Begins, Worked, all_done, last_are, script_are}
use Rattle.simdram_cli.proofs.Guarding.{stopped_open, stopped_work, worked, worked_on}
use Rattle.simdram_cli.proofs.guard.work_guarded.Goals as goal

pub returns-in_err-machine-clause-goes : goal.returns-in_err-machine-clause-goes
returns-in_err-machine-clause-goes g c =
    let p = err_from_is_err_and c.from_residual.result c.from_residual.ensures.1 in
    let job = guard_job c.args.prog.programs (map view_of c.args.plan.script.now)
    (image_found (found_in c.args.image)) c.args.plan.flips.now in
    let files = g.F.Folder.view c.args.files.now in
    let out = g.S.Sink.view c.args.out.now in
    rw (p.1, p.2) (stopped_open c.args.name.now job _
    (world files out (g.D.Dram.view c.args.chip.now))
    (world files out (g.D.Dram.view c.open.new.chip)) (c.in_err-machine.ensures.goes files out))

pub returns-in-Err-clause-goes : goal.returns-in-Err-clause-goes
returns-in-Err-clause-goes g c =
    let job = guard_job c.args.prog.programs (map view_of c.args.plan.script.now)
    (image_found (found_in c.args.image)) c.args.plan.flips.now in
    let m = machine_in c.new-guard.result in
    let opened = c.in_ok-machine.ensures in
    let files = g.F.Folder.view c.args.files.now in
    let start = g.D.Dram.view c.open.new.chip in
    let a = world files (g.S.Sink.view c.args.out.now) (g.D.Dram.view c.args.chip.now) in
    let b = world files (g.S.Sink.view c.args.out.now) start in
    let d = world files (g.S.Sink.view c.guard_script.new.out)
    (g.D.Dram.view c.guard_script.new.chip) in
    let k : Begins job m start = record {
      machine_is = c.new-guard.ensures ∙ opened.machine;
      opened_on = opened.opened;
    } in
    stopped_work Outcome c.args.name.now job c.in-Err.fault (reason_of c.fault_stop.result) a b d
    c.fault_stop.ensures (opened.goes files (g.S.Sink.view c.args.out.now))
    (script_are job m start _ b d k
    (c.in-Err.ensures.goes files))

pub returns-in_err-finish_guarded-clause-goes : goal.returns-in_err-finish_guarded-clause-goes
returns-in_err-finish_guarded-clause-goes g c =
    let p = err_from_is_err_and c.from_residual-in_err-finish_guarded.result
    c.from_residual-in_err-finish_guarded.ensures.1 in
    let job = guard_job c.args.prog.programs (map view_of c.args.plan.script.now)
    (image_found (found_in c.args.image)) c.args.plan.flips.now in
    let m = machine_in c.new-guard.result in
    let last = machine_in c.guard_script.new.guard in
    let opened = c.in_ok-machine.ensures in
    let did = c.in-Ok.ensures in
    let outcome = c.in-Ok.outcome in
    let files = g.F.Folder.view c.args.files.now in
    let start = g.D.Dram.view c.open.new.chip in
    let now = g.D.Dram.view c.guard_script.new.chip in
    let a = world files (g.S.Sink.view c.args.out.now) (g.D.Dram.view c.args.chip.now) in
    let b = world files (g.S.Sink.view c.args.out.now) start in
    let d = world files (g.S.Sink.view c.guard_script.new.out) now in
    let e = world (g.F.Folder.view c.finish_guarded.new.files)
    (g.S.Sink.view c.finish_guarded.new.out) (g.D.Dram.view c.finish_guarded.new.chip) in
    let k : Begins job m start = record {
      machine_is = c.new-guard.ensures ∙ opened.machine;
      opened_on = opened.opened;
    } in
    let w : Worked job (geometry_of last) (table_in last) now outcome.votes outcome.refused =
    worked job m (geometry_of last) (table_in last) start now outcome.votes outcome.refused k
    (ap geometry_of c.guard_script.ensures.goes_on) (record {
      table_is = did.table;
      banks = did.banks;
      counters = did.counters;
      log = did.log;
      votes_is = did.votes;
      refused_is = did.refused;
    }) in
    rw (p.1, p.2) (worked_on c.args.name.now job _ a b d e
    (opened.goes files (g.S.Sink.view c.args.out.now))
    (script_are job m start Done b d k
    (did.goes files))
    (last_are job (geometry_of last) (table_in last) now outcome.votes outcome.refused w
    c.args.name.now (Stopped (reason_of c.in_err-finish_guarded.field-0.0)) d e
    c.in_err-finish_guarded.ensures.goes))

pub returns-clause-goes : goal.returns-clause-goes
returns-clause-goes g c =
    let job = guard_job c.args.prog.programs (map view_of c.args.plan.script.now)
    (image_found (found_in c.args.image)) c.args.plan.flips.now in
    let m = machine_in c.new-guard.result in
    let last = machine_in c.guard_script.new.guard in
    let opened = c.in_ok-machine.ensures in
    let did = c.in-Ok.ensures in
    let outcome = c.in-Ok.outcome in
    let files = g.F.Folder.view c.args.files.now in
    let start = g.D.Dram.view c.open.new.chip in
    let now = g.D.Dram.view c.guard_script.new.chip in
    let a = world files (g.S.Sink.view c.args.out.now) (g.D.Dram.view c.args.chip.now) in
    let b = world files (g.S.Sink.view c.args.out.now) start in
    let d = world files (g.S.Sink.view c.guard_script.new.out) now in
    let e = world (g.F.Folder.view c.finish_guarded.new.files)
    (g.S.Sink.view c.finish_guarded.new.out) (g.D.Dram.view c.finish_guarded.new.chip) in
    let k : Begins job m start = record {
      machine_is = c.new-guard.ensures ∙ opened.machine;
      opened_on = opened.opened;
    } in
    let w : Worked job (geometry_of last) (table_in last) now outcome.votes outcome.refused =
    worked job m (geometry_of last) (table_in last) start now outcome.votes outcome.refused k
    (ap geometry_of c.guard_script.ensures.goes_on) (record {
      table_is = did.table;
      banks = did.banks;
      counters = did.counters;
      log = did.log;
      votes_is = did.votes;
      refused_is = did.refused;
    }) in
    worked_on c.args.name.now job Done a b d e (opened.goes files (g.S.Sink.view c.args.out.now))
    (script_are job m start Done b d k
    (did.goes files))
    (last_are job (geometry_of last) (table_in last) now outcome.votes outcome.refused w
    c.args.name.now Done d e c.in_ok-finish_guarded.ensures.goes)

pub returns-clause-done : goal.returns-clause-done
returns-clause-done g c =
    let job = guard_job c.args.prog.programs (map view_of c.args.plan.script.now)
    (image_found (found_in c.args.image)) c.args.plan.flips.now in
    let m = machine_in c.new-guard.result in
    let last = machine_in c.guard_script.new.guard in
    let opened = c.in_ok-machine.ensures in
    let did = c.in-Ok.ensures in
    let outcome = c.in-Ok.outcome in
    let start = g.D.Dram.view c.open.new.chip in
    let now = g.D.Dram.view c.guard_script.new.chip in
    let k : Begins job m start = record {
      machine_is = c.new-guard.ensures ∙ opened.machine;
      opened_on = opened.opened;
    } in
    let w : Worked job (geometry_of last) (table_in last) now outcome.votes outcome.refused =
    worked job m (geometry_of last) (table_in last) start now outcome.votes outcome.refused k
    (ap geometry_of c.guard_script.ensures.goes_on) (record {
      table_is = did.table;
      banks = did.banks;
      counters = did.counters;
      log = did.log;
      votes_is = did.votes;
      refused_is = did.refused;
    }) in
    let end = g.D.Dram.view c.finish_guarded.new.chip in
    all_done job (geometry_of last) (table_in last) now outcome.votes outcome.refused w start end
    opened.opened (Kept-more start now end c.guard_script.ensures.kept c.finish_guarded.ensures.kept)
    c.in_ok-finish_guarded.ensures.did
