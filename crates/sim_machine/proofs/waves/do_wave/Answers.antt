use Rattle.sim_machine.proofs.Common.{◌∙◌, List, ap, map, subst, sym, AllByRecursion, CanRun}
use Rattle.sim_machine.proofs.Common.{wave_job, view_of, routines_in, jobs_of}
use Rattle.std.proofs.lemmas.List.Elements.{All-from_recursion}
use Rattle.uprog_bin.specs.Opened.{EntryBytes}
use Rattle.uprog_ctl.specs.declared.waves.Job.{Job}
use Rattle.uprog_ctl.specs.Orders.{turn_of}
use Rattle.sim_machine.specs.Granted.{job_bound}
use Rattle.sim_machine.proofs.Lines.{on_err}
use Rattle.sim_machine.proofs.Waving.{can_run_there, wave_did, wave_stopped, wave_turn}
use Rattle.sim_machine.proofs.waves.do_wave.Goals as goal

pub run_wave-requires-clause-jobs : goal.run_wave-requires-clause-jobs
run_wave-requires-clause-jobs g c =
    let here = c.args.setting.now.geometry in
    let there = (g.D.Dram.view c.args.dram.now).geometry in
    let jobs = map job_bound c.as_slice.result.now in
    All-from_recursion (CanRun there) jobs (can_run_there here there jobs c.requires.geometry
    (subst (λ (xs : List (Job EntryBytes)). AllByRecursion (CanRun here) (map job_bound xs))
    (sym c.as_slice.ensures.value) c.plan_of-replies.ensures.run))

pub returns-in_err-run_wave-clause-stopped : goal.returns-in_err-run_wave-clause-stopped
returns-in_err-run_wave-clause-stopped g c =
    let s = c.args.setting.now in
    let V = g.D.Dram.view in
    on_err c.from_residual.result (wave_stopped s.geometry (V c.args.dram.now).geometry
    (turn_of c.args.order.now) (map job_bound c.as_slice.result.now)
    (jobs_of s.geometry (routines_in s.prog.now.programs) s.table.now.pairs
    (map view_of c.args.instrs.now)) (V c.args.dram.now) (V c.run_wave.new.dram)
    c.requires.geometry
    (ap (λ (xs : List (Job EntryBytes)). map (wave_job s.geometry.rows) (map job_bound xs))
    c.as_slice.ensures.value ∙ c.plan_of-replies.ensures.jobs) c.in_err-run_wave.ensures.stopped)

pub returns-clause-turn : goal.returns-clause-turn
returns-clause-turn g c =
    let s = c.args.setting.now in
    wave_turn s.geometry (g.D.Dram.view c.args.dram.now).geometry (turn_of c.args.order.now)
    (turn_of c.run_wave.new.picker) (map job_bound c.as_slice.result.now)
    (jobs_of s.geometry (routines_in s.prog.now.programs) s.table.now.pairs
    (map view_of c.args.instrs.now)) c.requires.geometry
    (ap (λ (xs : List (Job EntryBytes)). map (wave_job s.geometry.rows) (map job_bound xs))
    c.as_slice.ensures.value ∙ c.plan_of-replies.ensures.jobs) c.in_ok-run_wave.ensures.state

pub returns-clause-did : goal.returns-clause-did
returns-clause-did g c =
    let s = c.args.setting.now in
    let V = g.D.Dram.view in
    wave_did s.geometry (V c.args.dram.now).geometry (turn_of c.args.order.now)
    (map job_bound c.as_slice.result.now)
    (jobs_of s.geometry (routines_in s.prog.now.programs) s.table.now.pairs
    (map view_of c.args.instrs.now)) (V c.args.dram.now) (V c.run_wave.new.dram)
    c.requires.geometry
    (ap (λ (xs : List (Job EntryBytes)). map (wave_job s.geometry.rows) (map job_bound xs))
    c.as_slice.ensures.value ∙ c.plan_of-replies.ensures.jobs) c.in_ok-run_wave.ensures.did
