use Rattle.soak_job.proofs.Common.{◌≡◌, ◌<◌, ◌∙◌, ap, subst, map, List, ℕ, OnErr, OnOk, Command}
use Rattle.soak_job.proofs.Common.{run, Did, program_of, StoppedAmong, wave_events, Queues, in_turn}
use Rattle.soak_job.proofs.Common.{Ahead}
use Rattle.soak_job.proofs.Running.{case_runs, on_err, on_ok, own_queue, queues_are, within_wave}
use Rattle.soak_job.proofs.chip.run_case.Goals as goal

pub run_wave-requires-clause-jobs : goal.run_wave-requires-clause-jobs
run_wave-requires-clause-jobs g c =
    case_runs (program_of c.args.entry) c.bind.result c.args.case _ c.requires.geometry
    c.requires.fits c.requires.does c.bind.ensures.width c.bind.ensures.rows

pub returns-clause-did : goal.returns-clause-did
returns-clause-did g c =
    let m = program_of c.args.entry in
    let same = queues_are m c.bind.result c.args.case c.bind.ensures.width c.bind.ensures.rows in
    subst (λ (q : Queues). OnOk c.run_wave.result (Did (wave_events in_turn 2 Ahead q)
    (g.D.Dram.view c.args.chip.now) (g.D.Dram.view c.run_wave.new.dram))) same
    (rw c.requires.geometry at c.run_wave.ensures.did)

pub returns-clause-alone : goal.returns-clause-alone
returns-clause-alone g c =
    let m = program_of c.args.entry in
    let same = queues_are m c.bind.result c.args.case c.bind.ensures.width c.bind.ensures.rows in
    let old = g.D.Dram.view c.args.chip.now in
    let new = g.D.Dram.view c.run_wave.new.dram in
    let at_geometry = rw c.requires.geometry at c.run_wave.ensures.alone in
    let alone = subst (λ (q : Queues). OnOk c.run_wave.result ((bank : ℕ) → bank < 2
    → new.banks bank ≡ map (run (q bank)) (old.banks bank))) same at_geometry in
    on_ok c.run_wave.result alone (λ all bank l. all bank l
    ∙ ap (λ (commands : List Command). map (run commands) (old.banks bank))
    (own_queue m c.args.case bank l))

pub returns-clause-left : goal.returns-clause-left
returns-clause-left g c =
    let m = program_of c.args.entry in
    let same = queues_are m c.bind.result c.args.case c.bind.ensures.width c.bind.ensures.rows in
    let old = g.D.Dram.view c.args.chip.now in
    let new = g.D.Dram.view c.run_wave.new.dram in
    let stopped = rw c.requires.geometry at c.run_wave.ensures.stopped in
    let moved = subst (λ (q : Queues). OnErr c.run_wave.result
    (StoppedAmong (wave_events in_turn 2 Ahead q) q old new)) same stopped in
    on_err c.run_wave.result moved (within_wave _ _ old new)
