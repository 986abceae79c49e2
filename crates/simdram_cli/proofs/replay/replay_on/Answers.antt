use Rattle.simdram_cli.proofs.Common.{◌∙◌, err_from_is_err_and, found_in, world, Done, Stopped}
use Rattle.simdram_cli.proofs.Common.{runs_answered, runs_stopped, runs_then}
use Rattle.simdram_cli.specs.Inputs.{image_found}
use Rattle.simdram_cli.specs.Replay.{EventsDone, events_steps}
use Rattle.simdram_cli.specs.Stops.{reason_of}
use Rattle.simdram_cli.proofs.Replaying.{no_program, on_read, on_unread}
use Rattle.simdram_cli.proofs.replay.replay_on.Goals as goal

pub open_own-prog-requires : goal.open_own-prog-requires
open_own-prog-requires g c = no_program

pub returns-in_err-machine-clause-runs : goal.returns-in_err-machine-clause-runs
returns-in_err-machine-clause-runs g c =
    let p = err_from_is_err_and c.from_residual.result c.from_residual.ensures.1 in
    let files = g.F.Folder.view c.args.files.now in
    let out = g.S.Sink.view c.args.out.now in
    let i = image_found (found_in c.args.image) in
    rw (p.1, p.2) (runs_stopped (events_steps c.args.name.now c.args.trace.now i) _ _
    (world files out (g.D.Dram.view c.args.chip.now))
    (world files out (g.D.Dram.view c.replay_rows.new.chip))
    (on_unread c.args.name.now c.args.trace.now i _
    (world files out (g.D.Dram.view c.args.chip.now))
    (world files out (g.D.Dram.view c.replay_rows.new.chip))
    (c.in_err-machine.ensures.goes files out)))

pub returns-in_err-finish-clause-runs : goal.returns-in_err-finish-clause-runs
returns-in_err-finish-clause-runs g c =
    let p = err_from_is_err_and c.from_residual-in_err-finish.result
    c.from_residual-in_err-finish.ensures.1 in
    let files = g.F.Folder.view c.args.files.now in
    let out = g.S.Sink.view c.args.out.now in
    let chip = g.D.Dram.view c.replay_rows.new.chip in
    let i = image_found (found_in c.args.image) in
    let a = world files out (g.D.Dram.view c.args.chip.now) in
    let b = world files out chip in
    let last = world (g.F.Folder.view c.finish.new.files) (g.S.Sink.view c.finish.new.out) chip in
    let made = c.in_ok-machine.ensures in
    let reason = reason_of c.in_err-finish.field-0.0 in
    rw (p.1, p.2) (runs_stopped (events_steps c.args.name.now c.args.trace.now i) _ reason a last
    (on_read c.args.name.now c.args.trace.now i c.file.result.now c.tally.result (Stopped reason) a
    b last (made.goes files out) (c.file.ensures ∙ made.file)
    (c.tally.ensures ∙ made.done.counters) (c.in_err-finish.ensures chip)))

pub returns-clause-runs : goal.returns-clause-runs
returns-clause-runs g c =
    let files = g.F.Folder.view c.args.files.now in
    let out = g.S.Sink.view c.args.out.now in
    let chip = g.D.Dram.view c.replay_rows.new.chip in
    let i = image_found (found_in c.args.image) in
    let a = world files out (g.D.Dram.view c.args.chip.now) in
    let b = world files out chip in
    let last = world (g.F.Folder.view c.finish.new.files) (g.S.Sink.view c.finish.new.out) chip in
    let made = c.in_ok-machine.ensures in
    runs_then (events_steps c.args.name.now c.args.trace.now i) _ _ a last last
    (on_read c.args.name.now c.args.trace.now i c.file.result.now c.tally.result Done a b last
    (made.goes files out) (c.file.ensures ∙ made.file) (c.tally.ensures ∙ made.done.counters)
    (c.in_ok-finish.ensures chip))
    (runs_answered 0 (EventsDone c.args.trace.now i) last made.done)
