use Rattle.simdram_cli.proofs.Common.{◌≡◌, rules, sym, ◌∙◌, ap, refl, map, Ok, Err}
use Rattle.simdram_cli.proofs.Common.{err_from_is_err_and, view_of, ChipView, HasBegun, empty_log}
use Rattle.simdram_cli.proofs.Common.{recorded, has_begun_below, world}
use Rattle.std.specs.Prelude.{Some}
use Rattle.cmd_trace.specs.Tape.{file_on}
use Rattle.simdram_cli.specs.declared.stop.Stop.TheVariants as stop
use Rattle.simdram_cli.specs.Tracing.{ScriptRecorded}
use Rattle.simdram_cli.proofs.Stores.{at_err, at_ok, stored, unstored}
use Rattle.simdram_cli.proofs.Tracing.{FirstDone, first_failed, moved, same_name, started_at}
use Rattle.simdram_cli.proofs.Tracing.{trace_stored, trace_unstored, was_full}
use Rattle.simdram_cli.proofs.trace.record_script.Goals as goal

pub returns-in_err-refused-clause-recorded : goal.returns-in_err-refused-clause-recorded
returns-in_err-refused-clause-recorded g c program i o =
    let name = same_name c.work_to_image.new.chip.dram.ghost_name c.mark.new.self.dram.ghost_name
    _ _ c.work_to_image.ensures.borrow in
    let p = err_from_is_err_and c.from_residual.result c.from_residual.ensures.1 in
    let names = c.args.names.now in
    let script = map view_of c.args.script.now in
    let machine = c.args.machine.now in
    let files = g.F.Folder.view c.args.files.now in
    let out = g.S.Sink.view c.args.out.now in
    let old = g.D.Dram.view c.args.chip.now in
    let from = recorded (g.D.Dram.view c.mark.new.self.dram.now) c.mark.new.self.notes.now in
    let last = c.work_to_image.new.chip in
    let after = g.F.Folder.view c.work_to_image.new.files in
    let sent = g.S.Sink.view c.work_to_image.new.out in
    let same : from ≡ record old { log = Some empty_log } =
    c.mark.ensures.shown ∙ ap (λ d. let v : ChipView = record (g.D.Dram.view d)
    { log = Some empty_log } in v) c.new-recorder.ensures.chip in
    let started = started_at program i machine old from o same in
    moved g.D.Dram.view _ last.dram.now (λ v. ScriptRecorded names program script i
    (world files out old) (world after sent v) c.from_residual.result)
    (search rules) (rw (p.1, p.2) (first_failed names program script i _ machine files out old
    (g.D.Dram.view last.dram.now) from
    (world after sent (recorded (g.D.Dram.view last.dram.now) last.notes.now)) started
    (sym (ap (λ (v : ChipView). v.faults) same)) refl refl c.in_err-refused.ensures.goes))

pub returns-then-not-spell_trace-clause-recorded : goal.returns-then-not-spell_trace-clause-recorded
returns-then-not-spell_trace-clause-recorded g c program i o =
    let name = same_name c.work_to_image.new.chip.dram.ghost_name c.mark.new.self.dram.ghost_name
    _ _ c.work_to_image.ensures.borrow in
    let names = c.args.names.now in
    let script = map view_of c.args.script.now in
    let machine = c.args.machine.now in
    let files = g.F.Folder.view c.args.files.now in
    let out = g.S.Sink.view c.args.out.now in
    let old = g.D.Dram.view c.args.chip.now in
    let from = recorded (g.D.Dram.view c.mark.new.self.dram.now) c.mark.new.self.notes.now in
    let last = c.work_to_image.new.chip in
    let after = g.F.Folder.view c.work_to_image.new.files in
    let sent = g.S.Sink.view c.work_to_image.new.out in
    let worked = c.in_ok-refused.ensures in
    let same : from ≡ record old { log = Some empty_log } =
    c.mark.ensures.shown ∙ ap (λ d. let v : ChipView = record (g.D.Dram.view d)
    { log = Some empty_log } in v) c.new-recorder.ensures.chip in
    let done : FirstDone names script machine files out old from (g.D.Dram.view last.dram.now)
    last.notes.now after sent c.in_ok-refused.refused = record {
      plain = c.requires.plain;
      same = same;
      kept = c.work_to_image.ensures.kept;
      goes = worked.goes;
      did = worked.did;
      count = worked.refused;
    } in
    moved g.D.Dram.view _ last.dram.now (λ v. ScriptRecorded names program script i
    (world files out old) (world after sent v) (Err stop.TraceFull))
    (search rules) (was_full names script machine files out old from (g.D.Dram.view last.dram.now)
    last.notes.now after sent c.in_ok-refused.refused done program i o
    c.table.result.now.pairs (file_on c.spell_trace.new.recorder.notes.now) c.spell_trace.result
    c.if-not-spell_trace.true c.spell_trace.ensures.spelled)

pub returns-then-is_err-clause-recorded : goal.returns-then-is_err-clause-recorded
returns-then-is_err-clause-recorded g c program i o =
    let name = same_name c.work_to_image.new.chip.dram.ghost_name c.mark.new.self.dram.ghost_name
    _ _ c.work_to_image.ensures.borrow in
    let names = c.args.names.now in
    let script = map view_of c.args.script.now in
    let machine = c.args.machine.now in
    let files = g.F.Folder.view c.args.files.now in
    let out = g.S.Sink.view c.args.out.now in
    let old = g.D.Dram.view c.args.chip.now in
    let from = recorded (g.D.Dram.view c.mark.new.self.dram.now) c.mark.new.self.notes.now in
    let last = c.work_to_image.new.chip in
    let after = g.F.Folder.view c.work_to_image.new.files in
    let new = g.F.Folder.view c.store.new.self in
    let sent = g.S.Sink.view c.work_to_image.new.out in
    let worked = c.in_ok-refused.ensures in
    let same : from ≡ record old { log = Some empty_log } =
    c.mark.ensures.shown ∙ ap (λ d. let v : ChipView = record (g.D.Dram.view d)
    { log = Some empty_log } in v) c.new-recorder.ensures.chip in
    let done : FirstDone names script machine files out old from (g.D.Dram.view last.dram.now)
    last.notes.now after sent c.in_ok-refused.refused = record {
      plain = c.requires.plain;
      same = same;
      kept = c.work_to_image.ensures.kept;
      goes = worked.goes;
      did = worked.did;
      count = worked.refused;
    } in
    let file = file_on c.spell_trace.new.recorder.notes.now in
    let rose = at_err c.store.result (sym c.is_err.ensures.value
    ∙ c.if-is_err.true) c.store.ensures.failed in
    moved g.D.Dram.view _ last.dram.now (λ v. ScriptRecorded names program script i
    (world files out old) (world new sent v) (Err (stop.CannotWrite names.trace)))
    (search rules) (trace_unstored names script machine files out old from
    (g.D.Dram.view last.dram.now) last.notes.now after sent c.in_ok-refused.refused done program i o
    c.table.result.now.pairs file c.spell_trace.result new (stop.CannotWrite names.trace)
    c.if-not-spell_trace.false (c.table.ensures.objects ∙ worked.table)
    c.spell_trace.ensures.spelled refl
    (λ view. unstored names.trace.now after new sent view c.store.ensures.others rose
    c.store.ensures.counts))

pub returns-clause-begun : goal.returns-clause-begun
returns-clause-begun g c =
    let name = same_name c.work_to_image.new.chip.dram.ghost_name c.mark.new.self.dram.ghost_name
    _ _ c.work_to_image.ensures.borrow in
    let last = c.work_to_image.new.chip in
    let begun : HasBegun (recorded (g.D.Dram.view last.dram.now) last.notes.now) =
    c.work_to_image.ensures.kept.begun ∙ ap (λ (v : ChipView). v.begun) c.mark.ensures.shown
    ∙ ap (λ d. (g.D.Dram.view d).begun) c.new-recorder.ensures.chip ∙ c.requires.begun in
    moved g.D.Dram.view _ last.dram.now HasBegun (search rules)
    (has_begun_below (g.D.Dram.view last.dram.now) last.notes.now begun)

pub returns-clause-recorded : goal.returns-clause-recorded
returns-clause-recorded g c program i o =
    let name = same_name c.work_to_image.new.chip.dram.ghost_name c.mark.new.self.dram.ghost_name
    _ _ c.work_to_image.ensures.borrow in
    let names = c.args.names.now in
    let script = map view_of c.args.script.now in
    let machine = c.args.machine.now in
    let files = g.F.Folder.view c.args.files.now in
    let out = g.S.Sink.view c.args.out.now in
    let old = g.D.Dram.view c.args.chip.now in
    let from = recorded (g.D.Dram.view c.mark.new.self.dram.now) c.mark.new.self.notes.now in
    let last = c.work_to_image.new.chip in
    let after = g.F.Folder.view c.work_to_image.new.files in
    let new = g.F.Folder.view c.store.new.self in
    let sent = g.S.Sink.view c.work_to_image.new.out in
    let worked = c.in_ok-refused.ensures in
    let same : from ≡ record old { log = Some empty_log } =
    c.mark.ensures.shown ∙ ap (λ d. let v : ChipView = record (g.D.Dram.view d)
    { log = Some empty_log } in v) c.new-recorder.ensures.chip in
    let done : FirstDone names script machine files out old from (g.D.Dram.view last.dram.now)
    last.notes.now after sent c.in_ok-refused.refused = record {
      plain = c.requires.plain;
      same = same;
      kept = c.work_to_image.ensures.kept;
      goes = worked.goes;
      did = worked.did;
      count = worked.refused;
    } in
    let file = file_on c.spell_trace.new.recorder.notes.now in
    let there = at_ok c.store.result (sym c.is_err.ensures.value
    ∙ c.if-is_err.false) c.store.ensures.stored in
    moved g.D.Dram.view _ last.dram.now (λ v. ScriptRecorded names program script i
    (world files out old) (world new sent v) (Ok c.in_ok-refused.refused))
    (search rules) (trace_stored names script machine files out old from
    (g.D.Dram.view last.dram.now) last.notes.now after sent c.in_ok-refused.refused done program i o
    c.table.result.now.pairs file c.spell_trace.result new c.if-not-spell_trace.false
    (c.table.ensures.objects ∙ worked.table) c.spell_trace.ensures.spelled
    (λ view. stored names.trace.now file after new sent view c.store.ensures.others
    (rw c.trace_file.ensures at there) c.store.ensures.counts
    (at_ok c.store.result (sym c.is_err.ensures.value ∙ c.if-is_err.false) c.store.ensures.unfailed)))
