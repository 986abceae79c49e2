use Rattle.std.proofs.Common.{sym, ◌∙◌}
use Rattle.cmd_trace.specs.Tape.{file_on}
use Rattle.trace_job.proofs.Logs.{not_spelled, spelled_all}
use Rattle.trace_job.proofs.spelling.spell_trace.Goals as goal

pub returns-then-not-is_known-clause-spelled : goal.returns-then-not-is_known-clause-spelled
returns-then-not-is_known-clause-spelled g c =
    let tape = c.args.recorder.now.notes.now in
    not_spelled (g.D.Dram.view c.args.recorder.now.dram.now) tape c.args.table.now.pairs
    (file_on tape) (sym c.is_known.ensures ∙ c.if-not-is_known.true)

pub returns-clause-spelled : goal.returns-clause-spelled
returns-clause-spelled g c =
    spelled_all (g.D.Dram.view c.args.recorder.now.dram.now) c.args.recorder.now.notes.now
    c.args.table.now.pairs (file_on c.spell_file.new.self.notes.now)
    (sym c.is_known.ensures ∙ c.if-not-is_known.false)
    c.spell_file.ensures.file
