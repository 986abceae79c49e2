use Rattle.cmd_trace.proofs.Common.{◌∙◌, ◌++◌, ap, to_le_bytes, w32, Geometry, trace_head}
use Rattle.cmd_trace.specs.Tape.{kept_in}
use Rattle.cmd_trace.proofs.Reread.{shows_same}
use Rattle.cmd_trace.proofs.Tapes.{file_of_log}
use Rattle.cmd_trace.proofs.recorder.Recorder.spell_file.Goals as goal

pub returns-clause-shown : goal.returns-clause-shown
returns-clause-shown g c =
    shows_same (g.D.Dram.view c.args.self.now.dram.now) c.args.self.now.notes.now
    c.spell.new.self c.spell.ensures.known c.spell.ensures.count c.spell.ensures.len
    c.spell.ensures.kept

pub returns-clause-file : goal.returns-clause-file
returns-clause-file g c =
    let tape = c.args.self.now.notes.now in
    let table = c.args.table.now.pairs in
    file_of_log (g.D.Dram.view c.args.self.now.dram.now) tape _ table c.requires.begun
    c.requires.known (c.spell.ensures.file
    ∙ ap (λ (x : Geometry). (trace_head x table ++ to_le_bytes w32 tape.count) ++ kept_in tape)
    c.geometry-g.ensures)
