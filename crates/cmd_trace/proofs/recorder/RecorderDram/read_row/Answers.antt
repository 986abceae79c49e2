use Rattle.cmd_trace.proofs.Tapes.{same_kept}
use Rattle.cmd_trace.proofs.recorder.RecorderDram.read_row.Goals as goal

pub returns-clause-kept : goal.returns-clause-kept
returns-clause-kept g c = same_kept (g.D.Dram.view c.args.self.now.dram.now)
    (g.D.Dram.view c.read_row.new.self) c.args.self.now.notes.now c.read_row.ensures.kept
