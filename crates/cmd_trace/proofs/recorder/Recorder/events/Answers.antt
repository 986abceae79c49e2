use Rattle.cmd_trace.proofs.Tapes.{spelled_log}
use Rattle.cmd_trace.proofs.recorder.Recorder.events.Goals as goal

pub returns : goal.returns
returns g c = spelled_log (g.D.Dram.view c.args.self.now.dram.now) c.args.self.now.notes.now
    c.kept.result.now c.requires c.kept.ensures
