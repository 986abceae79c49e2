use Rattle.cmd_trace.specs.Widths.{has_begun_below}
use Rattle.cmd_trace.proofs.Tapes.{marked_shows}
use Rattle.cmd_trace.proofs.recorder.Recorder.mark.Goals as goal

pub returns-clause-shown : goal.returns-clause-shown
returns-clause-shown g c =
    let chip = g.D.Dram.view c.args.self.now.dram.now in
    let begun = has_begun_below chip c.args.self.now.notes.now c.requires in
    marked_shows chip c.args.self.now.notes.now c.mark.new.self c.tally-since.result begun
    (g.met.D.Dram.shape c.args.self.now.dram.now begun) c.mark.ensures.tape c.mark.ensures.cut
