use Rattle.cmd_trace.proofs.Tapes.{did_written, few_kept, same_kept}
use Rattle.cmd_trace.proofs.recorder.RecorderDram.write_row.Goals as goal

pub keep_write-requires : goal.keep_write-requires
keep_write-requires g c = few_kept (g.D.Dram.view c.args.self.now.dram.now)
    c.args.self.now.notes.now c.args.bank c.requires.begun c.requires.bank

pub returns-clause-kept : goal.returns-clause-kept
returns-clause-kept g c = (did_written c.args.bank c.args.row c.args.words.now
    (g.D.Dram.view c.args.self.now.dram.now) (g.D.Dram.view c.write_row.new.self)
    c.args.self.now.notes.now c.keep_write.new.self c.requires.begun c.requires.bank c.requires.row
    c.requires.words c.in_ok-write_row.ensures.kept c.in_ok-write_row.ensures.did
    c.keep_write.ensures).kept

pub returns-clause-did : goal.returns-clause-did
returns-clause-did g c = (did_written c.args.bank c.args.row c.args.words.now
    (g.D.Dram.view c.args.self.now.dram.now) (g.D.Dram.view c.write_row.new.self)
    c.args.self.now.notes.now c.keep_write.new.self c.requires.begun c.requires.bank c.requires.row
    c.requires.words c.in_ok-write_row.ensures.kept c.in_ok-write_row.ensures.did
    c.keep_write.ensures).did

pub returns-in_err-write_row-clause-kept : goal.returns-in_err-write_row-clause-kept
returns-in_err-write_row-clause-kept g c = same_kept (g.D.Dram.view c.args.self.now.dram.now)
    (g.D.Dram.view c.write_row.new.self) c.args.self.now.notes.now c.in_err-write_row.ensures.kept
