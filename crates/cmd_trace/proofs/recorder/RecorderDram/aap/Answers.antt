use Rattle.cmd_trace.proofs.Common.{Row}
use Rattle.dram_model.specs.declared.address.Command.TheVariants.{Aap}
use Rattle.cmd_trace.proofs.Tapes.{did_recorded, few_kept, same_kept}
use Rattle.cmd_trace.proofs.recorder.RecorderDram.aap.Goals as goal

pub keep_command-requires : goal.keep_command-requires
keep_command-requires g c = few_kept (g.D.Dram.view c.args.self.now.dram.now)
    c.args.self.now.notes.now c.args.bank c.requires.begun c.requires.bank

pub returns-clause-kept : goal.returns-clause-kept
returns-clause-kept g c = (did_recorded (Row c.args.bank (Aap c.args.x c.args.y))
    (g.D.Dram.view c.args.self.now.dram.now) (g.D.Dram.view c.aap.new.self)
    c.args.self.now.notes.now c.keep_command.new.self c.requires.begun
    (c.requires.bank, c.requires.legal) c.in_ok-aap.ensures.kept c.in_ok-aap.ensures.did
    c.keep_command.ensures).kept

pub returns-clause-did : goal.returns-clause-did
returns-clause-did g c = (did_recorded (Row c.args.bank (Aap c.args.x c.args.y))
    (g.D.Dram.view c.args.self.now.dram.now) (g.D.Dram.view c.aap.new.self)
    c.args.self.now.notes.now c.keep_command.new.self c.requires.begun
    (c.requires.bank, c.requires.legal) c.in_ok-aap.ensures.kept c.in_ok-aap.ensures.did
    c.keep_command.ensures).did

pub returns-in_err-aap-clause-kept : goal.returns-in_err-aap-clause-kept
returns-in_err-aap-clause-kept g c = same_kept (g.D.Dram.view c.args.self.now.dram.now)
    (g.D.Dram.view c.aap.new.self) c.args.self.now.notes.now c.in_err-aap.ensures.kept
