use Rattle.scan_query.proofs.Common.{refl, sym, ◌∙◌, view_of}
use Rattle.scan_query.proofs.Failing.{failed_one}
use Rattle.scan_query.proofs.Stopping.{runs_refused}
use Rattle.scan_query.proofs.steps.do_one.Goals as goal

pub returns-in-Ok-Refused-clause-runs : goal.returns-in-Ok-Refused-clause-runs
returns-in-Ok-Refused-clause-runs g c =
    runs_refused (view_of c.args.instr.now) c.args.machine.now c.step.new.self
    (g.D.Dram.view c.args.dram.now) (g.D.Dram.view c.step.new.dram) c.in-Ok-Refused.why
    (sym c.in-Ok-Refused.field-0-is ∙ c.in-Ok-Refused.ensures.reply) c.requires.silent
    c.in-Ok-Refused.ensures.did

pub returns-in-Err-ChipFault-clause-runs : goal.returns-in-Err-ChipFault-clause-runs
returns-in-Err-ChipFault-clause-runs g c =
    failed_one (view_of c.args.instr.now) c.args.machine.now (g.D.Dram.view c.args.dram.now)
    (g.D.Dram.view c.step.new.dram)
    (c.in-Err-ChipFault.ensures.chip_fault (rw c.in-Err-ChipFault.field-0-is refl)).rose
    c.requires.silent
    (c.in-Err-ChipFault.ensures.left (rw c.in-Err-ChipFault.field-0-is refl))
