use Rattle.tmr_guard.proofs.Common.{refl}
use Rattle.tmr_guard.specs.Steps.{machine_in}
use Rattle.tmr_guard.proofs.Left.{free_failed}
use Rattle.tmr_guard.proofs.guards.Guard.take_back.Goals as goal

pub returns-in-Init-clause-left : goal.returns-in-Init-clause-left
returns-in-Init-clause-left g c =
    free_failed (machine_in c.args.self.now) c.copy_name.result
    (g.D.Dram.view c.args.dram.now).banks (g.D.Dram.view c.done.new.dram).banks
    (c.in-Err.ensures.left refl)
