use Rattle.sim_machine.proofs.Common.{◌≡◌}
use Rattle.sim_machine.proofs.walks.WalkedProgram.learn_all.Given as goal

abbrev pub invariant-loop-instr : goal.invariant-loop-instr
invariant-loop-instr l = l.self ≡ l.fn.self
