use Rattle.sim_machine.proofs.Common.{sym, program_of}
use Rattle.sim_machine.proofs.walks.WalkedProgram.walk.Goals as goal

pub returns-in-Some-clause-value : goal.returns-in-Some-clause-value
returns-in-Some-clause-value c =
    sym (c.in-Some.ensures.value (program_of c.args.found.now.entry) c.requires.place)
