use Rattle.sim_machine.proofs.Common.{bytes_eq, program_of}
use Rattle.sim_machine.proofs.Entries.{found_there, none_there}
use Rattle.sim_machine.proofs.walks.entry_named.Goals as goal

pub returns-in-Some-clause-value : goal.returns-in-Some-clause-value
returns-in-Some-clause-value c =
    found_there (λ m. bytes_eq m.name c.args.op.now) c.args.prog.now.programs c.in-Some.at
    (program_of c.entry.result) c.in-Some.ensures c.entry.ensures.program

pub returns-in-None-clause-value : goal.returns-in-None-clause-value
returns-in-None-clause-value c =
    none_there (λ m. bytes_eq m.name c.args.op.now) c.args.prog.now.programs c.in-None.ensures
