use Rattle.sim_machine.proofs.Stepping.{free_done, free_refused}
use Rattle.sim_machine.proofs.steps.free_reply.Goals as goal

pub returns-in-Some : goal.returns-in-Some
returns-in-Some c = λ g operations.
    free_done g operations c.args.table.now.pairs c.args.name.now c.in-Some.field-0
    c.in-Some.ensures

pub returns-in-None : goal.returns-in-None
returns-in-None c = λ g operations.
    free_refused g operations c.args.table.now.pairs c.args.name.now c.in-None.ensures
