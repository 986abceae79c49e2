use Rattle.op_print.proofs.Again.{printing_is_undone}
use Rattle.op_print.proofs.laws.printing_is_undone.Goals as goal

pub returns : goal.returns
returns c = printing_is_undone
