use Rattle.object_alloc.proofs.Least.{free_is_least}
use Rattle.object_alloc.proofs.table.free_is_least.Goals as goal

pub returns : goal.returns
returns c = free_is_least
