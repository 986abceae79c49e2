use Rattle.row_alloc.proofs.OwnRows.{own-apart}
use Rattle.row_alloc.proofs.laws.rows_can_stand_apart.Goals as goal

pub returns : goal.returns
returns c = own-apart
