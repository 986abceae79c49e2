use Rattle.object_alloc.proofs.Bases.{free_test}
use Rattle.object_alloc.proofs.table.Table.is_free.Goals as goal

pub returns : goal.returns
returns c =
    free_test c.args.self.now c.self.inside.limit c.args.k c.args.base c.self.inside.pairs.items
    c.blocker.result c.is_none.result c.self.view_is c.requires
    (rw c.deref.ensures.value at c.blocker.ensures) c.is_none.ensures
