use Rattle.uprog_bin.proofs.Common.{sym, arith, shape_of}
use Rattle.uprog_bin.proofs.Uops.{length-code}
use Rattle.uprog_bin.proofs.view.EntryFetch.len.Goals as goal

pub overflow_cast-result : goal.overflow_cast-result
overflow_cast-result c = let h = length-code c.self.inside.head.name (shape_of c.self.inside.head)
    c.self.inside.code.now c.args.self.now c.self.view_is in omega (arith, h, c.requires)

pub returns : goal.returns
returns c =
    sym (length-code c.self.inside.head.name (shape_of c.self.inside.head) c.self.inside.code.now
    c.args.self.now c.self.view_is)
