use Rattle.uprog_bin.proofs.Common.{Some, sym, ap, ◌∙◌, arith, shape_of, Uop}
use Rattle.uprog_bin.proofs.Uops.{length-code, at-code}
use Rattle.uprog_bin.proofs.view.EntryFetch.fetch.Goals as goal

pub uop_at-requires : goal.uop_at-requires
uop_at-requires c = let h = length-code c.self.inside.head.name (shape_of c.self.inside.head)
    c.self.inside.code.now c.args.self.now c.self.view_is in omega (arith, h, c.requires)

pub returns : goal.returns
returns c =
    let h = length-code c.self.inside.head.name (shape_of c.self.inside.head) c.self.inside.code.now
    c.args.self.now c.self.view_is in
    at-code c.self.inside.head.name (shape_of c.self.inside.head) c.self.inside.code.now
    c.args.self.now c.self.view_is c.args.at (omega (arith, h, c.requires))
    ∙ ap (λ (u : Uop). Some u) (sym c.uop_at.ensures)
