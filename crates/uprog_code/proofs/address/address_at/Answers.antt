use Rattle.std.proofs.Common.{◌∙◌}
use Rattle.std.specs.Prelude.{slice_index}
use Rattle.uprog_code.specs.Shape.{shape_of}
use Rattle.uprog_code.specs.Bound.{bound_of}
use Rattle.uprog_code.proofs.Seek.{placed_address, placed_good}
use Rattle.uprog_code.proofs.address.address_at.Goals as goal

pub address_of-requires-clause-good : goal.address_of-requires-clause-good
address_of-requires-clause-good c =
    let r = c.args.row.now in
    rw c.register_value.ensures
    (placed_good (shape_of c.args.head.now) c.args.binding.now.n r.space r.which
    (slice_index c.args.regs.now r.index) ∙ c.requires.good)

pub returns : goal.returns
returns c =
    let r = c.args.row.now in
    rw c.register_value.ensures at c.address_of.ensures
    ∙ placed_address c.args.rows (shape_of c.args.head.now) c.args.binding.now.n
    (bound_of c.args.binding.now) r.space r.which (slice_index c.args.regs.now r.index)
