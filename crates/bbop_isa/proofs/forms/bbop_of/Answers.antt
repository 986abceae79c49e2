use Rattle.std.proofs.Common.{refl, ◌∙◌}
use Rattle.bbop_isa.proofs.Checked.{bbop_read}
use Rattle.bbop_isa.proofs.forms.bbop_of.Goals as goal

pub returns-in-Some-sizes_of : goal.returns-in-Some-sizes_of
returns-in-Some-sizes_of c =
    let t = c.in-Some.ensures in
    let s = c.in-Some-targets_of.ensures in
    let z = c.in-Some-sizes_of.ensures in
    bbop_read c.args.op.now c.args.places.now c.in-Some.srcs.now c.in-Some.dst.now
    c.args.numbers.now c.in-Some-pair.count.now c.in-Some-pair.n.now t.0 t.1 t.2
    c.in-Some-pair.ensures
    ∙ rw (c.in-Some-op_of.ensures.0, c.in-Some-op_of.ensures.1, s.0, s.1, s.2, z.0, z.1, z.2) refl

pub returns-in-None : goal.returns-in-None
returns-in-None c =
    let t = c.in-Some.ensures in
    let s = c.in-Some-targets_of.ensures in
    bbop_read c.args.op.now c.args.places.now c.in-Some.srcs.now c.in-Some.dst.now
    c.args.numbers.now c.in-Some-pair.count.now c.in-Some-pair.n.now t.0 t.1 t.2
    c.in-Some-pair.ensures
    ∙ rw (c.in-Some-op_of.ensures.0, s.0, c.in-None.ensures) refl
