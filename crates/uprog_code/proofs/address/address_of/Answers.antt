use Rattle.std.proofs.Common.{◌≡◌, ◌+◌, ◌<◌, ◌^◌, length, slice_index, true, sym, subst, arith, ℕ}
use Rattle.std.proofs.Common.{List}
use Rattle.uprog_code.specs.declared.code.RowSpace.{RowSpace}
use Rattle.uprog_code.specs.Shape.{shape_of}
use Rattle.uprog_code.specs.Bound.{bound_of}
use Rattle.uprog_code.specs.Issued.{is_issued_in}
use Rattle.uprog_code.proofs.Kept.{source_fits}
use Rattle.uprog_code.proofs.address.address_of.Goals as goal

pub source_row-requires-clause-which : goal.source_row-requires-clause-which
source_row-requires-clause-which c =
    let good = subst (λ (s : RowSpace). is_issued_in (shape_of c.args.head.now) c.args.binding.now.n
    s c.args.place.which c.args.place.index ≡ true) c.in-Source.is c.requires.good in
    let h = source_fits c.args.rows (shape_of c.args.head.now) c.args.binding.now.n
    (bound_of c.args.binding.now) c.requires.fits c.args.place.which c.args.place.index
    good in
    subst (λ (xs : List ℕ). c.args.place.which < length xs) (sym c.as_slice.ensures.value) h.0

pub source_row-requires-clause-room : goal.source_row-requires-clause-room
source_row-requires-clause-room c =
    let good = subst (λ (s : RowSpace). is_issued_in (shape_of c.args.head.now) c.args.binding.now.n
    s c.args.place.which c.args.place.index ≡ true) c.in-Source.is c.requires.good in
    let h = source_fits c.args.rows (shape_of c.args.head.now) c.args.binding.now.n
    (bound_of c.args.binding.now) c.requires.fits c.args.place.which c.args.place.index
    good in
    let l : slice_index (bound_of c.args.binding.now).sources c.args.place.which
    + c.args.place.index < 2 ^ 16 = omega (arith, h.1, c.ranges.rows.fits) in
    subst (λ (xs : List ℕ). slice_index xs c.args.place.which + c.args.place.index
    < 2 ^ 16) (sym c.as_slice.ensures.value) l
