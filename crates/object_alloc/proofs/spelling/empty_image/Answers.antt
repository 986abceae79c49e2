use Rattle.object_alloc.proofs.Common.{◌≡◌, ℕ, ◌*◌, ◌∙◌, arith, vec_len, refl}
use Rattle.object_alloc.specs.Reading.{rows_size}
use Rattle.object_alloc.proofs.Written.{empty_is}
use Rattle.object_alloc.proofs.spelling.empty_image.Goals as goal

pub returns : goal.returns
returns c =
    let g = c.args.g in
    let size : ℕ = 8 * (c.from.result * c.from-2.result * c.from-3.result) in
    let is : 8 * (c.from.result * c.from-2.result * c.from-3.result) ≡ rows_size g =
    rw (c.from.ensures, c.from-2.ensures, c.from-3.ensures) refl in
    c.in_ok-resize.ensures.items ∙ empty_is g c.append.new.out.items (vec_len c.append.new.out) size
    (rw (
      c.append.ensures.items,
      c.put_opening.ensures.items,
      c.in_ok-file.ensures.items,
      c.to_le_bytes.ensures,
    ) refl) (omega (arith, c.in_ok-file.ensures.len)) is
