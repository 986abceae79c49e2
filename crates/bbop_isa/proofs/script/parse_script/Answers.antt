use Rattle.std.proofs.Common.{arith}
use Rattle.bbop_isa.proofs.Followed.{refused_has_byte}
use Rattle.bbop_isa.proofs.script.parse_script.Goals as goal

pub overflow_cast-line : goal.overflow_cast-line
overflow_cast-line c =
    let byte = refused_has_byte c.split_line.result.0.now c.in-Err-Bad.kind
    (rw c.in-Err-Bad.field-0-is at c.in-Err-Bad.ensures) in
    omega (arith, byte, c.split_line.ensures.within, c.lines.invariant.place, c.requires)
