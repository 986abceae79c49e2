use Rattle.tmr_guard.proofs.Common.{arith}
use Rattle.tmr_guard.proofs.Read.{refused_has_byte}
use Rattle.tmr_guard.proofs.texts.parse_flips.Goals as goal

pub overflow_cast-line : goal.overflow_cast-line
overflow_cast-line c =
    let byte = refused_has_byte c.args.g c.args.instrs c.lines.before c.split_line.result.0.now
    c.in-Err-Bad.kind (rw c.in-Err-Bad.field-0-is at c.in-Err-Bad.ensures) in
    omega (arith, byte, c.split_line.ensures.within, c.lines.invariant.place, c.requires.text)
