use Rattle.std.proofs.Common.{◌+◌, ◌*◌, ◌≤◌, length}
use Rattle.bbop_isa.proofs.script.long_lines.Given as goal

abbrev pub invariant-lines : goal.invariant-lines
invariant-lines l = 7 * l.count + length l.rest ≤ length l.text

abbrev pub decreases-lines : goal.decreases-lines
decreases-lines l = length l.rest
