use Rattle.width_entry.proofs.Common.{◌≡◌, take}
use Rattle.width_entry.specs.Lines.{issues}
use Rattle.width_entry.specs.Code.{line_code}
use Rattle.width_entry.proofs.code.line_code.Given as goal

-- the instructions are those of the first commands
abbrev pub invariant-loop-issued : goal.invariant-loop-issued
invariant-loop-issued l = l.code.items ≡ line_code (issues (take l.issued-index l.line))
