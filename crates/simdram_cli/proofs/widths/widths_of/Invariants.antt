use Rattle.simdram_cli.proofs.Common.{◌≡◌, ◌≤◌, length}
use denote.Text.{Utf8}
use denote.Shadow.{shadow}
use Rattle.simdram_cli.specs.Widths.{parts_of, widths_in}
use Rattle.simdram_cli.proofs.WidthLists.{listed}
use Rattle.simdram_cli.proofs.widths.widths_of.Given as goal

-- what the parts that are left come to, behind the widths before them, is what the word lists
abbrev pub invariant-loop-part : goal.invariant-loop-part
invariant-loop-part l = shadow (Utf8 l.rest) × (length l.widths.items ≤ l.low)
    × (widths_in l.word ≡ listed l.low l.widths.items (parts_of l.rest))

abbrev pub decreases-loop-part : goal.decreases-loop-part
decreases-loop-part l = length l.rest
