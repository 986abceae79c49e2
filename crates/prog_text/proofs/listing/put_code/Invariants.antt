use Rattle.std.proofs.Common.{◌≡◌, ◌++◌, drop}
use Rattle.prog_text.specs.Listing.{code_lines}
use Rattle.prog_text.proofs.listing.put_code.Given as goal

-- what was written, with the lines that are left, is all
abbrev pub invariant-loop-place : goal.invariant-loop-place
invariant-loop-place g l =
    l.out.items ++ code_lines l.place (drop l.place (g.F.Fetch.code l.entry))
    ≡ l.initial.out.items ++ code_lines 0 (g.F.Fetch.code l.entry)
