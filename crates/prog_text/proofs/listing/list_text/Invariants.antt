use Rattle.std.proofs.Common.{◌≡◌, ◌++◌, drop}
use Rattle.prog_text.specs.Listing.{listing}
use Rattle.prog_text.proofs.listing.list_text.Given as goal

-- what was written, with the entries that are left, is all
abbrev pub invariant-loop-k : goal.invariant-loop-k
invariant-loop-k l = l.out.items ++ listing (drop l.k l.prog.programs) ≡ listing l.prog.programs
