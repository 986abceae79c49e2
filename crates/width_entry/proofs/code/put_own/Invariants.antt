use Rattle.width_entry.proofs.Common.{◌≡◌, ◌++◌, map, take}
use Rattle.width_entry.specs.Code.{moved_uop}
use Rattle.width_entry.proofs.code.put_own.Given as goal

-- the first instructions are appended
abbrev pub invariant-loop-at : goal.invariant-loop-at
invariant-loop-at g l =
    l.code.items ≡ l.fn.code.items ++ map (moved_uop l.by) (take l.at (g.F.Fetch.code l.entry))
