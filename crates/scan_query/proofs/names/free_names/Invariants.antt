use Rattle.scan_query.proofs.Common.{◌≡◌, take, free_among}
use Rattle.scan_query.proofs.names.free_names.Given as goal

-- the free names among those before
abbrev pub invariant-loop-i : goal.invariant-loop-i
invariant-loop-i l = l.names.items ≡ take 65 (free_among l.table.pairs l.i)
