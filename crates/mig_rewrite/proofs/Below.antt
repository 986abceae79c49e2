-- How many nodes that a merge takes stand below one
use Rattle.mig_rewrite.proofs.Common.{if◌then◌else◌, Option, Some, None, nat_lt}
use Rattle.std.specs.Prelude.{ℕ, ◌+◌}
use Rattle.mig_rewrite.specs.declared.merges.Merge.{Merge}

-- 1 if the number is below k, else 0
abbrev pub one_below : ℕ → ℕ → ℕ
one_below a k = if nat_lt a k then 1 else 0

-- how many inner nodes stand below k
abbrev pub spared_below : Option Merge → ℕ → ℕ
spared_below None k = 0
spared_below (Some m) k = one_below m.first k + one_below m.second k

-- how many merged nodes stand below k
abbrev pub merged_below : Option Merge → ℕ → ℕ
merged_below None k = 0
merged_below (Some m) k = one_below m.node k
