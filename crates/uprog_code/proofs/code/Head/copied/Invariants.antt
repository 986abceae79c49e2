use Rattle.std.proofs.Common.{◌≡◌, take}
use Rattle.uprog_code.proofs.code.Head.copied.Given as goal

abbrev pub invariant-loop-kind : goal.invariant-loop-kind
invariant-loop-kind l = l.sources.items ≡ take l.kind-index l.kind-items
