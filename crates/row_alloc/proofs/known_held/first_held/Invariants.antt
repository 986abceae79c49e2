use Rattle.row_alloc.proofs.Common.{◌<◌, ℕ}
use Rattle.row_alloc.specs.Known.{ServesHeld, held_at}
use Rattle.row_alloc.proofs.known_held.first_held.Given as goal

-- none of the sequences so far serves
abbrev pub invariant-loop-k : goal.invariant-loop-k
invariant-loop-k l = (i : ℕ) → i < l.k → ServesHeld l.m l.outs l.enter l.leave (held_at i) → ⊥
