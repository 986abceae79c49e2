use Rattle.row_alloc.proofs.Common.{◌<◌, ℕ}
use Rattle.row_alloc.specs.Known.{Serves, known_at}
use Rattle.row_alloc.proofs.greedy.first_known.Given as goal

-- none of the sequences so far serves
abbrev pub invariant-loop-k : goal.invariant-loop-k
invariant-loop-k l = (i : ℕ) → i < l.k → Serves l.m l.outs (known_at i) → ⊥
