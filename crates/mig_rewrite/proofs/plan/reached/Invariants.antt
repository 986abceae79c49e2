use Rattle.mig_rewrite.proofs.Common.{◌≡◌, ◌<◌, ◌≤◌, ℕ, true, length, size_of, node_numbered}
use Rattle.mig_rewrite.proofs.Common.{lit_at}
use Rattle.mig_rewrite.specs.Plan.{is_marked}
use Rattle.mig_rewrite.specs.Reach.{ReadsMarked, IsReached}
use Rattle.mig_rewrite.proofs.plan.reached.Given as goal

-- the outputs so far are marked
abbrev pub invariant-loop-l : goal.invariant-loop-l
invariant-loop-l l = record {
  long : length l.marks.items ≡ size_of l.m.mig;
  outputs : (j : ℕ) → j < l.l-index → is_marked l.marks.items (lit_at l.m.outs.items j).node ≡ true;
  only : (j : ℕ) → is_marked l.marks.items j ≡ true → IsReached l.m.mig l.m.outs.items j;
}

-- and from node k on, what the marked nodes read
abbrev pub invariant-loop-k : goal.invariant-loop-k
invariant-loop-k l = record {
  long : length l.marks.items ≡ size_of l.m.mig;
  least : l.first ≤ l.k;
  most : l.k ≤ size_of l.m.mig;
  outputs : (j : ℕ) → j < length l.m.outs.items
      → is_marked l.marks.items (lit_at l.m.outs.items j).node ≡ true;
  closed : (j : ℕ) → l.k ≤ j → j < size_of l.m.mig → is_marked l.marks.items j ≡ true
      → ReadsMarked l.marks.items (node_numbered l.m.mig j);
  only : (j : ℕ) → is_marked l.marks.items j ≡ true → IsReached l.m.mig l.m.outs.items j;
}

abbrev pub decreases-loop-k : goal.decreases-loop-k
decreases-loop-k l = l.k
