use Rattle.optimise_job.proofs.Common.{ℕ, ◌<◌, ◌≤◌, ◌≢◌, shape_of, HasEnded, trace}
use Rattle.optimise_job.proofs.offer.long_walk.Given as goal

-- up to the widths so far the walk ends where the entry's does
abbrev pub invariant-loop-k : goal.invariant-loop-k
invariant-loop-k g l = (m : ℕ) → 0 < m → m ≤ l.k → m ≢ l.n
    → HasEnded (trace (g.F.Fetch.shape l.entry) (g.F.Fetch.code l.entry) m)
    → HasEnded (trace (shape_of l.with_line.head) l.with_line.code.items m)
