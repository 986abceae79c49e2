use Rattle.soak_job.proofs.Common.{◌≡◌, drop, Kept}
use Rattle.soak_job.proofs.Loading.{SoFar}
use Rattle.soak_job.proofs.load.load_sources.Given as goal

-- the sources so far were written
abbrev pub invariant-loop-kind : goal.invariant-loop-kind
invariant-loop-kind g l =
    let start = g.D.Dram.view l.fn.chip in
    let now = g.D.Dram.view l.chip in
    record {
      borrow : g.D.Dram.borrow l.chip ≡ g.D.Dram.borrow l.fn.chip;
      kept : Kept start now;
      so_far : SoFar l.n l.kinds (drop l.kind-index l.kinds) l.fn.generator l.generator l.row start
          now;
    }
