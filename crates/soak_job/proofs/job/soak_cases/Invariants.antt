use Rattle.soak_job.proofs.Common.{◌≡◌, ◌*◌, ◌≤◌, ◌^◌, drop, Result, AllByRecursion, FolderView}
use Rattle.soak_job.proofs.Common.{Kept, World, world}
use Rattle.soak_job.specs.declared.job.SoakError.{SoakError}
use Rattle.soak_job.specs.Done.{CanBeDone, CasesGo}
use Rattle.soak_job.proofs.job.soak_cases.Given as goal

-- what the other cases come to is what all come to
abbrev pub invariant-loop-case : goal.invariant-loop-case
invariant-loop-case g l =
    let rest = drop l.case-index l.cases in
    let start = g.D.Dram.view l.fn.chip in
    let now = g.D.Dram.view l.chip in
    record {
      borrow : g.D.Dram.borrow l.chip ≡ g.D.Dram.borrow l.fn.chip;
      kept : Kept start now;
      can : AllByRecursion CanBeDone rest;
      few_aap : now.counters.aap ≤ 2 ^ 28 * l.case-index;
      few_ap : now.counters.ap ≤ 2 ^ 28 * l.case-index;
      few_writes : now.counters.writes ≤ 2 ^ 28 * l.case-index;
      few_reads : now.counters.reads ≤ 2 ^ 28 * l.case-index;
      goes : (files : FolderView) (w : World) (result : Result Unit SoakError)
          → CasesGo l.generator rest (world files (g.S.Sink.view l.out) now) w result
          → CasesGo l.fn.generator l.cases (world files (g.S.Sink.view l.fn.out) start) w result;
    }
