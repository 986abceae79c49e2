use Rattle.soak_job.proofs.Common.{◌≡◌, ◌+◌, ◌*◌, ◌≤◌, ◌++◌, length, drop}
use Rattle.soak_job.specs.Layout.{bases_from, source_row_count}
use Rattle.soak_job.proofs.chip.bases_of.Given as goal

-- the bases so far, and those of the other sources
abbrev pub invariant-loop-kind : goal.invariant-loop-kind
invariant-loop-kind l =
    let rest = drop l.kind-index l.kinds in
    record {
      bases : bases_from 0 l.fn.n l.kinds ≡ l.bases.items ++ bases_from l.row l.fn.n rest;
      rows : l.row + source_row_count l.fn.n rest ≡ source_row_count l.fn.n l.kinds;
      many : length l.bases.items ≡ l.kind-index;
      within : l.row ≤ 255 * l.kind-index;
    }
