use Rattle.optimise_job.proofs.Common.{◌≡◌, List, map, take, AllByRecursion, microprogram_of}
use Rattle.optimise_job.proofs.Common.{ImplementsAll, TextOp}
use Rattle.optimise_job.specs.Outcomes.{AreOutcomes, lines_of}
use Rattle.optimise_job.proofs.Pushed.{HasLegalCode, room_left}
use Rattle.optimise_job.proofs.program.with_lines.Given as goal

-- the outcomes are those of the first entries, what came of them is legal, and so many instructions
-- more are left
abbrev pub invariant-loop-k : goal.invariant-loop-k
invariant-loop-k l = record {
  outcomes : (ops : List TextOp) → ImplementsAll (map microprogram_of l.made.entries.items) ops
      → AreOutcomes l.n l.room ops (take l.k l.prog.programs) (take l.k (lines_of l.lines))
      (map microprogram_of l.entries.items) l.outcomes.items;
  legal : AllByRecursion HasLegalCode (map microprogram_of l.entries.items);
  left : l.left
      ≡ room_left l.room (take l.k l.prog.programs) (map microprogram_of l.entries.items);
}
