use Rattle.std.proofs.Common.{List, map, take}
use Rattle.uprog_code.specs.Shape.{microprogram_of}
use Rattle.uprog_code.specs.Texts.{ImplementsAll, TextOp}
use Rattle.verify_job.specs.Findings.{AreFindings}
use Rattle.verify_job.proofs.finding.verify_all.Given as goal

-- the findings are those of the first ops
abbrev pub invariant-loop-entry : goal.invariant-loop-entry
invariant-loop-entry l = (ops : List TextOp)
    → ImplementsAll (map microprogram_of l.made.entries.items) ops
    → AreFindings l.widths l.prog.programs (take l.entry-index ops) l.found.items
