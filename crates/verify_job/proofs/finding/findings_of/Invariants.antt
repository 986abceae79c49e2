use Rattle.std.proofs.Common.{take}
use Rattle.uprog_code.specs.Shape.{microprogram_of}
use Rattle.uprog_code.specs.Texts.{EntryDoes, TextOp}
use Rattle.verify_job.specs.Findings.{AreAtWidths}
use Rattle.verify_job.proofs.finding.findings_of.Given as goal

-- the findings are those at the first widths
abbrev pub invariant-loop-width : goal.invariant-loop-width
invariant-loop-width l = (o : TextOp) → EntryDoes (microprogram_of l.made) o
    → AreAtWidths (take l.width-index l.widths) l.prog.programs o l.at.items
