use Rattle.std.proofs.Common.{take}
use Rattle.op_text.specs.Language.{equation}
use Rattle.op_text.specs.Spelling.{Each, HasEquation}
use Rattle.op_text.proofs.names.see_assigns.Given as goal

abbrev pub invariant-loop-assign : goal.invariant-loop-assign
invariant-loop-assign l = Each (λ x. HasEquation (equation x)) (take l.assign-index l.assigns)
