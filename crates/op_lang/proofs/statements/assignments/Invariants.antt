use Rattle.std.proofs.Common.{length, [], ◌∷◌}
use Rattle.op_text.specs.declared.wanted.Wanted.TheVariants as w
use Rattle.op_lang.specs.Reading.{left}
use Rattle.op_lang.proofs.Loops.{HasTurns}
use Rattle.op_text.specs.Spelling.{equation_text}
use Rattle.op_text.specs.Language.{equation}
use Rattle.op_lang.proofs.statements.assignments.Given as goal

abbrev pub invariant-loop-all : goal.invariant-loop-all
invariant-loop-all l = HasTurns (w.Equals ∷ w.Value ∷ w.AssignEnd ∷ w.Assigns
    ∷ []) w.Assigns equation_text equation (l.fn.target ∷ left l.fn.parser) l.fn.parser l.all.items
    l.parser

abbrev pub decreases-loop-all : goal.decreases-loop-all
decreases-loop-all l = length (left l.parser)
