use Rattle.std.proofs.Common.{length, [], ◌∷◌}
use Rattle.op_text.specs.declared.wanted.Wanted.TheVariants as w
use Rattle.op_lang.specs.Reading.{left}
use Rattle.op_lang.proofs.Loops.{HasTurns}
use Rattle.op_text.specs.Spelling.{let_text}
use Rattle.op_text.specs.Language.{equation}
use Rattle.op_lang.proofs.statements.lets.Given as goal

abbrev pub invariant-loop-target : goal.invariant-loop-target
invariant-loop-target l = HasTurns (w.Lets ∷ []) w.Lets let_text equation (left l.fn.parser)
    l.fn.parser l.all.items l.parser

abbrev pub decreases-loop-target : goal.decreases-loop-target
decreases-loop-target l = length (left l.parser)
