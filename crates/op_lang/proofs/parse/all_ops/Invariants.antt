use Rattle.std.proofs.Common.{length, [], ◌∷◌}
use Rattle.op_text.specs.declared.wanted.Wanted.TheVariants as w
use Rattle.op_lang.specs.Reading.{left}
use Rattle.op_lang.proofs.Loops.{HasTurns}
use Rattle.op_text.specs.Spelling.{operation_text}
use Rattle.op_text.specs.Language.{operation}
use Rattle.op_lang.proofs.parse.all_ops.Given as goal

abbrev pub invariant-loop-alloc : goal.invariant-loop-alloc
invariant-loop-alloc l = HasTurns (w.Ops ∷ []) w.Ops operation_text operation (left l.fn.parser)
    l.fn.parser l.all.items l.parser

abbrev pub decreases-loop-alloc : goal.decreases-loop-alloc
decreases-loop-alloc l = length (left l.parser)
