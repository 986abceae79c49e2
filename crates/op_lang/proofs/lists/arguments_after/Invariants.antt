use Rattle.std.proofs.Common.{length}
use Rattle.op_text.specs.declared.wanted.Wanted.TheVariants as w
use Rattle.op_lang.specs.Reading.{left}
use Rattle.op_lang.proofs.Loops.{HasParts}
use Rattle.op_text.specs.Spelling.{name_text}
use Rattle.op_lang.proofs.lists.arguments_after.Given as goal

abbrev pub invariant-loop-names : goal.invariant-loop-names
invariant-loop-names l = HasParts w.MoreArgs name_text (name_text l.fn.first (left l.fn.parser))
    l.fn.parser l.names.items l.parser

abbrev pub decreases-loop-names : goal.decreases-loop-names
decreases-loop-names l = length (left l.parser)
