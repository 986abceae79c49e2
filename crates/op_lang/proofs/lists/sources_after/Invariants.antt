use Rattle.std.proofs.Common.{length}
use Rattle.op_text.specs.declared.wanted.Wanted.TheVariants as w
use Rattle.op_lang.specs.Reading.{left}
use Rattle.op_lang.proofs.Loops.{HasParts}
use Rattle.op_text.specs.Spelling.{param_text}
use Rattle.op_lang.proofs.lists.sources_after.Given as goal

abbrev pub invariant-loop-params : goal.invariant-loop-params
invariant-loop-params l = HasParts w.Params param_text (param_text l.fn.first (left l.fn.parser))
    l.fn.parser l.params.items l.parser

abbrev pub decreases-loop-params : goal.decreases-loop-params
decreases-loop-params l = length (left l.parser)
