use Rattle.std.proofs.Common.{length}
use Rattle.op_text.specs.declared.wanted.Wanted.TheVariants as w
use Rattle.op_lang.specs.Reading.{left}
use Rattle.op_lang.proofs.Loops.{HasParts}
use Rattle.op_text.specs.Spelling.{state_text}
use Rattle.op_lang.proofs.lists.states_after.Given as goal

abbrev pub invariant-loop-states : goal.invariant-loop-states
invariant-loop-states l = HasParts w.MoreStates state_text
    (state_text l.fn.first (left l.fn.parser)) l.fn.parser l.states.items l.parser

abbrev pub decreases-loop-states : goal.decreases-loop-states
decreases-loop-states l = length (left l.parser)
