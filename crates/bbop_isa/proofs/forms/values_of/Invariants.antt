use Rattle.bbop_isa.proofs.Checked.{ValuesSoFar}
use Rattle.bbop_isa.proofs.forms.values_of.Given as goal

abbrev pub invariant-loop-number : goal.invariant-loop-number
invariant-loop-number l = ValuesSoFar l.numbers l.values.items l.number-index
