use Rattle.bbop_isa.proofs.Checked.{PlacesSoFar}
use Rattle.bbop_isa.proofs.forms.places_of.Given as goal

abbrev pub invariant-loop-written : goal.invariant-loop-written
invariant-loop-written l = PlacesSoFar l.places l.meant.items l.written-index
