-- What an accepted script adds has a name.
use Rattle.guard_model.proofs.Common.{List, [], ◌∷◌, AllByRecursion, Instruction, Init, Bbop, Load}
use Rattle.guard_model.proofs.Common.{Fill, Print, Free, Order}
use Rattle.bbop_isa.specs.Laws.{IsRight}
use Rattle.machine_model.proofs.Accepted.{accepted_is_right}
use Rattle.guard_model.specs.Laws.{HasName, AcceptedHasNames}

right_has_name : (i : Instruction) → IsRight i → HasName i
right_has_name (Init name count n) r = r.0
right_has_name (Bbop op dst srcs count n) r = tt
right_has_name (Load place values) r = tt
right_has_name (Fill place v) r = tt
right_has_name (Print place) r = tt
right_has_name (Free name) r = tt
right_has_name (Order order) r = tt

all_have : (script : List Instruction) → AllByRecursion IsRight script
    → AllByRecursion HasName script
all_have [] all = tt
all_have (i ∷ script) all = (right_has_name i all.0, all_have script all.1)

-- what an accepted script adds has a name
pub accepted_has_names : AcceptedHasNames
accepted_has_names text script e = all_have script (accepted_is_right text script e)
