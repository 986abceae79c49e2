use Rattle.tmr_guard.proofs.Common.{◌≡◌, map, take, place_on}
use Rattle.tmr_guard.proofs.copies.copy_places.Given as goal

abbrev pub invariant-loop-place : goal.invariant-loop-place
invariant-loop-place l = l.copies.items ≡ map (place_on l.letter) (take l.place-index l.places)
