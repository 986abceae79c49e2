use Rattle.block_lower.proofs.Common.{◌≡◌, take, map}
use Rattle.block_lower.specs.Held.{flow_place}
use Rattle.block_lower.proofs.home.flow_places.Given as goal

abbrev pub invariant-loop-place : goal.invariant-loop-place
invariant-loop-place l = l.flow.items ≡ map flow_place (take l.place-index l.places)
