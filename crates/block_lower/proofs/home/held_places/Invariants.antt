use Rattle.block_lower.proofs.Common.{◌≡◌, take, map}
use Rattle.block_lower.specs.Held.{held_place}
use Rattle.block_lower.proofs.home.held_places.Given as goal

abbrev pub invariant-loop-place : goal.invariant-loop-place
invariant-loop-place l = l.held.items
    ≡ map (held_place l.home) (take l.place-index l.places)
