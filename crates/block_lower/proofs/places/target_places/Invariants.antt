use Rattle.block_lower.proofs.Common.{◌≡◌, take, map, equation, slots_of, targets_of}
use Rattle.block_lower.specs.Form.{places_of}
use Rattle.block_lower.proofs.places.target_places.Given as goal

abbrev pub invariant-loop-a : goal.invariant-loop-a
invariant-loop-a l = l.places.items ≡ places_of (slots_of l.names) l.down
    (targets_of (map equation (take l.a-index l.assigns)))
