use Rattle.block_lower.proofs.Common.{◌≡◌, take, slots_of}
use Rattle.block_lower.specs.Form.{places_of}
use Rattle.block_lower.proofs.places.places_of.Given as goal

abbrev pub invariant-loop-name : goal.invariant-loop-name
invariant-loop-name l = l.places.items ≡ places_of (slots_of l.names) l.down
    (take l.name-index l.listed)
