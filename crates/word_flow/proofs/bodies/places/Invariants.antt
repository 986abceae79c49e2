use Rattle.word_flow.proofs.Common.{◌≡◌, map, take, place_on, mark_of, slot_at}
use Rattle.word_flow.proofs.bodies.places.Given as goal

-- the places so far
abbrev pub invariant-loop-mark : goal.invariant-loop-mark
invariant-loop-mark l = l.all.items
    ≡ map (place_on (slot_at l.owners)) (map mark_of (take l.mark-index l.marks))
