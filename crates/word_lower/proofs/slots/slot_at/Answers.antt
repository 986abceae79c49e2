use Rattle.word_lower.proofs.Common.{ap, ◌∙◌}
use Rattle.word_lower.specs.Places.{slot_at}
use Rattle.word_lower.proofs.Listed.{slot_is, slot_none}
use Rattle.word_lower.proofs.slots.slot_at.Goals as goal

pub returns-then-k-owners : goal.returns-then-k-owners
returns-then-k-owners c = let h = c.if-k-owners in
    slot_is c.args.owners.now c.from-k.result _ c.if-k-owners.true
    ∙ ap (slot_at c.args.owners.now) c.from-k.ensures

pub returns-else-k-owners : goal.returns-else-k-owners
returns-else-k-owners c = slot_none c.args.owners.now c.from-k.result c.if-k-owners.false
    ∙ ap (slot_at c.args.owners.now) c.from-k.ensures
