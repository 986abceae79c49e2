use Rattle.std.proofs.Common.{◌∙◌}
use Rattle.op_lang.proofs.Counts.{after_found, after_missed, last_split, state_has, target_has}
use Rattle.op_lang.proofs.Counts.{block_lacks}
use Rattle.op_lang.proofs.scratch.+kinds.Goals as goal

pub kind_after-returns-in-Some : goal.kind_after-returns-in-Some
kind_after-returns-in-Some t c = after_found c.args.params.now c.args.before.now _
    c.last-item.result c.args.name.now c.in-Some.kind
    (last_split c.args.before.now c.last-item.result c.in-len1-up.len_at_least c.last-item.is)
    c.in-Some.ensures

pub kind_after-returns-in-None : goal.kind_after-returns-in-None
kind_after-returns-in-None t c = c.kind_in.ensures
    ∙ after_missed c.args.params.now c.args.before.now _ c.last-item.result c.args.name.now
    (last_split c.args.before.now c.last-item.result c.in-len1-up.len_at_least c.last-item.is)
    c.in-None.ensures

pub kind_in-returns-then-is_state : goal.kind_in-returns-then-is_state
kind_in-returns-then-is_state t c = rw c.in-Serial.is
    (state_has c.in-Serial.states.items c.in-Serial.assigns.items c.args.name.now
    (let h = rw c.deref-in-Serial.ensures.value at c.if-is_state.ensures in h))

pub kind_in-returns-then-is_target : goal.kind_in-returns-then-is_target
kind_in-returns-then-is_target t c = rw c.in-Serial.is
    (target_has c.in-Serial.states.items c.in-Serial.assigns.items c.args.name.now
    (let h = rw c.deref-in-Serial.ensures.value at c.if-is_state.ensures in
    h) (let h = rw c.deref-else-is_state.ensures.value at c.if-is_target.ensures in h))

pub kind_in-returns-else-is_target : goal.kind_in-returns-else-is_target
kind_in-returns-else-is_target t c = rw c.in-Serial.is
    (block_lacks c.in-Serial.states.items c.in-Serial.assigns.items c.args.name.now
    (let h = rw c.deref-in-Serial.ensures.value at c.if-is_state.ensures in
    h) (let h = rw c.deref-else-is_state.ensures.value at c.if-is_target.ensures in h))
