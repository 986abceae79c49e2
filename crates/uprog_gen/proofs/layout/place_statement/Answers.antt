use Rattle.uprog_gen.proofs.Common.{[], ◌∷◌, ap, ◌∙◌, subst, on_ok_weaker, operation, result_names}
use Rattle.uprog_gen.proofs.Common.{second_of, param, result_kind}
use Rattle.uprog_gen.specs.Laying.{Lays}
use Rattle.uprog_gen.proofs.Naming.Placed.{block_lays, lays_then}
use Rattle.uprog_gen.proofs.layout.place_statement.Goals as goal

pub returns-in_ok-place_states-in-Serial : goal.returns-in_ok-place_states-in-Serial
returns-in_ok-place_states-in-Serial c =
    let b = c.in-Serial in
    rw b.is
    (on_ok_weaker c.place_words.result
    (λ h known k. block_lays (result_names (operation c.args.owner.now)) b.down b.states.items
    b.lets.items b.assigns.items c.args.names.now c.place_states.new.names c.place_words.new.names
    (rw c.deref-in-Serial.ensures.value at c.in_ok-place_states-in-Serial.ensures)
    (rw (c.deref-in-Serial-2.ensures.value, c.deref-in-Serial-3.ensures.value) at h) known)
    c.place_words.ensures)

pub returns-in_ok-place-in-Word : goal.returns-in_ok-place-in-Word
returns-in_ok-place-in-Word c =
    let b = c.in-Word in
    let results = result_names (operation c.args.owner.now) in
    rw b.is
    (on_ok_weaker c.place_second.result
    (λ h known k.
    subst (λ j. Lays results (param b.dst j ∷ second_of b.second b.op) c.args.names.now
    c.place_second.new.names) (c.kind_given-kind.ensures known k
    ∙ ap (result_kind known b.op) c.deref.ensures.value)
    (lays_then results (param b.dst c.kind_given-kind.result ∷ []) (second_of b.second b.op)
    c.args.names.now c.place.new.names c.place_second.new.names c.in_ok-place-in-Word.ensures h))
    c.place_second.ensures)
