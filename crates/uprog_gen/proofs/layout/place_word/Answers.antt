use Rattle.uprog_gen.proofs.Common.{◌∙◌, sym, subst, operation, result_names}
use Rattle.std.specs.Prelude.{OnOk}
use Rattle.uprog_gen.specs.Laying.{Lays}
use Rattle.uprog_gen.proofs.Naming.Placed.{lays_none, no_word, a_word}
use Rattle.uprog_gen.proofs.layout.place_word.Goals as goal

pub returns-then-is_state : goal.returns-then-is_state
returns-then-is_state c =
    subst (λ ps. Lays (result_names (operation c.args.owner.now)) ps c.args.names.now
    c.args.names.now)
    (sym (no_word c.args.states.now c.args.assign.now (sym c.is_state.ensures
    ∙ c.if-is_state.true))) (lays_none (result_names (operation c.args.owner.now)) c.args.names.now)

pub returns : goal.returns
returns c =
    subst (λ ps. OnOk c.place.result (Lays (result_names (operation c.args.owner.now)) ps
    c.args.names.now
    c.place.new.names)) (sym (a_word c.args.states.now c.args.assign.now (sym c.is_state.ensures
    ∙ c.if-is_state.false))) c.place.ensures
