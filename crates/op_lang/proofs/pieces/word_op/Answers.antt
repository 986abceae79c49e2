use Rattle.op_lang.proofs.Common.{[], ◌∷◌, ◌∙◌, sym, ap}
use Rattle.op_text.specs.declared.wanted.Wanted.TheVariants as w
use Rattle.op_lang.proofs.Taking.{exits, took_left}
use Rattle.op_text.proofs.Rows.{op_spelled}
use Rattle.op_lang.proofs.Single.{word_op_took, word_op_follows}
use Rattle.op_lang.specs.Reading.{left}
use Rattle.op_lang.proofs.pieces.word_op.Goals as goal

pub returns-in_err-token-clause-moves : goal.returns-in_err-token-clause-moves
returns-in_err-token-clause-moves c = exits (w.WordOpName ∷ []) _ _ _ (λ x.
    []) _ c.from_residual.ensures.1 c.in_err-token.ensures

pub unreachable-requires : goal.unreachable-requires
unreachable-requires c =
    let k = c.in_ok-token.ensures in
    (word_op_follows _ _ _ _ _ k.allowed k.rules).1 (sym c.in-None.ensures)

pub returns-clause-moves : goal.returns-clause-moves
returns-clause-moves c = λ more. word_op_took _ _ _ _ c.in_ok-token.ensures more

pub returns-clause-spells : goal.returns-clause-spells
returns-clause-spells c = took_left _ _ _ _ _ c.in_ok-token.ensures
    ∙ ap (λ x. x ∷ left c.take.new.self) (op_spelled _ _ (sym c.in-Some.ensures))
