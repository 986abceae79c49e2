use Rattle.op_lang.proofs.Common.{[], ◌∷◌, sym}
use Rattle.op_text.specs.declared.wanted.Wanted.TheVariants as w
use Rattle.op_lang.specs.Pieces.{after_line}
use Rattle.op_lang.proofs.Taking.{exits}
use Rattle.op_lang.proofs.Single.{let_took, target_took}
use Rattle.op_lang.proofs.pieces.line_start.Goals as goal

pub returns-in_err-token-clause-moves : goal.returns-in_err-token-clause-moves
returns-in_err-token-clause-moves c = exits (w.Lets ∷ []) _ _ _ after_line _
    c.from_residual.ensures.1 c.in_err-token.ensures

pub returns-then-is_let_word-clause-moves : goal.returns-then-is_let_word-clause-moves
returns-then-is_let_word-clause-moves c = λ more. let_took _ _ _ _ (sym c.if-is_let_word.ensures)
    c.in_ok-token.ensures more

pub returns-clause-moves : goal.returns-clause-moves
returns-clause-moves c = λ more. target_took _ _ _ _ (sym c.if-is_let_word.ensures)
    c.in_ok-token.ensures more
