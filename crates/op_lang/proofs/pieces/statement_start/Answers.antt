use Rattle.op_lang.proofs.Common.{[], ◌∷◌, sym}
use Rattle.op_lang.specs.Pieces.{after_start}
use Rattle.op_lang.proofs.Taking.{exits}
use Rattle.op_lang.proofs.Single.{end_statement_took, serial_took, word_took, word_statement}
use Rattle.op_lang.proofs.Single.{no_none}
use Rattle.op_lang.proofs.pieces.statement_start.Goals as goal

pub returns-in_err-token-clause-moves : goal.returns-in_err-token-clause-moves
returns-in_err-token-clause-moves c = exits (c.args.wanted ∷ []) _ _ _ after_start _
    c.from_residual.ensures.1 c.in_err-token.ensures

pub returns-then-is_finish-clause-moves : goal.returns-then-is_finish-clause-moves
returns-then-is_finish-clause-moves c = λ more. end_statement_took _ _ _ _ _ c.requires
    (sym c.if-is_finish.ensures) c.in_ok-token.ensures more

pub returns-then-is_serial_word-clause-moves : goal.returns-then-is_serial_word-clause-moves
returns-then-is_serial_word-clause-moves c = λ more. serial_took _ _ _ _ _ c.requires
    (sym c.if-is_serial_word.ensures) c.in_ok-token.ensures more

pub unreachable-requires : goal.unreachable-requires
unreachable-requires c =
    let k = c.in_ok-token.ensures in
    no_none _ _ (word_statement c.args.wanted _ _ _ _ _ c.requires (sym c.if-is_finish.ensures)
    (sym c.if-is_serial_word.ensures) k.allowed k.rules).1 c.in-None.ensures

pub returns-clause-moves : goal.returns-clause-moves
returns-clause-moves c = λ more. word_took _ _ _ _ _ c.requires (sym c.if-is_finish.ensures)
    (sym c.if-is_serial_word.ensures) c.in_ok-token.ensures more
