use Rattle.std.proofs.Common.{[], ◌∷◌}
use Rattle.op_text.specs.declared.wanted.Wanted.TheVariants as w
use Rattle.op_lang.specs.Parts.{after_statement}
use Rattle.op_lang.proofs.Taking.{exits, fails_along}
use Rattle.op_lang.proofs.statements.one_statement.Goals as goal

pub returns-in_err-statement_start-clause-moves : goal.returns-in_err-statement_start-clause-moves
returns-in_err-statement_start-clause-moves c =
    exits (c.args.wanted ∷ []) _ _ _ after_statement _ c.from_residual.ensures.1
    (λ more. c.in_err-statement_start.ensures.moves (more))

pub returns-in_err-block-in-Serial-clause-moves : goal.returns-in_err-block-in-Serial-clause-moves
returns-in_err-block-in-Serial-clause-moves c =
    exits (c.args.wanted ∷ []) _ _ _ after_statement _
    c.from_residual-in_err-block-in-Serial.ensures.1
    (λ more. fails_along _ (let m = rw c.in-Serial.is at
    (c.in_ok-statement_start.ensures.moves more) in
    m) (c.in_err-block-in-Serial.ensures.moves (w.Stmts ∷ more)))

pub returns-in_err-word-in-Word-clause-moves : goal.returns-in_err-word-in-Word-clause-moves
returns-in_err-word-in-Word-clause-moves c = exits (c.args.wanted ∷ []) _ _ _ after_statement _
    c.from_residual-in_err-word-in-Word.ensures.1
    (λ more. fails_along _ (let m = rw c.in-Word.is at (c.in_ok-statement_start.ensures.moves more)
    in m) (c.in_err-word-in-Word.ensures.moves (w.Stmts ∷ more)))
