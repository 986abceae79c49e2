use Rattle.std.proofs.Common.{length, ◌≡◌, [], ◌∷◌, true}
use Rattle.op_text.specs.declared.wanted.Wanted.TheVariants as w
use Rattle.op_lang.specs.Reading.{left}
use Rattle.op_lang.proofs.Loops.{HasTurns}
use Rattle.op_text.specs.Spelling.{statement_text}
use Rattle.op_text.specs.Language.{statement}
use Rattle.op_lang.specs.Pieces.{is_statement}
use Rattle.op_lang.proofs.statements.body.Given as goal

abbrev pub invariant-loop-all : goal.invariant-loop-all
invariant-loop-all l = record {
  is : is_statement l.wanted ≡ true;
  read : HasTurns (w.FirstStmt ∷ []) l.wanted statement_text statement (left l.fn.parser)
      l.fn.parser l.all.items l.parser;
}

abbrev pub decreases-loop-all : goal.decreases-loop-all
decreases-loop-all l = length (left l.parser)
