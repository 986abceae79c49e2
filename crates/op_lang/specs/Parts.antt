-- Parts of a text that may be missing.
use Rattle.std.specs.Prelude.{ℕ, List, [], ◌∷◌, Option, Some, None, codes}
use Rattle.op_text.specs.declared.wanted.Wanted.{Wanted}
use Rattle.op_text.specs.declared.wanted.Wanted.TheVariants as w
use Rattle.op_text.specs.declared.tree.Stmt.{Stmt}
use Rattle.op_text.specs.Language.{statement}
use Rattle.op_text.specs.Spelling.{statement_text}

-- what is wanted after a statement that was read, or after the end of a body
abbrev pub after_statement : Option Stmt → List Wanted
after_statement (Some s) = w.Stmts ∷ []
after_statement None = []

-- the tokens of a statement that was read, or the one that ends a body
abbrev pub statement_or_end : Option Stmt → List (List ℕ) → List (List ℕ)
statement_or_end (Some s) rest = statement_text (statement s) rest
statement_or_end None rest = codes "}" ∷ rest
