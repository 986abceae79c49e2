use Rattle.text_lex.proofs.Gaps.{items_apart}
use Rattle.text_lex.proofs.lexer.items_are_apart.Goals as goal

pub returns : goal.returns
returns c = items_apart
