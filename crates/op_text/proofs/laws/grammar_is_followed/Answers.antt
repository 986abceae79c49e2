use Rattle.op_text.proofs.Complete.{grammar}
use Rattle.op_text.proofs.laws.grammar_is_followed.Goals as goal

pub returns : goal.returns
returns c = grammar
