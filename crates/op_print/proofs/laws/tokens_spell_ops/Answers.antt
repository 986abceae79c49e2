use Rattle.op_print.proofs.Again.{tokens_spell_ops}
use Rattle.op_print.proofs.laws.tokens_spell_ops.Goals as goal

pub returns : goal.returns
returns c = tokens_spell_ops
