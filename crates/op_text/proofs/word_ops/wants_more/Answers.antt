use Rattle.op_text.proofs.Operations.{wants_no_fourth}
use Rattle.op_text.proofs.word_ops.wants_more.Goals as goal

pub returns-in_default : goal.returns-in_default
returns-in_default c = wants_no_fourth c.signature_of-signature.result _ c.args.given.now
    c.signature_of-signature.ensures c.in_default.len_at_least
