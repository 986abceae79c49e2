use Rattle.op_text.proofs.Operations.{takes_no_fourth}
use Rattle.op_text.proofs.word_ops.may_take.Goals as goal

pub returns-in_default : goal.returns-in_default
returns-in_default c = takes_no_fourth c.signature_of-signature.result _ c.args.given.now
    c.args.kind
    c.signature_of-signature.ensures c.in_default.len_at_least
