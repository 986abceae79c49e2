use Rattle.op_text.proofs.Meeting.{meets}
use Rattle.op_lang.proofs.parse.parse_ops.Goals as goal

pub returns-in-Ok-clause-meets : goal.returns-in-Ok-clause-meets
returns-in-Ok-clause-meets c = let r = rw c.new-parser.ensures at c.in-Ok.ensures in
    meets c.args.text.now _ r.0 r.1
