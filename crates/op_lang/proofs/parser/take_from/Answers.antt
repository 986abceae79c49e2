use Rattle.op_lang.specs.Seen.{seen}
use Rattle.op_lang.proofs.Taking.{due_end, refused_fails, take_exits}
use Rattle.op_lang.proofs.parser.take_from.Goals as goal

pub returns-in-Err : goal.returns-in-Err
returns-in-Err c = due_end c.args.wanted (seen c.args.scope.now) c.args.tokens.now c.in-Err.breach
    c.requires (c.in-Err.ensures.0)

pub returns-in_err-terminal : goal.returns-in_err-terminal
returns-in_err-terminal c =
    take_exits c.args.wanted (record { scope = seen c.args.scope.now; items = c.args.tokens.now }) _
    _ _ c.from_residual.ensures.1
    (refused_fails c.args.wanted (seen c.args.scope.now) c.args.tokens.now c.in-Ok.token
    c.take.new.self c.opens-opened.result _ _ (c.in-Ok.ensures) c.opens-opened.ensures
    (c.in_err-terminal.ensures))
