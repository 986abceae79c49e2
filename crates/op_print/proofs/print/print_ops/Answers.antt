use Rattle.op_print.proofs.Again.{read_back}
use Rattle.op_print.proofs.Short.{short_text}
use Rattle.op_print.proofs.print.print_ops.Goals as goal

pub returns-clause-read : goal.returns-clause-read
returns-clause-read c =
    read_back c.args.ops.now.ops.items c.deref.result.now c.put_ops.new.out.items
    c.new-out.result.items c.deref.ensures.value c.ops_meet.ensures.names c.requires
    c.new-out.ensures.items c.in_ok-put_ops.ensures

pub returns-clause-short : goal.returns-clause-short
returns-clause-short c =
    short_text c.args.ops.now.ops.items c.deref.result.now c.put_ops.new.out.items
    c.new-out.result.items c.deref.ensures.value c.ops_meet.ensures.names
    c.ops_meet.ensures.meets c.new-out.ensures.items c.in_ok-put_ops.ensures
