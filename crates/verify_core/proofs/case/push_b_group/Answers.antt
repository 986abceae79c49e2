use Rattle.verify_core.proofs.Common.{T, Dcc, assigned, column_of}
use Rattle.verify_core.proofs.Ones.{six-ones}
use Rattle.verify_core.proofs.case.push_b_group.Goals as goal

pub returns : goal.returns
returns c =
    six-ones (column_of c.args.diagram.now.nodes (assigned c.args.path.now) c.args.column.now)
    c.args.ones.now.items c.push_one.new.ones.items c.push_one-2.new.ones.items
    c.push_one-3.new.ones.items c.push_one-4.new.ones.items c.push_one-5.new.ones.items
    c.push_one-6.new.ones.items (T 0) (T 1) (T 2) (T 3) (Dcc 0) (Dcc 1) c.in_ok-push_one.ensures
    c.in_ok-push_one-2.ensures c.in_ok-push_one-3.ensures c.in_ok-push_one-4.ensures
    c.in_ok-push_one-5.ensures c.in_ok-push_one-6.ensures
