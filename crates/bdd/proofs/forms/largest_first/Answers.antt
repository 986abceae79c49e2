use Rattle.std.proofs.Common.{sym}
use Rattle.bdd.specs.Edges.{edge_value}
use Rattle.bdd.proofs.Walking.{majority-turns}
use Rattle.bdd.proofs.forms.largest_first.Goals as goal

pub returns-then-b-a-clause-value : goal.returns-then-b-a-clause-value
returns-then-b-a-clause-value c = λ v. majority-turns (edge_value v c.args.a)
    (edge_value v c.args.b) (edge_value v c.args.c)

pub returns-else-b-a-clause-value : goal.returns-else-b-a-clause-value
returns-else-b-a-clause-value c = λ v. sym (majority-turns (edge_value v c.args.c)
    (edge_value v c.args.a) (edge_value v c.args.b))
