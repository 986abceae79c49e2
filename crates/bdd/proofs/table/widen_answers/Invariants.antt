use Rattle.std.proofs.Common.{List}
use Rattle.bdd.specs.declared.Node.{Node}
use Rattle.bdd.specs.Graphs.{AreNodes, AreRight}
use Rattle.bdd.proofs.table.widen_answers.Given as goal

abbrev pub invariant-loop-count : goal.invariant-loop-count
invariant-loop-count l = (nodes : List Node) → AreNodes nodes
    → AreRight nodes l.fn.answers.items → AreRight nodes l.answers.items
