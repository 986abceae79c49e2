use Rattle.std.proofs.Common.{◌≡◌, ◌+◌, ◌≤◌, ℕ, Bool, length}
use Rattle.dram_model.specs.Column.{run}
use Rattle.uprog_code.specs.declared.TheConstants.{WALK_MAX}
use Rattle.uprog_code.specs.Machine.{trace, issues_of}
use Rattle.uprog_code.specs.Bound.{bound, bound_of}
use Rattle.uprog_code.specs.Commands.{commands_from, StandsIn}
use Rattle.bdd.specs.Graphs.{AreNodes, Keeps}
use Rattle.symbolic_column.specs.Symbols.{column_of, AreCells}
use Rattle.symbolic_walk.proofs.walk.symbolic_run.Given as goal

-- the commands that are left do from here what the whole trace does from the start
abbrev pub invariant-loop-k : goal.invariant-loop-k
invariant-loop-k g l =
    let shape = g.F.Fetch.shape l.entry in
    let code = g.F.Fetch.code l.entry in
    let b = l.binding in
    record {
      stands : StandsIn shape code b.n l.walk;
      left : l.walk.left + l.k ≤ WALK_MAX;
      nodes : AreNodes l.diagram.nodes;
      cells : AreCells l.diagram.nodes l.column;
      keeps : Keeps l.fn.diagram.nodes l.diagram.nodes;
      limit : l.diagram.limits ≡ l.fn.diagram.limits;
      rows : length l.column.rows ≡ length l.fn.column.rows;
      does : (bits : ℕ → Bool) → run (commands_from l.rows shape code b l.walk)
          (column_of l.diagram.nodes bits l.column)
          ≡ run (bound l.rows shape b.n (bound_of b) (issues_of (trace shape code b.n)))
          (column_of l.fn.diagram.nodes bits l.fn.column);
    }
