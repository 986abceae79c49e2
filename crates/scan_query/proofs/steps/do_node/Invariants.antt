use Rattle.scan_query.proofs.Common.{◌≡◌, take}
use Rattle.scan_query.specs.Queries.{instructions_for, names_in, node_of}
use Rattle.scan_query.specs.Running.{Ran}
use Rattle.scan_query.proofs.steps.do_node.Given as goal

-- the instructions before were done
abbrev pub invariant-instrs : goal.invariant-instrs
invariant-instrs g l =
    let D = g.D.Dram in
    let script = instructions_for (names_in l.names) l.size.count l.size.width l.k
    (node_of l.node) in
    record {
      borrow : D.borrow l.dram ≡ D.borrow l.initial.dram;
      ran : Ran (take l.i script) l.initial.machine l.machine (D.view l.initial.dram)
          (D.view l.dram);
    }
