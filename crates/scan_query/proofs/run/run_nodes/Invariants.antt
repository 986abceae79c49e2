use Rattle.scan_query.proofs.Common.{◌≡◌, map, take, drop, AllByRecursion, IsPlain, geometry_of}
use Rattle.scan_query.proofs.Common.{operations_by, table_in, refused_from, count_of, script_from}
use Rattle.scan_query.proofs.Common.{free_name}
use Rattle.scan_query.specs.Queries.{node_of, sources_fit}
use Rattle.scan_query.specs.Running.{Ran, refused_node}
use Rattle.scan_query.proofs.run.run_nodes.Given as goal

-- the nodes before were done, and a refusal is one of those that are left
abbrev pub invariant-nodes : goal.invariant-nodes
invariant-nodes g l =
    let D = g.D.Dram in
    let m = l.initial.machine in
    let start = table_in m in
    let nodes = map node_of l.nodes in
    let names = free_name start in
    let count = count_of start nodes in
    let left = map node_of (drop l.node-index l.nodes) in
    record {
      place : l.k ≡ l.node-index;
      borrow : D.borrow l.dram ≡ D.borrow l.initial.dram;
      sources : AllByRecursion (sources_fit 64) left;
      plain : AllByRecursion IsPlain (script_from start names count l.node-index left);
      refusals : refused_node m nodes ≡ refused_from (geometry_of m) (operations_by m) start
          (table_in l.machine) names count l.node-index left;
      ran : Ran (script_from start names count 0 (map node_of (take l.node-index l.nodes))) m
          l.machine (D.view l.initial.dram) (D.view l.dram);
    }
