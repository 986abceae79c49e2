use Rattle.scan_query.proofs.Common.{◌≡◌, ◌≤◌, map, drop, checked_from}
use Rattle.scan_query.specs.Queries.{node_of}
use Rattle.scan_query.proofs.checks.check.Given as goal

-- the comparisons before pass
abbrev pub invariant-nodes : goal.invariant-nodes
invariant-nodes l = record {
  few : l.k ≤ l.node-index;
  passed : checked_from l.table.pairs l.count 0 (map node_of l.nodes)
      ≡ checked_from l.table.pairs l.count l.k (map node_of (drop l.node-index l.nodes));
}
