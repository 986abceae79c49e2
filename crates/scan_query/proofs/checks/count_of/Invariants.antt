use Rattle.scan_query.proofs.Common.{◌≡◌, map, drop, count_of}
use Rattle.scan_query.specs.Queries.{node_of}
use Rattle.scan_query.proofs.checks.count_of.Given as goal

-- no comparison stands before
abbrev pub invariant-loop-node : goal.invariant-loop-node
invariant-loop-node l = count_of l.table.pairs (map node_of l.nodes)
    ≡ count_of l.table.pairs (map node_of (drop l.node-index l.nodes))
