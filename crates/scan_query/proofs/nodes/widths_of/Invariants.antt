use Rattle.scan_query.proofs.Common.{◌≡◌, map, take, length}
use Rattle.scan_query.specs.Queries.{node_of, width_in}
use Rattle.scan_query.proofs.nodes.widths_of.Given as goal

abbrev pub invariant-loop-node : goal.invariant-loop-node
invariant-loop-node l = record {
  few : length l.widths.items ≡ l.node-index;
  widths : l.widths.items ≡ map (width_in l.table.pairs)
      (map node_of (take l.node-index l.nodes));
}
