use Rattle.word_flow.proofs.Common.{◌≡◌, ◌≤◌, map, drop, reverse, length, flow_of, flows_on}
use Rattle.word_flow.proofs.Common.{coded_on}
use Rattle.word_flow.proofs.flows.flow.Given as goal

-- the flows of the lines from one on
abbrev pub invariant-loop-k : goal.invariant-loop-k
invariant-loop-k l = record {
  within : l.k ≤ length l.lines;
  built : map flow_of l.flows.items ≡ reverse (flows_on (coded_on l.owners) (drop l.k l.lines));
}
