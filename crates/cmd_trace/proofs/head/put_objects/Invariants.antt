use Rattle.cmd_trace.proofs.Common.{◌≡◌, ◌*◌, length, take, flat_map, object_bytes}
use Rattle.cmd_trace.specs.Places.{IsPut}
use Rattle.cmd_trace.proofs.head.put_objects.Given as goal

abbrev pub invariant-loop-k : goal.invariant-loop-k
invariant-loop-k l = record {
  put : IsPut l.at (flat_map object_bytes (take l.k l.table.pairs)) l.initial.out l.out;
  len : length (flat_map object_bytes (take l.k l.table.pairs)) ≡ 24 * l.k;
}
