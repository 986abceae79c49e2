use Rattle.object_alloc.proofs.Common.{◌≡◌, ◌+◌, ◌*◌, ◌≤◌, ◌++◌, take, vec_len, flat_map}
use Rattle.object_alloc.proofs.Common.{vec_capacity}
use Rattle.object_alloc.specs.Spelling.{object_bytes}
use Rattle.object_alloc.proofs.spelling.put_objects.Given as goal

abbrev pub invariant-loop-k : goal.invariant-loop-k
invariant-loop-k l = record {
  items : l.out.items ≡ l.initial.out.items ++ flat_map object_bytes (take l.k l.table.pairs);
  len : vec_len l.out ≡ vec_len l.initial.out + 24 * l.k;
  room : vec_capacity l.initial.out ≤ vec_capacity l.out;
}
