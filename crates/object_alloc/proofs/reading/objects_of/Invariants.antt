use Rattle.object_alloc.proofs.Common.{◌≡◌, ◌+◌, ◌-◌, ◌*◌, ◌≤◌, [], length}
use Rattle.object_alloc.specs.Listed.{limit_of}
use Rattle.object_alloc.specs.Reading.{objects_at}
use Rattle.object_alloc.proofs.reading.objects_of.Given as goal

-- the objects so far, and those that are left, are all of them
abbrev pub invariant-loop-k : goal.invariant-loop-k
invariant-loop-k l = record {
  limit : l.table.limit ≡ limit_of l.fn.g;
  len : length l.table.pairs ≡ l._k;
  place : l.place ≡ l.fn.at + 24 * l._k;
  within : l.place ≤ length l.bytes;
  all : objects_at (l.fn.count - l._k) l.fn.g l.table.pairs l.place l.bytes
      ≡ objects_at l.fn.count l.fn.g [] l.fn.at l.bytes;
}
