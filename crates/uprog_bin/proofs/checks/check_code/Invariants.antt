use Rattle.uprog_bin.proofs.Common.{◌≡◌, ◌+◌, ◌-◌, ◌*◌, ◌≤◌, List, length, Uop, shape_of}
use Rattle.uprog_bin.specs.Reading.{uops_at}
use Rattle.uprog_bin.proofs.Codes.{with_front}
use Rattle.uprog_bin.proofs.checks.check_code.Given as goal

-- the instructions so far, with those that are left
abbrev pub invariant-loop-k : goal.invariant-loop-k
invariant-loop-k l = record {
  next : l.place ≡ l.at + 8 * l.k;
  within : l.place ≤ length l.bytes;
  front : List Uop;
  so_far : with_front front (uops_at (l.count - l.k) (shape_of l.head) l.count l.place l.bytes)
      ≡ uops_at l.count (shape_of l.head) l.count l.at l.bytes;
}
