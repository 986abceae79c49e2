use Rattle.uprog_bin.proofs.Common.{◌≡◌, ◌+◌, ◌-◌, ◌*◌, ◌≤◌, [], length, array_vec_len}
use Rattle.uprog_bin.specs.Reading.{directory_at, listings_of}
use Rattle.uprog_bin.proofs.directory.directory_of.Given as goal

-- the records so far, with those that are left
abbrev pub invariant-loop-k : goal.invariant-loop-k
invariant-loop-k l = record {
  len : array_vec_len l.listed ≡ l._k;
  place : l.at ≡ 8 + 27 * l._k;
  within : l.at ≤ length l.bytes;
  small : l.start ≤ 65535 * l._k;
  so_far : directory_at l.version (l.count - l._k) (listings_of l.listed.items) l.start l.at l.bytes
      ≡ directory_at l.version l.count [] 0 8 l.bytes;
}
