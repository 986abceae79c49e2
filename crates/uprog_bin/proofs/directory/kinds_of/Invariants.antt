use Rattle.uprog_bin.proofs.Common.{◌≡◌, ◌-◌, ◌++◌, array_vec_len}
use Rattle.uprog_bin.specs.Reading.{kinds_of}
use Rattle.uprog_bin.proofs.directory.kinds_of.Given as goal

-- the kinds so far, with those of the bits that are left
abbrev pub invariant-loop-k : goal.invariant-loop-k
invariant-loop-k l = record {
  len : array_vec_len l.kinds ≡ l._k;
  so_far : l.kinds.items ++ kinds_of (l.count - l._k) l.rest ≡ kinds_of l.count l.bits;
}
