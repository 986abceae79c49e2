use Rattle.std.proofs.Common.{◌≡◌, ◌+◌, ◌-◌, ◌∷◌, ◌++◌, replicate, length}
use Rattle.arrayvec.specs.ArrayVec.{array_vec_len}
use Rattle.file_fields.proofs.names.name_field.Given as goal

abbrev pub invariant-loop-k : goal.invariant-loop-k
invariant-loop-k l = record {
  items : l.field.items ≡ length l.name ∷ l.name ++ replicate (l._k - length l.name) 0;
  len : array_vec_len l.field ≡ 1 + l._k;
}
