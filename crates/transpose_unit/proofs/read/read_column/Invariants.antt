use Rattle.transpose_unit.proofs.Common.{◌≡◌, ◌-◌, ◌<◌, ◌^◌, map, range_with_len, value, bit_in}
use Rattle.transpose_unit.proofs.Common.{bits_of_words}
use Rattle.transpose_unit.specs.Stage.{stage_row}
use Rattle.transpose_unit.proofs.read.read_column.Given as goal

-- the number of the bits from k on
abbrev pub invariant-loop-k : goal.invariant-loop-k
invariant-loop-k l = record {
  small : l.v < 2 ^ (l.n - l.k);
  value : l.v ≡ value (map (λ k. bit_in (bits_of_words (stage_row l.words l.stage k)) l.column)
      (range_with_len l.k (l.n - l.k)));
}
