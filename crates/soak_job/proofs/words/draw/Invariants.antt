use Rattle.soak_job.proofs.Common.{◌≡◌, take, map, length, range_with_len}
use Rattle.soak_job.specs.Words.{following, elements, value_at}
use Rattle.soak_job.proofs.words.draw.Given as goal

-- the values so far
abbrev pub invariant-loop-i : goal.invariant-loop-i
invariant-loop-i l = record {
  len : length l.values ≡ elements;
  front : take l.i l.values ≡ map (value_at l.fn.generator l.fn.bits) (range_with_len 0 l.i);
  state : l.generator ≡ following l.fn.generator l.i;
}
