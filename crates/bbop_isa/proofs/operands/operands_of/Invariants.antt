use Rattle.std.proofs.Common.{◌≡◌, ◌≤◌, ◌-◌, map, drop, length}
use Rattle.bbop_isa.specs.Operands.{operands_of, terms_of}
use Rattle.bbop_isa.specs.Words.{word_view}
use Rattle.bbop_isa.specs.Reading.{left_in}
use Rattle.bbop_isa.proofs.operands.operands_of.Given as goal

abbrev pub invariant-loop-at : goal.invariant-loop-at
invariant-loop-at l = record {
  within : l.at ≤ length l.words;
  left : operands_of (map word_view l.words)
      ≡ left_in l.operands (terms_of (map word_view (drop l.at l.words)));
}

abbrev pub decreases-loop-at : goal.decreases-loop-at
decreases-loop-at l = length l.words - l.at
