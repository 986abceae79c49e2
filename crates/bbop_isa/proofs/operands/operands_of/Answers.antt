use Rattle.std.proofs.Common.{map, arith}
use Rattle.bbop_isa.specs.Operands.{operands_of}
use Rattle.bbop_isa.specs.Words.{word_view}
use Rattle.bbop_isa.proofs.Gathered.{nothing_yet}
use Rattle.bbop_isa.proofs.operands.operands_of.Goals as goal

pub loop-at-init : goal.loop-at-init
loop-at-init c = record {
  within = omega arith;
  left = rw (c.new.ensures.items, c.new-2.ensures.items)
      (nothing_yet (operands_of (map word_view c.args.words.now)));
}
