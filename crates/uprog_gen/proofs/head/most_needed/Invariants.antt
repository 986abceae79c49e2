use Rattle.uprog_gen.proofs.Common.{◌≡◌, map, take, statement, bits_inside, words_inside}
use Rattle.uprog_gen.proofs.Common.{need_inside, greatest}
use Rattle.uprog_gen.proofs.head.most_needed.Given as goal

abbrev pub invariant-loop-s : goal.invariant-loop-s
invariant-loop-s l = record {
  bits : l.most.bits ≡ greatest (map (need_inside bits_inside)
      (map statement (take l.s-index l.body)));
  words : l.most.words ≡ greatest (map (need_inside words_inside)
      (map statement (take l.s-index l.body)));
}
