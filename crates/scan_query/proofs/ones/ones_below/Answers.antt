use Rattle.scan_query.proofs.Common.{arith}
use Rattle.scan_query.proofs.Counting.{words_counted}
use Rattle.scan_query.proofs.ones.ones_below.Goals as goal

pub words-preserved : goal.words-preserved
words-preserved c = record {
  few = omega (arith, c.words.invariant.few, c.ones_in-found.ensures.few);
  counted = words_counted c.args.columns c.words.word c.args.words.now c.words.found
      c.ones_in-found.result c.bits_left.result
      c.words-test.true c.words.invariant.counted c.bits_left.ensures
      c.ones_in-found.ensures.value;
}
