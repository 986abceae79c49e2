use Rattle.uprog_gen.proofs.Common.{sym, ap, map, ◌∙◌, take_all, statement, bits_inside}
use Rattle.uprog_gen.proofs.Common.{words_inside, need_inside, greatest}
use Rattle.uprog_gen.proofs.Meaning.Needs.{need_more}
use Rattle.uprog_gen.proofs.head.most_needed.Goals as goal

pub loop-s-preserved : goal.loop-s-preserved
loop-s-preserved c =
    let xs = c.args.body.now in
    let k = c.loop-s.s-index in
    let bits = need_more bits_inside xs k c.s-item.result c.loop-s-test.true c.s-item.is in
    let words = need_more words_inside xs k c.s-item.result c.loop-s-test.true c.s-item.is in
    record {
      bits = c.max.ensures
          ∙ rw (c.loop-s.invariant.bits, c.need_of-own.ensures.bits) (sym bits);
      words = c.max-in-loop-s.ensures
          ∙ rw (c.loop-s.invariant.words, c.need_of-own.ensures.words) (sym words);
    }

pub returns : goal.returns
returns c =
    let all = take_all c.loop-s.s-index c.args.body.now c.loop-s-test.false in
    record {
      bits = c.loop-s.invariant.bits
          ∙ ap (λ l. greatest (map (need_inside bits_inside) (map statement l))) all;
      words = c.loop-s.invariant.words
          ∙ ap (λ l. greatest (map (need_inside words_inside) (map statement l))) all;
    }
