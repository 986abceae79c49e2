use Rattle.std.proofs.Common.{◌≡◌, ◌∙◌, ap, arith, get_or}
use Rattle.std.proofs.lemmas.Simd.{length-put_chunk}
use Rattle.bit_rows.specs.Bits.{bit_at, majority_word}
use Rattle.bit_rows.proofs.WordBits.{majority-bit, eight-more}
use Rattle.bit_rows.proofs.kernels.sense3.Goals as goal

pub loop-out-preserved : goal.loop-out-preserved
loop-out-preserved c = record {
  within = omega (arith, length-put_chunk c.loop-out.at c.loop-out.out c.majority_of_eight.result);
  done = eight-more (λ k w. w ≡ majority_word (get_or c.args.a.now k 0) (get_or c.args.b.now k 0)
      (get_or c.args.c.now k 0)) c.loop-out.out c.majority_of_eight.result c.loop-out.at
      c.majority_of_eight.ensures.lanes (omega arith) c.majority_of_eight.ensures.words
      c.loop-out.invariant.done;
}

pub returns-clause-bits : goal.returns-clause-bits
returns-clause-bits c = λ q r h.
    ap (λ w. bit_at w r) (c.loop-i.invariant q (omega arith))
    ∙ majority-bit (get_or c.args.a.now q 0) (get_or c.args.b.now q 0) (get_or c.args.c.now q 0) r
