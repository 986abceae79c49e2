use Rattle.std.proofs.Common.{◌≡◌, ℕ, ◌<◌, arith, not}
use Rattle.std.proofs.lemmas.Simd.{length-put_chunk}
use Rattle.bit_rows.specs.Bits.{bit_at, word_bit}
use Rattle.bit_rows.proofs.WordBits.{eight-more}
use Rattle.bit_rows.proofs.kernels.store_not.Goals as goal

pub loop-dst-preserved : goal.loop-dst-preserved
loop-dst-preserved c = record {
  within = omega (arith, length-put_chunk c.loop-dst.at c.loop-dst.dst c.not_of_eight.result);
  done = eight-more (λ k w. (r : ℕ) → r < 64 → bit_at w r ≡ not (word_bit c.args.src.now k r))
      c.loop-dst.dst c.not_of_eight.result c.loop-dst.at c.not_of_eight.ensures.lanes (omega arith)
      (λ k h r s. c.not_of_eight.ensures.bits k r h s) c.loop-dst.invariant.done;
}

pub returns-clause-bits : goal.returns-clause-bits
returns-clause-bits c = λ q r h s. c.loop-i.invariant q (omega arith) r s
