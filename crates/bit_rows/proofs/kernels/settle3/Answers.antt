use Rattle.std.proofs.Common.{◌≡◌, ℕ, ◌+◌, ◌≤◌, ◌<◌, ◌∙◌, sym, ap, arith, get_or, List, length}
use Rattle.std.proofs.lemmas.Simd.{length-put_chunk}
use Rattle.std.proofs.lemmas.List.{ext_get_or}
use lib.Lanes.{put_chunk}
use Rattle.bit_rows.specs.Bits.{bit_at, majority_word}
use Rattle.bit_rows.proofs.WordBits.{majority-bit, eight-more, eight-above, same-majority}
use Rattle.bit_rows.proofs.kernels.settle3.Goals as goal

-- eight majorities more in one of the three rows
more : (a b c x y z row m : List ℕ) (at : ℕ) → length m ≡ 8 → at + 8 ≤ length row
    → ((k : ℕ) → k < 8 → get_or m k 0 ≡ majority_word (get_or x (at + k) 0) (get_or y (at + k) 0)
    (get_or z (at + k) 0))
    → ((k : ℕ) → at ≤ k → get_or x k 0 ≡ get_or a k 0)
    → ((k : ℕ) → at ≤ k → get_or y k 0 ≡ get_or b k 0)
    → ((k : ℕ) → at ≤ k → get_or z k 0 ≡ get_or c k 0)
    → ((k : ℕ) → k < at → get_or row k 0 ≡ majority_word (get_or a k 0) (get_or b k 0)
    (get_or c k 0))
    → (k : ℕ) → k < at + 8 → get_or (put_chunk at row m) k 0
    ≡ majority_word (get_or a k 0) (get_or b k 0) (get_or c k 0)
more a b c x y z row m at e l words p q r done = eight-more (λ k w.
    w ≡ majority_word (get_or a k 0) (get_or b k 0) (get_or c k 0)) row m at e l
    (λ k h. words k h ∙ same-majority x y z a b c (at + k) (p (at + k) (omega arith))
    (q (at + k) (omega arith)) (r (at + k) (omega arith))) done

pub loop-a-preserved : goal.loop-a-preserved
loop-a-preserved c =
    let kept = c.loop-a.invariant in
    let m = c.majority_of_eight-m.result in
    let at = c.loop-a.at in
    let lanes = c.majority_of_eight-m.ensures.lanes in
    let words = c.majority_of_eight-m.ensures.words in
    record {
      within = omega (arith, length-put_chunk at c.loop-a.a m);
      a_done = more c.args.a.now c.args.b.now c.args.c.now c.loop-a.a c.loop-a.b c.loop-a.c
          c.loop-a.a m at lanes (omega arith) words kept.a_left kept.b_left kept.c_left kept.a_done;
      b_done = more c.args.a.now c.args.b.now c.args.c.now c.loop-a.a c.loop-a.b c.loop-a.c
          c.loop-a.b m at lanes (omega arith) words kept.a_left kept.b_left kept.c_left kept.b_done;
      c_done = more c.args.a.now c.args.b.now c.args.c.now c.loop-a.a c.loop-a.b c.loop-a.c
          c.loop-a.c m at lanes (omega arith) words kept.a_left kept.b_left kept.c_left kept.c_done;
      a_left = eight-above c.loop-a.a m c.args.a.now at lanes kept.a_left;
      b_left = eight-above c.loop-a.b m c.args.b.now at lanes kept.b_left;
      c_left = eight-above c.loop-a.c m c.args.c.now at lanes kept.c_left;
    }

pub returns-clause-bits : goal.returns-clause-bits
returns-clause-bits c = λ q r h.
    ap (λ w. bit_at w r) (c.loop-i.invariant.a_done q (omega arith))
    ∙ majority-bit (get_or c.args.a.now q 0) (get_or c.args.b.now q 0) (get_or c.args.c.now q 0) r

pub returns-clause-b_same : goal.returns-clause-b_same
returns-clause-b_same c = ext_get_or 0 c.loop-i.b c.loop-i.a (omega arith) (λ k l.
    c.loop-i.invariant.b_done k (omega arith) ∙ sym (c.loop-i.invariant.a_done k (omega arith)))

pub returns-clause-c_same : goal.returns-clause-c_same
returns-clause-c_same c = ext_get_or 0 c.loop-i.c c.loop-i.a (omega arith) (λ k l.
    c.loop-i.invariant.c_done k (omega arith) ∙ sym (c.loop-i.invariant.a_done k (omega arith)))
