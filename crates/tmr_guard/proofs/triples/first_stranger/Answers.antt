use Rattle.tmr_guard.proofs.Common.{arith, sym, ◌∙◌}
use Rattle.tmr_guard.proofs.Strangers.{three_first, three_second, three_third, three_all}
use Rattle.tmr_guard.proofs.Strangers.{last_first, last_alone, last_second, last_both}
use Rattle.tmr_guard.proofs.triples.first_stranger.Goals as goal
use Rattle.tmr_guard.proofs.triples.first_stranger.Goals.{then-k-len-2-via-then-k-len-2}
use Rattle.tmr_guard.proofs.triples.first_stranger.Goals.{then-k-len-2-via-else-k-len-2+then-not-is_copy-3}

pub returns-then-not-is_first : goal.returns-then-not-is_first
returns-then-not-is_first c =
    three_first c.args.t.now.pairs c.loop-k.k c.at-x.result _
    (omega (arith, c.loop-k-test.true, c.len-len.ensures.value)) c.at-x.ensures
    (sym c.is_first.ensures ∙ c.if-not-is_first.true) c.loop-k.invariant.left

pub returns-then-not-is_copy : goal.returns-then-not-is_copy
returns-then-not-is_copy c =
    three_second c.args.t.now.pairs c.loop-k.k c.at-x.result c.at.result _
    (omega (arith, c.loop-k-test.true, c.len-len.ensures.value)) c.at-x.ensures c.at.ensures
    (sym c.is_first.ensures ∙ c.if-not-is_first.false) (sym c.is_copy.ensures
    ∙ c.if-not-is_copy.true) c.loop-k.invariant.left

pub returns-then-not-is_copy-2 : goal.returns-then-not-is_copy-2
returns-then-not-is_copy-2 c =
    three_third c.args.t.now.pairs c.loop-k.k c.at-x.result c.at.result c.at-in-loop-k.result _
    (omega (arith, c.loop-k-test.true, c.len-len.ensures.value)) c.at-x.ensures c.at.ensures
    c.at-in-loop-k.ensures
    (sym c.is_first.ensures ∙ c.if-not-is_first.false) (sym c.is_copy.ensures
    ∙ c.if-not-is_copy.false) (sym c.is_copy-in-loop-k.ensures
    ∙ c.if-not-is_copy-2.true) c.loop-k.invariant.left

pub loop-k-preserved : goal.loop-k-preserved
loop-k-preserved c = record {
  within = omega (arith, c.loop-k-test.true);
  left = three_all c.args.t.now.pairs c.loop-k.k c.at-x.result c.at.result c.at-in-loop-k.result _
      (omega (arith, c.loop-k-test.true, c.len-len.ensures.value)) c.at-x.ensures c.at.ensures
      c.at-in-loop-k.ensures
      (sym c.is_first.ensures ∙ c.if-not-is_first.false) (sym c.is_copy.ensures
      ∙ c.if-not-is_copy.false) (sym c.is_copy-in-loop-k.ensures
      ∙ c.if-not-is_copy-2.false) c.loop-k.invariant.left;
}

pub returns-then-not-is_first-2 : goal.returns-then-not-is_first-2
returns-then-not-is_first-2 c =
    last_first c.args.t.now.pairs c.loop-k.k c.at-x-2.result _
    (omega (arith, c.if-k-len.false, c.loop-k.invariant.within, c.len-len.ensures.value))
    (omega (arith, c.loop-k-test.false, c.len-len.ensures.value)) c.at-x-2.ensures
    (sym c.is_first-2.ensures ∙ c.if-not-is_first-2.true) c.loop-k.invariant.left

pub returns-then-k-len-2 : goal.returns-then-k-len-2
returns-then-k-len-2 c = elim c.then-k-len-2.branch [
  | then-k-len-2-via-then-k-len-2 w ↦ last_alone c.args.t.now.pairs c.loop-k.k c.at-x-2.result _
      (omega (arith, w.if-k-len-2.true, c.len-len.ensures.value)) c.at-x-2.ensures
      (sym c.is_first-2.ensures ∙ c.if-not-is_first-2.false) c.loop-k.invariant.left
  | then-k-len-2-via-else-k-len-2+then-not-is_copy-3 w ↦
      last_second c.args.t.now.pairs c.loop-k.k c.at-x-2.result w.at-else-k-len-2.result _
      (omega (
        arith,
        w.if-k-len-2.false,
        c.if-k-len.false,
        c.loop-k.invariant.within,
        c.loop-k-test.false,
        c.len-len.ensures.value,
      )) c.at-x-2.ensures
      w.at-else-k-len-2.ensures
      (sym c.is_first-2.ensures ∙ c.if-not-is_first-2.false) (sym w.is_copy-else-k-len-2.ensures
      ∙ w.if-not-is_copy-3.true) c.loop-k.invariant.left
]

pub returns : goal.returns
returns c =
    last_both c.args.t.now.pairs c.loop-k.k c.at-x-2.result c.at-else-k-len-2.result _
    (omega (
      arith,
      c.if-k-len-2.false,
      c.if-k-len.false,
      c.loop-k.invariant.within,
      c.loop-k-test.false,
      c.len-len.ensures.value,
    )) c.at-x-2.ensures c.at-else-k-len-2.ensures
    (sym c.is_first-2.ensures ∙ c.if-not-is_first-2.false) (sym c.is_copy-else-k-len-2.ensures
    ∙ c.if-not-is_copy-3.false) c.loop-k.invariant.left
