use Rattle.tmr_guard.proofs.Common.{◌≡◌, ◌<◌, ◌∙◌, arith, subst, flat_map, range_with_len}
use Rattle.tmr_guard.proofs.Common.{row_events, Did, Kept-more, segments, votes, on_err}
use Rattle.object_steps.proofs.Filled.{next_bank}
use Rattle.tmr_guard.proofs.Stops.{bank_stopped}
use Rattle.tmr_guard.proofs.votes.vote_triple.Goals as goal

pub loop-bank-preserved : goal.loop-bank-preserved
loop-bank-preserved g c =
    let first = g.D.Dram.view c.args.dram.now in
    let now = g.D.Dram.view c.loop-bank.dram in
    let new = g.D.Dram.view c.vote_bank.new.dram in
    let kept = c.loop-bank.invariant in
    record {
      borrow = c.in_ok-vote_bank.ensures.borrow ∙ kept.borrow;
      kept = Kept-more first now new kept.kept c.in_ok-vote_bank.ensures.kept;
      aap = omega (arith, c.in_ok-vote_bank.ensures.aap, c.requires.object.narrow, kept.aap);
      did = next_bank (λ bank. row_events bank
          (votes c.args.x.base c.args.y.base c.args.z.base 0 c.args.x.width)) c.loop-bank.bank
          first now new kept.did c.in_ok-vote_bank.ensures.did;
    }

pub returns-clause-did : goal.returns-clause-did
returns-clause-did g c =
    let V = g.D.Dram.view in
    let e : c.loop-bank.bank ≡ segments c.args.g c.args.x =
    omega (
      arith,
      c.loop-bank-test.false,
      c.loop-bank.auto.bank-end,
      c.segments-banks.ensures.value,
    ) in
    subst (λ n. Did (flat_map (λ bank. row_events bank
    (votes c.args.x.base c.args.y.base c.args.z.base 0 c.args.x.width)) (range_with_len 0 n))
    (V c.args.dram.now) (V c.loop-bank.dram)) e c.loop-bank.invariant.did

pub returns-in_err-vote_bank-clause-stopped : goal.returns-in_err-vote_bank-clause-stopped
returns-in_err-vote_bank-clause-stopped g c =
    let V = g.D.Dram.view in
    let a = c.args in
    let l : c.loop-bank.bank < segments a.g a.x = omega (
      arith,
      c.loop-bank-test.true,
      c.segments-banks.ensures.value,
    ) in
    on_err c.from_residual.result (bank_stopped (λ bank. row_events bank
    (votes a.x.base a.y.base a.z.base 0 a.x.width)) (segments a.g a.x) c.loop-bank.bank l
    (V a.dram.now) (V c.loop-bank.dram) (V c.vote_bank.new.dram) c.loop-bank.invariant.did
    c.loop-bank.invariant.kept c.in_err-vote_bank.ensures.stopped)
