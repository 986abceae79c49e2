use Rattle.object_steps.proofs.Common.{flat_map, range_with_len, nat_tests, bit_at, bit_number, Aap}
use Rattle.object_steps.proofs.Common.{Row, ◌≤◌, ◌≢◌, ◌∙◌, ◌*◌, ◌+◌, ◌<◌, ap, arith, Banks}
use Rattle.object_steps.proofs.Common.{StoppedWithin, Kept-more, segments, fill_events, refl}
use Rattle.dram_model.specs.Elements.{FailedBelow}
use Rattle.transpose_unit.proofs.Stopping.{stopped_turn, next_in}
use Rattle.object_steps.proofs.Rises.{few_events, few_rows}
use Rattle.object_steps.specs.Objects.{filled_in}
use Rattle.object_steps.proofs.Filled.{next_bank, on_err, filled_others, one_times_more}
use Rattle.dram_model.specs.declared.address.Addr.TheVariants as addr
use Rattle.object_steps.proofs.filling.fill_object.Goals as goal

pub fill_bank-requires-clause-begun : goal.fill_bank-requires-clause-begun
fill_bank-requires-clause-begun g c = c.loop-bank.invariant.kept.begun ∙ c.requires.begun

pub returns-in_err-fill_bank-clause-borrow : goal.returns-in_err-fill_bank-clause-borrow
returns-in_err-fill_bank-clause-borrow g c =
    c.in_err-fill_bank.ensures.borrow ∙ c.loop-bank.invariant.borrow

pub returns-in_err-fill_bank-clause-kept : goal.returns-in_err-fill_bank-clause-kept
returns-in_err-fill_bank-clause-kept g c =
    Kept-more _ _ _ c.loop-bank.invariant.kept c.in_err-fill_bank.ensures.kept

pub returns-clause-borrow : goal.returns-clause-borrow
returns-clause-borrow g c = c.loop-bank.invariant.borrow

pub returns-clause-kept : goal.returns-clause-kept
returns-clause-kept g c = c.loop-bank.invariant.kept

pub loop-bank-preserved : goal.loop-bank-preserved
loop-bank-preserved g c =
    let first = g.D.Dram.view c.args.dram.now in
    let now = g.D.Dram.view c.loop-bank.dram in
    let new = g.D.Dram.view c.fill_bank.new.dram in
    let kept = c.loop-bank.invariant in
    let bank = c.loop-bank.bank in
    let did = c.in_ok-fill_bank.ensures.did in
    record {
      borrow = c.in_ok-fill_bank.ensures.borrow ∙ kept.borrow;
      kept = Kept-more first now new kept.kept c.in_ok-fill_bank.ensures.kept;
      aap = omega (
        arith,
        c.in_ok-fill_bank.ensures.aap,
        kept.aap,
        one_times_more c.loop-bank.bank c.args.o.width,
      );
      did = next_bank (filled_in c.args.o c.args.value) bank first now new kept.did did;
      others = λ b l.
          let ne : b ≢ c.loop-bank.bank = λ e. absurd (omega (arith, l, e)) in
          ap (λ (banks : Banks). banks b) did.banks
          ∙ filled_others c.args.o c.args.value bank now.banks b ne
          ∙ kept.others b (omega (arith, l));
    }

pub returns-in_err-fill_bank-clause-failed : goal.returns-in_err-fill_bank-clause-failed
returns-in_err-fill_bank-clause-failed g c =
    let first = g.D.Dram.view c.args.dram.now in
    let new = g.D.Dram.view c.fill_bank.new.dram in
    let failed = c.in_err-fill_bank.ensures.failed in
    let all : FailedBelow (segments c.args.g c.args.o) first new = record {
      rose = omega (arith, c.loop-bank.invariant.kept.faults, failed.rose);
      others = λ b l.
          let ne : b ≢ c.loop-bank.bank = λ e. absurd (omega (arith, l, e)) in
          failed.others b ne ∙ c.loop-bank.invariant.others b (omega (arith, l));
    } in
    on_err c.from_residual.result all

pub returns-in_err-fill_bank-clause-stopped : goal.returns-in_err-fill_bank-clause-stopped
returns-in_err-fill_bank-clause-stopped g c =
    let first = g.D.Dram.view c.args.dram.now in
    let now = g.D.Dram.view c.loop-bank.dram in
    let new = g.D.Dram.view c.fill_bank.new.dram in
    let inside : c.loop-bank.bank < segments c.args.g c.args.o =
    omega (arith, c.segments-bank-end.ensures.value) in
    let all : StoppedWithin 0 (fill_events c.args.g c.args.o c.args.value) first.banks new.banks =
    stopped_turn (filled_in c.args.o c.args.value) (segments c.args.g c.args.o) c.loop-bank.bank
    c.loop-bank.bank inside first.banks now.banks new.banks
    (next_in _ c.args.o.width c.loop-bank.bank c.in_err-fill_bank.ensures.some refl)
    c.loop-bank.invariant.did.banks c.in_err-fill_bank.ensures.failed.others in
    on_err c.from_residual.result all

pub returns-clause-rises : goal.returns-clause-rises
returns-clause-rises g c =
    let banks : c.args.g.banks ≤ 16 = grind (arith, nat_tests, c.requires.passes) in
    let few : c.loop-bank.bank ≤ 16 =
    omega (arith, banks, c.segments-bank-end.ensures.fits, c.loop-bank.auto.bank-end) in
    few_events (16 * 128) (flat_map (filled_in c.args.o c.args.value)
    (range_with_len 0 c.loop-bank.bank)) (g.D.Dram.view c.args.dram.now).counters
    (g.D.Dram.view c.loop-bank.dram).counters c.loop-bank.invariant.did.counters
    (few_rows c.loop-bank.bank c.args.o.width 128 (λ bank k.
    Row bank (Aap (addr.C (bit_number (bit_at c.args.value k))) (addr.D (c.args.o.base + k)))) few
    c.requires.object.narrow)
