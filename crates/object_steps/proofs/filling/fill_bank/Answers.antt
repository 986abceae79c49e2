use Rattle.object_steps.proofs.Common.{◌≡◌, ℕ, ◌+◌, ◌∙◌, ap, arith, bit_at, bit_number, Counters}
use Rattle.object_steps.proofs.Common.{Aap, Geometry, Banks, Row, Kept-more, ◌<◌}
use Rattle.dram_model.specs.View.{FailedIn}
use Rattle.object_steps.proofs.Filled.{is_given, next_row, on_err, rows_others, given_as}
use Rattle.dram_model.specs.declared.address.Addr.TheVariants as addr
use Rattle.object_steps.proofs.filling.fill_bank.Goals as goal

pub aap-requires-clause-legal : goal.aap-requires-clause-legal
aap-requires-clause-legal g c =
    is_given c.args.value c.loop-k.k _ _ _ c.constant_row.ensures (omega (
      arith,
      c.from.ensures,
      c.requires.rows,
      ap (λ (x : Geometry). x.rows) c.loop-k.invariant.kept.geometry,
    ))

pub loop-k-preserved : goal.loop-k-preserved
loop-k-preserved g c =
    let first = g.D.Dram.view c.args.dram.now in
    let now = g.D.Dram.view c.loop-k.dram in
    let new = g.D.Dram.view c.aap.new.self in
    let kept = c.loop-k.invariant in
    let did = c.in_ok-aap.ensures.did in
    let one : new.counters.aap ≡ now.counters.aap + 1 =
    ap (λ (n : Counters). n.aap) did.counters in
    record {
      borrow = c.in_ok-aap.ensures.borrow ∙ kept.borrow;
      kept = Kept-more first now new kept.kept c.in_ok-aap.ensures.kept;
      aap = omega (arith, one, kept.aap);
      did = next_row (λ k. Row c.args.bank (Aap (addr.C (bit_number (bit_at c.args.value k)))
          (addr.D (c.args.o.base + k)))) c.loop-k.k
          (Row c.args.bank (Aap c.constant_row.result (addr.D (c.args.o.base + c.from.result))))
          first now new (given_as c.args.bank c.constant_row.result _ _ _ c.constant_row.ensures
          (ap (λ (n : ℕ). c.args.o.base + n) c.from.ensures)) kept.did did;
    }

pub returns-in_err-aap-clause-failed : goal.returns-in_err-aap-clause-failed
returns-in_err-aap-clause-failed g c =
    let first = g.D.Dram.view c.args.dram.now in
    let new = g.D.Dram.view c.aap.new.self in
    let failed = c.in_err-aap.ensures.failed in
    let all : FailedIn c.args.bank first new = record {
      rose = omega (arith, c.loop-k.invariant.kept.faults, failed.rose);
      others = λ b ne. failed.others b ne
          ∙ ap (λ (banks : Banks). banks b) c.loop-k.invariant.did.banks
          ∙ rows_others (λ k. addr.C (bit_number (bit_at c.args.value k)))
          (λ k. addr.D (c.args.o.base + k)) c.args.bank 0 c.loop-k.k first.banks b ne;
    } in
    on_err c.from_residual.result all

pub returns-in_err-aap-clause-some : goal.returns-in_err-aap-clause-some
returns-in_err-aap-clause-some g c =
    let some : 0 < c.args.o.width = omega arith in
    on_err c.from_residual.result some
