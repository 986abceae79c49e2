use Rattle.scan_query.proofs.Common.{◌≡◌, ◌∙◌, ◌<◌, ℕ, ap, arith, length, refl, Geometry}
use Rattle.scan_query.proofs.Common.{column_count, Kept-more, err_from_is_err_and, segments}
use Rattle.dram_model.proofs.EventLaws.{DidRead-more}
use Rattle.scan_query.proofs.Counting.{banks_counted, length_put_back}
use Rattle.scan_query.proofs.Failing.{read_failed}
use Rattle.scan_query.proofs.ones.ones_of.Goals as goal

pub banks-preserved : goal.banks-preserved
banks-preserved g c =
    let view = g.D.Dram.view in
    let start = view c.args.dram.now in
    let now = view c.banks.dram in
    let next = view c.ones_of_row.new.dram in
    let k = c.banks.bank in
    let within : k < c.args.g.banks = omega (
      arith,
      c.banks-test.true,
      c.segments-bank-end.ensures.fits,
      c.banks.auto.bank-end,
    ) in
    let shaped : (b : ℕ) → b < k → length (start.banks b) ≡ column_count c.args.g =
    λ b l. g.met.D.Dram.width c.args.dram.now c.requires.begun b
    (below_all b l within c.requires.geometry) ∙ ap column_count c.requires.geometry in
    record {
      borrow = c.in_ok-found.ensures.borrow ∙ c.banks.invariant.borrow;
      kept = Kept-more start now next c.banks.invariant.kept c.in_ok-found.ensures.kept;
      stage = length_put_back c.from-words.result c.ones_of_row.new.words c.banks.stage
          c.in_ok-found.ensures.stage ∙ c.banks.invariant.stage;
      did = DidRead-more k 1 start now next c.banks.invariant.did c.in_ok-found.ensures.did;
      few = omega (arith, c.banks.invariant.few, c.in_ok-found.ensures.few);
      counted = banks_counted c.args.object.base (column_count c.args.g) c.args.object.count k
          start.banks now.banks c.banks.found c.in_ok-found.field-0
          _ c.banks.invariant.did.banks shaped c.banks.invariant.counted
          (rw (c.from.ensures, c.from-columns.ensures) refl) c.in_ok-found.ensures.ones;
    } where
      below_all : (b : ℕ) → b < c.banks.bank → c.banks.bank < c.args.g.banks
          → (g.D.Dram.view c.args.dram.now).geometry ≡ c.args.g
          → b < (g.D.Dram.view c.args.dram.now).geometry.banks
      below_all b l m e = let same = ap (λ (s : Geometry). s.banks) e in omega (arith, l, m, same)

pub returns-in_err-found-clause-left : goal.returns-in_err-found-clause-left
returns-in_err-found-clause-left g c =
    let view = g.D.Dram.view in
    let p = err_from_is_err_and c.from_residual.result c.from_residual.ensures.1 in
    let inside : c.banks.bank < segments c.args.g c.args.object =
    omega (arith, c.banks-test.true, c.segments-bank-end.ensures.value) in
    rw p.1 (read_failed (segments c.args.g c.args.object) c.banks.bank c.banks.bank
    (view c.args.dram.now) (view c.banks.dram) (view c.ones_of_row.new.dram) inside
    c.banks.invariant.did c.in_err-found.ensures.failed.others)
