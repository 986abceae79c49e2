use Rattle.uprog_bin.proofs.Common.{◌≡◌, ◌+◌, ◌*◌, ◌∷◌, [], ◌++◌, List, drop, ap, ◌∙◌, arith}
use Rattle.uprog_bin.proofs.Common.{err_from_is_err_and, shape_of, Microprogram}
use Rattle.uprog_bin.specs.declared.directory.Listed.{Listed}
use Rattle.uprog_bin.specs.Reading.{codes_at, listings_of, total_count}
use Rattle.uprog_bin.proofs.Codes.{with_front, drop_is, codes_more, codes_fault, codes_done}
use Rattle.uprog_bin.proofs.checks.check_codes.Goals as goal

pub returns-in_err-check_code-clause-gives : goal.returns-in_err-check_code-clause-gives
returns-in_err-check_code-clause-gives c =
    let p = err_from_is_err_and c.from_residual.result c.from_residual.ensures.1 in
    let k = c.loop-l in
    let cut = drop_is c.args.listed.now k.l-index c.l-item.result c.loop-l-test.true c.l-item.is in
    rw (p.1, p.2) (codes_fault k.invariant.front c.args.listed.now k.l-index k.at c.args.bytes.now
    c.l-item.result c.in_err-check_code.field-0.0
    (codes_at (listings_of c.args.listed.now) c.args.start c.args.bytes.now) cut
    c.in_err-check_code.ensures.gives k.invariant.so_far)

pub loop-l-preserved : goal.loop-l-preserved
loop-l-preserved c =
    let k = c.loop-l in
    let item = c.l-item.result in
    let cut = drop_is c.args.listed.now k.l-index item c.loop-l-test.true c.l-item.is in
    let code = c.in_ok-check_code.ensures.gives in
    let m : Microprogram = record {
      name = item.head.name;
      shape = shape_of item.head;
      code = code.0;
    } in
    let total : total_count (listings_of (drop k.l-index c.args.listed.now))
    ≡ item.count + total_count (listings_of (drop (k.l-index + 1) c.args.listed.now)) =
    ap (λ (ls : List Listed). total_count (listings_of ls)) cut in
    let count : c.from.result ≡ item.count = c.from.ensures in
    record {
      within = omega (arith, c.in_ok-check_code.ensures.within, count);
      place = omega (arith, k.invariant.place, total, count);
      front = k.invariant.front ++ m ∷ [];
      so_far =
          ap (λ n. with_front (k.invariant.front ++ m
          ∷ []) (codes_at (listings_of (drop (k.l-index + 1) c.args.listed.now)) (k.at + 8 * n)
          c.args.bytes.now)) count
          ∙ codes_more k.invariant.front c.args.listed.now k.l-index k.at c.args.bytes.now item
          code.0 (codes_at (listings_of c.args.listed.now) c.args.start c.args.bytes.now) cut
          code.1 k.invariant.so_far;
    }

pub returns-clause-gives : goal.returns-clause-gives
returns-clause-gives c =
    let k = c.loop-l in (
      k.invariant.front,
      codes_done k.invariant.front c.args.listed.now k.l-index k.at
          c.args.bytes.now (codes_at (listings_of c.args.listed.now) c.args.start c.args.bytes.now)
          c.loop-l-test.false k.invariant.so_far,
    )
