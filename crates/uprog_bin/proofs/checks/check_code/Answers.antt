use Rattle.uprog_bin.proofs.Common.{◌∷◌, [], ◌++◌, arith, err_from_is_err_and, shape_of}
use Rattle.uprog_bin.specs.Reading.{uops_at}
use Rattle.uprog_bin.proofs.Codes.{uops_more, uops_fault, uops_done}
use Rattle.uprog_bin.proofs.checks.check_code.Goals as goal

pub returns-in_err-_uop-clause-gives : goal.returns-in_err-_uop-clause-gives
returns-in_err-_uop-clause-gives c =
    let p = err_from_is_err_and c.from_residual.result c.from_residual.ensures.1 in
    let k = c.loop-k in
    rw (p.1, p.2) (uops_fault k.invariant.front c.args.count k.k k.place (shape_of c.args.head.now)
    c.args.count c.args.bytes.now c.in_err-_uop.field-0.0
    (uops_at c.args.count (shape_of c.args.head.now) c.args.count c.args.at c.args.bytes.now)
    c.loop-k-test.true c.in_err-_uop.ensures.gives k.invariant.so_far)

pub loop-k-preserved : goal.loop-k-preserved
loop-k-preserved c =
    let k = c.loop-k in
    record {
      next = omega (arith, k.invariant.next);
      within = omega (arith, c.in_ok-_uop.ensures.within);
      front = k.invariant.front ++ c.in_ok-_uop._uop ∷ [];
      so_far = uops_more k.invariant.front c.args.count k.k k.place (shape_of c.args.head.now)
          c.args.count c.args.bytes.now c.in_ok-_uop._uop
          (uops_at c.args.count (shape_of c.args.head.now) c.args.count c.args.at c.args.bytes.now)
          c.loop-k-test.true c.in_ok-_uop.ensures.gives k.invariant.so_far;
    }

pub returns-clause-gives : goal.returns-clause-gives
returns-clause-gives c =
    let k = c.loop-k in (
      k.invariant.front,
      uops_done k.invariant.front c.args.count k.k k.place
          (shape_of c.args.head.now) c.args.count c.args.bytes.now
          (uops_at c.args.count (shape_of c.args.head.now) c.args.count c.args.at c.args.bytes.now)
          c.loop-k-test.false k.invariant.so_far,
    )
