use Rattle.verify_core.proofs.Common.{◌≡◌, ap, arith, Kind, shape_of, assigned, column_of, List}
use Rattle.verify_core.proofs.Common.{length}
use Rattle.verify_core.proofs.Ones.{work-ones}
use Rattle.verify_core.proofs.case.ones.Goals as goal

pub returns : goal.returns
returns c =
    let same : c.from.result ≡ c.args.n = omega arith in
    work-ones (column_of c.args.diagram.now.nodes (assigned c.args.path.now) c.args.column.now)
    (shape_of c.args.head.now) c.args.n c.from.result c.rows_of_results-results.result
    (length c.as_slice.result.now) c.canonical_bank.result c.new-ones.result.items
    c.push_b_group.new.ones.items c.push_rows.new.ones.items c.push_rows-2.new.ones.items
    c.rows_of_results-results.ensures.value same
    (ap (λ (l : List Kind). length l) c.as_slice.ensures.value) c.canonical_bank.ensures
    c.new-ones.ensures.items c.in_ok-push_b_group.ensures c.in_ok-push_rows.ensures
    c.in_ok-push_rows-2.ensures
