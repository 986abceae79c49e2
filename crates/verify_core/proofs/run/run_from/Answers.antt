use Rattle.verify_core.proofs.Common.{ap, arith, shape_of, issues_of, trace, result_rows, length}
use Rattle.std.proofs.Common.{refl}
use Rattle.uprog_code.specs.Bound.{bound_of}
use Rattle.verify_core.proofs.Ran.{fits-by, ran-by}
use Rattle.verify_core.proofs.run.run_from.Goals as goal

pub symbolic_run-requires-clause-fits : goal.symbolic_run-requires-clause-fits
symbolic_run-requires-clause-fits g c =
    let b = c.canonical_binding-binding.result in
    fits-by (g.F.Fetch.shape c.args.entry.now) (shape_of c.head-head.result) c.args.n b.n
    c.canonical_bank-rows.result (bound_of b) c.head-head.ensures.shape
    c.canonical_binding-binding.ensures.n c.canonical_binding-binding.ensures.bound
    c.canonical_bank-rows.ensures c.requires.some

pub returns-clause-runs : goal.returns-clause-runs
returns-clause-runs g c =
    let a = g.F.Fetch.shape c.args.entry.now in
    let code = g.F.Fetch.code c.args.entry.now in
    let b = c.canonical_binding-binding.result in
    let h = shape_of c.head-head.result in
    let did = c.in_ok-symbolic_run.ensures in
    let begun = c.in_ok-column.ensures in
    ran-by a h c.args.n b.n c.canonical_bank-rows.result (length h.sources)
    (result_rows h c.args.n) (bound_of b) (issues_of (trace a code c.args.n))
    (issues_of (trace a code b.n)) c.args.begin c.start.new.diagram.nodes c.symbolic_run.new.diagram.nodes
    c.in_ok-column.column c.symbolic_run.new.column c.head-head.ensures.shape
    c.canonical_binding-binding.ensures.n c.canonical_binding-binding.ensures.bound
    c.canonical_bank-rows.ensures refl refl
    (ap (λ m. issues_of (trace a code m)) c.canonical_binding-binding.ensures.n)
    (rw (← c.rows_of_results-results.ensures.value, ← c.as_slice.ensures.value) begun.start) begun.rows
    did.column did.cells did.rows (omega arith)
