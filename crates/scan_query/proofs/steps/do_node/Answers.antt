use Rattle.scan_query.proofs.Common.{◌∙◌, subst, take, drop, Ok, err_from_is_err_and}
use Rattle.scan_query.specs.Queries.{instructions_for, names_in, node_of}
use Rattle.scan_query.specs.Running.{Runs}
use Rattle.scan_query.proofs.Running.{refused_at, took_one}
use Rattle.scan_query.proofs.Failing.{failed_at}
use Rattle.scan_query.proofs.Stopping.{stopped_at}
use Rattle.scan_query.proofs.steps.do_node.Goals as goal

pub returns-in-Some-clause-runs : goal.returns-in-Some-clause-runs
returns-in-Some-clause-runs g c =
    let view = g.D.Dram.view in
    let script = instructions_for (names_in c.args.names.now) c.args.size.count c.args.size.width
    c.args.k (node_of c.args.node.now) in
    let runs = subst (λ r. Runs (take 1 (drop c.instrs.i script)) c.instrs.machine
    c.do_at.new.machine (view c.instrs.dram) (view c.do_at.new.dram) (Ok r)) c.in-Some.is
    c.in_ok-why.ensures.runs in (
      refused_at script c.instrs.i c.args.machine.now c.instrs.machine (view c.args.dram.now)
          (view c.instrs.dram) c.in-Some.why c.instrs.invariant.ran runs.0,
      stopped_at script c.instrs.i c.args.machine.now c.instrs.machine (view c.args.dram.now)
          (view c.instrs.dram) (view c.do_at.new.dram) c.in-Some.why c.instrs.invariant.ran runs.1,
    )

pub instrs-preserved : goal.instrs-preserved
instrs-preserved g c =
    let view = g.D.Dram.view in
    let script = instructions_for (names_in c.args.names.now) c.args.size.count c.args.size.width
    c.args.k (node_of c.args.node.now) in
    let runs = subst (λ r. Runs (take 1 (drop c.instrs.i script)) c.instrs.machine
    c.do_at.new.machine (view c.instrs.dram) (view c.do_at.new.dram) (Ok r)) c.in-None.is
    c.in_ok-why.ensures.runs in
    record {
      borrow = c.in_ok-why.ensures.borrow ∙ c.instrs.invariant.borrow;
      ran = took_one script c.instrs.i c.args.machine.now c.instrs.machine c.do_at.new.machine
          (view c.args.dram.now) (view c.instrs.dram) (view c.do_at.new.dram)
          c.instrs.invariant.ran runs;
    }

pub returns-in_err-why-clause-runs : goal.returns-in_err-why-clause-runs
returns-in_err-why-clause-runs g c =
    let view = g.D.Dram.view in
    let script = instructions_for (names_in c.args.names.now) c.args.size.count c.args.size.width
    c.args.k (node_of c.args.node.now) in
    let p = err_from_is_err_and c.from_residual.result c.from_residual.ensures.1 in
    rw p.1 (failed_at script c.instrs.i c.args.machine.now c.instrs.machine
    (view c.args.dram.now) (view c.instrs.dram) (view c.do_at.new.dram) c.instrs.invariant.ran
    c.in_err-why.ensures.runs)
