use Rattle.scan_query.proofs.Common.{◌∙◌, ap, sym, subst, List, option_map, view_of, Instruction}
use Rattle.scan_query.specs.Queries.{instructions_for, names_in, node_of}
use Rattle.scan_query.specs.Running.{Runs, Ran}
use Rattle.scan_query.proofs.Running.{at_front, at_end, ran_nothing}
use Rattle.scan_query.proofs.steps.do_at.Goals as goal

pub returns-in-Some-clause-runs : goal.returns-in-Some-clause-runs
returns-in-Some-clause-runs g c =
    let view = g.D.Dram.view in
    let script = instructions_for (names_in c.args.names.now) c.args.size.count c.args.size.width
    c.args.k (node_of c.args.node.now) in
    subst (λ (xs : List Instruction). Runs xs c.args.machine.now c.do_one.new.machine
    (view c.args.dram.now) (view c.do_one.new.dram) c.do_one.result)
    (at_front script c.args.i (view_of c.in-Some.instr) (sym c.instruction.ensures.value
    ∙ ap (option_map view_of) c.in-Some.is)) c.do_one.ensures.runs

pub returns-in-None-clause-runs : goal.returns-in-None-clause-runs
returns-in-None-clause-runs g c =
    let view = g.D.Dram.view in
    let script = instructions_for (names_in c.args.names.now) c.args.size.count c.args.size.width
    c.args.k (node_of c.args.node.now) in
    subst (λ (xs : List Instruction). Ran xs c.args.machine.now c.args.machine.now
    (view c.args.dram.now) (view c.args.dram.now))
    (at_end script c.args.i (sym c.instruction.ensures.value
    ∙ ap (option_map view_of) c.in-None.is))
    (ran_nothing c.args.machine.now (view c.args.dram.now))
