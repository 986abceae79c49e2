use Rattle.verify_core.proofs.Common.{◌∙◌, sym, shape_of, issues_of, trace, trace_good, assigned}
use Rattle.verify_core.specs.declared.start.Begin.TheVariants.{Values}
use Rattle.verify_core.proofs.Cases.{tried-fails}
use Rattle.verify_core.proofs.tries.case_under.Goals as goal

pub returns-clause-fails : goal.returns-clause-fails
returns-clause-fails g c = λ meaning gives.
    let a = g.F.Fetch.shape c.args.own.now in
    let b = g.G.Fetch.shape c.args.made.now in
    let n = c.args.n in
    tried-fails a b (shape_of c.head-head.result) n
    (issues_of (trace a (g.F.Fetch.code c.args.own.now) n))
    (issues_of (trace b (g.G.Fetch.code c.args.made.now) n)) meaning (Values c.args.path)
    c.run_from.new.diagram.nodes c.run_from-2.new.diagram.nodes c.case_at.new.diagram.nodes
    c.in_ok-own_end.own_end c.in_ok-made_end.made_end (assigned c.args.path.now)
    c.in_ok-case.case c.requires.some c.requires.kinds c.head-head.ensures.shape
    (trace_good a n (g.F.Fetch.code c.args.own.now) c.requires.own_legal) c.in_ok-made_end.ensures.keeps c.in_ok-case.ensures.keeps c.in_ok-own_end.ensures.runs
    c.in_ok-made_end.ensures.runs c.in_ok-case.ensures.case
    (λ e. c.are_equal.ensures c.if-are_equal.false
    (c.as_slice.ensures.value ∙ e ∙ sym c.as_slice-2.ensures.value)) gives
