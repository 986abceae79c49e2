use Rattle.verify_core.proofs.Common.{shape_of, issues_of, trace, trace_good, Edge}
use Rattle.verify_core.specs.SymbolicRuns.{ResultsAgree, ResultsDiffer}
use Rattle.verify_core.proofs.Cases.{case-fails, case-right}
use Rattle.verify_core.proofs.Results.{said, said-some}
use Rattle.verify_core.proofs.check.failing_case.Goals as goal

pub returns-in-None-clause-same : goal.returns-in-None-clause-same
returns-in-None-clause-same g c = λ meaning gives.
    let a = g.F.Fetch.shape c.args.own.now in
    let b = g.G.Fetch.shape c.args.made.now in
    let n = c.args.n in
    let h = shape_of c.head-head.result in
    let d1 = c.run_from.new.diagram.nodes in
    let d2 = c.run_from-2.new.diagram.nodes in
    let own = c.in_ok-own_end.own_end in
    let made = c.in_ok-made_end.made_end in
    case-right a b h n (issues_of (trace a (g.F.Fetch.code c.args.own.now) n))
    (issues_of (trace b (g.G.Fetch.code c.args.made.now) n)) meaning d1 d2 own made
    c.requires.some c.requires.kinds c.head-head.ensures.shape
    (trace_good a n (g.F.Fetch.code c.args.own.now) c.requires.own_legal)
    c.in_ok-made_end.ensures.keeps c.in_ok-own_end.ensures.runs c.in_ok-made_end.ensures.runs
    (said c.in_ok-results_difference.field-0 (ResultsAgree h n d2 own made) c.in-None.is
    c.in_ok-results_difference.ensures.none) gives

pub returns-clause-fails : goal.returns-clause-fails
returns-clause-fails g c = λ meaning gives.
    let a = g.F.Fetch.shape c.args.own.now in
    let b = g.G.Fetch.shape c.args.made.now in
    let n = c.args.n in
    let h = shape_of c.head-head.result in
    let d1 = c.run_from.new.diagram.nodes in
    let d2 = c.run_from-2.new.diagram.nodes in
    let d3 = c.results_difference.new.diagram.nodes in
    let d4 = c.case_of.new.diagram.nodes in
    let own = c.in_ok-own_end.own_end in
    let made = c.in_ok-made_end.made_end in
    case-fails a b h n (issues_of (trace a (g.F.Fetch.code c.args.own.now) n))
    (issues_of (trace b (g.G.Fetch.code c.args.made.now) n)) meaning d1 d2 d3 d4 own made
    c.in-Some.e c.in_ok-case-in-Some.case c.requires.some c.requires.kinds
    c.head-head.ensures.shape
    (trace_good a n (g.F.Fetch.code c.args.own.now) c.requires.own_legal)
    c.in_ok-made_end.ensures.keeps c.in_ok-results_difference.ensures.keeps c.in_ok-case-in-Some.ensures.keeps
    c.in_ok-own_end.ensures.runs c.in_ok-made_end.ensures.runs
    (said-some c.in_ok-results_difference.field-0 c.in-Some.e
    (λ (e : Edge). ResultsDiffer h n d2 d3 own made e) c.in-Some.is
    c.in_ok-results_difference.ensures.some) c.in_ok-case-in-Some.ensures.case gives
