use Rattle.verify_core.proofs.Common.{◌∙◌, sym, shape_of, issues_of, trace, Gives, ℕ, List}
use Rattle.verify_core.proofs.Results.{said}
use Rattle.verify_core.proofs.Says.{is-right, kinds-by}
use Rattle.verify_core.proofs.verdict.verify_entry.Goals as goal

pub returns-in-Ok-None-clause-verdict : goal.returns-in-Ok-None-clause-verdict
returns-in-Ok-None-clause-verdict g c = λ o e does.
    let a = g.F.Fetch.shape c.args.own.now in
    let b = g.G.Fetch.shape c.args.made.now in
    let own = g.F.Fetch.code c.args.own.now in
    let code = g.G.Fetch.code c.args.made.now in
    let n = c.args.n in
    is-right a b (g.F.Fetch.name c.args.own.now) own code n o c.in-Ok.counts e c.requires.some
    c.requires.narrow does
    (kinds-by (shape_of c.head.result) (shape_of c.head-2.result) a b c.head.ensures.shape
    c.head-2.ensures.shape (c.has_same_kinds.ensures.0 c.if-not-has_same_kinds.false))
    (sym c.walk.ensures.value ∙ c.in-Ok.is)
    (c.legal_code_is_safe.ensures.keeps a own c.requires.own_legal n)
    (said c.in-Ok-None.field-0 ((meaning : List ℕ → List ℕ)
    → Gives b n (issues_of (trace b code n)) meaning
    → Gives a n (issues_of (trace a own n)) meaning) c.in-Ok-None.field-0-is
    c.in-Ok-None.ensures.same)
