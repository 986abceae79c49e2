use Rattle.verify_core.proofs.Common.{◌≡◌, issues_of, trace, Gives, AreNodes, ℕ, List}
use Rattle.verify_core.specs.Verdicts.{Fails}
use Rattle.verify_core.proofs.last.fewer_ones.Given as goal

-- what is found so far fails
abbrev pub invariant-loop-k : goal.invariant-loop-k
invariant-loop-k g l =
    let a = g.F.Fetch.shape l.own in
    let b = g.G.Fetch.shape l.made in
    record {
      nodes : AreNodes l.diagram.nodes;
      limits : l.diagram.limits ≡ l.fn.diagram.limits;
      fails : (meaning : List ℕ → List ℕ)
          → Gives b l.n (issues_of (trace b (g.G.Fetch.code l.made) l.n)) meaning
          → Fails a l.n (issues_of (trace a (g.F.Fetch.code l.own) l.n)) meaning l.few.case;
    }
