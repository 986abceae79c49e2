-- What two runs and their difference say of an entry
use Rattle.verify_core.proofs.Common.{◌≢◌, ℕ, ◌<◌, Bool, List, subst, sym, ◌∙◌, Shape, Issue, Gives}
use Rattle.verify_core.proofs.Common.{AreGood, Edge, Node, Keeps, keeps-both, value-kept, Cells}
use Rattle.verify_core.proofs.Common.{◌≡◌}
use Rattle.verify_core.specs.declared.case.Case.{Case}
use Rattle.verify_core.specs.declared.start.Begin.{Begin}
use Rattle.verify_core.specs.declared.start.Begin.TheVariants.{Variables}
use Rattle.verify_core.specs.SymbolicRuns.{IsCase, IsCaseOf, IsRun, ResultsAgree, ResultsDiffer}
use Rattle.verify_core.specs.Verdicts.{Fails, SameKinds}
use Rattle.verify_core.proofs.Runs.{results-kept, run-kept}
use Rattle.verify_core.proofs.Right.{right}
use Rattle.verify_core.proofs.Wrong.{apart-by, wrong}

pub case-right : (a b h : Shape) (n : ℕ) (xs ys : List Issue) (meaning : List ℕ → List ℕ)
    (d1 d2 : List Node) (own made : Cells) → 0 < n → SameKinds a b → h ≡ a → AreGood a n xs
    → Keeps d1 d2 → IsRun a n xs Variables d1 own → IsRun b n ys Variables d2 made
    → ResultsAgree h n d2 own made → Gives b n ys meaning → Gives a n xs meaning
case-right a b h n xs ys meaning d1 d2 own made some same e good k r1 r2 agree gives =
    right a b n xs ys meaning d2 own made some same good
    (run-kept a n xs Variables d1 d2 own k r1) r2 gives
    (subst (λ (z : Shape). ResultsAgree z n d2 own made) e agree)

-- a case of values that were tried
pub tried-fails : (a b h : Shape) (n : ℕ) (xs ys : List Issue) (meaning : List ℕ → List ℕ)
    (f : Begin) (d1 d2 d3 : List Node) (own made : Cells) (bits : ℕ → Bool) (case : Case) → 0 < n
    → SameKinds a b → h ≡ a → AreGood a n xs → Keeps d1 d2 → Keeps d2 d3 → IsRun a n xs f d1 own
    → IsRun b n ys f d2 made → IsCase h n f d3 own made bits case
    → case.got.items ≢ case.wanted.items → Gives b n ys meaning → Fails a n xs meaning case
tried-fails a b h n xs ys meaning f d1 d2 d3 own made bits case some same eh good k2 k3 r1 r2 is differ
    gives =
    wrong a b n xs ys meaning f f d3 own made bits case some same good is.meant
    (run-kept a n xs f d1 d3 own (keeps-both d1 d2 d3 k2 k3) r1)
    (run-kept b n ys f d2 d3 made k3 r2) gives
    (subst (λ (z : Shape). IsCase z n f d3 own made bits case) eh is) differ

-- a case in which an edge is true
pub case-fails : (a b h : Shape) (n : ℕ) (xs ys : List Issue) (meaning : List ℕ → List ℕ)
    (d1 d2 d3 d4 : List Node) (own made : Cells) (e : Edge) (case : Case) → 0 < n → SameKinds a b
    → h ≡ a → AreGood a n xs → Keeps d1 d2 → Keeps d2 d3 → Keeps d3 d4 → IsRun a n xs Variables d1 own
    → IsRun b n ys Variables d2 made → ResultsDiffer h n d2 d3 own made e
    → IsCaseOf h n d3 d4 own made e case → Gives b n ys meaning → Fails a n xs meaning case
case-fails a b h n xs ys meaning d1 d2 d3 d4 own made e case some same eh good k2 k3 k4 r1 r2 differ of
    gives =
    let k24 = keeps-both d2 d3 d4 k3 k4 in
    let k14 = keeps-both d1 d2 d4 k2 k24 in
    let r12 = run-kept a n xs Variables d1 d2 own k2 r1 in
    let r14 = run-kept a n xs Variables d1 d4 own k14 r1 in
    let r24 = run-kept b n ys Variables d2 d4 made k24 r2 in
    let is : IsCase a n of.begin d4 own made of.bits case =
    subst (λ (z : Shape). IsCase z n of.begin d4 own made of.bits case) eh of.numbers in
    let apart = results-kept a n d2 d3 d4 own made e k24 k4 r12.cells r2.cells
    (subst (λ (z : Shape). ResultsDiffer z n d2 d3 own made e) eh differ) in
    wrong a b n xs ys meaning Variables of.begin d4 own made of.bits case some same good tt r14 r24
    gives is
    (λ one. apart-by a n d4 own made of.bits e some apart
    (value-kept d3 d4 of.bits e k4 (subst (λ (z : Shape). ResultsDiffer z n d2 d3 own made e) eh
    differ).difference.named ∙ of.is_true) (sym is.got ∙ one ∙ is.wanted))
