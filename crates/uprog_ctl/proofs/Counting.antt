-- A trace's events raise the counters by its counts.
use Rattle.uprog_ctl.proofs.Common.{count_by, ◌∙◌, ap, arith, sum_by-cons, Counters, all_counted}
use Rattle.uprog_ctl.proofs.Common.{Shape, Issue, IssueAap, IssueAp, issues_aap, issues_ap}
use Rattle.std.specs.Prelude.{◌≡◌, ℕ, ◌+◌, Bool, cond, List, [], ◌∷◌}
use Rattle.uprog_code.specs.declared.binding.Binding.{Binding}
use Rattle.uprog_code.specs.Count.{counts_of}
use Rattle.uprog_ctl.specs.Events.{issue_events, risen}

more_of : (p : Issue → Bool) (i : Issue) (is : List Issue)
    → count_by p (i ∷ is) ≡ cond (p i) 1 0 + count_by p is
more_of p i is = sum_by-cons (λ x. cond (p x) 1 0) i is

same_counters : (m m' n n' : ℕ) (c : Counters) → m ≡ m' → n ≡ n'
    → (let k : Counters = record c { aap = m; ap = n } in k) ≡ record c { aap = m'; ap = n' }
same_counters m m' n n' c e f = ap (λ i. (let k : Counters = record c { aap = i; ap = n } in k)) e
    ∙ ap (λ i. (let k : Counters = record c { aap = m'; ap = i } in k)) f

-- the counters rise by the counts of the trace
pub counted-issues : (bank rows : ℕ) (shape : Shape) (b : Binding) (issues : List Issue)
    (c : Counters) → all_counted (issue_events bank rows shape b issues) c
    ≡ risen (counts_of issues) c
counted-issues bank rows shape b [] c = same_counters c.aap (c.aap + 0) c.ap (c.ap + 0) c
    (omega arith) (omega arith)
counted-issues bank rows shape b (IssueAap x y ∷ is) c =
    let t : count_by issues_aap (IssueAap x y ∷ is) ≡ 1 + count_by issues_aap is =
    more_of issues_aap (IssueAap x y) is in
    let o : count_by issues_ap (IssueAap x y ∷ is) ≡ 0 + count_by issues_ap is =
    more_of issues_ap (IssueAap x y) is in
    counted-issues bank rows shape b is (record c { aap = c.aap + 1 })
    ∙ same_counters (c.aap + 1 + count_by issues_aap is) (c.aap
    + count_by issues_aap (IssueAap x y ∷ is))
    (c.ap + count_by issues_ap is) (c.ap + count_by issues_ap (IssueAap x y ∷ is)) c (omega arith)
    (omega arith)
counted-issues bank rows shape b (IssueAp x ∷ is) c =
    let t : count_by issues_aap (IssueAp x ∷ is) ≡ 0 + count_by issues_aap is =
    more_of issues_aap (IssueAp x) is in
    let o : count_by issues_ap (IssueAp x ∷ is) ≡ 1 + count_by issues_ap is =
    more_of issues_ap (IssueAp x) is in
    counted-issues bank rows shape b is (record c { ap = c.ap + 1 })
    ∙ same_counters (c.aap + count_by issues_aap is) (c.aap + count_by issues_aap (IssueAp x
    ∷ is)) (c.ap
    + 1 + count_by issues_ap is) (c.ap + count_by issues_ap (IssueAp x ∷ is)) c (omega arith)
    (omega arith)
