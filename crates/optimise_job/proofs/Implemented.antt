-- Where a program implements ops, one that is as good implements them.
use Rattle.optimise_job.proofs.Common.{◌≡◌, ℕ, ◌+◌, ◌<◌, ◌≤◌, List, [], ◌∷◌, length, refl, sym, ap}
use Rattle.optimise_job.proofs.Common.{◌∙◌, subst, ⊎_elim, arith, Some, Ok, ◌≢◌, cases_eq}
use Rattle.optimise_job.proofs.Common.{WIDTH_MAX, Counts, Microprogram, Shape, Ended, HasEnded}
use Rattle.optimise_job.proofs.Common.{Issue, Stuck, Trace, trace, counts_of, walked, IsProgram}
use Rattle.optimise_job.proofs.Common.{EntryDoes, ImplementsAll, TextOp, DoesAt}
use Rattle.std.specs.Prelude.{count_by, cond}
use Rattle.std.proofs.lemmas.List.Sums.{sum_by-cons}
use Rattle.uprog_code.specs.declared.code.Uop.{Uop}
use Rattle.uprog_code.specs.Machine.{IssueAap, IssueAp, issues_of}
use Rattle.uprog_code.specs.Count.{issues_aap, issues_ap}
use Rattle.uprog_code.specs.Implements.{Gives, Implements, Keeps}
use Rattle.optimise_job.specs.Outcomes.{op_named}
use Rattle.optimise_job.specs.Promise.{AreAsGood, IsAsGood}
use Rattle.optimise_job.specs.Outcomes.{commands}
use Rattle.optimise_job.proofs.Named.{AreNamed, are_named}

-- each command is an AAP or an AP
count_all : (cs : List Issue) → length cs ≡ count_by issues_aap cs + count_by issues_ap cs
count_all [] = refl
count_all (IssueAap x y ∷ cs) =
    let a : count_by issues_aap (IssueAap x y ∷ cs) ≡ 1 + count_by issues_aap cs =
    sum_by-cons (λ c. cond (issues_aap c) 1 0) (IssueAap x y) cs in
    let p : count_by issues_ap (IssueAap x y ∷ cs) ≡ 0 + count_by issues_ap cs =
    sum_by-cons (λ c. cond (issues_ap c) 1 0) (IssueAap x y) cs in
    let rest = count_all cs in omega (arith, a, p, rest)
count_all (IssueAp x ∷ cs) =
    let a : count_by issues_aap (IssueAp x ∷ cs) ≡ 0 + count_by issues_aap cs =
    sum_by-cons (λ c. cond (issues_aap c) 1 0) (IssueAp x) cs in
    let p : count_by issues_ap (IssueAp x ∷ cs) ≡ 1 + count_by issues_ap cs =
    sum_by-cons (λ c. cond (issues_ap c) 1 0) (IssueAp x) cs in
    let rest = count_all cs in omega (arith, a, p, rest)

-- the counts of a walk that ends
ended_counts : (t : Trace) → HasEnded t → walked t ≡ Ok (counts_of (issues_of t))
ended_counts (Ended cs) h = refl
ended_counts (Stuck at why) h = absurd h

as_long : (t u : Trace) → HasEnded t → HasEnded u → (before : Counts) → walked t ≡ Ok before
    → (after : Counts) → walked u ≡ Ok after → commands after ≤ commands before
    → length (issues_of u) ≤ length (issues_of t)
as_long (Ended cs) (Ended ds) h k before w after v cheap =
    let b : counts_of cs ≡ before = cc in
    let a : counts_of ds ≡ after = cc in
    let fewer = cheap in
    let own = count_all cs in
    let new = count_all ds in
    let before_all : before.aap + before.ap ≡ length cs =
    ap (λ (x : Counts). x.aap + x.ap) (sym b) ∙ sym own in
    let after_all : after.aap + after.ap ≡ length ds =
    ap (λ (x : Counts). x.aap + x.ap) (sym a) ∙ sym new in
    omega (arith, fewer, before_all, after_all)
as_long (Ended cs) (Stuck at why) h k before w after v cheap = absurd k
as_long (Stuck at why) u h k before w after v cheap = absurd h

module _ (n : ℕ) (ops : List TextOp) (some : 0 < n) (narrow : n ≤ WIDTH_MAX) where
  -- an entry of the op's shape
  abbrev of : List ℕ → TextOp → List Uop → Microprogram
  of name o code = record { name = name; shape = o.shape; code = code }

  module _ (o : TextOp) (name name' : List ℕ) (old new : List Uop)
      (i : Implements o.shape old o.ceiling o.meaning)
      (g : IsAsGood n ops (of name o old) (of name' o new))
      (named : op_named ops name ≡ Some o) where
    at_own : DoesAt n (of name' o new) o
    at_own = g.does o named (record {
      ends = i.ends n some narrow;
      gives = i.gives n some narrow;
      keeps = i.keeps n some narrow;
    })

    own_cheap : length (issues_of (trace o.shape new n)) ≤ o.ceiling n
    own_cheap =
        let before = counts_of (issues_of (trace o.shape old n)) in
        let w = ended_counts (trace o.shape old n) (i.ends n some narrow) in
        let c = g.no_more before w in
        let le = as_long (trace o.shape old n) (trace o.shape new n) (i.ends n some narrow)
        at_own.ends before w c.0 c.1 c.2 in
        let ceiling = i.cheap n some narrow in
        omega (arith, le, ceiling)

    at_width : (P : ℕ → Type 0) → P n → ((m : ℕ) → 0 < m → m ≤ WIDTH_MAX → m ≢ n → P m)
        → (m : ℕ) → 0 < m → m ≤ WIDTH_MAX → P m
    at_width P own other m pos le =
        ⊎_elim (λ (e : m ≡ n). subst P (sym e) own) (λ (ne : m ≡ n → ⊥). other m pos le ne)
        (cases_eq m n)

    does : Implements o.shape new o.ceiling o.meaning
    does = record {
      ends = at_width (λ m. HasEnded (trace o.shape new m)) at_own.ends
          (λ m pos le ne. (g.elsewhere m pos le ne).ended (i.ends m pos le));
      cheap = at_width (λ m. length (issues_of (trace o.shape new m)) ≤ o.ceiling m) own_cheap
          (λ m pos le ne. subst (λ (cs : List Issue). length cs ≤ o.ceiling m)
          (sym (g.elsewhere m pos le ne).issues) (i.cheap m pos le));
      gives = at_width (λ m. Gives o.shape m (issues_of (trace o.shape new m)) (o.meaning m))
          at_own.gives (λ m pos le ne. subst (λ (cs : List Issue). Gives o.shape m cs (o.meaning m))
          (sym (g.elsewhere m pos le ne).issues) (i.gives m pos le));
      keeps = at_width (λ m. Keeps o.shape m (issues_of (trace o.shape new m))) at_own.keeps
          (λ m pos le ne. subst (λ (cs : List Issue). Keeps o.shape m cs)
          (sym (g.elsewhere m pos le ne).issues) (i.keeps m pos le));
    }

  abbrev shaped : Microprogram → Shape → Microprogram
  shaped e s = record { name = e.name; shape = s; code = e.code }

  one_does : (e r : Microprogram) (o : TextOp) → EntryDoes e o → IsAsGood n ops e r
      → op_named ops e.name ≡ Some o → EntryDoes r o
  one_does e r o d g named =
      let both = g.shape ∙ d.shape in
      let g' : IsAsGood n ops (shaped e o.shape) r =
      subst (λ s. IsAsGood n ops (shaped e s) r) d.shape g in
      let g'' : IsAsGood n ops (shaped e o.shape) (shaped r o.shape) =
      subst (λ s. IsAsGood n ops (shaped e o.shape) (shaped r s)) both g' in
      record {
        name = g.name ∙ d.name;
        shape = both;
        code = does o e.name r.name e.code r.code d.code g'' named;
      }

  all_do : (es rs : List Microprogram) (os : List TextOp) → AreAsGood n ops es rs
      → ImplementsAll es os → AreNamed ops es os → ImplementsAll rs os
  all_do [] [] [] g i named = tt
  all_do [] [] (o ∷ os) g i named = absurd i
  all_do [] (r ∷ rs) os g i named = absurd g
  all_do (e ∷ es) [] os g i named = absurd g
  all_do (e ∷ es) (r ∷ rs) [] g i named = absurd i
  all_do (e ∷ es) (r ∷ rs) (o ∷ os) g i named =
      (one_does e r o i.0 g.0 named.0, all_do es rs os g.1 i.1 named.1)

pub still_implement : (n : ℕ) (ops : List TextOp) (es rs : List Microprogram) → 0 < n
    → n ≤ WIDTH_MAX → IsProgram es → AreAsGood n ops es rs → ImplementsAll es ops
    → ImplementsAll rs ops
still_implement n ops es rs some narrow is good i =
    all_do n ops some narrow es rs ops good i (are_named es ops is.names i)
