-- The op of an entry's name, where a program implements ops.
use Rattle.optimise_job.proofs.Common.{◌≡◌, ℕ, suc, ◌<◌, Bool, true, false, cond, List, [], ◌∷◌}
use Rattle.optimise_job.proofs.Common.{length, refl, sym, ap, ◌∙◌, subst, arith, Some, ◌≢◌}
use Rattle.optimise_job.proofs.Common.{bytes_eq, slice_index_or, AllByRecursion, Microprogram}
use Rattle.optimise_job.proofs.Common.{ImplementsAll, TextOp}
use Rattle.std.specs.List.{AllPairs}
use Rattle.std.proofs.lemmas.Slice.Eq.{bytes_eq-Decides}
use Rattle.optimise_job.specs.Outcomes.{op_named}

-- each entry does the op of its name among all these ops
abbrev pub AreNamed : List TextOp → List Microprogram → List TextOp → Type 0
AreNamed all [] [] = Unit {0}
AreNamed all [] (o ∷ ops) = ⊥
AreNamed all (e ∷ es) [] = ⊥
AreNamed all (e ∷ es) (o ∷ ops) = (op_named all e.name ≡ Some o) × AreNamed all es ops

-- the names of the others differ
others : (e : Microprogram) (es : List Microprogram) → ((j : ℕ) (d : Microprogram) → j < length es
    → e.name ≢ (slice_index_or es j d).name) → AllByRecursion (λ f. e.name ≢ f.name) es
others e [] h = tt
others e (f ∷ es) h = (h 0 f (omega arith), others e es (λ j d lt. h (suc j) d (omega arith)))

-- one more op in front, of another name
lifted : (o : TextOp) (all : List TextOp) (es : List Microprogram) (ops : List TextOp)
    → AllByRecursion (λ (f : Microprogram). o.name ≢ f.name) es → AreNamed all es ops
    → AreNamed (o ∷ all) es ops
lifted o all [] [] apart named = tt
lifted o all [] (p ∷ ops) apart named = absurd named
lifted o all (e ∷ es) [] apart named = absurd named
lifted o all (e ∷ es) (p ∷ ops) apart named = (
  ap (λ b. cond b (Some o) (op_named all e.name)) (differ o.name e.name apart.0) ∙ named.0,
  lifted o all es ops apart.1 named.1,
)
  where
    differ : (a b : List ℕ) → a ≢ b → bytes_eq a b ≡ false
    differ a b ne = decided (bytes_eq a b) refl
      where
        decided : (c : Bool) → bytes_eq a b ≡ c → c ≡ false
        decided true e = absurd (ne ((bytes_eq-Decides a b).0 e))
        decided false e = refl

same_name : (a b : List ℕ) → a ≡ b → bytes_eq a b ≡ true
same_name a b e = (bytes_eq-Decides a b).1 e

pub are_named : (es : List Microprogram) (ops : List TextOp)
    → AllPairs (λ (m n : Microprogram). m.name ≢ n.name) es → ImplementsAll es ops
    → AreNamed ops es ops
are_named [] [] apart does = tt
are_named [] (o ∷ ops) apart does = absurd does
are_named (e ∷ es) [] apart does = absurd does
are_named (e ∷ es) (o ∷ ops) apart does = (
  ap (λ b. cond b (Some o) (op_named ops e.name))
      (same_name o.name e.name (sym does.0.name)),
  lifted o ops es ops
      (others (record { name = o.name; shape = e.shape; code = e.code }) es (λ j d lt.
      subst (λ (x : List ℕ). x ≢ (slice_index_or es j d).name) does.0.name
      (apart 0 (suc j) d (omega arith) (omega arith))))
      (are_named es ops (λ i j d lt in_it. apart (suc i) (suc j) d (omega arith) (omega arith))
      does.1),
)
