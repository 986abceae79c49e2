-- What an outcome says of the op of the entry's name.
use Rattle.optimise_job.proofs.Common.{◌≡◌, ℕ, ◌-◌, List, [], ◌∷◌, length, refl, sym, ap, ◌∙◌}
use Rattle.optimise_job.proofs.Common.{subst, Option, Some, None, Issued, Microprogram, TextOp}
use Rattle.optimise_job.proofs.Common.{DoesAt}
use Rattle.optimise_job.specs.declared.offer.Outcome.{Outcome}
use Rattle.optimise_job.specs.declared.offer.Outcome.TheVariants as outcome
use Rattle.optimise_job.specs.Outcomes.{AreOutcomes, IsOfferOf, IsOutcomeOf, op_named}
use Rattle.optimise_job.specs.Promise.{AreRightIfKnown, IsRightIfKnown}

only : (a b : TextOp) → Some a ≡ Some b → a ≡ b
only a b f = cc

no_op : (o : TextOp) → None ≡ Some o → ⊥
no_op o f = absurd (cc)

-- what does the op does the one of the name
does_named : (n : ℕ) (ops : List TextOp) (o : TextOp) (e r : Microprogram) → r.name ≡ e.name
    → op_named ops e.name ≡ Some o → DoesAt n r o → (p : TextOp) → op_named ops r.name ≡ Some p
    → DoesAt n r p
does_named n ops o e r same named does p other =
    subst (DoesAt n r) (only o p (sym named ∙ sym (ap (op_named ops) same) ∙ other)) does

stays : (n : ℕ) (ops : List TextOp) (o : TextOp) (e r : Microprogram) → r ≡ e
    → op_named ops e.name ≡ Some o → DoesAt n e o → (p : TextOp) → op_named ops r.name ≡ Some p
    → DoesAt n r p
stays n ops o e r same named does =
    does_named n ops o e r (ap (λ (m : Microprogram). m.name) same) named
    (subst (λ m. DoesAt n m o) (sym same) does)

offer_right : (n room : ℕ) (ops : List TextOp) (o : TextOp) (e : Microprogram) (line : List Issued)
    (r : Microprogram) (x : Outcome) → op_named ops e.name ≡ Some o
    → IsOfferOf n room o e line r x → IsRightIfKnown n ops r x
offer_right n room ops o e line r outcome.NoOp named is = absurd is
offer_right n room ops o e line r (outcome.Unproved verdict) named is = tt
offer_right n room ops o e line r outcome.NotFewer named is = stays n ops o e r is.0 named is.1
offer_right n room ops o e line r (outcome.Command k) named is = stays n ops o e r is.0 named is.1
offer_right n room ops o e line r outcome.TooLong named is = stays n ops o e r is.0 named is.1
offer_right n room ops o e line r (outcome.LongWalk m) named is = stays n ops o e r is.0 named is.1
offer_right n room ops o e line r (outcome.Said verdict) named is = stays n ops o e r is.0 named is.1
offer_right n room ops o e line r (outcome.Taken before after) named is =
    does_named n ops o e r is.short.made.name named is.does

-- an entry with no op has none to do
no_op_right : (n : ℕ) (ops : List TextOp) (e r : Microprogram) → r ≡ e
    → op_named ops e.name ≡ None → IsRightIfKnown n ops r outcome.NoOp
no_op_right n ops e r same none = λ o named.
    absurd (no_op o (sym none ∙ sym (ap (λ (m : Microprogram). op_named ops m.name) same) ∙ named))

one_right : (n room : ℕ) (ops : List TextOp) (op : Option TextOp) (e : Microprogram)
    (line : List Issued) (r : Microprogram) (x : Outcome) → op_named ops e.name ≡ op
    → IsOutcomeOf n room op e line r x → IsRightIfKnown n ops r x
one_right n room ops None e line r x named is =
    subst (IsRightIfKnown n ops r) (sym is.1) (no_op_right n ops e r is.0 named)
one_right n room ops (Some o) e line r x named is = offer_right n room ops o e line r x named is

pub all_right : (n room : ℕ) (ops : List TextOp) (es : List Microprogram) (lines : List (List Issued))
    (rs : List Microprogram) (outcomes : List Outcome) → AreOutcomes n room ops es lines rs outcomes
    → AreRightIfKnown n ops rs outcomes
all_right n room ops [] [] [] [] are = tt
all_right n room ops (e ∷ es) (line ∷ lines) (r ∷ rs) (x ∷ xs) are = (
  one_right n room ops (op_named ops e.name) e line r x refl are.0,
  all_right n (room - (length r.code - length e.code)) ops es lines rs xs are.1,
)
all_right n room ops _ _ _ _ are = absurd are
