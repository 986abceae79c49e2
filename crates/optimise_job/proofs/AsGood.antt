-- What an outcome says of the entry that came of it.
use Rattle.optimise_job.proofs.Common.{◌≡◌, ℕ, ◌-◌, ◌≤◌, List, [], ◌∷◌, length, refl, sym, ◌∙◌}
use Rattle.optimise_job.proofs.Common.{subst, arith, Option, Some, None, Ok, Result, BadWalk}
use Rattle.optimise_job.proofs.Common.{Issued, Counts, Microprogram, TextOp, issues, DoesAt}
use Rattle.optimise_job.specs.Outcomes.{op_named}
use Rattle.optimise_job.specs.declared.offer.Outcome.{Outcome}
use Rattle.optimise_job.specs.declared.offer.Outcome.TheVariants as outcome
use Rattle.optimise_job.specs.Outcomes.{AreOutcomes, IsOfferOf, IsOutcomeOf, IsShorter}
use Rattle.optimise_job.specs.Outcomes.{commands}
use Rattle.optimise_job.specs.Promise.{AreAsGood, IsAsGood}

-- an entry is as good as itself
itself : (n : ℕ) (ops : List TextOp) (e : Microprogram) → IsAsGood n ops e e
itself n ops e = record {
  name = refl;
  shape = refl;
  elsewhere = λ m some narrow ne. record { ends = λ h. h; ended = λ h. h; issues = refl };
  does = λ o named d. d;
  no_more = λ before w. (before, w, omega arith);
}

stays : (n : ℕ) (ops : List TextOp) (e r : Microprogram) → r ≡ e → IsAsGood n ops e r
stays n ops e r same = subst (IsAsGood n ops e) (sym same) (itself n ops e)

shorter : (n room : ℕ) (ops : List TextOp) (o : TextOp) (e : Microprogram) (line : List Issued)
    (r : Microprogram) (before after : Counts) → op_named ops e.name ≡ Some o
    → IsShorter n room o e (issues line) r before after → IsAsGood n ops e r
shorter n room ops o e line r before after named s = record {
  name = s.short.made.name;
  shape = s.short.made.shape;
  elsewhere = s.elsewhere;
  does = λ o' named' d. let same : o ≡ o' = only o o' (sym named ∙ named') in
      subst (DoesAt n r) same s.does;
  no_more = λ before' w.
      let same : before ≡ before' = counted before before' (sym s.short.was ∙ w) in
      let lt = s.short.fewer in (
        after,
        s.short.is,
        subst (λ (x : Counts). commands after ≤ commands x) same
            (omega (arith, lt)),
      );
}
  where
    only : (a b : TextOp) → Some a ≡ Some b → a ≡ b
    only a b f = cc

    counted : (a b : Counts) → ◌≡◌ {A = Result Counts BadWalk} (Ok a) (Ok b) → a ≡ b
    counted a b f = cc

offer_good : (n room : ℕ) (ops : List TextOp) (o : TextOp) (e : Microprogram) (line : List Issued)
    (r : Microprogram) (x : Outcome) → op_named ops e.name ≡ Some o
    → IsOfferOf n room o e line r x → IsAsGood n ops e r
offer_good n room ops o e line r outcome.NoOp named is = absurd is
offer_good n room ops o e line r (outcome.Unproved verdict) named is = stays n ops e r is.0
offer_good n room ops o e line r outcome.NotFewer named is = stays n ops e r is.0
offer_good n room ops o e line r (outcome.Command k) named is = stays n ops e r is.0
offer_good n room ops o e line r outcome.TooLong named is = stays n ops e r is.0
offer_good n room ops o e line r (outcome.LongWalk m) named is = stays n ops e r is.0
offer_good n room ops o e line r (outcome.Said verdict) named is = stays n ops e r is.0
offer_good n room ops o e line r (outcome.Taken before after) named is =
    shorter n room ops o e line r before after named is

one_good : (n room : ℕ) (ops : List TextOp) (op : Option TextOp) (e : Microprogram)
    (line : List Issued) (r : Microprogram) (x : Outcome) → op_named ops e.name ≡ op
    → IsOutcomeOf n room op e line r x → IsAsGood n ops e r
one_good n room ops None e line r x named is = stays n ops e r is.0
one_good n room ops (Some o) e line r x named is = offer_good n room ops o e line r x named is

-- and of all entries
pub all_good : (n room : ℕ) (ops : List TextOp) (es : List Microprogram) (lines : List (List Issued))
    (rs : List Microprogram) (outcomes : List Outcome) → AreOutcomes n room ops es lines rs outcomes
    → AreAsGood n ops es rs
all_good n room ops [] [] [] [] are = tt
all_good n room ops (e ∷ es) (line ∷ lines) (r ∷ rs) (x ∷ xs) are = (
  one_good n room ops (op_named ops e.name) e line r x refl are.0,
  all_good n (room - (length r.code - length e.code)) ops es lines rs xs are.1,
)
all_good n room ops _ _ _ _ are = absurd are
