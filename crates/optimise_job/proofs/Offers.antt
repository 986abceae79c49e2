-- What is said of the entry that came of an offer.
use Rattle.optimise_job.proofs.Common.{◌≡◌, ℕ, ◌<◌, ◌≤◌, List, refl, sym, subst, Some, None, Ok}
use Rattle.optimise_job.proofs.Common.{Result, length, ◌+◌, ◌≢◌, WIDTH_MAX, Issued, Counts}
use Rattle.optimise_job.proofs.Common.{Microprogram, HasEnded, Issue, trace, TextOp, DoesAt}
use Rattle.std.proofs.Common.{Err}
use Rattle.std.specs.Prelude.{IfOk}
use Rattle.width_entry.proofs.Budget.{issues_same}
use Rattle.verify_core.specs.declared.verdict.Verdict.TheVariants.{Right}
use Rattle.verify_core.specs.Verdicts.{IsVerdict}
use Rattle.optimise_job.specs.declared.offer.Outcome.{Outcome}
use Rattle.optimise_job.specs.declared.offer.Outcome.TheVariants as outcome
use Rattle.optimise_job.specs.Outcomes.{HasShortLine, IsOfferOf, IsOutcome, IsOutcomeOf}
use Rattle.optimise_job.specs.Outcomes.{IsShorter, op_named}

pub is_shorter : (n room : ℕ) (o : TextOp) (e : Microprogram) (line : List Issue)
    (r : Microprogram) (before after counts : Counts) → HasShortLine n line e r before after
    → length r.code ≤ length e.code + room → DoesAt n e o → IsVerdict n r o (Right counts) → ((m : ℕ) → 0 < m → m ≤ WIDTH_MAX → m ≢ n
    → HasEnded (trace e.shape e.code m) → HasEnded (trace r.shape r.code m))
    → IsShorter n room o e line r before after
is_shorter n room o e line r before after counts short fits did verdict ends = record {
  short = short;
  fits = fits;
  did = did;
  does = verdict.2;
  elsewhere = λ m some narrow ne. issues_same n m line e r short.made some narrow ne
      (ends m some narrow ne);
}

pub outcome_none : (n room : ℕ) (ops : List TextOp) (e : Microprogram) (line : List Issued)
    (r : Microprogram) → op_named ops e.name ≡ None → r ≡ e
    → IsOutcome n room ops e line r outcome.NoOp
outcome_none n room ops e line r none same =
    subst (λ o. IsOutcomeOf n room o e line r outcome.NoOp) (sym none) (same, refl)

pub outcome_some : (n room : ℕ) (ops : List TextOp) (o : TextOp) (e : Microprogram)
    (line : List Issued) (r : Microprogram) (x : Outcome) → op_named ops e.name ≡ Some o
    → IsOfferOf n room o e line r x → IsOutcome n room ops e line r x
outcome_some n room ops o e line r x named is =
    subst (λ o. IsOutcomeOf n room o e line r x) (sym named) is

-- what follows of what is made
pub if_made : {T E : Type 0} (r : Result T E) (P Q : T → Type 0) → ((x : T) → P x → Q x)
    → IfOk r P → IfOk r Q
if_made (Ok x) P Q f h = f x h
if_made (Err e) P Q f h = tt
