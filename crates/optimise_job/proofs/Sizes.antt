-- How many instructions the program has.
use Rattle.optimise_job.proofs.Common.{◌≡◌, ℕ, ◌+◌, ◌-◌, ◌≤◌, List, [], ◌∷◌, length, ap, arith}
use Rattle.optimise_job.proofs.Common.{Option, Some, None, Issued, Microprogram, TextOp}
use Rattle.optimise_job.specs.declared.offer.Outcome.{Outcome}
use Rattle.optimise_job.specs.declared.offer.Outcome.TheVariants as outcome
use Rattle.optimise_job.specs.Outcomes.{AreOutcomes, IsOfferOf, IsOutcomeOf, op_named}

-- all instructions of a program
abbrev pub total : List Microprogram → ℕ
total [] = 0
total (m ∷ ms) = length m.code + total ms

same_long : (room : ℕ) (e r : Microprogram) → r ≡ e → length r.code ≤ length e.code + room
same_long room e r same =
    let long = ap (λ (m : Microprogram). length m.code) same in omega (arith, long)

offer_fits : (n room : ℕ) (o : TextOp) (e : Microprogram) (line : List Issued) (r : Microprogram)
    (x : Outcome) → IsOfferOf n room o e line r x → length r.code ≤ length e.code + room
offer_fits n room o e line r outcome.NoOp is = absurd is
offer_fits n room o e line r (outcome.Unproved verdict) is = same_long room e r is.0
offer_fits n room o e line r outcome.NotFewer is = same_long room e r is.0
offer_fits n room o e line r (outcome.Command k) is = same_long room e r is.0
offer_fits n room o e line r outcome.TooLong is = same_long room e r is.0
offer_fits n room o e line r (outcome.LongWalk m) is = same_long room e r is.0
offer_fits n room o e line r (outcome.Said verdict) is = same_long room e r is.0
offer_fits n room o e line r (outcome.Taken before after) is = is.fits

outcome_fits : (n room : ℕ) (op : Option TextOp) (e : Microprogram) (line : List Issued)
    (r : Microprogram) (x : Outcome) → IsOutcomeOf n room op e line r x
    → length r.code ≤ length e.code + room
outcome_fits n room None e line r x is = same_long room e r is.0
outcome_fits n room (Some o) e line r x is = offer_fits n room o e line r x is

-- they are no more than there is room for
pub total_fits : (n room : ℕ) (ops : List TextOp) (es : List Microprogram)
    (lines : List (List Issued)) (rs : List Microprogram) (xs : List Outcome)
    → AreOutcomes n room ops es lines rs xs → total rs ≤ total es + room
total_fits n room ops [] [] [] [] are = omega arith
total_fits n room ops (e ∷ es) (l ∷ lines) (r ∷ rs) (x ∷ xs) are =
    let own = outcome_fits n room (op_named ops e.name) e l r x are.0 in
    let rest = total_fits n (room - (length r.code - length e.code)) ops es lines rs xs are.1 in
    omega (arith, own, rest)
total_fits n room ops _ _ _ _ are = absurd are
