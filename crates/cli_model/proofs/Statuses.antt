-- Which statuses a command can answer.
use Rattle.cli_model.proofs.Common.{◌≡◌, ℕ, List, [], ◌∷◌, ◌++◌, Option, Some, None, refl, sym}
use Rattle.cli_model.proofs.Common.{subst, inl, inr}
use Rattle.cli_model.specs.World.{World}
use Rattle.cli_model.specs.Steps.{Step, Load, Take, Store, Open, Use, UseFor, Put, Print, Refusal}
use Rattle.cli_model.specs.Steps.{Reason, CannotRead, TooLong, Refused, NoMemory, CannotWrite}
use Rattle.cli_model.specs.Steps.{PutFailed, ChipFailed}
use Rattle.cli_model.specs.Status.{reason_status}
use Rattle.cli_model.specs.Ends.{Stop, Ended, All, At, Causes, IsStopped, EndsSo}

-- the statuses that a step that fails can give have the property
abbrev pub OfRefusal : (ℕ → Type 0) → Option Refusal → Type 0
OfRefusal P None = Unit {0}
OfRefusal P (Some refusal) = P refusal.status

abbrev pub OfStep : (ℕ → Type 0) → Step → Type 0
OfStep P (Load name limit text refusal) = P 2 × P 11 × P 10 × OfRefusal P refusal
OfStep P Take = P 10
OfStep P (Store name bytes) = P 3
OfStep P (Open on) = P 9 × P 10
OfStep P (Use on) = P 9
OfStep P (UseFor wave) = P 9
OfStep P (Put bytes) = P 3
OfStep P (Print on bytes) = P 3 × P 9

-- each step can fail only with these statuses
abbrev pub OfSteps : (ℕ → Type 0) → List Step → Type 0
OfSteps P [] = Unit {0}
OfSteps P (step ∷ steps) = OfStep P step × OfSteps P steps

-- so it is of two lists of steps, one after the other
pub of_more : (P : ℕ → Type 0) (xs ys : List Step) → OfSteps P xs → OfSteps P ys
    → OfSteps P (xs ++ ys)
of_more P [] ys h k = k
of_more P (x ∷ xs) ys h k = (h.0, of_more P xs ys h.1 k)

refused_so : (P : ℕ → Type 0) (refusal : Option Refusal) (said : Refusal) → refusal ≡ Some said
    → OfRefusal P refusal → P said.status
refused_so P None said e h = absurd (cc)
refused_so P (Some r) said e h = let same : r ≡ said = cc in
    subst (λ (x : Refusal). P x.status) same h

load_so : (P : ℕ → Type 0) (name : List ℕ) (limit : ℕ) (text : List ℕ) (refusal : Option Refusal)
    (reason : Reason) (a b : World) → OfStep P (Load name limit text refusal)
    → Causes (Load name limit text refusal) reason a b → P (reason_status reason)
load_so P name limit text refusal (CannotRead said) a b h c = h.0
load_so P name limit text refusal (TooLong said) a b h c = h.1
load_so P name limit text refusal (Refused said) a b h c = refused_so P refusal said c h.3
load_so P name limit text refusal NoMemory a b h c = h.2
load_so P name limit text refusal (CannotWrite said) a b h c = elim c [ ]
load_so P name limit text refusal PutFailed a b h c = elim c [ ]
load_so P name limit text refusal ChipFailed a b h c = elim c [ ]

reason_so : (P : ℕ → Type 0) (reason other : Reason) → reason ≡ other → P (reason_status other)
    → P (reason_status reason)
reason_so P reason other e h = subst (λ (r : Reason). P (reason_status r)) (sym e) h

step_so : (P : ℕ → Type 0) (step : Step) (reason : Reason) (a b : World) → OfStep P step
    → Causes step reason a b → P (reason_status reason)
step_so P (Load name limit text refusal) reason a b h c =
    load_so P name limit text refusal reason a b h c
step_so P Take reason a b h c = reason_so P reason NoMemory c h
step_so P (Store name bytes) reason a b h c = reason_so P reason (CannotWrite name) c.0 h
step_so P (Open on) reason a b h (inl c) = reason_so P reason NoMemory c h.1
step_so P (Open on) reason a b h (inr c) = reason_so P reason ChipFailed c.0 h.0
step_so P (Use on) reason a b h c = reason_so P reason ChipFailed c.0 h
step_so P (UseFor wave) reason a b h c = reason_so P reason ChipFailed c.0 h
step_so P (Put bytes) reason a b h c = reason_so P reason PutFailed c.0 h
step_so P (Print on bytes) reason a b h (inl c) = reason_so P reason PutFailed c.0 h.0
step_so P (Print on bytes) reason a b h (inr c) = reason_so P reason ChipFailed c.0 h.1

of_middle : (P : ℕ → Type 0) (front : List Step) (at : Step) (rest : List Step)
    → OfSteps P (front ++ at ∷ rest) → OfStep P at
of_middle P [] at rest h = h.0
of_middle P (x ∷ front) at rest h = of_middle P front at rest h.1

-- a command that stopped answers one of them
pub stop_so : (P : ℕ → Type 0) (steps : List Step) (stop : Stop) (a b : World) (status : ℕ)
    → OfSteps P steps → IsStopped steps stop a b status → P status
stop_so P steps stop a b status h s =
    subst P (sym s.answers) (step_so P stop.failed stop.reason a b
    (of_middle P stop.before stop.failed stop.following (subst (OfSteps P) (sym s.place) h))
    s.causes)

-- where the status is none that a step that fails can give, all was done
pub all_done : (steps : List Step) (done : ℕ) (ended : Ended) (a b : World) (status : ℕ)
    → OfSteps (λ s. s ≡ status → ⊥) steps → EndsSo steps done ended a b status → ended ≡ All
all_done steps done All a b status h s = refl
all_done steps done (At stop) a b status h s =
    absurd (stop_so (λ s. s ≡ status → ⊥) steps stop a b status h s refl)
