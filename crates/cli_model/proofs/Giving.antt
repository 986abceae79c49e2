-- Which statuses a plan gives.
use Rattle.cli_model.proofs.Common.{◌≡◌, ℕ, None, refl, sym, subst, inl, inr, ◌⊎◌, Result, Ok, Err}
use Rattle.cli_model.proofs.Common.{IfErr, ChipView}
use Rattle.cli_model.specs.World.{World}
use Rattle.cli_model.specs.Steps.{Refusal}
use Rattle.cli_model.specs.Ends.{Ended, All, At, EndsSo}
use Rattle.cli_model.proofs.Statuses.{OfSteps, of_more, stop_so}
use Rattle.cli_model.specs.Plan.{Plan, Loads, Makes, Then, Answers, Refuses, Way, steps_of}
use Rattle.cli_model.specs.Plan.{last_status, refused_last, Leaves}
use Rattle.cli_model.specs.Runs.{EndsBy, LeavesAt}
use Rattle.cli_model.proofs.Owed.{Gives}

-- the status of a refusal is one that refusals of this reader have
pub refused_so : {A : Type 0} (F : ℕ → Type 0) (r : Result A Refusal) (refusal : Refusal)
    → r ≡ Err refusal → IfErr r (λ x. F x.status) → F refusal.status
refused_so F (Ok value) refusal e h = absurd (cc)
refused_so F (Err own) refusal e h =
    let same : own ≡ refusal = cc in subst (λ (x : Refusal). F x.status) same h

-- each step of a plan can fail only with a status that the plan gives
pub steps_give : (F D : ℕ → Type 0) (plan : Plan) → Gives F D plan → (way : Way plan)
    → OfSteps F (steps_of plan way)
steps_give F D (Loads name limit read rest) g (inl cut) = tt
steps_give F D (Loads name limit read rest) (two, eleven, ten, err, more)
    (inr (text, inl (value, is, way))) =
    ((two, eleven, ten, tt), steps_give F D (rest text value) (more text value) way)
steps_give F D (Loads name limit read rest) (two, eleven, ten, err, more)
    (inr (text, inr (refusal, is))) =
    ((two, eleven, ten, refused_so F (read text) refusal is (err text)), tt)
steps_give F D (Makes P rest) g (inl cut) = tt
steps_give F D (Makes P rest) g (inr (value, has, way)) =
    steps_give F D (rest value) (g value) way
steps_give F D (Then steps rest) g way =
    of_more F steps (steps_of rest way) g.0 (steps_give F D rest g.1 way)
steps_give F D (Answers status left) g way = tt
steps_give F D (Refuses refusal left) g way = tt

-- the statuses of an end
pub end_gives : (F D : ℕ → Type 0) (plan : Plan) → Gives F D plan → (way : Way plan)
    (chip : ChipView) → Leaves plan way chip
    → ((refused_last plan way ≡ None) × D (last_status plan way)) ⊎ F (last_status plan way)
end_gives F D (Loads name limit read rest) g (inl cut) chip l = elim l [ ]
end_gives F D (Loads name limit read rest) (two, eleven, ten, err, more)
    (inr (text, inl (value, is, way))) chip l =
    end_gives F D (rest text value) (more text value) way chip l
end_gives F D (Loads name limit read rest) g (inr (text, inr (refusal, is))) chip l = elim l [ ]
end_gives F D (Makes P rest) g (inl cut) chip l = elim l [ ]
end_gives F D (Makes P rest) g (inr (value, has, way)) chip l =
    end_gives F D (rest value) (g value) way chip l
end_gives F D (Then steps rest) g way chip l = end_gives F D rest g.1 way chip l
end_gives F D (Answers status left) g way chip l = inl (refl, g)
end_gives F D (Refuses refusal left) g way chip l = inr g

-- how a command ended that answers none that its steps give when they fail
pub record IsAnswered (D : ℕ → Type 0) (plan : Plan) (way : Way plan) (ended : Ended)
    (status : ℕ) : Type 0 where
  pub all : ended ≡ All
  pub answered : refused_last plan way ≡ None
  pub own : D status

-- it answers one of them, or is done with an answer
pub plan_gives : (F D : ℕ → Type 0) (plan : Plan) (old new : World) (status : ℕ)
    → Gives F D plan → (e : EndsBy plan old new status)
    → IsAnswered D plan e.way e.ends.ended status ⊎ F status
plan_gives F D plan old new status g e =
    by_cases e.ends.ended e.ends.so e.left
  where
    by_cases : (ended : Ended)
        → EndsSo (steps_of plan e.way) (last_status plan e.way) ended old e.stood status
        → LeavesAt ended plan e.way new.chip → IsAnswered D plan e.way ended status ⊎ F status
    by_cases All so left = at_end (end_gives F D plan g e.way new.chip left)
      where
        at_end : ((refused_last plan e.way ≡ None) × D (last_status plan e.way))
            ⊎ F (last_status plan e.way) → IsAnswered D plan e.way All status ⊎ F status
        at_end (inl (none, d)) =
            inl (record { all = refl; answered = none; own = subst D (sym so.answers) d })
        at_end (inr f) = inr (subst F (sym so.answers) f)
    by_cases (At stop) so left =
        inr (stop_so F (steps_of plan e.way) stop old e.stood status
        (steps_give F D plan g e.way) so)

-- a command that ends by its plan answers one of the plan's statuses
pub plan_answers : (F D P : ℕ → Type 0) (plan : Plan) (old new : World) (status : ℕ)
    → Gives F D plan → ((s : ℕ) → F s → P s) → ((s : ℕ) → D s → P s)
    → EndsBy plan old new status → P status
plan_answers F D P plan old new status g f d e =
    by_cases (plan_gives F D plan old new status g e)
  where
    by_cases : IsAnswered D plan e.way e.ends.ended status ⊎ F status → P status
    by_cases (inl a) = d status a.own
    by_cases (inr x) = f status x
