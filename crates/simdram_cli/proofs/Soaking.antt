-- How a soak goes by its plan, its statuses, its files, and what one that is done promises.
use Rattle.simdram_cli.proofs.Common.{◌≡◌, ◌⊎◌, ℕ, List, [], ◌∷◌, ◌++◌, Option, None, append-nil}
use Rattle.simdram_cli.proofs.Common.{inl, inr, refl, subst, sym, Result, Ok, Err, Files, Known}
use Rattle.simdram_cli.proofs.Common.{Banks, after, blank_banks, Microprogram, World, ChipFailed}
use Rattle.simdram_cli.proofs.Common.{NoMemory, PutFailed, Reason, Step, sent_by, Runs, GoodFor}
use Rattle.simdram_cli.proofs.Common.{runs_answered, runs_made, runs_stopped, runs_then, OfSteps}
use Rattle.cli_model.specs.Ends.{Ended, All, EndsSo, IsAllDone}
use Rattle.cli_model.specs.Plan.{Way, last_status, refused_last, steps_of}
use Rattle.cli_model.specs.Runs.{LeavesAt, TellsLast}
use Rattle.cli_model.proofs.Giving.{IsAnswered, plan_gives}
use Rattle.soak_job.specs.declared.cases.Case.{Case}
use Rattle.soak_job.specs.Cases.{soak_cases, source_kinds}
use Rattle.soak_job.specs.Words.{after_all}
use Rattle.soak_job.specs.Layout.{case_events, soak_chip}
use Rattle.soak_job.specs.Steps.{cases_steps, soak_steps}
use Rattle.soak_job.specs.Done.{SoakGoes, SoakLeft}
use Rattle.soak_job.specs.declared.job.SoakError.{SoakError}
use Rattle.soak_job.specs.declared.job.SoakError.TheVariants as no
use Rattle.simdram_cli.specs.declared.words.Command.TheVariants.{Soak}
use Rattle.simdram_cli.specs.Commands.{CanAnswer}
use Rattle.simdram_cli.specs.Soak.{SoakEnds, Soaked, soak_plan}
use Rattle.simdram_cli.proofs.Planned.{GivesOwn, IsFailing, IsOneOf, Proved, failing_apart, zero_tells}

-- what the job of a seed says, as the command
abbrev pub said_by : Result (Unit {0}) SoakError → Result ℕ Reason
said_by (Ok u) = Ok 0
said_by (Err no.NoMemory) = Err NoMemory
said_by (Err no.ChipFailed) = Err ChipFailed
said_by (Err no.PutFailed) = Err PutFailed

pub soak_runs : (seed : ℕ) (old new : World) (result : Result (Unit {0}) SoakError)
    → SoakGoes seed old new result → Runs (soak_plan seed) old new (said_by result)
soak_runs seed old new (Ok u) g = runs_made _ _ g.programs _ _ _ g.are
    (runs_then (soak_steps seed g.programs) _ _ old new new g.goes
    (runs_answered 0 (SoakLeft seed g.programs) new g.left))
soak_runs seed old new (Err no.NoMemory) g = runs_made _ _ g.programs _ _ _ g.are
    (runs_stopped (soak_steps seed g.programs) _ NoMemory old new g.goes)
soak_runs seed old new (Err no.ChipFailed) g = runs_made _ _ g.programs _ _ _ g.are
    (runs_stopped (soak_steps seed g.programs) _ ChipFailed old new g.goes)
soak_runs seed old new (Err no.PutFailed) g = runs_made _ _ g.programs _ _ _ g.are
    (runs_stopped (soak_steps seed g.programs) _ PutFailed old new g.goes)

-- the statuses that its steps can give

cases_of : (P : ℕ → Type 0) (state : ℕ) (banks : Banks) (cs : List Case) (ms : List Microprogram)
    → P 3 → P 9 → P 10 → OfSteps P (cases_steps state banks cs ms)
cases_of P state banks [] ms three nine ten = (three, tt)
cases_of P state banks (c ∷ cs) [] three nine ten = (ten, tt)
cases_of P state banks (c ∷ cs) (m ∷ ms) three nine ten = (
  ten,
  (
    nine,
    (
      three,
      cases_of P (after_all state (source_kinds c.op)) (after (case_events state c m) banks) cs ms
          three nine ten,
    ),
  ),
)

pub soak_of : (P : ℕ → Type 0) (seed : ℕ) (ms : List Microprogram) → P 3 → P 9 → P 10
    → OfSteps P (soak_steps seed ms)
soak_of P seed ms three nine ten =
    ((nine, ten), cases_of P seed (blank_banks soak_chip) soak_cases ms three nine ten)

pub soak_gives : (seed : ℕ) → GivesOwn (Soak seed) (soak_plan seed)
soak_gives seed = λ programs. (soak_of (IsFailing (Soak seed)) seed programs refl refl refl, refl)

pub soak_good : (seed : ℕ) (holds : Option Files)
    → GoodFor (IsOneOf (10 ∷ 0 ∷ [])) (soak_plan seed) holds
soak_good seed holds = λ programs are.
    (soak_of (λ s. s ≡ 2 → ⊥) seed programs (λ e. cc) (λ e. cc) (λ e. cc), refl)

-- what it leaves where it is done, in any folder
pub soaked : (seed : ℕ) (old new : World) (status : ℕ) → status ≡ 0
    → SoakEnds seed old new status → Soaked seed old new
soaked seed old new status is (e, files) =
    by_cases (plan_gives (IsFailing (Soak seed)) (CanAnswer (Soak seed)) (soak_plan seed) old new
    status (soak_gives seed) e)
  where
    at_end : (way : Way (soak_plan seed)) (stood : World) (ended : Ended) → ended ≡ All
        → EndsSo (steps_of (soak_plan seed) way) (last_status (soak_plan seed) way) ended old stood
        status → TellsLast ended (refused_last (soak_plan seed) way) stood new
        → LeavesAt ended (soak_plan seed) way new.chip → Soaked seed old new
    at_end (inl cut) stood ended all so last left =
        absurd (subst (λ (x : Ended). LeavesAt x (soak_plan seed) (inl cut) new.chip) all left)
    at_end (inr (programs, are, u)) stood ended all so last left =
        let way : Way (soak_plan seed) = inr (programs, are, u) in
        let steps = soak_steps seed programs in
        let done : IsAllDone (steps ++ []) 0 old stood status =
        subst (λ (x : Ended). EndsSo (steps ++ []) 0 x old stood status) all so in
        let same : new ≡ stood = subst (λ (x : Ended). TellsLast x None stood new) all last in
        record {
          programs = programs;
          are = are;
          left = subst (λ (x : Ended). LeavesAt x (soak_plan seed) way new.chip) all left;
          sent = subst (λ (xs : List Step). Known (λ x y. y ≡ x ++ sent_by xs) old.sink.sent
              new.sink.sent) (append-nil steps)
              (subst (λ (w : World). Known (λ x y. y ≡ x ++ sent_by (steps ++ [])) old.sink.sent
              w.sink.sent) (sym same) done.sent);
          files = files;
        }

    by_cases : IsAnswered (CanAnswer (Soak seed)) (soak_plan seed) e.way e.ends.ended status
        ⊎ IsFailing (Soak seed) status → Soaked seed old new
    by_cases (inl a) = at_end e.way e.stood e.ends.ended a.all e.ends.so e.last e.left
    by_cases (inr f) = absurd (failing_apart (Soak seed) status (zero_tells status is) f)

pub soak_proved : (seed : ℕ) → Proved (Soak seed)
soak_proved seed = record {
  gives = soak_gives seed;
  not_one = λ can. cc;
  good = λ holds are good. soak_good seed holds;
  spares = λ old new status ends ten. ends.1;
  tells = zero_tells;
  promised = λ old new status d. soaked seed old new status d.told d.ends;
}
