-- OPS is compiled and PROG stored, by a plan.
use Rattle.simdram_cli.proofs.Common.{◌≡◌, ℕ, List, [], ◌∷◌, None, refl, inl, inr, Result, Ok, Err}
use Rattle.simdram_cli.proofs.Common.{ChipView, FolderView, SinkView, program_bytes, Program, World}
use Rattle.simdram_cli.proofs.Common.{world, Done, Goes, Reason, Refusal, Stopped, Store, Take}
use Rattle.simdram_cli.proofs.Common.{loading, Plan, Runs, runs_made, runs_stopped, runs_then}
use Rattle.cli_model.specs.Steps.{Load}
use Rattle.cli_model.proofs.Running.{runs_read, runs_unread}
use Rattle.simdram_cli.specs.declared.words.TheConstants.{OPS_MAX}
use Rattle.simdram_cli.specs.Ends.{ProgramStopped, ProgramTaken}
use Rattle.simdram_cli.specs.Inputs.{ops_in}
use Rattle.simdram_cli.specs.Plans.{compiled_plan}

pub compiled_stopped : (ops prog : List ℕ) (rest : Program → Plan) (reason : Reason)
    (old new : FolderView) (sink : SinkView) (chip : ChipView)
    → ProgramStopped ops prog reason old new
    → Runs (compiled_plan ops prog rest) (world old sink chip) (world new sink chip) (Err reason)
compiled_stopped ops prog rest reason old new sink chip s =
    by_cases (ops_in s.text) refl (s.goes sink chip)
  where
    by_cases : (r : Result (Unit {0}) Refusal) → ops_in s.text ≡ r
        → Goes (loading ops OPS_MAX s.text r (λ t. Take ∷ Store prog (program_bytes 2 s.program)
        ∷ [])) (Stopped reason) (world old sink chip) (world new sink chip)
        → Runs (compiled_plan ops prog rest) (world old sink chip) (world new sink chip)
        (Err reason)
    by_cases (Ok u) e (inl (mid, ((none, loaded), g))) =
        runs_read ops OPS_MAX ops_in _ s.text u (Err reason) (world old sink chip) mid
        (world new sink chip) e loaded (runs_made _ _ s.program _ _ _ tt
        (runs_stopped (Take ∷ Store prog (program_bytes 2 s.program) ∷ []) _ reason mid
        (world new sink chip) g))
    by_cases (Ok u) e (inr fails) =
        runs_unread ops OPS_MAX ops_in _ s.text reason (world old sink chip) (world new sink chip)
        s.is_text (rw e fails)
    by_cases (Err refusal) e (inl (mid, ((none, loaded), g))) = absurd (cc)
    by_cases (Err refusal) e (inr fails) =
        runs_unread ops OPS_MAX ops_in _ s.text reason (world old sink chip) (world new sink chip)
        s.is_text (rw e fails)

pub compiled_taken : (ops prog : List ℕ) (rest : Program → Plan) (program : Program)
    (result : Result ℕ Reason) (old mid : FolderView) (sink : SinkView) (chip : ChipView)
    (new : World) → ProgramTaken ops prog program old mid
    → Runs (rest program) (world mid sink chip) new result
    → Runs (compiled_plan ops prog rest) (world old sink chip) new result
compiled_taken ops prog rest program result old mid sink chip new t more =
    by_cases (t.goes sink chip)
  where
    by_cases : Goes (Load ops OPS_MAX t.text None ∷ Take ∷ Store prog (program_bytes 2 program) ∷ [])
        Done (world old sink chip) (world mid sink chip)
        → Runs (compiled_plan ops prog rest) (world old sink chip) new result
    by_cases (inr fails) = absurd fails
    by_cases (inl (first, ((none, loaded), g))) =
        runs_read ops OPS_MAX ops_in _ t.text tt result (world old sink chip) first new t.accepted
        loaded (runs_made _ _ program _ _ _ tt
        (runs_then (Take ∷ Store prog (program_bytes 2 program) ∷ []) _ result first
        (world mid sink chip) new g (runs_made _ _ tt _ _ _ t.compiled more)))
