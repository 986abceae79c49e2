-- The programs of a soak, and its steps.
use Rattle.std.specs.Prelude.{ℕ, List, [], ◌∷◌, length}
use Rattle.uprog_code.specs.Shape.{Microprogram}
use Rattle.dram_model.specs.Chip.{Banks, after, blank_banks}
use Rattle.cli_model.specs.Waves.{and_reading, doing}
use Rattle.cli_model.specs.Steps.{Step, Take, Open, Use, Put}
use Rattle.soak_job.specs.declared.cases.Case.{Case}
use Rattle.soak_job.specs.Cases.{soak_cases, source_kinds}
use Rattle.soak_job.specs.Layout.{case_events, soak_chip}
use Rattle.soak_job.specs.OneCase.{IsProgramOf}
use Rattle.soak_job.specs.Words.{after_all}
use Rattle.soak_job.specs.Sums.{case_line, last_line}

-- each is a program of its case; those of the last cases may be missing
abbrev pub AreProgramsOf : List Case → List Microprogram → Type 0
AreProgramsOf cs [] = Unit {0}
AreProgramsOf [] (m ∷ ms) = ⊥
AreProgramsOf (c ∷ cs) (m ∷ ms) = IsProgramOf c m × AreProgramsOf cs ms

-- A case takes memory for its program, uses the chip for its events, and sends its line; where no
-- program was made, its memory was the last step. The generator and the banks go on from case to
-- case
abbrev pub cases_steps : (state : ℕ) → Banks → List Case → List Microprogram → List Step
cases_steps state banks [] ms = Put (last_line (length soak_cases)) ∷ []
cases_steps state banks (c ∷ cs) [] = Take ∷ []
cases_steps state banks (c ∷ cs) (m ∷ ms) =
    Take ∷ Use (and_reading 2 (doing banks (case_events state c m))) ∷ Put (case_line state c m)
    ∷ cases_steps (after_all state (source_kinds c.op)) (after (case_events state c m) banks) cs ms

-- the chip begins, and all cases follow, with the generator whose first state is the seed
abbrev pub soak_steps : (seed : ℕ) → List Microprogram → List Step
soak_steps seed programs =
    Open (doing (blank_banks soak_chip) [])
    ∷ cases_steps seed (blank_banks soak_chip) soak_cases programs
