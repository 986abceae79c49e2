-- What a soak leaves on the chip.
use Rattle.std.specs.Prelude.{◌≡◌, ℕ, ◌+◌, ◌*◌, List, [], ◌∷◌, ◌++◌, Result, Ok, Err}
use Rattle.std.specs.Prelude.{None, IfOk, length, sum_by}
use Rattle.dram_model.specs.Chip.{Event, Grew, LogIs, after, blank_banks}
use Rattle.dram_model.specs.View.{ChipView, HasBegun}
use Rattle.op_text.specs.WordOps.{second_kind}
use Rattle.uprog_code.specs.Shape.{Microprogram}
use Rattle.cli_model.specs.World.{World}
use Rattle.cli_model.specs.Waves.{and_reading, doing}
use Rattle.cli_model.specs.Steps.{Step, Take, Use, Put, End, Done, Stopped, NoMemory, ChipFailed}
use Rattle.cli_model.specs.Steps.{PutFailed, Goes}
use Rattle.soak_job.specs.declared.job.SoakError.{SoakError}
use Rattle.soak_job.specs.declared.job.SoakError.TheVariants as no
use Rattle.soak_job.specs.declared.cases.Case.{Case}
use Rattle.soak_job.specs.Cases.{source_kinds, soak_cases}
use Rattle.soak_job.specs.Words.{after_all}
use Rattle.soak_job.specs.Layout.{case_events, source_rows, result_rows, soak_chip}
use Rattle.soak_job.specs.Layout.{FitsChip}
use Rattle.soak_job.specs.Sums.{case_line, in_both_banks}
use Rattle.soak_job.specs.OneCase.{CaseDone, IsProgramOf, RisesLittle}
use Rattle.soak_job.specs.Steps.{AreProgramsOf, cases_steps, soak_steps}

-- a number of each case and its program, over all of them
abbrev pub over_cases : (Case → Microprogram → ℕ) → List Case → List Microprogram → ℕ
over_cases f [] ms = 0
over_cases f (c ∷ cs) [] = 0
over_cases f (c ∷ cs) (m ∷ ms) = f c m + over_cases f cs ms

-- the events of the cases, in order
abbrev pub cases_events : (state : ℕ) → List Case → List Microprogram → List Event
cases_events state [] ms = []
cases_events state (c ∷ cs) [] = []
cases_events state (c ∷ cs) (m ∷ ms) = case_events state c m
    ++ cases_events (after_all state (source_kinds c.op)) cs ms

-- Each case has its program. The banks are what the events of the cases leave, in order; the
-- counters rose by what the lines tell, by two writes for each row of a source and two reads for
-- each row of a result, one in each bank; and a log that is known grew by these events
pub record CasesDone (state : ℕ) (cs : List Case) (ms : List Microprogram) (old new : ChipView) :
    Type 0 where
  pub all : length ms ≡ length cs
  pub banks : new.banks ≡ after (cases_events state cs ms) old.banks
  pub counters : new.counters ≡ record {
    aap = old.counters.aap + over_cases (λ c m. (in_both_banks c m).aap) cs ms;
    ap = old.counters.ap + over_cases (λ c m. (in_both_banks c m).ap) cs ms;
    writes = old.counters.writes + 2 * sum_by source_rows cs;
    reads = old.counters.reads + 2 * sum_by result_rows cs;
  }
  pub log : Grew old.log new.log (cases_events state cs ms)

-- why a soak stopped, as the end of a command
abbrev pub end_by : SoakError → End
end_by no.NoMemory = Stopped NoMemory
end_by no.ChipFailed = Stopped ChipFailed
end_by no.PutFailed = Stopped PutFailed

-- how a soak ended, as the end of a command
abbrev pub end_of : {A : Type 0} → Result A SoakError → End
end_of (Ok done) = Done
end_of (Err why) = end_by why

-- What a soak leaves on the chip, which has begun with a soak's geometry: each case has its
-- program; the banks are what the events of the cases leave of blank ones; the counters are the
-- sums of what the lines tell, two writes for each row of a source and two reads for each row of a
-- result, one in each bank; and a log that is known has these events alone
pub record SoakLeft (seed : ℕ) (ms : List Microprogram) (chip : ChipView) : Type 0 where
  pub begun : HasBegun chip
  pub geometry : chip.geometry ≡ soak_chip
  pub all : length ms ≡ length soak_cases
  pub banks : chip.banks ≡ after (cases_events seed soak_cases ms) (blank_banks soak_chip)
  pub counters : chip.counters ≡ record {
    aap = over_cases (λ c m. (in_both_banks c m).aap) soak_cases ms;
    ap = over_cases (λ c m. (in_both_banks c m).ap) soak_cases ms;
    writes = 2 * sum_by source_rows soak_cases;
    reads = 2 * sum_by result_rows soak_cases;
  }
  pub log : LogIs (cases_events seed soak_cases ms) chip.log

-- What a soak comes to: the programs of its cases, the steps that it goes through, and what it
-- leaves on the chip where it is done
pub record SoakGoes (seed : ℕ) (old new : World) (result : Result Unit SoakError) : Type 0 where
  pub programs : List Microprogram
  pub are : AreProgramsOf soak_cases programs
  pub goes : Goes (soak_steps seed programs) (end_of result) old new
  pub left : IfOk result (λ u. SoakLeft seed programs new.chip)

-- what a part of the cases comes to, for the proof

-- A case that can be done: its operation has one result, and the chip has room for it
pub record CanBeDone (c : Case) : Type 0 where
  pub single : second_kind c.op ≡ None
  pub fits : FitsChip c

-- a case went through its steps with its program, and the others can go on
pub record CaseWent (state : ℕ) (c : Case) (old new : World) : Type 0 where
  pub program : Microprogram
  pub is : IsProgramOf c program
  pub does : (rest : List Step) (end : End) (last : World) → Goes rest end new last
      → Goes (Take ∷ Use (and_reading 2 (doing old.chip.banks (case_events state c program)))
      ∷ Put (case_line state c program) ∷ rest) end old last
  pub done : CaseDone state c program old.chip new.chip
  pub few : RisesLittle old.chip.counters new.chip.counters

-- what the cases from a state of the generator on come to
pub record CasesGo (state : ℕ) (cs : List Case) (old new : World) (result : Result Unit SoakError) :
    Type 0 where
  pub programs : List Microprogram
  pub are : AreProgramsOf cs programs
  pub goes : Goes (cases_steps state old.chip.banks cs programs) (end_of result) old new
  pub done : IfOk result (λ u. CasesDone state cs programs old.chip new.chip)
