-- A guarded script as the steps of a command.
use Rattle.std.specs.Prelude.{ℕ, ◌+◌, List, [], ◌∷◌, ◌++◌, Result, Ok, Err}
use Rattle.dram_model.specs.declared.geometry.Geometry.{Geometry}
use Rattle.dram_model.specs.Chip.{Banks}
use Rattle.object_alloc.specs.Listed.{Named}
use Rattle.bbop_isa.specs.Forms.{Instruction}
use Rattle.wave_model.specs.Schedule.{Turn}
use Rattle.machine_model.specs.Routines.{Routines}
use Rattle.machine_model.specs.Report.{line}
use Rattle.machine_model.specs.Script.{banks_printed}
use Rattle.object_steps.specs.declared.fault.StepFault.{StepFault}
use Rattle.object_steps.specs.declared.fault.StepFault.TheVariants.{ChipFault, WriteFault}
use Rattle.sim_machine.specs.Machine.{is_print}
use Rattle.cli_model.specs.Waves.{and_reading, doing}
use Rattle.cli_model.specs.Steps.{Step, Use, line_steps, End, Done, Stopped, ChipFailed, PutFailed}
use Rattle.guard_model.specs.declared.Flip.{Flip}
use Rattle.guard_model.specs.Flips.{all_flipped, due}
use Rattle.guard_model.specs.Votes.{voted}
use Rattle.guard_model.specs.Guarded.{guarded_events, guarded_rows, guarded_said_by, guarded_table}
use Rattle.guard_model.specs.Guarded.{guarded_turn, mended, on_copy}
use Rattle.guard_model.specs.Triples.{x_letter}
use Rattle.guard_job.specs.Events.{mend_events}

-- the chip is used for these flips, and for the votes after them
abbrev pub mend_step : Geometry → List Flip → List Named → Banks → Step
mend_step g now table banks = Use (doing banks (mend_events g now table banks))

-- the steps of instruction k: these flips and the votes, its own events under the order in force,
-- or the reading of a print's x copy, and its line
abbrev pub instr_steps : Geometry → Routines → List Flip → ℕ → Turn → List Named → Banks
    → Instruction → List Step
instr_steps g operations now k turn table banks instr =
    let left = voted g table (all_flipped now banks) in
    mend_step g now table banks
    ∷ line_steps (and_reading (banks_printed g table (on_copy x_letter instr))
    (doing left (guarded_events g operations turn table instr))) (is_print instr)
    (line k (guarded_said_by g operations table left instr))

-- the steps of a script, of which the first instruction has number k; after the last the flips and
-- votes use the chip once more
abbrev pub guarded_steps : Geometry → Routines → List Flip → ℕ → Turn → List Named → Banks
    → List Instruction → List Step
guarded_steps g operations flips k turn table banks [] = mend_step g (due k flips) table banks ∷ []
guarded_steps g operations flips k turn table banks (instr ∷ script) =
    instr_steps g operations (due k flips) k turn table banks instr
    ++ guarded_steps g operations flips (k + 1) (guarded_turn g operations turn table instr)
    (guarded_table g operations table instr)
    (guarded_rows g operations table (mended g flips k table banks) instr) script

-- how the steps ended
abbrev pub end_by : {X : Type 0} → Result X StepFault → End
end_by (Ok x) = Done
end_by (Err ChipFault) = Stopped ChipFailed
end_by (Err WriteFault) = Stopped PutFailed
