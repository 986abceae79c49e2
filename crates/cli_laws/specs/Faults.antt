-- Which rows a fault of the chip in an execution spares.
use Rattle.std.specs.Prelude.{◌≡◌, ◌≢◌, ◌⊎◌, ℕ, ◌<◌, false, List, [], ◌++◌, Some}
use Rattle.host_edge.specs.Views.{Files}
use Rattle.file_fields.specs.Fields.{IsBytes}
use Rattle.dram_model.specs.Chip.{Banks, row_in}
use Rattle.bbop_isa.specs.Forms.{Instruction}
use Rattle.machine_model.specs.Opened.{Image, opened}
use Rattle.machine_model.specs.Pieces.{Piece, IsPiece, instrs_in}
use Rattle.machine_model.specs.Routines.{Program, routines_in}
use Rattle.machine_model.specs.Script.{banks_at_end, is_touched_by, table_at_end}
use Rattle.cli_model.specs.World.{World}
use Rattle.cli_model.specs.Waves.{ChipUse}
use Rattle.cli_model.specs.Steps.{Open}
use Rattle.cli_model.specs.Ends.{Ended, All, At}
use Rattle.cli_model.specs.Runs.{EndsBy}
use Rattle.simdram_cli.specs.declared.words.ExecNames.{ExecNames}
use Rattle.simdram_cli.specs.Exec.{exec_plan}
use Rattle.simdram_cli.specs.Headline.{read_as}
use Rattle.simdram_cli.specs.Inputs.{image_of, script_in}
use Rattle.simdram_cli.specs.Programs.{prog_in}

-- it stopped, and not at the opening of the chip
abbrev pub IsPastOpening : Ended → Type 0
IsPastOpening All = ⊥
IsPastOpening (At stop) = (on : ChipUse) → stop.failed ≢ Open on

-- none of these instructions may change the row, by the table after those that are done
abbrev pub IsSpared : Program → Image → (done failing : List Instruction) → ℕ → ℕ → Type 0
IsSpared program i done failing bank row =
    let o = routines_in program in
    is_touched_by i.geometry o (table_at_end i.geometry o i.table done) failing bank row ≡ false

-- in every bank but one, a row that the failing instructions may not change is as the done ones
-- leave it
abbrev pub StaysAfter : Program → Image → (done failing : List Instruction) → ℕ → Banks → Type 0
StaysAfter program i done failing lost banks =
    (bank row : ℕ) → bank < i.geometry.banks → bank ≢ lost
    → IsSpared program i done failing bank row
    → row_in row (banks bank)
    ≡ row_in row (banks_at_end i.geometry (routines_in program) i.table (opened i) done bank)

-- and one that the done ones may not change either is as in IMAGE
abbrev pub StaysAsRead : Program → Image → (done failing : List Instruction) → ℕ → Banks → Type 0
StaysAsRead program i done failing lost banks =
    (bank row : ℕ) → bank < i.geometry.banks → row < i.geometry.rows → bank ≢ lost
    → is_touched_by i.geometry (routines_in program) i.table done bank row ≡ false
    → IsSpared program i done failing bank row
    → row_in row (banks bank) ≡ i.rows bank row

-- the instructions in which it failed: one piece of a script, a wave of bbops or one other
-- instruction; or none, in the reading of the rows after the last
abbrev pub IsFailing : (failing following : List Instruction) → Type 0
IsFailing failing following = ((failing ≡ []) × (following ≡ []))
    ⊎ ((piece : Piece) × IsPiece piece × (instrs_in piece ≡ failing))

-- The chip failed where the first instructions of SCRIPT were done, in those that come next. One
-- bank at most is lost. In every other, all rows stay but those that these may change, the rows of
-- their destinations, granted scratch and the spill group: so their sources and all other objects
-- stay
pub record FaultSpares (names : ExecNames) (before : Files) (banks : Banks) : Type 0 where
  pub program : Program
  pub script : List Instruction
  pub image : Image
  pub prog_is : read_as prog_in (before names.prog.now) ≡ Some program
  pub script_is : read_as script_in (before names.script.now) ≡ Some script
  pub image_is : read_as image_of (before names.image.now) ≡ Some image
  pub done : List Instruction
  pub failing : List Instruction
  pub following : List Instruction
  pub all : done ++ (failing ++ following) ≡ script
  pub next : IsFailing failing following
  pub lost : ℕ
  pub stays : StaysAfter program image done failing lost banks
  pub as_read : StaysAsRead program image done failing lost banks

-- So it is where an execution ended with 9, past the opening, and IMAGE is of bytes
abbrev pub FaultsSpareRows : Type 0
FaultsSpareRows =
    (names : ExecNames) (before : Files) (old new : World) (bytes : List ℕ)
    → (e : EndsBy (exec_plan names) old new 9) → IsPastOpening e.ends.ended
    → old.files.holds ≡ Some before → before names.image.now ≡ Some bytes → IsBytes bytes
    → FaultSpares names before new.chip.banks
