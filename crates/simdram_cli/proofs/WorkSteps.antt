-- The statuses that the steps of a script can give.
use Rattle.simdram_cli.proofs.Common.{ℕ, Bool, true, false, List, [], ◌∷◌, length, ◌+◌, ◌++◌}
use Rattle.simdram_cli.proofs.Common.{Instruction, Program, Routines, routines_in, Image, opened}
use Rattle.simdram_cli.proofs.Common.{Geometry, Banks, Named, Turn, Ahead, Piece, Wave, Alone}
use Rattle.simdram_cli.proofs.Common.{instrs_in, piece_events, pieces, turn_after, Said, line}
use Rattle.simdram_cli.proofs.Common.{said_by, said_in_rows, total_line, banks_at_end, table_at_end}
use Rattle.simdram_cli.proofs.Common.{is_print, ChipUse, Store, Put, OfSteps, of_more}
use Rattle.std.specs.Prelude.{Option}
use Rattle.simdram_cli.specs.Job.{image_by, piece_steps, pieces_steps, put_lines, reading_by}
use Rattle.simdram_cli.specs.Job.{refused_by, script_steps, tally_by, work_steps}
use Rattle.cli_model.specs.Steps.{line_steps}

lines_of : (P : ℕ → Type 0) (number : ℕ) (said : List Said) → P 3
    → OfSteps P (put_lines number said)
lines_of P number [] three = tt
lines_of P number (s ∷ said) three = (three, lines_of P (number + 1) said three)

instr_of : (P : ℕ → Type 0) (on : ChipUse) (prints : Bool) (bytes : List ℕ) → P 3
    → P 9 → OfSteps P (line_steps on prints bytes)
instr_of P on true bytes three nine = ((three, nine), tt)
instr_of P on false bytes three nine = (nine, (three, tt))

piece_of : (P : ℕ → Type 0) (g : Geometry) (o : Routines) (turn : Turn) (table : List Named)
    (banks : Banks) (number : ℕ) (piece : Piece) → P 3 → P 9
    → OfSteps P (piece_steps g o turn table banks number piece)
piece_of P g o turn table banks number (Wave wave) three nine =
    (nine, lines_of P number (said_in_rows g o table banks wave) three)
piece_of P g o turn table banks number (Alone instr) three nine =
    instr_of P _ (is_print instr)
    (line number (said_by g o table banks instr)) three nine

pub pieces_of : (P : ℕ → Type 0) (g : Geometry) (o : Routines) (turn : Turn) (table : List Named)
    (banks : Banks) (number : ℕ) (pieces : List Piece) → P 3 → P 9
    → OfSteps P (pieces_steps g o turn table banks number pieces)
pieces_of P g o turn table banks number [] three nine = tt
pieces_of P g o turn table banks number (piece ∷ rest) three nine =
    of_more P (piece_steps g o turn table banks number piece) _
    (piece_of P g o turn table banks number piece three nine)
    (pieces_of P g o (turn_after g o turn table piece) (table_at_end g o table (instrs_in piece))
    (banks_at_end g o table banks (instrs_in piece)) (number + length (instrs_in piece)) rest three
    nine)

-- the steps after the opening
pub after_open : (P : ℕ → Type 0) (out : List ℕ) (program : Program) (script : List Instruction)
    (i : Image) → P 3 → P 9 → OfSteps P (script_steps program script i
    ++ (reading_by program script i ∷ Store out (image_by program script i)
    ∷ Put (total_line (tally_by program script i) (refused_by program script i)) ∷ []))
after_open P out program script i three nine =
    of_more P (script_steps program script i)
    (reading_by program script i ∷ Store out (image_by program script i)
    ∷ Put (total_line (tally_by program script i) (refused_by program script i)) ∷ [])
    (pieces_of P i.geometry (routines_in program) Ahead i.table (opened i) 1 (pieces script) three
    nine) (nine, (three, (three, tt)))

pub work_of : (P : ℕ → Type 0) (out : List ℕ) (program : Program) (script : List Instruction)
    (i : Image) → P 3 → P 9 → P 10 → OfSteps P (work_steps out program script i)
work_of P out program script i three nine ten =
    ((nine, ten), after_open P out program script i three nine)
