-- A run that ends with 0 or 8 keeps its promises.
use Rattle.simdram_cli.proofs.Common.{◌≡◌, ℕ, ◌+◌, Bool, true, false, List, [], ◌∷◌, ◌++◌, length}
use Rattle.simdram_cli.proofs.Common.{refl, ◌∙◌, ap, append-nil, ◌≢◌, AllByRecursion, Geometry}
use Rattle.simdram_cli.proofs.Common.{Banks, ChipView, Files, Named, IsImage, TextOp, ImplementsAll}
use Rattle.simdram_cli.proofs.Common.{Instruction, IsPlain, Program, Routines, routines_in, Image}
use Rattle.simdram_cli.proofs.Common.{opened, Turn, Ahead, Piece, Wave, Alone, instrs_in}
use Rattle.simdram_cli.proofs.Common.{piece_events, pieces, turn_after, Said, line, lines, said_by}
use Rattle.simdram_cli.proofs.Common.{said_in_rows, total_line, banks_at_end, table_at_end}
use Rattle.simdram_cli.proofs.Common.{with_file, ChipUse, Store, Put, files_after, sent_by}
use Rattle.simdram_cli.proofs.Common.{is_print, at_other, bytes_differ, files_append, sent_append}
use Rattle.std.specs.Prelude.{Option}
use Rattle.simdram_cli.specs.Job.{done_status, image_by, piece_steps, pieces_steps, put_lines}
use Rattle.simdram_cli.specs.Job.{refused_by, said_in, reading_by, script_steps, tally_by}
use Rattle.simdram_cli.specs.Job.{work_steps}
use Rattle.simdram_cli.specs.Works.{WorkDone}
use Rattle.simdram_cli.specs.Headline.{RepliesExact}
use Rattle.simdram_cli.proofs.Piecewise.{sent_script}
use Rattle.simdram_cli.proofs.Tallies.{some_words}
use Rattle.simdram_cli.proofs.Promises.{job_of, IsDone, refusals_are, no_bad_walks}
use Rattle.cli_model.specs.Steps.{line_steps}

-- the files that a script's steps leave

lines_files : (number : ℕ) (said : List Said) (f : Files)
    → files_after (put_lines number said) f ≡ f
lines_files number [] f = refl
lines_files number (s ∷ said) f = lines_files (number + 1) said f

instr_files : (on : ChipUse) (prints : Bool) (bytes : List ℕ) (f : Files)
    → files_after (line_steps on prints bytes) f ≡ f
instr_files on true bytes f = refl
instr_files on false bytes f = refl

piece_files : (g : Geometry) (o : Routines) (turn : Turn) (table : List Named) (banks : Banks)
    (number : ℕ) (piece : Piece) (f : Files)
    → files_after (piece_steps g o turn table banks number piece) f ≡ f
piece_files g o turn table banks number (Wave wave) f =
    lines_files number (said_in_rows g o table banks wave) f
piece_files g o turn table banks number (Alone instr) f =
    instr_files _ (is_print instr)
    (line number (said_by g o table banks instr)) f

pub pieces_files : (g : Geometry) (o : Routines) (turn : Turn) (table : List Named) (banks : Banks)
    (number : ℕ) (pieces : List Piece) (f : Files)
    → files_after (pieces_steps g o turn table banks number pieces) f ≡ f
pieces_files g o turn table banks number [] f = refl
pieces_files g o turn table banks number (piece ∷ rest) f =
    let next = turn_after g o turn table piece in
    let others = pieces_steps g o next (table_at_end g o table (instrs_in piece))
    (banks_at_end g o table banks (instrs_in piece)) (number + length (instrs_in piece)) rest in
    files_append (piece_steps g o turn table banks number piece) others f
    ∙ ap (files_after others) (piece_files g o turn table banks number piece f)
    ∙ pieces_files g o next (table_at_end g o table (instrs_in piece))
    (banks_at_end g o table banks (instrs_in piece)) (number + length (instrs_in piece)) rest f

pub work_files : (out : List ℕ) (program : Program) (script : List Instruction) (i : Image)
    (f : Files) → files_after (work_steps out program script i) f
    ≡ with_file out (image_by program script i) f
work_files out program script i f =
    let last = reading_by program script i ∷ Store out (image_by program script i)
    ∷ Put (total_line (tally_by program script i) (refused_by program script i)) ∷ [] in
    files_append (script_steps program script i) last f
    ∙ ap (files_after last) (pieces_files i.geometry (routines_in program) Ahead i.table (opened i) 1
    (pieces script) f)

pub work_sent : (out : List ℕ) (program : Program) (script : List Instruction) (i : Image)
    → sent_by (work_steps out program script i) ≡ lines 1 (said_in program script i)
    ++ total_line (tally_by program script i) (refused_by program script i)
work_sent out program script i =
    let total = total_line (tally_by program script i) (refused_by program script i) in
    sent_append (script_steps program script i) (reading_by program script i ∷ Store out (image_by program script i)
    ∷ Put total ∷ [])
    ∙ ap (λ w. w ++ (total ++ [])) (sent_script i.geometry (routines_in program) Ahead i.table
    (opened i) script)
    ∙ ap (λ w. lines 1 (said_in program script i) ++ w) (append-nil total)

-- two files were stored, and no other
pub kept_other : (prog out file bytes : List ℕ) (before after : Files)
    → after ≡ with_file out bytes (with_file prog file before)
    → (other : List ℕ) → other ≢ prog → other ≢ out → after other ≡ before other
kept_other prog out file bytes before after e other p o =
    ap (λ (f : Files). f other) e
    ∙ at_other other out bytes (with_file prog file before) (bytes_differ other out o)
    ∙ at_other other prog file before (bytes_differ other prog p)

-- what stands after a job that is done, whatever its program does
pub record RowsDone (script : List Instruction) (i : Image) (program : Program) (chip : ChipView)
    (refused : ℕ) : Type 0 where
  pub image : IsImage i.geometry i.table i.rows
  pub plain : AllByRecursion IsPlain script
  pub work : WorkDone program script i chip refused

-- and where it does the ops of a text
pub is_done : (t : List TextOp) (script : List Instruction) (i : Image) (program : Program)
    (chip : ChipView) (refused : ℕ) → RowsDone script i program chip refused
    → ImplementsAll program t → IsDone t script i program chip refused
is_done t script i program chip refused d implements = record {
  implements = implements;
  image = d.image;
  words = some_words i.geometry d.image.geometry;
  plain = d.plain;
  work = d.work;
}

-- the replies of a job
pub replies_exact : (t : List TextOp) (script : List Instruction) (i : Image) (program : Program)
    (chip : ChipView) (refused status : ℕ) → IsDone t script i program chip refused
    → status ≡ done_status (refused_by program script i)
    → RepliesExact (job_of t script i program) status
replies_exact t script i program chip refused status d s = record {
  answers = s ∙ ap done_status (refusals_are t script i program d.implements);
  walks = no_bad_walks t script i program d.implements d.plain;
}
