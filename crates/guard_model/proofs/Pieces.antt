-- The pieces of a guarded instruction, one plain instruction each.
use Rattle.guard_model.proofs.Common.{◌≡◌, Bool, true, false, cond, List, [], ◌∷◌, map, refl, ◌∙◌}
use Rattle.guard_model.proofs.Common.{ap, arith, AllByRecursion, Instruction, flat_map}
use Rattle.machine_model.specs.Script.{is_bbop, banks_at_end, counters_at_end}
use Rattle.machine_model.specs.Pieces.{Wave, Alone, piece_of, instrs_in, IsPiece}
use Rattle.machine_model.proofs.Pieces.{pieces_steps, pieces_counted}
use Rattle.guard_model.specs.Guarded.{plain_script, guarded_pieces}
use Rattle.guard_model.specs.Laws.{StepIsEvents, StepIsCounted}

piece_case : (instr : Instruction) (b : Bool) → is_bbop instr ≡ b
    → IsPiece (cond b (Wave (instr ∷ [])) (Alone instr))
    × (instrs_in (cond b (Wave (instr ∷ [])) (Alone instr)) ≡ instr ∷ [])
piece_case instr true e = (((e, tt), omega arith, omega arith), refl)
piece_case instr false e = (e, refl)

pub one_piece : (instr : Instruction) → IsPiece (piece_of instr)
one_piece instr = (piece_case instr (is_bbop instr) refl).0

pub one_instr : (instr : Instruction) → instrs_in (piece_of instr) ≡ instr ∷ []
one_instr instr = (piece_case instr (is_bbop instr) refl).1

pub all_pieces : (script : List Instruction) → AllByRecursion IsPiece (map piece_of script)
all_pieces [] = tt
all_pieces (instr ∷ script) = (one_piece instr, all_pieces script)

-- instructions one by one as pieces are the instructions
pub all_instrs : (script : List Instruction) → flat_map instrs_in (map piece_of script) ≡ script
all_instrs [] = refl
all_instrs (instr ∷ script) = rw (one_instr instr, all_instrs script) refl

-- a guarded instruction's events leave the banks as its plain instructions do
pub step_is_events : StepIsEvents
step_is_events g operations turn table instr banks some f =
    pieces_steps g operations turn table (guarded_pieces g operations table instr) banks some f
    (all_pieces (plain_script g operations table instr))
    ∙ ap (banks_at_end g operations table banks)
    (all_instrs (plain_script g operations table instr))

-- a guarded instruction is counted as its plain instructions
pub step_is_counted : StepIsCounted
step_is_counted g operations turn table instr k some f =
    pieces_counted g operations turn table (guarded_pieces g operations table instr) k some f
    (all_pieces (plain_script g operations table instr))
    ∙ ap (λ xs. counters_at_end g operations table xs k)
    (all_instrs (plain_script g operations table instr))
