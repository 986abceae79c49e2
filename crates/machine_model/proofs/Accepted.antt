-- What an accepted script says.
use Rattle.machine_model.proofs.Common.{◌≡◌, ℕ, ◌+◌, List, [], ◌∷◌, Option, Some, None, arith}
use Rattle.machine_model.proofs.Common.{AllByRecursion, Instruction, Init, Bbop, Load, Fill, Print}
use Rattle.machine_model.proofs.Common.{Free, Order, IsRight}
use Rattle.std.specs.Prelude.{Result, Ok, Err}
use Rattle.bbop_isa.specs.declared.instr.ScriptFault.{ScriptFault}
use Rattle.bbop_isa.specs.declared.instr.ScriptKind.{ScriptKind}
use Rattle.bbop_isa.specs.Forms.{line_of}
use Rattle.bbop_isa.specs.Lines.{lines_of}
use Rattle.bbop_isa.specs.Script.{script_of, script_from, go_on}
use Rattle.bbop_isa.proofs.Meant.{line_is_right}
use Rattle.machine_model.specs.Agrees.{IsPlain}
use Rattle.machine_model.specs.Laws.{AcceptedIsPlain}

pub right_is_plain : (i : Instruction) → IsRight i → IsPlain i
right_is_plain (Init name count n) r = (omega (arith, r.1.0), (omega (arith, r.1.2), r.1.3))
right_is_plain (Bbop op dst srcs count n) r = (omega (arith, r.5.2), r.5.3)
right_is_plain (Load name values) r = tt
right_is_plain (Fill name v) r = tt
right_is_plain (Print name) r = tt
right_is_plain (Free name) r = tt
right_is_plain (Order order) r = tt

goes_right : (number : ℕ) (said : Result (Option Instruction) ScriptKind)
    (rest : Result (List Instruction) ScriptFault) (script : List Instruction)
    → ((i : Instruction) → said ≡ Ok (Some i) → IsRight i)
    → ((more : List Instruction) → rest ≡ Ok more → AllByRecursion IsRight more)
    → go_on number said rest ≡ Ok script → AllByRecursion IsRight script
goes_right number (Err kind) rest script one all e = cc
goes_right number (Ok i) (Err fault) script one all e = cc
goes_right number (Ok None) (Ok more) script one all e = all script (cc)
goes_right number (Ok (Some i)) (Ok more) [] one all e = cc
goes_right number (Ok (Some i)) (Ok more) (x ∷ script) one all e =
    (one x (cc), all script (cc))

lines_right : (number : ℕ) (lines : List (List ℕ)) (script : List Instruction)
    → script_from number lines ≡ Ok script → AllByRecursion IsRight script
lines_right number [] [] e = tt
lines_right number [] (x ∷ script) e = cc
lines_right number (line ∷ lines) script e =
    goes_right number (line_of line) (script_from (number + 1) lines) script (line_is_right line)
    (lines_right (number + 1) lines) e

-- its names and its numbers are right
pub accepted_is_right : (text : List ℕ) (script : List Instruction) → script_of text ≡ Ok script
    → AllByRecursion IsRight script
accepted_is_right text script e = lines_right 1 (lines_of text) script e

-- what an accepted script says has sizes as every script has
pub all_plain : (script : List Instruction) → AllByRecursion IsRight script
    → AllByRecursion IsPlain script
all_plain [] all = tt
all_plain (i ∷ script) all = (right_is_plain i all.0, all_plain script all.1)

-- an accepted script has sizes as every script has
pub accepted_is_plain : AcceptedIsPlain
accepted_is_plain text script e = all_plain script (accepted_is_right text script e)
