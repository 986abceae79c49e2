-- What a script says.
use Rattle.std.specs.Prelude.{◌≡◌, ℕ, ◌+◌, List, [], ◌∷◌, Option, Some, None, Result, Ok, Err}
use Rattle.bbop_isa.specs.declared.instr.ScriptKind.{ScriptKind}
use Rattle.bbop_isa.specs.declared.instr.ScriptFault.{ScriptFault}
use Rattle.bbop_isa.specs.declared.instr.ScriptNo.{ScriptNo}
use Rattle.bbop_isa.specs.declared.instr.ScriptNo.TheVariants as no
use Rattle.bbop_isa.specs.Lines.{lines_of}
use Rattle.bbop_isa.specs.Forms.{Instruction, line_of}

-- the script, with what stands before it
abbrev pub script_with : Option Instruction → Result (List Instruction) ScriptFault
    → Result (List Instruction) ScriptFault
script_with i (Err fault) = Err fault
script_with None (Ok script) = Ok script
script_with (Some i) (Ok script) = Ok (i ∷ script)

-- a line and the script after it: the first line at fault is the answer
abbrev pub go_on : ℕ → Result (Option Instruction) ScriptKind
    → Result (List Instruction) ScriptFault → Result (List Instruction) ScriptFault
go_on number (Err kind) rest = Err (record { line = number; kind = kind })
go_on number (Ok i) rest = script_with i rest

-- what these lines say, the first of which has this number
abbrev pub script_from : ℕ → List (List ℕ) → Result (List Instruction) ScriptFault
script_from number [] = Ok []
script_from number (line ∷ lines) = go_on number (line_of line) (script_from (number + 1) lines)

-- what a text says: the instructions of its lines, or its first fault
abbrev pub script_of : List ℕ → Result (List Instruction) ScriptFault
script_of text = script_from 1 (lines_of text)

-- The text is refused with this fault, or there was no memory.
abbrev pub Refused : List ℕ → ScriptNo → Type 0
Refused text (no.Fault fault) = script_of text ≡ Err fault
Refused text no.NoMemory = Unit {0}
