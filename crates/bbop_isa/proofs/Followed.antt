-- The lines of a script, read one after another.
use Rattle.std.proofs.Common.{◌≡◌, ℕ, ◌+◌, ◌≤◌, List, [], ◌∷◌, map, length}
use Rattle.std.proofs.Common.{Err, arith}
use Rattle.text_lex.specs.Lexical.{items_from}
use Rattle.bbop_isa.specs.declared.instr.Instr.{Instr}
use Rattle.bbop_isa.specs.declared.instr.ScriptKind.{ScriptKind}
use Rattle.bbop_isa.specs.Lines.{lines_of}
use Rattle.bbop_isa.specs.Forms.{view_of, line_of}
use Rattle.bbop_isa.specs.Script.{script_of, script_from}
use Rattle.bbop_isa.specs.Reading.{script_after}

-- the script so far, and what is left of the text, whose first line has this number
pub record SoFar (text : List ℕ) (script : List Instr) (rest : List ℕ) (number : ℕ) : Type 0 where
  pub said : script_of text ≡ script_after (map view_of script) (script_from number (lines_of rest))
  pub place : number + length rest ≤ length text + 1

-- a line that is refused has a byte
pub refused_has_byte : (line : List ℕ) (kind : ScriptKind) → line_of line ≡ Err kind
    → 1 ≤ length line
unfolding items_from
refused_has_byte [] kind is = absurd (cc)
refused_has_byte (b ∷ bs) kind is = omega arith
