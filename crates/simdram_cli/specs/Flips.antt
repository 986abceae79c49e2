-- Which scripts and images a guarded run takes, which texts of flips are accepted, as what, and why
-- others are refused.
use Rattle.std.specs.Prelude.{ℕ, List, ◌++◌, Option, Some, None, Result, Ok, Err, codes, decimal}
use Rattle.dram_model.specs.declared.geometry.Geometry.{Geometry}
use Rattle.bbop_isa.specs.Forms.{Instruction}
use Rattle.machine_model.specs.Opened.{Image}
use Rattle.guard_model.specs.declared.Flip.{Flip}
use Rattle.guard_model.specs.declared.FlipsFault.{FlipsFault}
use Rattle.guard_model.specs.declared.FlipsKind.{FlipsKind}
use Rattle.guard_model.specs.declared.FlipsKind.TheVariants as kinds
use Rattle.guard_model.specs.FlipText.{flips_of}
use Rattle.guard_model.specs.Named.{first_long_name}
use Rattle.guard_model.specs.Triples.{first_stranger}
use Rattle.cli_model.specs.Steps.{Refusal}
use Rattle.simdram_cli.specs.Inputs.{image_of, script_in}

-- an instruction that names an object of more than 15 bytes, by its number
abbrev pub name_refusal : ℕ → Refusal
name_refusal k = record {
  status = 17;
  line = codes "guard name " ++ decimal k ++ codes "\n";
}

-- a table whose objects do not stand in three copies, by the first that does not continue the list
abbrev pub table_refusal : ℕ → Refusal
table_refusal k = record {
  status = 17;
  line = codes "guard table " ++ decimal k ++ codes "\n";
}

-- the word for a rule of flips
abbrev pub flips_word : FlipsKind → List ℕ
flips_word kinds.Lex = codes "lex"
flips_word kinds.Syntax = codes "syntax"
flips_word kinds.Number = codes "number"

-- a text of flips that breaks a rule is refused by its line and the rule
abbrev pub flips_refusal : FlipsFault → Refusal
flips_refusal fault = record {
  status = 18;
  line = codes "flips line " ++ decimal fault.line
      ++ (codes " " ++ flips_word fault.kind ++ codes "\n");
}

-- the value, unless there is a number to refuse it by
abbrev pub unless_some : {A : Type 0} → (ℕ → Refusal) → Option ℕ → A → Result A Refusal
unless_some refuse None x = Ok x
unless_some refuse (Some k) x = Err (refuse k)

-- a script that is accepted goes on only where each name has room for a letter
abbrev pub with_short_names : Result (List Instruction) Refusal
    → Result (List Instruction) Refusal
with_short_names (Ok script) = unless_some name_refusal (first_long_name script) script
with_short_names (Err refusal) = Err refusal

-- the instructions of a guarded script, or why it is refused
abbrev pub guarded_script_in : List ℕ → Result (List Instruction) Refusal
guarded_script_in text = with_short_names (script_in text)

-- an image that is accepted goes on only where its objects stand in three copies
abbrev pub in_triples : Result Image Refusal → Result Image Refusal
in_triples (Ok i) = unless_some table_refusal (first_stranger i.table) i
in_triples (Err refusal) = Err refusal

-- the image of a file, whose objects stand in three copies, or why it is refused
abbrev pub guarded_image_of : List ℕ → Result Image Refusal
guarded_image_of bytes = in_triples (image_of bytes)

-- the flips of a text, or the line that tells its first fault
abbrev pub flips_or_refusal : Result (List Flip) FlipsFault → Result (List Flip) Refusal
flips_or_refusal (Ok flips) = Ok flips
flips_or_refusal (Err fault) = Err (flips_refusal fault)

-- the flips of a text on such a chip, for so many instructions, or why it is refused
abbrev pub flips_in : Geometry → ℕ → List ℕ → Result (List Flip) Refusal
flips_in g instrs text = flips_or_refusal (flips_of g instrs text)
