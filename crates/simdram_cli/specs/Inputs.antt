-- Which operation texts, scripts and images are accepted, as what, and why others are refused.
use Rattle.std.specs.Prelude.{ℕ, List, ◌++◌, Option, Some, None, Result, Ok, Err, codes, decimal}
use Rattle.op_text.specs.declared.fault.OpsKind.{OpsKind}
use Rattle.op_text.specs.declared.fault.OpsKind.TheVariants as kinds
use Rattle.op_text.specs.declared.fault.OpsFault.{OpsFault}
use Rattle.op_text.specs.Lines.{fault_in}
use Rattle.object_alloc.specs.declared.fault.ImageKind.{ImageKind}
use Rattle.object_alloc.specs.declared.fault.ImageKind.TheVariants as rules
use Rattle.object_alloc.specs.Spelling.{rows_in}
use Rattle.object_alloc.specs.Reading.{Found, ImageFault, image_in}
use Rattle.bbop_isa.specs.declared.instr.ScriptKind.{ScriptKind}
use Rattle.bbop_isa.specs.declared.instr.ScriptKind.TheVariants as faults
use Rattle.bbop_isa.specs.declared.instr.ScriptFault.{ScriptFault}
use Rattle.bbop_isa.specs.Forms.{Instruction}
use Rattle.bbop_isa.specs.Script.{script_of}
use Rattle.machine_model.specs.Opened.{Image}
use Rattle.cli_model.specs.Steps.{Refusal}

-- the word for a rule of operation texts
abbrev pub kind_word : OpsKind → List ℕ
kind_word kinds.Lex = codes "lex"
kind_word kinds.Syntax = codes "syntax"
kind_word kinds.BadName = codes "bad_name"
kind_word kinds.Twice = codes "twice"
kind_word kinds.Unknown = codes "unknown"
kind_word kinds.Kind = codes "kind"
kind_word kinds.NoResult = codes "no_result"
kind_word kinds.TooMany = codes "too_many"

-- a text of operations that breaks a rule is refused by its line and the rule
abbrev pub ops_refusal : OpsFault → Refusal
ops_refusal fault = record {
  status = 4;
  line = codes "ops line " ++ decimal fault.line
      ++ (codes " " ++ kind_word fault.kind ++ codes "\n");
}

-- a text of operations goes on, unless it has a fault
abbrev pub unless_fault : Option OpsFault → Result (Unit {0}) Refusal
unless_fault None = Ok tt
unless_fault (Some fault) = Err (ops_refusal fault)

-- a text of operations is accepted, or refused
abbrev pub ops_in : List ℕ → Result (Unit {0}) Refusal
ops_in text = unless_fault (fault_in text)

-- the word for a rule of scripts
abbrev pub script_word : ScriptKind → List ℕ
script_word faults.Lex = codes "lex"
script_word faults.Syntax = codes "syntax"
script_word faults.BadName = codes "bad_name"
script_word faults.BadNumber = codes "bad_number"

-- a script that breaks a rule is refused by its line and the rule
abbrev pub script_refusal : ScriptFault → Refusal
script_refusal fault = record {
  status = 6;
  line = codes "script line " ++ decimal fault.line
      ++ (codes " " ++ script_word fault.kind ++ codes "\n");
}

-- the instructions of a script, or the line that tells its first fault
abbrev pub script_or_refusal : Result (List Instruction) ScriptFault
    → Result (List Instruction) Refusal
script_or_refusal (Ok script) = Ok script
script_or_refusal (Err fault) = Err (script_refusal fault)

-- the instructions of a script, or why it is refused
abbrev pub script_in : List ℕ → Result (List Instruction) Refusal
script_in text = script_or_refusal (script_of text)

-- the word for a rule of image files
abbrev pub image_word : ImageKind → List ℕ
image_word rules.Short = codes "short"
image_word rules.Magic = codes "magic"
image_word rules.Version = codes "version"
image_word rules.Geometry = codes "geometry"
image_word rules.Object = codes "object"
image_word rules.Overlap = codes "overlap"
image_word rules.Rest = codes "rest"

-- an image file that breaks a rule is refused by the byte and the rule
abbrev pub image_refusal : ImageFault → Refusal
image_refusal fault = record {
  status = 7;
  line = codes "image byte " ++ decimal fault.at
      ++ (codes " " ++ image_word fault.kind ++ codes "\n");
}

-- the image that was read, with its rows as bits
abbrev pub image_found : Found → Image
image_found found = record {
  geometry = found.geometry;
  table = found.table;
  rows = rows_in found.geometry found.rows;
}

-- the image of a file, or the line that tells its first fault
abbrev pub image_or_refusal : Result Found ImageFault → Result Image Refusal
image_or_refusal (Ok found) = Ok (image_found found)
image_or_refusal (Err fault) = Err (image_refusal fault)

-- the image of a file, or why it is refused
abbrev pub image_of : List ℕ → Result Image Refusal
image_of bytes = image_or_refusal (image_in bytes)
