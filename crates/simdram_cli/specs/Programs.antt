-- The program of a program file.
use Rattle.std.specs.Prelude.{ℕ, List, ◌++◌, Result, Ok, Err, codes, decimal}
use Rattle.uprog_bin.specs.declared.fault.ProgKind.{ProgKind}
use Rattle.uprog_bin.specs.declared.fault.ProgKind.TheVariants as kinds
use Rattle.uprog_bin.specs.Reading.{program_in, ProgFault}
use Rattle.machine_model.specs.Routines.{Program}
use Rattle.cli_model.specs.Steps.{Refusal}

-- the word for a rule of program files
abbrev pub prog_word : ProgKind → List ℕ
prog_word kinds.Short = codes "short"
prog_word kinds.Magic = codes "magic"
prog_word kinds.Version = codes "version"
prog_word kinds.Directory = codes "directory"
prog_word kinds.Instruction = codes "instruction"
prog_word kinds.Target = codes "target"
prog_word kinds.Row = codes "row"
prog_word kinds.NoDone = codes "no_done"
prog_word kinds.Rest = codes "rest"

-- a program file that breaks a rule is refused by the byte and the rule
abbrev pub prog_refusal : ProgFault → Refusal
prog_refusal fault = record {
  status = 5;
  line = codes "program byte " ++ decimal fault.at
      ++ (codes " " ++ prog_word fault.kind ++ codes "\n");
}

-- the program of a file, or the line that tells its first fault
abbrev pub program_or_refusal : Result (ℕ × Program) ProgFault → Result Program Refusal
program_or_refusal (Ok found) = Ok found.1
program_or_refusal (Err fault) = Err (prog_refusal fault)

-- the program of a file, in whichever version, or why it is refused
abbrev pub prog_in : List ℕ → Result Program Refusal
prog_in bytes = program_or_refusal (program_in bytes)
