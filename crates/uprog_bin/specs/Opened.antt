-- An accepted file, and an entry of it.
use Rattle.std.specs.Prelude.{◌≡◌, ℕ, zero, suc, ◌+◌, ◌*◌, ◌/◌, ◌<◌, ◌^◌, List, [], ◌∷◌, length}
use Rattle.std.specs.Prelude.{take, drop, Result, Ok, Err, slice_index, slice_index_or}
use Rattle.uprog_code.specs.declared.code.Uop.{Uop}
use Rattle.uprog_code.specs.Shape.{Shape, Microprogram}
use Rattle.uprog_code.specs.Programs.{IsProgram}
use Rattle.uprog_bin.specs.Spelling.{HasVersion, program_bytes}
use Rattle.uprog_bin.specs.declared.directory.Listed.{Listed}
use Rattle.uprog_bin.specs.declared.opcode.Opcode.TheVariants.{Done}
use Rattle.uprog_bin.specs.declared.opcode.TheConstants.{OPCODES}
use Rattle.uprog_bin.specs.Reading.{raw_of, uop_as, codes_at, codes_start, total_count, Listing}
use Rattle.uprog_bin.specs.Reading.{listings_of, program_in, ProgFault}

-- the version and the program of an accepted file
abbrev pub accepted : Result (ℕ × List Microprogram) ProgFault → ℕ × List Microprogram
accepted (Ok found) = found
accepted (Err f) = (0, [])

-- the program of an accepted file
abbrev pub programs_in : List ℕ → List Microprogram
programs_in bytes = (accepted (program_in bytes)).1

-- the bytes are the file of a program
pub record IsProgramFile (bytes : List ℕ) : Type 0 where
  pub version : ℕ
  pub programs : List Microprogram
  pub is : IsProgram programs
  pub has : HasVersion version programs
  pub spelled : bytes ≡ program_bytes version programs

-- what a view shows: the file, its version, and the program that it spells
pub record File : Type 0 where
  pub bytes : List ℕ
  pub version : ℕ
  pub programs : List Microprogram

-- the version and the program that a view was opened on
abbrev pub found_of : File → ℕ × List Microprogram
found_of f = (f.version, f.programs)

-- what a view of these bytes shows, where they are accepted
abbrev pub file_of : List ℕ → File
file_of bytes = record {
  bytes = bytes;
  version = (accepted (program_in bytes)).0;
  programs = programs_in bytes;
}

-- what an entry shows: its head, and the bytes of its code
pub record EntryBytes : Type 0 where
  pub name : List ℕ
  pub shape : Shape
  pub bytes : List ℕ

-- the instruction that eight bytes are
abbrev pub uop_in : List ℕ → Uop
uop_in field = uop_as (slice_index_or OPCODES (slice_index field 0) Done) (raw_of field)

-- so many instructions
abbrev pub uops_in : ℕ → List ℕ → List Uop
uops_in zero bytes = []
uops_in (suc n) bytes = uop_in (take 8 bytes) ∷ uops_in n (drop 8 bytes)

-- the instructions of an entry, read from its bytes
abbrev pub code_of : EntryBytes → List Uop
code_of h = uops_in (length h.bytes / 8) h.bytes

-- the microprogram of an entry, read from its bytes
abbrev pub program_of : EntryBytes → Microprogram
program_of h = record { name = h.name; shape = h.shape; code = code_of h }

-- how many instructions the first k entries have
abbrev pub count_before : List Microprogram → ℕ → ℕ
count_before [] k = 0
count_before (m ∷ ms) zero = 0
count_before (m ∷ ms) (suc k) = length m.code + count_before ms k

-- where the code of the k-th entry starts in the file
abbrev pub code_place : List Microprogram → ℕ → ℕ
code_place ms k = 8 + 27 * length ms + 8 * count_before ms k

-- each entry's code starts where that of the one before it ends, and has 1 to 65,535 instructions
abbrev pub AreStarts : ℕ → List Listing → Type 0
AreStarts start [] = Unit {0}
AreStarts start (l ∷ ls) = (l.start ≡ start) × (0 < l.count) × (l.count < 2 ^ 16)
    × AreStarts (start + l.count) ls

-- these are the version and the records of an accepted file
pub record IsOpened (bytes : List ℕ) (version : ℕ) (listed : List Listed) : Type 0 where
  pub small : length bytes < 2 ^ 32
  pub read : program_in bytes ≡ Ok (version, programs_in bytes)
  pub codes : codes_at (listings_of listed) (codes_start (listings_of listed)) bytes
      ≡ Ok (programs_in bytes)
  pub starts : AreStarts 0 (listings_of listed)
  pub long : length bytes ≡ codes_start (listings_of listed) + 8 * total_count (listings_of listed)
