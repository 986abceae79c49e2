-- Where a refused program file is at fault.
use Rattle.std.specs.Prelude.{ℕ, ◌+◌, ◌*◌}
use Rattle.uprog_bin.specs.declared.fault.ProgKind.{ProgKind}
use Rattle.uprog_bin.specs.declared.fault.ProgKind.TheVariants as kinds
use Rattle.uprog_bin.specs.Reading.{program_in}
use Rattle.file_laws.specs.Stands.{Ends, FaultsStand, always_short}

-- the fields of an entry's record, each with its first byte and the byte after it: the length of
-- its name, its name, how many sources it has, the kinds, the bits and the words of scratch, where
-- its code starts, and how many instructions it has
pub data IsEntryField : ℕ → ℕ → Type 0 where
  NameLength : IsEntryField 0 1
  Name : IsEntryField 1 17
  Sources : IsEntryField 17 18
  Kinds : IsEntryField 18 19
  Bits : IsEntryField 19 20
  Words : IsEntryField 20 21
  Start : IsEntryField 21 25
  Count : IsEntryField 25 27

-- the fields of a program file, in bytes: "SDMP", the version, the number of entries, a record of
-- 27 bytes for each entry, and eight bytes for each instruction after them
pub data IsField : ℕ → ℕ → Type 0 where
  Magic : IsField 0 4
  Version : IsField 4 6
  Entries : IsField 6 8
  InEntry : (k : ℕ) {from to : ℕ} → IsEntryField from to
      → IsField (8 + 27 * k + from) (8 + 27 * k + to)
  Instruction : (entries k : ℕ)
      → IsField (8 + 27 * entries + 8 * k) (8 + 27 * entries + 8 * k + 8)

-- the kinds that no field breaks
abbrev pub ends : Ends ProgKind
ends = record { short = kinds.Short; rest = kinds.Rest }

-- each fault that reading a program file tells is one of the file
abbrev pub ProgramFaultsStand : Type 0
ProgramFaultsStand = FaultsStand ends IsField program_in

-- what is asked of the faults of a program file does not hold of a reader that tells no other fault
-- than Short
abbrev pub ShortIsNotEnough : Type 0
ShortIsNotEnough = FaultsStand ends IsField (always_short ends program_in) → ⊥
