-- The one spelling of a program in each version that has it.
use Rattle.std.specs.Prelude.{◌≡◌, ℕ, ◌+◌, ◌*◌, List, [], ◌∷◌, ◌++◌, length, replicate, codes}
use Rattle.std.specs.Prelude.{Option, Some, None, ◌⊎◌}
use Rattle.std.specs.List.{flat_map, AllByRecursion}
use Rattle.std.specs.Int.{to_le_bytes, w16, w32}
use Rattle.op_text.specs.declared.tree.Kind.{Kind}
use Rattle.op_text.specs.declared.tree.Kind.TheVariants.{Word, Bit}
use Rattle.uprog_code.specs.declared.code.RowSpace.{RowSpace}
use Rattle.uprog_code.specs.declared.code.RowSpace.TheVariants as space
use Rattle.uprog_code.specs.declared.code.RowRef.{RowRef}
use Rattle.uprog_code.specs.declared.code.Uop.{Uop}
use Rattle.uprog_code.specs.declared.code.Uop.TheVariants.{Done, SetI, SetN, SetT, Mov, Add, AddI}
use Rattle.uprog_code.specs.declared.code.Uop.TheVariants.{SubI, Bnez, Aap, Ap}
use Rattle.uprog_code.specs.Shape.{Shape, Microprogram}
use Rattle.file_fields.specs.Fields.{name_bytes}

-- the byte of a space of rows
abbrev pub space_number : RowSpace → ℕ
space_number space.B = 0
space_number space.C = 1
space_number space.Result = 2
space_number space.Source = 3
space_number space.ScratchBit = 4
space_number space.ScratchWord = 5
space_number space.Spill = 6

-- a row in three bytes: its space, which row of it, and its index
abbrev pub row_bytes : RowRef → List ℕ
row_bytes r = space_number r.space ∷ r.which ∷ r.index ∷ []

-- the bytes that an instruction does not use
abbrev pub zeros : ℕ → List ℕ
zeros n = replicate n 0

-- an instruction: its number, its operands, and zeros up to eight bytes
abbrev pub instruction_bytes : Uop → List ℕ
instruction_bytes Done = 0 ∷ zeros 7
instruction_bytes (SetI r k) = 1 ∷ r ∷ (to_le_bytes w16 k ++ zeros 4)
instruction_bytes (SetN r) = 2 ∷ r ∷ zeros 6
instruction_bytes (SetT r) = 3 ∷ r ∷ zeros 6
instruction_bytes (Mov r s) = 4 ∷ r ∷ s ∷ zeros 5
instruction_bytes (Add r s) = 5 ∷ r ∷ s ∷ zeros 5
instruction_bytes (AddI r k) = 6 ∷ r ∷ (to_le_bytes w16 k ++ zeros 4)
instruction_bytes (SubI r k) = 7 ∷ r ∷ (to_le_bytes w16 k ++ zeros 4)
instruction_bytes (Bnez r t) = 8 ∷ r ∷ (to_le_bytes w16 t ++ zeros 4)
instruction_bytes (Aap x y) = 9 ∷ (row_bytes x ++ (row_bytes y ++ zeros 1))
instruction_bytes (Ap x) = 10 ∷ (row_bytes x ++ zeros 4)

-- 2 ^ i for each source i that is a word
abbrev pub kind_bits : List Kind → ℕ
kind_bits [] = 0
kind_bits (Word ∷ kinds) = 2 * kind_bits kinds + 1
kind_bits (Bit ∷ kinds) = 2 * kind_bits kinds

-- bit 4 of the kinds byte: the first result is a word
abbrev pub result_bit : Kind → ℕ
result_bit Word = 16
result_bit Bit = 0

-- 32 where there is a second result, and 64 where it is a word
abbrev pub second_bits : Option Kind → ℕ
second_bits None = 0
second_bits (Some Bit) = 32
second_bits (Some Word) = 96

-- the kinds of the sources in bits 0 to 3, of the first result in bit 4, of the second in bits 5
-- and 6
abbrev pub kinds_byte : Shape → ℕ
kinds_byte shape = kind_bits shape.sources + (result_bit shape.result + second_bits shape.second)

-- the sources and their kinds, and the scratch
abbrev pub shape_bytes : Shape → List ℕ
shape_bytes shape = length shape.sources ∷ kinds_byte shape ∷ shape.bits ∷ shape.words ∷ []

-- the record of an entry whose code begins at this instruction
abbrev pub head_bytes : ℕ → Microprogram → List ℕ
head_bytes start m = name_bytes m.name ++ (shape_bytes m.shape
    ++ (to_le_bytes w32 start ++ to_le_bytes w16 (length m.code)))

-- a record for each entry
abbrev pub directory_bytes : ℕ → List Microprogram → List ℕ
directory_bytes start [] = []
directory_bytes start (m ∷ ms) = head_bytes start m ++ directory_bytes (start + length m.code) ms

-- the code of an entry, eight bytes for each instruction
abbrev pub code_bytes : Microprogram → List ℕ
code_bytes m = flat_map instruction_bytes m.code

-- SDMP, and the version
abbrev pub opening_bytes : ℕ → List ℕ
opening_bytes version = codes "SDMP" ++ to_le_bytes w16 version

-- version 2 has every program, and version 1 those with one result an entry
abbrev pub HasVersion : ℕ → List Microprogram → Type 0
HasVersion version ms = ((version ≡ 1) × AllByRecursion (λ m. m.shape.second ≡ None) ms)
    ⊎ (version ≡ 2)

-- the file of a program in a version
unfoldable pub program_bytes : ℕ → List Microprogram → List ℕ
program_bytes version ms = opening_bytes version ++ (to_le_bytes w16 (length ms)
    ++ (directory_bytes 0 ms ++ flat_map code_bytes ms))
