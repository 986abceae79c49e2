-- Reading a program file field by field: its program, or the first field that is not whole or
-- breaks its rule.
use Rattle.std.specs.Prelude.{◌≡◌, ℕ, zero, suc, ◌+◌, ◌*◌, ◌/◌, ◌%◌, ◌^◌, Bool, true, ◌&&◌, ◌||◌}
use Rattle.std.specs.Prelude.{not, nat_le, nat_lt, ◌==◌, List, [], ◌∷◌, ◌++◌, length, Option, Some}
use Rattle.std.specs.Prelude.{None, Result, Ok, Err, if◌then◌else◌, codes, map, slice_get}
use Rattle.std.specs.Prelude.{slice_index, slice_index_or}
use Rattle.std.specs.Int.{Width, w8, w16, w32, from_le_bytes}
use Rattle.std.specs.List.{list_any}
use Rattle.std.specs.Str.{bytes_eq}
use Rattle.op_text.specs.declared.tree.Kind.{Kind}
use Rattle.op_text.specs.declared.tree.Kind.TheVariants.{Word, Bit}
use Rattle.uprog_code.specs.declared.code.RowSpace.TheVariants.{Spill}
use Rattle.uprog_code.specs.declared.code.RowRef.{RowRef}
use Rattle.uprog_code.specs.declared.code.Uop.{Uop}
use Rattle.uprog_code.specs.declared.code.Uop.TheVariants as uop
use Rattle.uprog_code.specs.Shape.{Shape, shape_of, Microprogram}
use Rattle.uprog_bin.specs.declared.directory.Listed.{Listed}
use Rattle.uprog_code.specs.Legal.{is_first, is_second}
use Rattle.uprog_bin.specs.declared.fault.ProgKind.{ProgKind}
use Rattle.uprog_bin.specs.declared.fault.ProgKind.TheVariants as kinds
use Rattle.uprog_bin.specs.declared.opcode.Opcode.{Opcode}
use Rattle.uprog_bin.specs.declared.opcode.Opcode.TheVariants.{Done, SetI, SetN, SetT, Mov, Add}
use Rattle.uprog_bin.specs.declared.opcode.Opcode.TheVariants.{AddI, SubI, Bnez, Aap, Ap}
use Rattle.uprog_bin.specs.declared.opcode.TheConstants.{OPCODES, SPACES}
use Rattle.uprog_bin.specs.declared.instruction.RawRow.{RawRow}
use Rattle.uprog_bin.specs.declared.instruction.Raw.{Raw}
use Rattle.file_fields.specs.declared.faults.FileFault.{FileFault}
use Rattle.file_fields.specs.Fields as fields
use Rattle.file_fields.specs.Fields.{◌>>=◌, rule, fault_at, is_between, is_padded_name}

-- where a program file breaks a rule, and which
abbrev pub ProgFault : Type 0
ProgFault = FileFault ProgKind

-- so many bytes of a program file. A file that ends before is Short at its length
abbrev pub bytes_at : ℕ → ℕ → List ℕ → Result (List ℕ) ProgFault
bytes_at = fields.bytes_at kinds.Short

-- a number of a program file
abbrev pub number_at : Width → ℕ → List ℕ → Result ℕ ProgFault
number_at = fields.number_at kinds.Short

-- a number of a program file that has to pass a test
abbrev pub field_at : Width → (ℕ → Bool) → ProgKind → ℕ → List ℕ → Result ℕ ProgFault
field_at = fields.field_at kinds.Short

-- ---- an instruction

-- a row of an instruction in three bytes, from byte k on: its space, which row of it, and its index
abbrev pub raw_row : List ℕ → ℕ → RawRow
raw_row field k = record {
  space = slice_index field k;
  which = slice_index field (k + 1);
  index = slice_index field (k + 2);
}

-- the eight bytes of an instruction: its number, two rows, and one that every instruction has 0
abbrev pub raw_of : List ℕ → Raw
raw_of field = record {
  number = slice_index field 0;
  x = raw_row field 1;
  y = raw_row field 4;
  spare = slice_index field 7;
}

-- three bytes that an instruction without this row has 0
abbrev pub is_zero : RawRow → Bool
is_zero x = x.space == 0 && (x.which == 0 && x.index == 0)

-- a register in the first byte, and one in the second
abbrev pub has_register : RawRow → Bool
has_register x = nat_lt x.space 8

-- a second register, in the row's second byte
abbrev pub has_second : RawRow → Bool
has_second x = nat_lt x.which 8

-- the number in the second and third byte
abbrev pub operand : RawRow → ℕ
operand x = from_le_bytes w16 (x.which ∷ x.index ∷ [])

-- the bytes of the second row and the spare one are 0, as for every instruction but AAP
abbrev pub ends_at_y : Raw → Bool
ends_at_y r = is_zero r.y && r.spare == 0

-- registers are below 8 and numbers at most 1023, and the bytes that the instruction does not name
-- are 0
abbrev pub is_formed : Opcode → Raw → Bool
is_formed Done r = is_zero r.x && ends_at_y r
is_formed SetI r = has_register r.x && (nat_le (operand r.x) 1023 && ends_at_y r)
is_formed SetN r = has_register r.x && ((r.x.which == 0 && r.x.index == 0) && ends_at_y r)
is_formed SetT r = has_register r.x && ((r.x.which == 0 && r.x.index == 0) && ends_at_y r)
is_formed Mov r = has_register r.x && ((has_second r.x && r.x.index == 0) && ends_at_y r)
is_formed Add r = has_register r.x && ((has_second r.x && r.x.index == 0) && ends_at_y r)
is_formed AddI r = has_register r.x && (nat_le (operand r.x) 1023 && ends_at_y r)
is_formed SubI r = has_register r.x && (nat_le (operand r.x) 1023 && ends_at_y r)
is_formed Bnez r = has_register r.x && ends_at_y r
is_formed Aap r = r.spare == 0
is_formed Ap r = ends_at_y r

-- the target of a jump is an instruction of the code
abbrev pub has_target : Opcode → ℕ → Raw → Bool
has_target Bnez size r = nat_lt (operand r.x) size
has_target _ size r = true

-- the row that three bytes name, where its space is one
abbrev pub row_of : RawRow → RowRef
row_of x = record { space = slice_index_or SPACES x.space Spill; which = x.which; index = x.index }

-- the rows are legal in their places
abbrev pub has_rows : Opcode → Shape → Raw → Bool
has_rows Aap shape r = (nat_lt r.x.space 7 && is_first shape (row_of r.x))
    && (nat_lt r.y.space 7 && is_second shape (row_of r.y))
has_rows Ap shape r = nat_lt r.x.space 7 && is_first shape (row_of r.x)
has_rows _ shape r = true

-- the code's last instruction ends it
abbrev pub ends_code : Opcode → Bool → Bool
ends_code Done last = true
ends_code _ last = not last

-- the instruction that well-formed bytes spell
abbrev pub uop_as : Opcode → Raw → Uop
uop_as Done r = uop.Done
uop_as SetI r = uop.SetI r.x.space (operand r.x)
uop_as SetN r = uop.SetN r.x.space
uop_as SetT r = uop.SetT r.x.space
uop_as Mov r = uop.Mov r.x.space r.x.which
uop_as Add r = uop.Add r.x.space r.x.which
uop_as AddI r = uop.AddI r.x.space (operand r.x)
uop_as SubI r = uop.SubI r.x.space (operand r.x)
uop_as Bnez r = uop.Bnez r.x.space (operand r.x)
uop_as Aap r = uop.Aap (row_of r.x) (row_of r.y)
uop_as Ap r = uop.Ap (row_of r.x)

-- an instruction of code of this size, its last one or not
abbrev pub uop_of : Opcode → Shape → ℕ → Bool → ℕ → Raw → Result Uop ProgFault
uop_of k shape size last at r = do
  formed ← rule (is_formed k r) at kinds.Instruction
  within ← rule (has_target k size r) at kinds.Target
  rows ← rule (has_rows k shape r) at kinds.Row
  done ← rule (ends_code k last) at kinds.NoDone
  Ok (uop_as k r)

-- an instruction by its number, which has to be one of the table
abbrev pub numbered : Option Opcode → Shape → ℕ → Bool → ℕ → Raw → Result Uop ProgFault
numbered None shape size last at r = Err (fault_at at kinds.Instruction)
numbered (Some k) shape size last at r = uop_of k shape size last at r

-- the instruction at a place of the file, or its first fault
unfoldable pub uop_at : Shape → ℕ → Bool → ℕ → List ℕ → Result Uop ProgFault
uop_at shape size last at bytes = do
  field ← bytes_at 8 at bytes
  numbered (slice_get OPCODES (slice_index field 0)) shape size last at (raw_of field)

-- so many instructions from a place on, the last of which is the code's last
unfoldable pub uops_at : ℕ → Shape → ℕ → ℕ → List ℕ → Result (List Uop) ProgFault
uops_at zero shape size at bytes = Ok []
uops_at (suc left) shape size at bytes = do
  first ← uop_at shape size (left == 0) at bytes
  others ← uops_at left shape size (at + 8) bytes
  Ok (first ∷ others)

-- ---- the directory

-- an entry's record: where its code starts and how many instructions it has
pub record Listing : Type 0 where
  pub name : List ℕ
  pub shape : Shape
  pub start : ℕ
  pub count : ℕ

-- whether an earlier entry has this name
abbrev pub has_name : List Listing → List ℕ → Bool
has_name earlier name = list_any (λ l. bytes_eq l.name name) earlier

-- a name that no earlier entry has
abbrev pub name_at : List Listing → ℕ → List ℕ → Result (List ℕ) ProgFault
name_at earlier = fields.name_at kinds.Short kinds.Directory (has_name earlier)

-- the kind that a bit of the kinds byte says
abbrev pub kind_of_bit : ℕ → Kind
kind_of_bit b = if b == 1 then Word else Bit

-- the kinds of so many sources, the lowest bit first
abbrev pub kinds_of : ℕ → ℕ → List Kind
kinds_of zero n = []
kinds_of (suc m) n = kind_of_bit (n % 2) ∷ kinds_of m (n / 2)

-- the second result: the low bit says that there is one, and the other that it is a word
abbrev pub second_of : ℕ → Option Kind
second_of b = if b == 0 then None else Some (kind_of_bit (b / 2))

-- The bits from bit 4 on. Bit 4 is the first result's; in version 2 bits 5 and 6 are the second's,
-- and bit 6 is 0 where bit 5 is. All others are 0.
abbrev pub is_results : ℕ → ℕ → Bool
is_results version top = nat_lt top (if version == 1 then 2 else 8) && not (top / 2 == 2)

-- the bits at and past the sources' number up to bit 3 are 0
abbrev pub is_kinds : ℕ → ℕ → ℕ → Bool
is_kinds version m n = nat_lt (n % 16) (2 ^ m) && is_results version (n / 16)

-- the shape of an entry: how many sources, the kinds, and the bits and words of scratch, a byte
-- each
unfoldable pub shape_at : ℕ → ℕ → List ℕ → Result Shape ProgFault
shape_at version at bytes = do
  sources ← field_at w8 (is_between 1 4) kinds.Directory at bytes
  kinds ← field_at w8 (is_kinds version sources) kinds.Directory (at + 1) bytes
  bits ← number_at w8 (at + 2) bytes
  words ← number_at w8 (at + 3) bytes
  Ok (record {
    sources = kinds_of sources kinds;
    result = kind_of_bit (kinds / 16 % 2);
    second = second_of (kinds / 16 / 2);
    bits = bits;
    words = words;
  })

-- the 27 bytes of an entry in the directory; its code starts where that of the one before it ends
unfoldable pub listing_at : ℕ → List Listing → ℕ → ℕ → List ℕ → Result Listing ProgFault
listing_at version earlier start at bytes = do
  name ← name_at earlier at bytes
  shape ← shape_at version (at + 17) bytes
  first ← field_at w32 (λ n. n == start) kinds.Directory (at + 21) bytes
  count ← field_at w16 (is_between 1 65535) kinds.Directory (at + 25) bytes
  Ok (record { name = name; shape = shape; start = first; count = count })

-- these entries, and so many after them, whose code starts after theirs
unfoldable pub directory_at : ℕ → ℕ → List Listing → ℕ → ℕ → List ℕ
    → Result (List Listing) ProgFault
directory_at version zero earlier start at bytes = Ok earlier
directory_at version (suc n) earlier start at bytes = do
  listing ← listing_at version earlier start at bytes
  directory_at version n (earlier ++ listing ∷ []) (start + listing.count) (at + 27) bytes

-- ---- the file

-- the two versions that there are
abbrev pub is_version : ℕ → Bool
is_version n = n == 1 || n == 2

-- the version of the file
unfoldable pub opening_in : List ℕ → Result ℕ ProgFault
opening_in bytes = do
  magic ← bytes_at 4 0 bytes
  same ← rule (bytes_eq magic (codes "SDMP")) 0 kinds.Magic
  field_at w16 is_version kinds.Version 4 bytes

-- the code of each of these entries, from a place on
unfoldable pub codes_at : List Listing → ℕ → List ℕ → Result (List Microprogram) ProgFault
codes_at [] at bytes = Ok []
codes_at (l ∷ ls) at bytes = do
  code ← uops_at l.count l.shape l.count at bytes
  others ← codes_at ls (at + 8 * l.count) bytes
  Ok (record { name = l.name; shape = l.shape; code = code } ∷ others)

-- how many instructions all entries have, of eight bytes each
abbrev pub total_count : List Listing → ℕ
total_count [] = 0
total_count (l ∷ ls) = l.count + total_count ls

-- where the first entry's code starts
abbrev pub codes_start : List Listing → ℕ
codes_start ls = 8 + 27 * length ls

-- the version of a file and the program that it spells, or its first fault
unfoldable pub program_in : List ℕ → Result (ℕ × List Microprogram) ProgFault
program_in bytes = do
  version ← opening_in bytes
  count ← field_at w16 (λ n. nat_le n 32) kinds.Directory 6 bytes
  listings ← directory_at version count [] 0 8 bytes
  programs ← codes_at listings (codes_start listings) bytes
  ended ← rule (length bytes == codes_start listings + 8 * total_count listings)
      (codes_start listings + 8 * total_count listings) kinds.Rest
  Ok (version, programs)

-- ---- what the code keeps of a file

-- an entry's record, without where it lies in memory
abbrev pub listing_of : Listed → Listing
listing_of l = record {
  name = l.head.name;
  shape = shape_of l.head;
  start = l.start;
  count = l.count;
}

-- the directory, as the code keeps it
abbrev pub listings_of : List Listed → List Listing
listings_of ls = map listing_of ls

-- whether a kept entry has this name
abbrev pub is_named : List ℕ → Listed → Bool
is_named name l = bytes_eq l.head.name name

-- What a check answers: whether reading gives something, or the fault that reading gives.
abbrev pub Checks : {Y : Type 0} → Result (Unit {0}) ProgFault → Result Y ProgFault → Type 0
Checks {Y} (Ok x) read = (y : Y) × (read ≡ Ok y)
Checks (Err f) read = read ≡ Err f

-- whether it is one, or its fault
abbrev pub unit_of : {X : Type 0} → Result X ProgFault → Result (Unit {0}) ProgFault
unit_of (Ok x) = Ok tt
unit_of (Err f) = Err f
