-- Which code is legal.
use Rattle.std.specs.Prelude.{◌≡◌, ℕ, ◌-◌, ◌^◌, ◌<◌, ◌==◌, nat_lt, nat_le, Bool, true, false, ◌&&◌}
use Rattle.std.specs.Prelude.{◌||◌, List, length, Some, slice_get}
use Rattle.std.specs.List.{AllByRecursion}
use Rattle.uprog_code.specs.declared.code.RowSpace.{RowSpace}
use Rattle.uprog_code.specs.declared.code.RowSpace.TheVariants as space
use Rattle.uprog_code.specs.declared.code.RowRef.{RowRef}
use Rattle.uprog_code.specs.declared.code.Uop.{Uop}
use Rattle.uprog_code.specs.declared.code.Uop.TheVariants.{Done, SetI, SetN, SetT, Mov, Add, AddI}
use Rattle.uprog_code.specs.declared.code.Uop.TheVariants.{SubI, Bnez, Aap, Ap}
use Rattle.uprog_code.specs.Shape.{Shape, results}

-- which row of its space, and what names its index: 0 to 7 a register, 8 the number 0; a row
-- without an index has 0 there
abbrev pub is_place : Shape → RowSpace → ℕ → ℕ → Bool
is_place shape space.B which i = nat_lt which 16 && i == 0
is_place shape space.C which i = nat_lt which 2 && i == 0
is_place shape space.Result which i = nat_lt which (length (results shape)) && nat_le i 8
is_place shape space.Source which i = nat_lt which (length shape.sources) && nat_le i 8
is_place shape space.ScratchBit which i = nat_lt which shape.bits && i == 0
is_place shape space.ScratchWord which i = nat_lt which shape.words && nat_le i 8
is_place shape space.Spill which i = nat_lt which 32 && i == 0

-- any row but B8 to B11
abbrev pub may_be_first : RowSpace → ℕ → Bool
may_be_first space.B which = nat_lt which 8 || nat_le 12 which
may_be_first space.C which = true
may_be_first space.Result which = true
may_be_first space.Source which = true
may_be_first space.ScratchBit which = true
may_be_first space.ScratchWord which = true
may_be_first space.Spill which = true

-- any row but those of C and of a source
abbrev pub may_be_second : RowSpace → Bool
may_be_second space.B = true
may_be_second space.C = false
may_be_second space.Result = true
may_be_second space.Source = false
may_be_second space.ScratchBit = true
may_be_second space.ScratchWord = true
may_be_second space.Spill = true

-- a row that code of this shape may name
abbrev pub is_row : Shape → RowRef → Bool
is_row shape r = is_place shape r.space r.which r.index

-- a row that may be activated first
abbrev pub is_first : Shape → RowRef → Bool
is_first shape r = is_row shape r && may_be_first r.space r.which

-- a row that may be activated second, over the bitlines that the first has set
abbrev pub is_second : Shape → RowRef → Bool
is_second shape r = is_row shape r && may_be_second r.space

-- an instruction of code of this length: registers below 8, numbers at most 1023, targets within
-- the code
abbrev pub is_legal : Shape → ℕ → Uop → Bool
is_legal shape size Done = true
is_legal shape size (SetI r k) = nat_lt r 8 && nat_le k 1023
is_legal shape size (SetN r) = nat_lt r 8
is_legal shape size (SetT r) = nat_lt r 8
is_legal shape size (Mov r s) = nat_lt r 8 && nat_lt s 8
is_legal shape size (Add r s) = nat_lt r 8 && nat_lt s 8
is_legal shape size (AddI r k) = nat_lt r 8 && nat_le k 1023
is_legal shape size (SubI r k) = nat_lt r 8 && nat_le k 1023
is_legal shape size (Bnez r t) = nat_lt r 8 && nat_lt t size
is_legal shape size (Aap x y) = is_first shape x && is_second shape y
is_legal shape size (Ap x) = is_first shape x

-- Code that a program file may have: fewer than 2 ^ 16 instructions, each legal, and the last ends
-- it.
pub record IsLegalCode (shape : Shape) (code : List Uop) : Type 0 where
  pub short : length code < 2 ^ 16
  pub each : AllByRecursion (λ i. is_legal shape (length code) i ≡ true) code
  pub last : slice_get code (length code - 1) ≡ Some Done
