-- The code of an entry for a width: the test of the width, the line, then the entry's own code.
use Rattle.std.specs.Prelude.{ℕ, ◌+◌, ◌==◌, if◌then◌else◌, List, [], ◌∷◌, ◌++◌, map, length}
use Rattle.uprog_code.specs.declared.code.RowSpace.{RowSpace}
use Rattle.uprog_code.specs.declared.code.RowSpace.TheVariants as space
use Rattle.uprog_code.specs.declared.code.RowRef.{RowRef}
use Rattle.uprog_code.specs.declared.code.Uop.{Uop}
use Rattle.uprog_code.specs.declared.code.Uop.TheVariants.{Done, SetI, SetN, SetT, Mov, Add, AddI}
use Rattle.uprog_code.specs.declared.code.Uop.TheVariants.{SubI, Bnez, Aap, Ap}
use Rattle.uprog_code.specs.Machine.{Issue, IssueAap, IssueAp}

-- what names position 0 of a row of this space: the number 8, or 0 where rows have no position
abbrev pub no_register : RowSpace → ℕ
no_register space.B = 0
no_register space.C = 0
no_register space.Result = 8
no_register space.Source = 8
no_register space.ScratchBit = 0
no_register space.ScratchWord = 8
no_register space.Spill = 0

-- a row of a line, as an instruction names it: by this register where its position is not 0
abbrev pub row_by : ℕ → RowRef → RowRef
row_by r x = record {
  space = x.space;
  which = x.which;
  index = if x.index == 0 then no_register x.space else r;
}

-- what sets the register, where one is needed
abbrev pub setting : ℕ → RowRef → List Uop
setting r x = if x.index == 0 then [] else SetI r x.index ∷ []

-- the instructions of a command
abbrev pub command_code : Issue → List Uop
command_code (IssueAap x y) =
    setting 0 x ++ (setting 1 y ++ Aap (row_by 0 x) (row_by 1 y) ∷ [])
command_code (IssueAp x) = setting 0 x ++ Ap (row_by 0 x) ∷ []

-- the instructions of a line
abbrev pub line_code : List Issue → List Uop
line_code [] = []
line_code (c ∷ cs) = command_code c ++ line_code cs

-- Whether the width is n, by taking 1 from both until one of them is 0: with n on, and else at a
-- place with register 0 or 1 not 0
abbrev pub test_code : ℕ → ℕ → List Uop
test_code n other =
    SetN 0 ∷ SetI 1 n ∷ Bnez 0 4 ∷ Bnez 1 other ∷ SubI 0 1 ∷ SubI 1 1 ∷ Bnez 1 2 ∷ Bnez 0 other ∷ []

-- an instruction behind so many others
abbrev pub moved_uop : ℕ → Uop → Uop
moved_uop by Done = Done
moved_uop by (SetI r k) = SetI r k
moved_uop by (SetN r) = SetN r
moved_uop by (SetT r) = SetT r
moved_uop by (Mov r s) = Mov r s
moved_uop by (Add r s) = Add r s
moved_uop by (AddI r k) = AddI r k
moved_uop by (SubI r k) = SubI r k
moved_uop by (Bnez r t) = Bnez r (t + by)
moved_uop by (Aap x y) = Aap x y
moved_uop by (Ap x) = Ap x

-- The whole code, where the line's instructions are these: the test, the line with its end, both
-- registers set to 0, and the entry's own
abbrev pub behind : ℕ → List Uop → List Uop → List Uop
behind n line own =
    test_code n (length line + 9) ++ (line ++ (Done ∷ SetI 0 0 ∷ SetI 1 0
    ∷ map (moved_uop (length line + 11)) own))
