-- Straight lines: row commands with the positions of their rows, and which ones code can issue.
use Rattle.std.specs.Prelude.{◌≡◌, ℕ, ◌+◌, ◌==◌, nat_le, Bool, true, not, ◌&&◌}
use Rattle.std.specs.Prelude.{if◌then◌else◌}
use Rattle.std.specs.Prelude.{List, Option, map, position, sum_by}
use Rattle.std.specs.List.{AllByRecursion}
use Rattle.uprog_code.specs.declared.code.RowSpace.{RowSpace}
use Rattle.uprog_code.specs.declared.code.RowSpace.TheVariants as space
use Rattle.uprog_code.specs.declared.code.RowRef.{RowRef}
use Rattle.uprog_code.specs.declared.registers.Issued.{Issued}
use Rattle.uprog_code.specs.Shape.{Shape}
use Rattle.uprog_code.specs.Machine.{Issue, IssueAap, IssueAp}
use Rattle.uprog_code.specs.OneStep.{issue_of}
use Rattle.uprog_code.specs.Issued.{is_issued}
use Rattle.uprog_code.specs.Legal.{may_be_first, may_be_second}

-- the commands of a line, as a trace has them
abbrev pub issues : List Issued → List Issue
issues line = map issue_of line

-- a position that code can give a row of this space: a number that a register holds, or 0 where
-- rows have no position
abbrev pub is_position : RowSpace → ℕ → Bool
is_position space.B i = i == 0
is_position space.C i = i == 0
is_position space.Result i = nat_le i 1023
is_position space.Source i = nat_le i 1023
is_position space.ScratchBit i = i == 0
is_position space.ScratchWord i = nat_le i 1023
is_position space.Spill i = i == 0

-- a row that code of this shape can activate at width n, at a position of its own
abbrev pub is_named : Shape → ℕ → RowRef → Bool
is_named shape n r = is_issued shape n r && is_position r.space r.index

-- a command that code of this shape can issue at width n: each row may stand where it does
abbrev pub is_nameable : Shape → ℕ → Issue → Bool
is_nameable shape n (IssueAap x y) = (is_named shape n x && may_be_first x.space x.which)
    && (is_named shape n y && may_be_second y.space)
is_nameable shape n (IssueAp x) = is_named shape n x && may_be_first x.space x.which

-- the place of the first command of a line that cannot be issued
abbrev pub first_unnamed : Shape → ℕ → List Issued → Option ℕ
first_unnamed shape n line = position (λ c. not (is_nameable shape n (issue_of c))) line

-- every command of a line can be issued
abbrev pub AreNameable : Shape → ℕ → List Issue → Type 0
AreNameable shape n line = AllByRecursion (λ c. is_nameable shape n c ≡ true) line

-- how many instructions set the register of a row's position
abbrev pub row_room : RowRef → ℕ
row_room r = if r.index == 0 then 0 else 1

-- how many instructions a command of a line takes
abbrev pub room : Issue → ℕ
room (IssueAap x y) = row_room x + row_room y + 1
room (IssueAp x) = row_room x + 1

-- how many instructions a line takes
abbrev pub line_room : List Issue → ℕ
line_room line = sum_by room line
