-- The commands that legal code issues.
use Rattle.std.specs.Prelude.{◌≡◌, ℕ, ◌+◌, ◌*◌, nat_lt, Bool, true, ◌&&◌, List, slice_get}
use Rattle.std.specs.List.{AllByRecursion}
use Rattle.uprog_code.specs.declared.code.RowSpace.{RowSpace}
use Rattle.uprog_code.specs.declared.code.RowSpace.TheVariants as space
use Rattle.uprog_code.specs.declared.code.RowRef.{RowRef}
use Rattle.uprog_code.specs.Shape.{Shape, results}
use Rattle.uprog_code.specs.Machine.{Issue, IssueAap, IssueAp, in_kind}
use Rattle.uprog_code.specs.Legal.{may_be_first, may_be_second}

-- a row of a trace: its space and number are legal, and its position lies within what it belongs to
abbrev pub is_issued_in : Shape → ℕ → RowSpace → ℕ → ℕ → Bool
is_issued_in shape n space.B which i = nat_lt which 16
is_issued_in shape n space.C which i = nat_lt which 2
is_issued_in shape n space.Result which i = in_kind (slice_get (results shape) which) n i
is_issued_in shape n space.Source which i = in_kind (slice_get shape.sources which) n i
is_issued_in shape n space.ScratchBit which i = nat_lt which shape.bits
is_issued_in shape n space.ScratchWord which i = nat_lt (which * n + i) (n * shape.words)
is_issued_in shape n space.Spill which i = nat_lt which 32

-- a row that legal code may name in a trace at width n
abbrev pub is_issued : Shape → ℕ → RowRef → Bool
is_issued shape n r = is_issued_in shape n r.space r.which r.index

-- each row of the command is legal in its place
abbrev pub is_good : Shape → ℕ → Issue → Bool
is_good shape n (IssueAap x y) = (is_issued shape n x && may_be_first x.space x.which)
    && (is_issued shape n y && may_be_second y.space)
is_good shape n (IssueAp x) = is_issued shape n x && may_be_first x.space x.which

-- every command of a trace names rows that are legal in their places
abbrev pub AreGood : Shape → ℕ → List Issue → Type 0
AreGood shape n issues = AllByRecursion (λ c. is_good shape n c ≡ true) issues
