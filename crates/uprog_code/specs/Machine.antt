-- What a microprogram issues.
use Rattle.std.specs.Prelude.{ℕ, zero, suc, ◌+◌, ◌-◌, ◌*◌, ◌==◌, nat_lt, nat_le, Bool, true, false}
use Rattle.std.specs.Prelude.{◌&&◌, if◌then◌else◌, List, [], ◌∷◌, ◌++◌, Option, Some, None}
use Rattle.std.specs.Prelude.{slice_get, slice_index, slice_set}
use Rattle.op_text.specs.declared.tree.Kind.{Kind}
use Rattle.op_text.specs.declared.tree.Kind.TheVariants.{Word, Bit}
use Rattle.uprog_code.specs.declared.code.RowSpace.{RowSpace}
use Rattle.uprog_code.specs.declared.code.RowSpace.TheVariants as space
use Rattle.uprog_code.specs.declared.code.RowRef.{RowRef}
use Rattle.uprog_code.specs.Shape.{Shape, results}
use Rattle.uprog_code.specs.declared.TheConstants.{WALK_MAX}
use Rattle.uprog_code.specs.declared.walker.Why3.{Why3}
use Rattle.uprog_code.specs.declared.walker.Why3.TheVariants.{Index, Register, Budget}
use Rattle.uprog_code.specs.declared.code.Uop.{Uop}
use Rattle.uprog_code.specs.declared.code.Uop.TheVariants.{Done, SetI, SetN, SetT, Mov, Add, AddI}
use Rattle.uprog_code.specs.declared.code.Uop.TheVariants.{SubI, Bnez, Aap, Ap}

-- a row command of a trace: each row's index is the position itself
pub data Issue : Type 0 where
  IssueAap : RowRef → RowRef → Issue
  IssueAp : RowRef → Issue

-- all commands up to Done, or the place where the walk is stuck
pub data Trace : Type 0 where
  Ended : List Issue → Trace
  Stuck : (at : ℕ) → (why : Why3) → Trace

-- these commands, and then what follows
abbrev pub onto : List Issue → Trace → Trace
onto cs (Ended ds) = Ended (cs ++ ds)
onto cs (Stuck at why) = Stuck at why

-- the index counts in these spaces alone
abbrev pub position : RowSpace → ℕ → ℕ
position space.B i = 0
position space.C i = 0
position space.Result i = i
position space.Source i = i
position space.ScratchBit i = 0
position space.ScratchWord i = i
position space.Spill i = 0

-- the row with the value of its index: a register past the last one means 0
abbrev pub row_at : List ℕ → RowRef → RowRef
row_at regs r = record {
  space = r.space;
  which = r.which;
  index = position r.space (slice_index regs r.index);
}

-- the command with the positions that the registers give its rows
abbrev pub command_at : List ℕ → Issue → Issue
command_at regs (IssueAap x y) = IssueAap (row_at regs x) (row_at regs y)
command_at regs (IssueAp x) = IssueAp (row_at regs x)

-- whether a value of this kind, where there is one, has a position i at width n
abbrev pub in_kind : Option Kind → ℕ → ℕ → Bool
in_kind None n i = false
in_kind (Some Word) n i = nat_lt i n
in_kind (Some Bit) n i = i == 0

-- the row's index lies within what the row belongs to
abbrev pub in_space : Shape → ℕ → RowSpace → ℕ → ℕ → Bool
in_space head n space.B which i = true
in_space head n space.C which i = true
in_space head n space.Result which i = in_kind (slice_get (results head) which) n i
in_space head n space.Source which i = in_kind (slice_get head.sources which) n i
in_space head n space.ScratchBit which i = true
in_space head n space.ScratchWord which i = nat_lt (which * n + i) (n * head.words)
in_space head n space.Spill which i = true

-- the row lies within the value that it belongs to, at width n
abbrev pub in_range : Shape → ℕ → RowRef → Bool
in_range head n r = in_space head n r.space r.which r.index

-- both rows of a command do
abbrev pub all_in_range : Shape → ℕ → Issue → Bool
all_in_range head n (IssueAap x y) = in_range head n x && in_range head n y
all_in_range head n (IssueAp x) = in_range head n x

-- what follows from a place with these registers
abbrev pub Next : Type 0
Next = ℕ → List ℕ → Trace

-- a command, where its rows are in range
abbrev pub issued : Shape → ℕ → Issue → ℕ → Trace → Trace
issued head n c pc rest = if all_in_range head n c then onto (c ∷ []) rest else Stuck pc Index

-- one instruction
abbrev pub act : Shape → ℕ → Uop → Next → ℕ → List ℕ → Trace
act head n Done next pc regs = Ended []
act head n (SetI r k) next pc regs = next (pc + 1) (slice_set regs r k)
act head n (SetN r) next pc regs = next (pc + 1) (slice_set regs r n)
act head n (SetT r) next pc regs = next (pc + 1) (slice_set regs r (n - 1))
act head n (Mov r s) next pc regs = next (pc + 1) (slice_set regs r (slice_index regs s))
act head n (Add r s) next pc regs =
    if nat_le (slice_index regs r + slice_index regs s) 1023
    then next (pc + 1) (slice_set regs r (slice_index regs r + slice_index regs s))
    else Stuck pc Register
act head n (AddI r k) next pc regs =
    if nat_le (slice_index regs r + k) 1023
    then next (pc + 1) (slice_set regs r (slice_index regs r + k))
    else Stuck pc Register
act head n (SubI r k) next pc regs =
    if nat_le k (slice_index regs r)
    then next (pc + 1) (slice_set regs r (slice_index regs r - k))
    else Stuck pc Register
act head n (Bnez r t) next pc regs = if slice_index regs r == 0 then next (pc + 1) regs
    else next t regs
act head n (Aap x y) next pc regs = issued head n (command_at regs (IssueAap x y)) pc
    (next (pc + 1) regs)
act head n (Ap x) next pc regs = issued head n (command_at regs (IssueAp x)) pc (next (pc + 1) regs)

-- legal code has an instruction at each place that is reached
abbrev pub act_at : Shape → ℕ → Option Uop → Next → ℕ → List ℕ → Trace
act_at head n None next pc regs = Ended []
act_at head n (Some i) next pc regs = act head n i next pc regs

-- what is issued from here on, where this many instructions are left in the budget
unfoldable pub issue : Shape → List Uop → ℕ → ℕ → ℕ → List ℕ → Trace
issue head code n zero pc regs = Stuck pc Budget
issue head code n (suc left) pc regs = act_at head n (slice_get code pc) (issue head code n left) pc
    regs

-- eight registers with 0, as each walk begins
abbrev pub start : List ℕ
start = 0 ∷ 0 ∷ 0 ∷ 0 ∷ 0 ∷ 0 ∷ 0 ∷ 0 ∷ []

-- the whole trace
unfoldable pub trace : Shape → List Uop → ℕ → Trace
trace head code n = issue head code n WALK_MAX 0 start

-- the commands of a trace, none where it is stuck
abbrev pub issues_of : Trace → List Issue
issues_of (Ended issues) = issues
issues_of (Stuck at why) = []

-- the walk came to its end, and is not stuck
abbrev pub HasEnded : Trace → Type 0
HasEnded (Ended issues) = Unit {0}
HasEnded (Stuck at why) = ⊥
