-- What one instruction does to a machine that has a place and eight registers.
use Rattle.std.specs.Prelude.{◌≡◌, ℕ, ◌+◌, ◌<◌, ◌≤◌, List, [], ◌∷◌, length, slice_index, Result, Ok}
use Rattle.std.specs.Prelude.{Err}
use Rattle.uprog_code.specs.declared.code.RowRef.{RowRef}
use Rattle.uprog_code.specs.declared.code.Uop.{Uop}
use Rattle.uprog_code.specs.declared.code.Uop.TheVariants.{Done, SetI, SetN, SetT, Mov, Add, AddI}
use Rattle.uprog_code.specs.declared.code.Uop.TheVariants.{SubI, Bnez, Aap, Ap}
use Rattle.uprog_code.specs.declared.registers.RowPosition.{RowPosition}
use Rattle.uprog_code.specs.declared.registers.Issued.{Issued}
use Rattle.uprog_code.specs.declared.registers.Issued.TheVariants as issued
use Rattle.uprog_code.specs.declared.registers.Turn.{Turn}
use Rattle.uprog_code.specs.declared.registers.Turn.TheVariants.{Over, On, To, Issues}
use Rattle.uprog_code.specs.declared.walker.Why3.{Why3}
use Rattle.uprog_code.specs.Machine.{Trace, Ended, Stuck, Issue, IssueAap, IssueAp, Next, onto}

-- the row of a trace that the walker tells
abbrev pub row_of : RowPosition → RowRef
row_of p = record { space = p.space; which = p.which; index = p.index }

-- the command of a trace that the walker tells
abbrev pub issue_of : Issued → Issue
issue_of (issued.Aap x y) = IssueAap (row_of x) (row_of y)
issue_of (issued.Ap x) = IssueAp (row_of x)

-- what follows a step that ended so, from the place where it was and the registers that it left
abbrev pub turn_trace : Result Turn Why3 → Next → ℕ → List ℕ → Trace
turn_trace (Ok Over) next pc regs = Ended []
turn_trace (Ok On) next pc regs = next (pc + 1) regs
turn_trace (Ok (To t)) next pc regs = next t regs
turn_trace (Ok (Issues c)) next pc regs = onto (issue_of c ∷ []) (next (pc + 1) regs)
turn_trace (Err why) next pc regs = Stuck pc why

-- its commands: one or none
abbrev pub issues_by : Turn → List Issue
issues_by Over = []
issues_by On = []
issues_by (To t) = []
issues_by (Issues c) = issue_of c ∷ []

-- where the walk goes on after a step
abbrev pub next_place : Turn → ℕ → ℕ
next_place Over pc = pc
next_place On pc = pc + 1
next_place (To t) pc = t
next_place (Issues c) pc = pc + 1

-- registers below 8, numbers at most 1023, targets below the length
abbrev pub HasOperands : ℕ → Uop → Type 0
HasOperands size Done = Unit {0}
HasOperands size (SetI r k) = (r < 8) × (k ≤ 1023)
HasOperands size (SetN r) = r < 8
HasOperands size (SetT r) = r < 8
HasOperands size (Mov r s) = (r < 8) × (s < 8)
HasOperands size (Add r s) = (r < 8) × (s < 8)
HasOperands size (AddI r k) = (r < 8) × (k ≤ 1023)
HasOperands size (SubI r k) = (r < 8) × (k ≤ 1023)
HasOperands size (Bnez r t) = (r < 8) × (t < size)
HasOperands size (Aap x y) = Unit {0}
HasOperands size (Ap x) = Unit {0}

-- eight registers of at most 1023
abbrev pub AreRegisters : List ℕ → Type 0
AreRegisters regs = (length regs ≡ 8) × ((k : ℕ) → slice_index regs k ≤ 1023)
