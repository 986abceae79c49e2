-- Where a walk stands, and the row commands that follow from there.
use Rattle.std.specs.Prelude.{◌≡◌, ℕ, ◌<◌, true, List, [], ◌∷◌, length}
use Rattle.dram_model.specs.declared.address.Command.{Command}
use Rattle.dram_model.specs.Column.{is_legal}
use Rattle.uprog_code.specs.declared.binding.Binding.{Binding}
use Rattle.uprog_code.specs.declared.code.Uop.{Uop}
use Rattle.uprog_code.specs.declared.code.Uop.TheVariants.{Done, SetI, SetN, SetT, Mov, Add, AddI}
use Rattle.uprog_code.specs.declared.code.Uop.TheVariants.{SubI, Bnez, Aap, Ap}
use Rattle.uprog_code.specs.declared.commands.Walk.{Walk}
use Rattle.uprog_code.specs.Shape.{Shape}
use Rattle.uprog_code.specs.Machine.{Trace, issue, issues_of, HasEnded, Issue, IssueAap, IssueAp}
use Rattle.uprog_code.specs.Machine.{command_at}
use Rattle.uprog_code.specs.OneStep.{AreRegisters}
use Rattle.uprog_code.specs.Bound.{bound, bound_of}

-- the row command of an instruction, where it is one
abbrev pub row_commands : List ℕ → Uop → List Issue
row_commands regs Done = []
row_commands regs (SetI r k) = []
row_commands regs (SetN r) = []
row_commands regs (SetT r) = []
row_commands regs (Mov r s) = []
row_commands regs (Add r s) = []
row_commands regs (AddI r k) = []
row_commands regs (SubI r k) = []
row_commands regs (Bnez r t) = []
row_commands regs (Aap x y) = command_at regs (IssueAap x y) ∷ []
row_commands regs (Ap x) = command_at regs (IssueAp x) ∷ []

-- what is still issued from a place on
abbrev pub rest_of : Shape → List Uop → ℕ → Walk → Trace
rest_of shape code n w = issue shape code n w.left w.pc w.regs

-- its commands, each row at its address in a bank of so many data rows
abbrev pub commands_from : ℕ → Shape → List Uop → Binding → Walk → List Command
commands_from rows shape code b w =
    bound rows shape b.n (bound_of b) (issues_of (rest_of shape code b.n w))

-- the place lies in the code, and the trace from it on ends
pub record StandsIn (shape : Shape) (code : List Uop) (n : ℕ) (w : Walk) : Type 0 where
  pub place : w.pc < length code
  pub registers : AreRegisters w.regs
  pub ended : HasEnded (rest_of shape code n w)

-- the first command from one place on is this one, and the place after it is the other one
pub record Finds (rows : ℕ) (shape : Shape) (code : List Uop) (b : Binding) (w following : Walk)
    (next : Command) : Type 0 where
  pub first : commands_from rows shape code b w ≡ next ∷ commands_from rows shape code b following
  pub legal : is_legal rows next ≡ true
  pub fewer : following.left < w.left
  pub stands : StandsIn shape code b.n following
