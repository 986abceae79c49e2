-- The rounds of a loop program.
use Rattle.std.specs.Prelude.{ℕ, zero, suc, ◌+◌, ◌-◌, List, [], ◌∷◌, ◌++◌, slice_index}
use Rattle.loop_ir.specs.declared.ir.Sub.{Sub}
use Rattle.loop_ir.specs.declared.ir.Sub.TheVariants.{Zero, Inner, InnerDown, Register}
use Rattle.loop_ir.specs.Plain.{StepOf}
use Rattle.loop_ir.specs.Plain.StepOf.{Single, Along, Flowed}
use Rattle.loop_ir.specs.Flows.{FlowOf, EventOf, run, zeros}
use Rattle.loop_ir.specs.Flows.EventOf.{Done, Moved, Counted}

-- a body at one index, or with these registers in a flow
pub record RoundOf (A : Type 0) : Type 0 where
  pub part : A
  pub i : ℕ
  pub regs : List ℕ

-- a body at this index
abbrev pub round_at : {A : Type 0} → A → ℕ → RoundOf A
round_at b i = record { part = b; i = i; regs = [] }

-- a body at i, i + 1 and so on, as often as the count
abbrev pub rounds : {A : Type 0} → A → ℕ → ℕ → List (RoundOf A)
rounds b i zero = []
rounds b i (suc count) = round_at b i ∷ rounds b (i + 1) count

-- the rounds among the events of a run
abbrev pub rounds_in : {A : Type 0} → List (EventOf A) → List (RoundOf A)
rounds_in [] = []
rounds_in (Done b g ∷ es) = record { part = b; i = 0; regs = g } ∷ rounds_in es
rounds_in (Moved m g ∷ es) = rounds_in es
rounds_in (Counted r g ∷ es) = rounds_in es

-- the rounds of a flow at width n
abbrev pub flow_rounds : {A : Type 0} → ℕ → FlowOf A → List (RoundOf A)
flow_rounds n f = rounds_in (run n f zeros).events

-- the rounds of a step at width n
abbrev pub step_rounds : {A : Type 0} → ℕ → StepOf A → List (RoundOf A)
step_rounds n (Single b) = round_at b 0 ∷ []
step_rounds n (Along b) = rounds b 0 n
step_rounds n (Flowed f) = flow_rounds n f

-- every body at every position, in the order in which they come at width n
abbrev pub all_rounds : {A : Type 0} → ℕ → List (StepOf A) → List (RoundOf A)
all_rounds n [] = []
all_rounds n (s ∷ ss) = step_rounds n s ++ all_rounds n ss

-- the row that a subscript means, at width n, at this index and with these registers
abbrev pub sub_value : ℕ → ℕ → List ℕ → Sub → ℕ
sub_value n i g Zero = 0
sub_value n i g Inner = i
sub_value n i g InnerDown = n - 1 - i
sub_value n i g (Register r) = slice_index g r
