-- The flow of a loop program. Register 2 counts a loop down, and from register 3 on stand the
-- values of a body's subscripts.
use Rattle.std.specs.Prelude.{ℕ, ◌+◌, Bool, if◌then◌else◌, List, [], ◌∷◌, ◌++◌, map, filter}
use Rattle.std.specs.List.{list_any}
use Rattle.loop_ir.specs.declared.ir.Move.{Move}
use Rattle.loop_ir.specs.declared.ir.Move.TheVariants.{SetI, SetN, AddI, SubI}
use Rattle.loop_ir.specs.declared.ir.Sub.{Sub}
use Rattle.loop_ir.specs.declared.ir.Sub.TheVariants.{Zero, Inner, InnerDown, Register}
use Rattle.loop_ir.specs.declared.ir.Place.{Place}
use Rattle.loop_ir.specs.Plain.{Block, StepOf}
use Rattle.loop_ir.specs.Plain.StepOf.{Single, Along, Flowed}
use Rattle.loop_ir.specs.Flows.{FlowOf}
use Rattle.loop_ir.specs.Flows.FlowOf.{End, Do, Put, If, Loop}
use Rattle.loop_ir.specs.Flows.TurnsOf.{Last}
use Rattle.loop_ir.specs.FlowTests.{cleared}
use Rattle.loop_ir.specs.Costs.{same_sub}

-- some place of the body has the subscript
abbrev pub is_used : Block → Sub → Bool
is_used b s = list_any (λ p. same_sub p.sub s) (b.reads ++ b.writes)

-- the subscripts by the index that the body's places have
abbrev pub used_subs : Block → List Sub
used_subs b = filter (is_used b) (Inner ∷ InnerDown ∷ [])

-- the register of a subscript among these, of which the first has register r
abbrev pub in_register : List Sub → ℕ → Sub → Sub
in_register [] r s = Zero
in_register (t ∷ ts) r s = if same_sub s t then Register r else in_register ts (r + 1) s

-- a place whose index is in a register
abbrev pub placed : List Sub → Place → Place
placed subs p = record { space = p.space; which = p.which; sub = in_register subs 3 p.sub }

-- a body whose indices are in registers
abbrev pub in_registers : Block → Block
in_registers b = record {
  reads = map (placed (used_subs b)) b.reads;
  graph = b.graph;
  outs = b.outs;
  writes = map (placed (used_subs b)) b.writes;
  found = b.found;
}

-- register r gets the value that a subscript has at index 0; that of n - 1 - i has 1 more
abbrev pub start : Sub → ℕ → List Move
start Zero r = []
start Inner r = SetI r 0 ∷ []
start InnerDown r = SetN r ∷ []
start (Register q) r = []

-- what is done to it before each round
abbrev pub before : Sub → ℕ → List Move
before Zero r = []
before Inner r = []
before InnerDown r = SubI r 1 ∷ []
before (Register q) r = []

-- and after it
abbrev pub after : Sub → ℕ → List Move
after Zero r = []
after Inner r = AddI r 1 ∷ []
after InnerDown r = []
after (Register q) r = []

-- so for each of these subscripts, of which the first has register r
abbrev pub each_sub : (Sub → ℕ → List Move) → List Sub → ℕ → List Move
each_sub f [] r = []
each_sub f (s ∷ ss) r = f s r ++ each_sub f ss (r + 1)

-- moves, one after another, and then this flow
abbrev pub put_all : {A : Type 0} → List Move → FlowOf A → FlowOf A
put_all [] k = k
put_all (m ∷ ms) k = Put m (put_all ms k)

-- the registers of a body at index 0
abbrev pub starts : Block → List Move
starts b = each_sub start (used_subs b) 3

-- one round of a body
abbrev pub round_flow : Block → FlowOf Block → FlowOf Block
round_flow b k = put_all (each_sub before (used_subs b) 3) (Do (in_registers b) k)

-- a body at each index
abbrev pub each_flow : Block → FlowOf Block → FlowOf Block
each_flow b k = Put (SetN 2) (put_all (starts b)
    (Loop 2 (Last (round_flow b (put_all (each_sub after (used_subs b) 3) End))) k))

-- the second flow after the first
abbrev pub followed : {A : Type 0} → FlowOf A → FlowOf A → FlowOf A
followed End k = k
followed (Do b x) k = Do b (followed x k)
followed (Put m x) k = Put m (followed x k)
followed (If r x y z) k = If r x y (followed z k)
followed (Loop r ts x) k = Loop r ts (followed x k)

-- the registers that a flow's forms name get 0
abbrev pub clears : {A : Type 0} → FlowOf A → List Move
clears f = map (λ r. SetI r 0) (cleared f)

-- the flow of a step, and then this one
abbrev pub step_flow : StepOf Block → FlowOf Block → FlowOf Block
step_flow (Single b) k = Do b k
step_flow (Along b) k = each_flow b k
step_flow (Flowed f) k = put_all (clears f) (followed f k)

-- the flow of steps, and then this one
abbrev pub steps_flow : List (StepOf Block) → FlowOf Block → FlowOf Block
steps_flow [] k = k
steps_flow (s ∷ ss) k = step_flow s (steps_flow ss k)

-- the flow of a loop program
abbrev pub front : List (StepOf Block) → FlowOf Block
front steps = steps_flow steps End
