-- What a loop program keeps, so that its code is legal and short.
use Rattle.std.specs.Prelude.{◌≡◌, ℕ, ◌+◌, ◌<◌, ◌≤◌, Bool, true, false, ◌&&◌, List, [], ◌++◌}
use Rattle.std.specs.Prelude.{length, nat_lt}
use Rattle.std.specs.List.{AllByRecursion, list_all}
use Rattle.bit_rows.specs.declared.TheConstants.{WIDTH_MAX}
use Rattle.mig_graph.specs.Graph.{IsGraph}
use Rattle.loop_ir.specs.declared.ir.Place.{Place}
use Rattle.loop_ir.specs.declared.ir.Sub.{Sub}
use Rattle.loop_ir.specs.declared.ir.Sub.TheVariants.{Zero, Inner, InnerDown, Register}
use Rattle.loop_ir.specs.Plain.{Block, StepOf, AllParts}
use Rattle.loop_ir.specs.Plain.StepOf.{Single, Along, Flowed}
use Rattle.loop_ir.specs.Flows.{FlowOf, AllFlow, all_flow}
use Rattle.loop_ir.specs.FlowTests.{names, counts, nests, runs_safely}
use Rattle.loop_ir.specs.Loops.{RoundOf, all_rounds}
use Rattle.loop_ir.specs.Spots.{Spot, IsOwn, is_state, nth_place, spot_in, nth_spot}
use Rattle.loop_ir.specs.WellFormed.{IsWellFormed}
use Rattle.row_alloc.specs.declared.body.OutRow.{OutRow}
use Rattle.row_alloc.specs.Held.{DoesHeld}
use Rattle.loop_ir.specs.Outputs.{IsOuts}
use Rattle.loop_ir.specs.States.{StatesFit, row_count, enters, leaves}
use Rattle.loop_ir.specs.Chains.{steps_find}
use Rattle.loop_ir.specs.Costs.{plain_cost, code_cost, bodies}

-- the commands that the body carries do it, from the states that it reads to those that it writes
-- and wherever its rows lie, and are few
pub record HasCommands (b : Block) : Type 0 where
  pub does : (outs : List OutRow) → IsOuts b (row_count b.writes) outs
      → DoesHeld b.graph outs (enters 0 b.reads) (leaves b.writes b.outs) b.found
  pub few : length b.found ≤ plain_cost b

-- a body whose commands do it, with states that fit, and small enough for code
pub record IsSmall (b : Block) : Type 0 where
  pub well : IsWellFormed b
  pub states : StatesFit b
  pub commands : HasCommands b
  pub graph : IsGraph b.graph.inputs b.graph.nodes
  pub inputs : b.graph.inputs ≤ 80
  pub outputs : length b.outs ≤ 8
  pub rows : length b.graph.nodes + length b.outs ≤ 32

-- the subscript uses the index only in a loop
abbrev pub may_stand : Bool → Sub → Bool
may_stand in_loop Zero = true
may_stand in_loop Inner = in_loop
may_stand in_loop InnerDown = in_loop
may_stand in_loop (Register r) = false

-- every place of the body has such a subscript
abbrev pub all_stand : Bool → Block → Bool
all_stand in_loop b = list_all (λ p. may_stand in_loop p.sub) (b.reads ++ b.writes)

-- the subscript is 0 or one of these registers of a flow
abbrev pub is_in_register : (ℕ → Bool) → Sub → Bool
is_in_register named Zero = true
is_in_register named Inner = false
is_in_register named InnerDown = false
is_in_register named (Register r) = nat_lt r 7 && named r

-- every place of the body has such a subscript
abbrev pub stays_in_registers : (ℕ → Bool) → Block → Bool
stays_in_registers named b = list_all (λ p. is_in_register named p.sub) (b.reads ++ b.writes)

-- a flow that code can be made of: no turn changes its loop's counter, at most two loops stand
-- inside one another, its places stand in registers that its forms name, and at each width its run
-- is safe
abbrev pub flow_stands : FlowOf Block → Bool
flow_stands f = counts f && (nests 2 f && (all_flow (stays_in_registers (λ r. names r f)) f
    && runs_safely f))

-- so it is in a step: a body that is done once has no index
abbrev pub step_stands : StepOf Block → Bool
step_stands (Single b) = all_stand false b
step_stands (Along b) = all_stand true b
step_stands (Flowed f) = flow_stands f

-- In a round the body's places with rows are rows that it may have, and none of its writes is a
-- source's. The row of a write is that of no other write, and that of at most one read, which is a
-- read of the same place
pub record IsRound (may_have : Spot → Type 0) (n : ℕ) (r : RoundOf Block) : Type 0 where
  pub reads : (k : ℕ) → k < length r.part.reads
      → is_state (nth_place r.part.reads k).space ≡ false
      → may_have (nth_spot n r.i r.regs r.part.reads k)
  pub writes : (j : ℕ) → j < length r.part.writes
      → is_state (nth_place r.part.writes j).space ≡ false
      → may_have (nth_spot n r.i r.regs r.part.writes j)
  pub own : (j : ℕ) → j < length r.part.writes
      → IsOwn (nth_spot n r.i r.regs r.part.writes j).space
  pub apart : (i j : ℕ) → i < length r.part.writes → j < length r.part.writes
      → nth_spot n r.i r.regs r.part.writes i ≡ nth_spot n r.i r.regs r.part.writes j
      → i ≡ j
  pub same : (j k : ℕ) → j < length r.part.writes → k < length r.part.reads
      → nth_spot n r.i r.regs r.part.writes j ≡ nth_spot n r.i r.regs r.part.reads k
      → nth_place r.part.writes j ≡ nth_place r.part.reads k
  pub once : (j k l : ℕ) → j < length r.part.writes → k < length r.part.reads
      → l < length r.part.reads → nth_spot n r.i r.regs r.part.writes j
      ≡ nth_spot n r.i r.regs r.part.reads k → nth_spot n r.i r.regs r.part.writes j
      ≡ nth_spot n r.i r.regs r.part.reads l → k ≡ l

-- the value has a row, at some width, that may be had
abbrev pub IsHad : (ℕ → Spot → Type 0) → Place → Type 0
IsHad may_have p = (n : ℕ) × (v : ℕ) × may_have n (spot_in n p.space p.which v)

-- Whether or not the body is done, the values with rows that it reads and writes are such, and it
-- writes no source's
pub record HasValues (may_have : ℕ → Spot → Type 0) (b : Block) : Type 0 where
  pub reads : (k : ℕ) → k < length b.reads → is_state (nth_place b.reads k).space ≡ false
      → IsHad may_have (nth_place b.reads k)
  pub writes : (j : ℕ) → j < length b.writes → is_state (nth_place b.writes j).space ≡ false
      → IsHad may_have (nth_place b.writes j)
  pub own : (j : ℕ) → j < length b.writes → IsOwn (nth_place b.writes j).space

-- so it is in a flow, whose branches may never be taken; in any other step each body has a round
abbrev pub StepHasValues : (ℕ → Spot → Type 0) → StepOf Block → Type 0
StepHasValues may_have (Single b) = Unit {0}
StepHasValues may_have (Along b) = Unit {0}
StepHasValues may_have (Flowed f) = AllFlow (HasValues may_have) f

-- At every width code can be made of the loop program: at most 12 bodies, each small, which find
-- the states that they read, and at most 256 instructions
pub record CanCompile (may_have : ℕ → Spot → Type 0) (steps : List (StepOf Block)) : Type
    0 where
  pub small : AllParts IsSmall steps
  pub find : steps_find [] steps ≡ true
  pub stand : list_all step_stands steps ≡ true
  pub values : AllByRecursion (StepHasValues may_have) steps
  pub rounds : (n : ℕ) → 0 < n → n ≤ WIDTH_MAX
      → AllByRecursion (IsRound (may_have n) n) (all_rounds n steps)
  pub size : code_cost steps ≤ 256
  pub few : bodies steps ≤ 12
