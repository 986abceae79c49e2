-- What the flow of a loop program keeps.
use Rattle.std.specs.Prelude.{◌≡◌, ℕ, ◌<◌, ◌≤◌, true, List, [], length}
use Rattle.std.specs.List.{AllByRecursion, list_all}
use Rattle.bit_rows.specs.declared.TheConstants.{WIDTH_MAX}
use Rattle.loop_ir.specs.Plain.{Block, StepOf}
use Rattle.loop_ir.specs.Flows.{FlowOf, run, AllFlow, all_flow, flow_size}
use Rattle.loop_ir.specs.FlowTests.{counts, nests, is_event_safe}
use Rattle.loop_ir.specs.Loops.{all_rounds, rounds_in}
use Rattle.loop_ir.specs.Chains.{chained}
use Rattle.loop_ir.specs.Costs.{body_cost, code_cost}
use Rattle.loop_ir.specs.Limits.{IsSmall, IsRound, HasValues, stays_in_registers}
use Rattle.loop_ir.specs.Spots.{Spot}
use Rattle.loop_front.specs.Like.{AreLike}

-- A run of the flow at width n, from these registers: it does the rounds of the steps, each with
-- rows that it may have and the states that it reads; no register leaves its range, and no loop has
-- more than n iterations
pub record IsRunOf (may_have : Spot → Type 0) (n : ℕ) (steps : List (StepOf Block))
    (f : FlowOf Block) (g : List ℕ) : Type 0 where
  pub like : AreLike n (all_rounds n steps) (rounds_in (run n f g).events)
  pub rounds : AllByRecursion (IsRound may_have n) (rounds_in (run n f g).events)
  pub find : chained [] (rounds_in (run n f g).events) ≡ true
  pub safe : list_all (is_event_safe n) (run n f g).events ≡ true

-- The flow does the loop program, whatever its eight registers hold as it begins: code can be made
-- of it, in no more instructions than the loop program may take
pub record IsFlowOf (may_have : ℕ → Spot → Type 0) (steps : List (StepOf Block)) (f : FlowOf Block)
    : Type 0 where
  pub small : AllFlow IsSmall f
  pub values : AllFlow (HasValues may_have) f
  pub counts : counts f ≡ true
  pub nests : nests 2 f ≡ true
  pub stays : all_flow (stays_in_registers (λ r. true)) f ≡ true
  pub size : flow_size body_cost f ≤ code_cost steps
  pub runs : (n : ℕ) → 0 < n → n ≤ WIDTH_MAX → (g : List ℕ) → length g ≡ 8
      → IsRunOf (may_have n) n steps f g
