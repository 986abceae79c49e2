-- The code of an operation over the flows of its statements.
use Rattle.std.specs.Prelude.{◌≡◌, ℕ, ◌<◌, ◌≤◌, List, [], ◌∷◌, length, map}
use Rattle.bit_rows.specs.declared.TheConstants.{WIDTH_MAX}
use Rattle.op_text.specs.Language.{Statement}
use Rattle.uprog_code.specs.declared.code.Uop.{Uop}
use Rattle.uprog_code.specs.Shape.{Shape}
use Rattle.uprog_code.specs.Legal.{IsLegalCode}
use Rattle.uprog_code.specs.Implements.{Implements}
use Rattle.uprog_code.specs.Machine.{trace, issues_of}
use Rattle.loop_ir.specs.Plain.{Block, StepOf}
use Rattle.loop_ir.specs.Flows.{FlowOf, flow_size}
use Rattle.loop_ir.specs.Costs.{body_cost}
use Rattle.loop_ir.specs.Spots.{Spot}
use Rattle.loop_ir.specs.Statements.{Slots}
use Rattle.loop_front.specs.Front.{front}
use Rattle.loop_front.specs.FlowOfSteps.{IsFlowOf}
use Rattle.uprog_gen.specs.Does.{DoesRounds, Means, AreCheap, joined, total}
use Rattle.uprog_gen.specs.Programs.{AreLowered, HaveForms, AreWritten, HasParts}

-- each flow does its statement's loop program, and takes at most 256 instructions
abbrev pub AreFlowsOf : (ℕ → Spot → Type 0) → List (List (StepOf Block)) → List (FlowOf Block)
    → Type 0
AreFlowsOf may_have [] [] = Unit {0}
AreFlowsOf may_have [] (f ∷ fs) = ⊥
AreFlowsOf may_have (p ∷ ps) [] = ⊥
AreFlowsOf may_have (p ∷ ps) (f ∷ fs) = (IsFlowOf may_have p f × (flow_size body_cost f ≤ 256))
    × AreFlowsOf may_have ps fs

-- The code is legal, has a part for each statement, and does the rounds of their loop programs
-- within the sum of their ceilings; whatever numbers these rounds give, it has that meaning
pub record IsCodeOf (head : Shape) (statements : List (List (StepOf Block))) (code : List Uop)
    : Type 0 where
  pub legal : IsLegalCode head code
  pub parts : HasParts (length statements) head statements code
  pub does : (n : ℕ) → 0 < n → n ≤ WIDTH_MAX → DoesRounds head n (joined statements) code
  pub few : (n : ℕ) → 0 < n → n ≤ WIDTH_MAX → (ceilings : List (ℕ → ℕ))
      → AreCheap n statements ceilings → length (issues_of (trace head code n)) ≤ total ceilings n
  pub implements : (ceilings : List (ℕ → ℕ)) (meaning : ℕ → List ℕ → List ℕ)
      → Means head statements ceilings meaning → Implements head code (total ceilings) meaning

-- the flows are those of loop programs that do the statements: a block's has its states' starts
-- and its graph at each position, and a word operation's is its written one
pub record AreFronts (slots : Slots) (free_bit free_word : ℕ) (body : List Statement)
    (flows : List (FlowOf Block)) : Type 0 where
  pub statements : List (List (StepOf Block))
  pub fronts : flows ≡ map front statements
  pub lowered : AreLowered slots free_bit free_word body statements
  pub forms : HaveForms slots body statements
  pub written : AreWritten slots free_bit free_word body statements
