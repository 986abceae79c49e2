-- What the emitters add to the code.
-- Private contracts alone speak of this.
use Rattle.std.specs.Prelude.{◌≡◌, ℕ, List, ◌++◌, length}
use Rattle.uprog_code.specs.declared.code.Uop.{Uop}
use Rattle.loop_ir.specs.Plain.{Block}
use Rattle.loop_ir.specs.Flows.{FlowOf, TurnsOf}
use Rattle.uprog_gen.specs.FlowCode.{code_of, turns_code}

-- the code of a flow came to the old code
pub record EmitsFlow (x : FlowOf Block) (old new : List Uop) : Type 0 where
  pub code : new ≡ old ++ code_of x (length old)

-- the code of a loop's turns came to the old code, with jumps to these two places
pub record EmitsActs (r top out : ℕ) (ts : TurnsOf Block) (old new : List Uop) : Type 0 where
  pub code : new ≡ old ++ turns_code r top out ts (length old)
