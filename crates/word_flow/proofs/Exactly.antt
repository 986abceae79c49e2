-- Each flow does a statement of its operation, in exactly so many commands.
use Rattle.word_flow.proofs.Common.{◌≡◌, ℕ, true, List, Option, Some, None, sym, subst}
use Rattle.word_flow.proofs.Common.{option_to_list, Kind, WordOp, second_kind, Compute, Slot, Block}
use Rattle.word_flow.proofs.Common.{StepOf, Slots, IsPlaced, SecondMeets, ComputeMeets, AreAt}
use Rattle.word_flow.proofs.Common.{places_of, is_flow, rows_on, steps_for, IsFlowWritten}
use Rattle.word_flow.proofs.AbsDone.{abs_done}
use Rattle.word_flow.proofs.CountDone.{count_done}
use Rattle.word_flow.proofs.DivDone.{div_done, rem_done, divmod_done}
use Rattle.word_flow.proofs.MulDone.{mul_done}
use Rattle.word_flow.proofs.RedDone.{and_red_done, or_red_done}
use Rattle.word_flow.proofs.ReluDone.{relu_done}
use Rattle.word_flow.proofs.ShiftDone.{shl1_done, shr1_done}
use Rattle.word_flow.proofs.XorDone.{xor_red_done}
use Rattle.op_text.specs.declared.word_ops.WordOp.TheVariants as op
pub use Rattle.word_flow.proofs.Targets.{IsExact, IsDone}

one_done : (slots : Slots) (fb fw : ℕ) (target : List ℕ) (p : WordOp) (args : List (List ℕ))
    → is_flow p ≡ true → ComputeMeets slots target None p args
    → IsPlaced slots fb fw (Compute target None p args) → (t : Slot) → slots target ≡ Some t
    → (ss : List Slot) → AreAt slots args ss
    → IsDone slots fb fw target None p args (steps_for p (rows_on t None ss fb fw))
one_done slots fb fw target op.Shl1 args is meets = shl1_done slots fb fw target args meets
one_done slots fb fw target op.Shr1 args is meets = shr1_done slots fb fw target args meets
one_done slots fb fw target op.Mul args is meets = mul_done slots fb fw target args meets
one_done slots fb fw target op.Div args is meets = div_done slots fb fw target args meets
one_done slots fb fw target op.Rem args is meets = rem_done slots fb fw target args meets
one_done slots fb fw target op.Abs args is meets = abs_done slots fb fw target args meets
one_done slots fb fw target op.Bitcount args is meets = count_done slots fb fw target args meets
one_done slots fb fw target op.AndRed args is meets = and_red_done slots fb fw target args meets
one_done slots fb fw target op.OrRed args is meets = or_red_done slots fb fw target args meets
one_done slots fb fw target op.XorRed args is meets = xor_red_done slots fb fw target args meets
one_done slots fb fw target op.Relu args is meets = relu_done slots fb fw target args meets
one_done slots fb fw target op.Divmod args is meets = absurd meets.others
one_done slots fb fw target p args is meets = cc

-- a statement's flow does it, and is exact
pub flow_done : (slots : Slots) (fb fw : ℕ) (target : List ℕ) (second : Option (List ℕ)) (p : WordOp)
    (args : List (List ℕ)) → is_flow p ≡ true → ComputeMeets slots target second p args
    → IsPlaced slots fb fw (Compute target second p args) → (t : Slot) → slots target ≡ Some t
    → (u : Option Slot) → AreAt slots (option_to_list second) (option_to_list u) → (ss : List Slot)
    → AreAt slots args ss
    → IsDone slots fb fw target second p args (steps_for p (rows_on t u ss fb fw))
flow_done slots fb fw target None p args is meets placed t found None near ss at =
    one_done slots fb fw target p args is meets placed t found ss at
flow_done slots fb fw target None p args is meets placed t found (Some u) near ss at = absurd near
flow_done slots fb fw target (Some name) p args is meets placed t found None near ss at = absurd near
flow_done slots fb fw target (Some name) op.Divmod args is meets placed t found (Some u) near ss at =
    divmod_done slots fb fw target name args meets placed t found u near.0 ss at
flow_done slots fb fw target (Some name) p args is meets placed t found (Some u) near ss at =
    absurd meets.others

-- a second target has a place, where there is one
pub record SecondPlace (slots : Slots) (second : Option (List ℕ)) : Type 0 where
  pub place : Option Slot
  pub at : AreAt slots (option_to_list second) (option_to_list place)

pub second_place : (slots : Slots) (target : List ℕ) (args : List (List ℕ))
    (second : Option (List ℕ)) (k : Option Kind) → SecondMeets slots target args second k
    → SecondPlace slots second
second_place slots target args None k h = record { place = None; at = tt }
second_place slots target args (Some name) None h = absurd h
second_place slots target args (Some name) (Some k) h = record {
  place = Some h.gives.slot;
  at = (h.gives.found, tt);
}

-- the steps that are written for a statement are exact
pub flow_exactly : (slots : Slots) (fb fw : ℕ) (target : List ℕ) (second : Option (List ℕ))
    (p : WordOp) (args : List (List ℕ)) (steps : List (StepOf Block)) → is_flow p ≡ true
    → ComputeMeets slots target second p args → IsPlaced slots fb fw (Compute target second p args)
    → IsFlowWritten slots fb fw (Compute target second p args) steps → IsExact p steps
flow_exactly slots fb fw target second p args steps is meets placed written =
    let t = meets.gives.slot in
    let u = second_place slots target args second (second_kind p) meets.others in
    let ss = places_of slots args meets.kinds meets.have in
    subst (IsExact p) (sym (written t u.place ss.list meets.gives.found u.at ss.at))
    (flow_done slots fb fw target second p args is meets placed t meets.gives.found u.place u.at
    ss.list ss.at).exact
