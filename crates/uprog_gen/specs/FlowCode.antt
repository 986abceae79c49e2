-- The code of a flow.
-- Private contracts alone speak of this.
use Rattle.std.specs.Prelude.{ℕ, ◌+◌, List, [], ◌∷◌, ◌++◌, length}
use Rattle.uprog_code.specs.declared.code.Uop.{Uop}
use Rattle.uprog_code.specs.declared.code.Uop.TheVariants as uop
use Rattle.loop_ir.specs.declared.ir.Move.{Move}
use Rattle.loop_ir.specs.declared.ir.Move.TheVariants.{SetI, SetN, SetT, Mov, AddI, SubI, Add}
use Rattle.loop_ir.specs.Flows.{FlowOf, TurnsOf}
use Rattle.loop_ir.specs.Flows.FlowOf.{End, Do, Put, If, Loop}
use Rattle.loop_ir.specs.Flows.TurnsOf.{Last, Turn}
use Rattle.loop_ir.specs.Flows.{flow_size, acts_size}
use Rattle.loop_ir.specs.Plain.{Block}
use Rattle.uprog_gen.specs.Code.{body_uops}

-- the instruction of a move
abbrev pub uop_of : Move → Uop
uop_of (SetI r k) = uop.SetI r k
uop_of (SetN r) = uop.SetN r
uop_of (SetT r) = uop.SetT r
uop_of (Mov r s) = uop.Mov r s
uop_of (AddI r k) = uop.AddI r k
uop_of (SubI r k) = uop.SubI r k
uop_of (Add r s) = uop.Add r s

-- a jump, by register 7
abbrev pub leave : ℕ → List Uop
leave to = uop.SetI 7 1 ∷ uop.Bnez 7 to ∷ []

-- how many instructions the code has
abbrev pub size : FlowOf Block → ℕ
size f = flow_size (λ b. length (body_uops b)) f

-- and that of turns
abbrev pub turns_size : TurnsOf Block → ℕ
turns_size ts = acts_size (λ b. length (body_uops b)) ts

abbrev mutual
  -- The code of a flow, whose first instruction has this place. A loop begins with a jump out of
  -- it, to which its turns come back where no iteration is left
  pub code_of : FlowOf Block → ℕ → List Uop
  code_of End pc = []
  code_of (Do b k) pc = body_uops b ++ code_of k (pc + length (body_uops b))
  code_of (Put m k) pc = uop_of m ∷ code_of k (pc + 1)
  code_of (If r x y k) pc =
      let at_x = pc + 1 + size y + 2 in
      let end = at_x + size x in
      uop.Bnez r at_x ∷ (code_of y (pc + 1) ++ (leave end
      ++ (code_of x at_x ++ code_of k end)))
  code_of (Loop r ts k) pc =
      let top = pc + 1 + 2 in
      let end = top + turns_size ts in
      uop.Bnez r top ∷ (leave end ++ (turns_code r top (pc + 1) ts top ++ code_of k end))

  -- the code of turns, which come back to these two places
  pub turns_code : ℕ → ℕ → ℕ → TurnsOf Block → ℕ → List Uop
  turns_code r top out (Last x) pc =
      uop.SubI r 1 ∷ (code_of x (pc + 1) ++ (uop.Bnez r top ∷ []))
  turns_code r top out (Turn x ts) pc =
      let test = pc + 1 + size x in
      uop.SubI r 1 ∷ (code_of x (pc + 1) ++ (uop.Bnez r (test + 1 + 2) ∷ (leave out
      ++ turns_code r top out ts (test + 1 + 2))))
