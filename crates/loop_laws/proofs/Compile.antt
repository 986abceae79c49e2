-- Code can be made of a program of such a form, whose graphs are such as `Mig` makes.
use Rattle.loop_laws.proofs.Common.{ℕ, ◌≤◌, List, [], ◌∷◌, length, arith, Block, StepOf, AllParts}
use Rattle.loop_laws.proofs.Common.{Single, Along, Flowed, FlowOf, TurnsOf, AllFlow, AllActs, End}
use Rattle.loop_laws.proofs.Common.{Do, Put, If, Loop, Last, Turn, Spot}
use Rattle.loop_ir.specs.Plain.{AllStep}
use Rattle.loop_ir.specs.WellFormed.{IsWellFormed}
use Rattle.loop_ir.specs.Limits.{IsSmall}
use Rattle.loop_laws.specs.Forms.{IsSlim, IsMade}
use Rattle.loop_laws.specs.Laws.{MadeCompile}

-- what follows for each body from two facts of it
module _ (P Q R : Block → Type 0) (f : (b : Block) → P b → Q b → R b) where
  mutual
    flow_both : (x : FlowOf Block) → AllFlow P x → AllFlow Q x → AllFlow R x
    flow_both End p q = tt
    flow_both (Do b k) p q = (f b p.0 q.0, flow_both k p.1 q.1)
    flow_both (Put m k) p q = flow_both k p q
    flow_both (If r x y k) p q =
        (flow_both x p.0 q.0, (flow_both y p.1.0 q.1.0, flow_both k p.1.1 q.1.1))
    flow_both (Loop r ts k) p q = (acts_both ts p.0 q.0, flow_both k p.1 q.1)

    acts_both : (ts : TurnsOf Block) → AllActs P ts → AllActs Q ts → AllActs R ts
    acts_both (Last x) p q = flow_both x p q
    acts_both (Turn x ts) p q = (flow_both x p.0 q.0, acts_both ts p.1 q.1)

  step_both : (s : StepOf Block) → AllStep P s → AllStep Q s → AllStep R s
  step_both (Single b) p q = f b p q
  step_both (Along b) p q = f b p q
  step_both (Flowed x) p q = flow_both x p q

  parts_both : (ss : List (StepOf Block)) → AllParts P ss → AllParts Q ss → AllParts R ss
  parts_both [] p q = tt
  parts_both (s ∷ ss) p q = (step_both s p.0 q.0, parts_both ss p.1 q.1)

well : (b : Block) → IsMade b → IsSlim b → IsWellFormed b
well b made slim =
    let w : length b.outs ≤ length b.writes = omega (arith, slim.states.written) in assumption

small : (b : Block) → IsMade b → IsSlim b → IsSmall b
small b made slim = assumption (well b made slim)

-- a loop program of the right form with graphs that `Mig` makes can be compiled
pub made_compile : (may_have : ℕ → Spot → Type 0) → MadeCompile may_have
made_compile may_have ss made form = (
  parts_both IsMade IsSlim IsWellFormed well ss made form.slim,
  assumption (parts_both IsMade IsSlim IsSmall small ss made form.slim),
)
