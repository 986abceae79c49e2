-- Loop programs as plain data, over bodies or over what is made of them.
use Rattle.std.specs.Prelude.{List, [], ◌∷◌, map}
use Rattle.mig_graph.specs.declared.Lit.{Lit}
use Rattle.mig_graph.specs.Graph.{Graph}
use Rattle.row_alloc.specs.declared.body.BodyCmd.{BodyCmd}
use Rattle.loop_ir.specs.declared.ir.Place.{Place}
use Rattle.loop_ir.specs.declared.ir.Body.{Body}
use Rattle.loop_ir.specs.declared.ir.Step.{Step}
use Rattle.loop_ir.specs.declared.ir.Step.TheVariants as code_step
use Rattle.loop_ir.specs.declared.ir.Flow as code_flow
use Rattle.loop_ir.specs.declared.ir.Flow.TheVariants as flow
use Rattle.loop_ir.specs.declared.ir.Turns as code_turns
use Rattle.loop_ir.specs.declared.ir.Turns.TheVariants as turns
use Rattle.loop_ir.specs.declared.ir.LoopProgram.{LoopProgram}
use Rattle.loop_ir.specs.Flows.{FlowOf, TurnsOf, flow_map, AllFlow}
use Rattle.loop_ir.specs.Flows.FlowOf.{End, Do, Put, If, Loop}
use Rattle.loop_ir.specs.Flows.TurnsOf.{Last, Turn}

-- a body: read k is input k of the graph, and write j takes output j. It carries its commands
pub record Block : Type 0 where
  pub reads : List Place
  pub graph : Graph
  pub outs : List Lit
  pub writes : List Place
  pub found : List BodyCmd

-- a body once, a body at each position, or a flow
pub data StepOf (A : Type 0) : Type 0 where
  Single : A → StepOf A
  Along : A → StepOf A
  Flowed : FlowOf A → StepOf A

-- the body that the code built, without where it lies in memory
abbrev pub block_of : Body → Block
block_of b = record {
  reads = b.reads.items;
  graph = b.graph.mig;
  outs = b.graph.outs.items;
  writes = b.writes.items;
  found = b.found.items;
}

abbrev mutual
  -- a flow that the code built
  pub flow_of : code_flow.Flow → FlowOf Block
  flow_of flow.End = End
  flow_of (flow.Do' b p k) = Do (block_of b) (flow_of k)
  flow_of (flow.Put' m p k) = Put m (flow_of k)
  flow_of (flow.If' r p x q y s k) = If r (flow_of x) (flow_of y) (flow_of k)
  flow_of (flow.Loop' r p ts q k) = Loop r (acts_of ts) (flow_of k)

  pub acts_of : code_turns.Turns → TurnsOf Block
  acts_of (turns.Last' p x) = Last (flow_of x)
  acts_of (turns.Turn' p x q ts) = Turn (flow_of x) (acts_of ts)

-- a step that the code built
abbrev pub step_of : Step → StepOf Block
step_of (code_step.Once b) = Single (block_of b)
step_of (code_step.Each b) = Along (block_of b)
step_of (code_step.Flow f) = Flowed (flow_of f)

-- the steps of a loop program that the code built
abbrev pub steps_of : LoopProgram → List (StepOf Block)
steps_of p = map step_of p.steps.items

-- the same loops over other things, made of each body
abbrev pub step_map : {A B : Type 0} → (A → B) → StepOf A → StepOf B
step_map f (Single a) = Single (f a)
step_map f (Along a) = Along (f a)
step_map f (Flowed x) = Flowed (flow_map f x)

-- what holds of every body of a step
abbrev pub AllStep : {A : Type 0} → (A → Type 0) → StepOf A → Type 0
AllStep P (Single a) = P a
AllStep P (Along a) = P a
AllStep P (Flowed x) = AllFlow P x

-- what holds of every body of a loop program
abbrev pub AllParts : {A : Type 0} → (A → Type 0) → List (StepOf A) → Type 0
AllParts P [] = Unit {0}
AllParts P (s ∷ ss) = AllStep P s × AllParts P ss
