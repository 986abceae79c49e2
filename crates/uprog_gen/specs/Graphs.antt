-- The graphs of an operation's serial blocks, and what they say of the number of commands.
use Rattle.std.specs.Prelude.{◌≡◌, ℕ, ◌+◌, ◌*◌, ◌<◌, ◌≤◌, Bool, List, [], ◌∷◌, ◌++◌, length, Some}
use Rattle.std.specs.Prelude.{slice_get}
use Rattle.bit_rows.specs.declared.TheConstants.{WIDTH_MAX}
use Rattle.op_text.specs.declared.tree.Param.{Param}
use Rattle.op_text.specs.declared.word_ops.WordOp.{WordOp}
use Rattle.op_text.specs.Language.{Equation, Block, Statement, Compute, Visit, Operation}
use Rattle.op_text.specs.Meaning.{term_bit, with_lets}
use Rattle.op_text.specs.Scratch.{defines, names_width, block_weight}
use Rattle.mig_graph.specs.declared.Lit.{Lit}
use Rattle.mig_graph.specs.declared.MigOuts.{MigOuts}
use Rattle.mig_graph.specs.Graph.{Graph, IsGraph, value}
use Rattle.mig_graph.specs.Outputs.{lit_at, AreNamed}
use Rattle.mig_graph.specs.Reduced.{IsReduced}
use Rattle.uprog_code.specs.Machine.{trace, issues_of}
use Rattle.uprog_code.specs.Shape.{Microprogram}
use Rattle.loop_ir.specs.Plain.{Block as Body, StepOf}
use Rattle.loop_ir.specs.Flows.{FlowOf, TurnsOf}
use Rattle.loop_ir.specs.Flows.FlowOf.{End, Do, Put, If, Loop}
use Rattle.loop_ir.specs.Flows.TurnsOf.{Last, Turn}
use Rattle.loop_ir.specs.Statements.{Slots}
use Rattle.block_lower.specs.Inputs.{block_inputs, name_at}
use Rattle.uprog_gen.specs.Costs.{op_aaps, op_aps}
use Rattle.uprog_gen.specs.Programs.{HaveForms, IsCompiled}

-- a graph, and the literals of its outputs
pub record Graphed : Type 0 where
  pub graph : Graph
  pub outs : List Lit

-- a graph that the code built, with its outputs
abbrev pub graphed_of : MigOuts → Graphed
graphed_of g = record { graph = g.mig; outs = g.outs.items }

-- The graph of a serial block. For all values of the names, where each input has its name's value,
-- output j has the value of assignment j. It has no more nodes than the block has weight, and no
-- rule makes it smaller
pub record IsGraphOf (b : Block) (g : Graphed) : Type 0 where
  pub as_many : length g.outs ≡ length b.assigns
  pub inputs : g.graph.inputs ≤ length (block_inputs b)
  pub values : (env : List ℕ → Bool) (v : ℕ → Bool)
      → ((k : ℕ) → k < length (block_inputs b) → v k ≡ env (name_at (block_inputs b) k))
      → (j : ℕ) (e : Equation) → slice_get b.assigns j ≡ Some e
      → value g.graph v (lit_at g.outs j) ≡ term_bit (with_lets env b.lets) e.value
  pub nodes : length g.graph.nodes ≤ block_weight b
  pub graph : IsGraph g.graph.inputs g.graph.nodes
  pub named : AreNamed g.graph g.outs
  pub reduced : IsReduced g.graph g.outs

-- a graph for each serial block, in order, and none for a word statement
abbrev pub AreGraphsOf : List Statement → List Graphed → Type 0
AreGraphsOf [] [] = Unit {0}
AreGraphsOf [] (g ∷ gs) = ⊥
AreGraphsOf (Compute target second p args ∷ body) gs = AreGraphsOf body gs
AreGraphsOf (Visit b ∷ body) [] = ⊥
AreGraphsOf (Visit b ∷ body) (g ∷ gs) = IsGraphOf b g × AreGraphsOf body gs

-- the AAP and AP of a word operation
abbrev pub op_commands : WordOp → ℕ → ℕ
op_commands p n = op_aaps p n + op_aps p n

-- The greatest number of commands at width n, where these names are known and the serial blocks
-- have these graphs: those of each word operation, and of a block four a round for a node of its
-- graph and three for an assignment, and one for each state's start
abbrev pub graphed_ceiling : List Param → ℕ → List Statement → List Graphed → ℕ
graphed_ceiling known n [] gs = 0
graphed_ceiling known n (Compute target second p args ∷ body) gs =
    op_commands p (names_width known n args) + graphed_ceiling (known
    ++ defines known (Compute target second p args)) n body gs
graphed_ceiling known n (Visit b ∷ body) [] = 0
graphed_ceiling known n (Visit b ∷ body) (g ∷ gs) =
    n * (4 * length g.graph.nodes + 3 * length b.assigns) + length b.states
    + graphed_ceiling (known ++ defines known (Visit b)) n body gs

-- the graphs that the loop programs of a body's blocks do
abbrev pub graphs_done : (slots : Slots) (body : List Statement) (ps : List (List (StepOf Body)))
    → HaveForms slots body ps → List Graphed
graphs_done slots [] ps h = []
graphs_done slots (s ∷ body) [] h = []
graphs_done slots (Compute target second p args ∷ body) (q ∷ ps) h = graphs_done slots body ps h.1
graphs_done slots (Visit b ∷ body) (q ∷ ps) h = record {
  graph = h.0.body.graph;
  outs = h.0.body.outs;
} ∷ graphs_done slots body ps h.1

-- The graphs are those of the operation's blocks, and the ones that its entry does; and the entry
-- takes no more commands than they say
pub record IsGraphed (e : Microprogram) (op : Operation) (gs : List Graphed) : Type 0 where
  pub compiled : IsCompiled e op
  pub done : gs ≡ graphs_done compiled.slots op.body compiled.statements compiled.forms
  pub graphs : AreGraphsOf op.body gs
  pub few : (n : ℕ) → 0 < n → n ≤ WIDTH_MAX → length (issues_of (trace e.shape e.code n))
      ≤ graphed_ceiling op.params n op.body gs

-- after the graphs before stand the operation's
abbrev pub AddsGraphs : Microprogram → Operation → List Graphed → List Graphed → Type 0
AddsGraphs e op old new = (own : List Graphed) × (new ≡ old ++ own) × IsGraphed e op own

-- the graphs are those of the operations, one operation after another
abbrev pub AreGraphed : List Microprogram → List Operation → List Graphed → Type 0
AreGraphed [] [] [] = Unit {0}
AreGraphed [] [] (g ∷ gs) = ⊥
AreGraphed [] (op ∷ ops) gs = ⊥
AreGraphed (e ∷ es) [] gs = ⊥
AreGraphed (e ∷ es) (op ∷ ops) gs = (own : List Graphed) × (rest : List Graphed)
    × (gs ≡ own ++ rest) × IsGraphed e op own × AreGraphed es ops rest

-- a body's graph
abbrev pub body_graph : Body → Graphed
body_graph b = record { graph = b.graph; outs = b.outs }

-- the second, if there is one, or else the first
abbrev pub later : List Graphed → List Graphed → List Graphed
later own [] = own
later own (g ∷ gs) = g ∷ gs

abbrev mutual
  -- the graph of the body of a flow that comes last in the text
  pub flow_graph : FlowOf Body → List Graphed
  flow_graph End = []
  flow_graph (Do b k) = later (body_graph b ∷ []) (flow_graph k)
  flow_graph (Put m k) = flow_graph k
  flow_graph (If r x y k) = later (later (flow_graph x) (flow_graph y)) (flow_graph k)
  flow_graph (Loop r ts k) = later (acts_graph ts) (flow_graph k)

  pub acts_graph : TurnsOf Body → List Graphed
  acts_graph (Last x) = flow_graph x
  acts_graph (Turn x ts) = later (flow_graph x) (acts_graph ts)

-- that of a serial block's flow, and none of a word statement's
abbrev pub statement_graph : Statement → FlowOf Body → List Graphed
statement_graph (Compute target second p args) f = []
statement_graph (Visit b) f = flow_graph f

-- the graphs of all blocks of a body
abbrev pub graphs_in : List Statement → List (FlowOf Body) → List Graphed
graphs_in [] fs = []
graphs_in (s ∷ body) [] = []
graphs_in (s ∷ body) (f ∷ fs) = statement_graph s f ++ graphs_in body fs
