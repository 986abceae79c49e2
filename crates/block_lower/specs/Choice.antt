-- A graph that may stand for another, and the commands of their bodies
use Rattle.std.specs.Prelude.{◌≡◌, ◌⊎◌, ℕ, ◌<◌, ◌≤◌, List, [], ◌∷◌, length}
use Rattle.std.specs.List.{AllByRecursion}
use Rattle.mig_graph.specs.declared.Lit.{Lit}
use Rattle.mig_graph.specs.Graph.{Graph, IsGraph}
use Rattle.mig_graph.specs.Outputs.{AreNamed, KeepsOutputs}
use Rattle.mig_graph.specs.Reduced.{IsReduced}
use Rattle.row_alloc.specs.declared.body.BodyCmd.{BodyCmd}
use Rattle.row_alloc.specs.declared.body.OutRow.{OutRow}
use Rattle.row_alloc.specs.Body.{FitBody}
use Rattle.row_alloc.specs.Found.{IsFound}
use Rattle.row_alloc.specs.Known.{Serves, known, known_at}
use Rattle.row_alloc.specs.Length.{plain_length}
use Rattle.mig_rewrite.specs.declared.sketch.Sketch.{Sketch}
use Rattle.mig_rewrite.specs.Offers.{IsLarger, IsOffered, IsRight}
use Rattle.loop_ir.specs.declared.ir.Place.{Place}
use Rattle.loop_ir.specs.Plain.{Block as Body}
use Rattle.loop_ir.specs.Outputs.{AreRows}
use Rattle.block_lower.specs.declared.choice.Choice.{Choice}
use Rattle.block_lower.specs.declared.rounds.Tried.{Tried}

-- each output keeps its value on every input, there are no more nodes, and no rule makes it smaller
pub record MayStand (g : Graph) (outs : List Lit) (h : Graph) (made : List Lit) : Type 0 where
  pub keeps : KeepsOutputs g outs h made
  pub named : AreNamed h made
  pub count : length h.nodes ≤ length g.nodes
  pub reduced : IsReduced h made

-- at the same places, the second body does a graph that may stand for the first's
pub record IsOther (b c : Body) : Type 0 where
  pub reads : c.reads ≡ b.reads
  pub writes : c.writes ≡ b.writes
  pub stands : MayStand b.graph b.outs c.graph c.outs
  pub graph : IsGraph c.graph.inputs c.graph.nodes

-- these commands were found for the body of the graph that reads and writes these places
pub record HasFound (reads writes : List Place) (g : Graph) (outs : List Lit)
    (cmds : List BodyCmd) : Type 0 where
  pub rows : List OutRow
  pub are : AreRows reads writes g.inputs outs (length outs) rows
  pub found : IsFound g rows cmds

-- the same graph, with commands that were found for its body at these places, and are no more
pub record HasNoMore (reads writes : List Place) (first r : Choice) : Type 0 where
  pub graph : r.graph ≡ first.graph
  pub found : HasFound reads writes r.graph.mig r.graph.outs.items r.found.items
  pub fewer : length r.found.items ≤ length first.found.items

-- no body is made of the graph: it has too many inputs, outputs or nodes, names no node, or has two
-- outputs in one row
pub record IsUnfit (reads writes : List Place) (g : Graph) (outs : List Lit) : Type 0 where
  pub rows : List OutRow
  pub are : AreRows reads writes g.inputs outs (length outs) rows
  pub unfit : FitBody g rows → ⊥

-- no body is made of the graph: it stands as it is, and has no commands
pub record IsLeft (reads writes : List Place) (g : Graph) (outs : List Lit) (h : Graph)
    (made : List Lit) (cmds : List BodyCmd) : Type 0 where
  pub unfit : IsUnfit reads writes g outs
  pub same : h ≡ g
  pub same_outs : made ≡ outs
  pub none : cmds ≡ []

-- the commands were found for the body of the second graph, which stands for the first; or no body
-- is made of the first
abbrev pub AreFor : List Place → List Place → Graph → List Lit → Graph → List Lit → List BodyCmd
    → Type 0
AreFor reads writes g outs h made cmds = HasFound reads writes h made cmds
    ⊎ IsLeft reads writes g outs h made cmds

-- so many commands are no more than those of the graph's plain body at these places, and than each
-- known sequence that may stand for it. The rows are those of its outputs: there are no others
pub record IsNoDearer (reads writes : List Place) (g : Graph) (outs : List Lit) (count : ℕ) : Type 0
  where
    pub rows : List OutRow
    pub are : AreRows reads writes g.inputs outs (length outs) rows
    pub plain : count ≤ plain_length g rows
    pub sequences : (k : ℕ) → k < length known → Serves g rows (known_at k)
        → count ≤ length (known_at k)

-- so many commands are no more than each of these takes
abbrev pub AreNoFewer : ℕ → List Choice → Type 0
AreNoFewer count others = AllByRecursion (λ (c : Choice). count ≤ length c.found.items) others

-- so many commands are no more than the first takes, and each of the others
pub record IsFewest (count : ℕ) (first : Choice) (others : List Choice) : Type 0 where
  pub first_too : count ≤ length first.found.items
  pub others_too : AreNoFewer count others

-- the choice's graph may stand for the graph, and its commands were found for its body: they are no
-- more than its plain body takes, and each known sequence that may stand for it
pub record IsRightChoice (reads writes : List Place) (g : Graph) (outs : List Lit) (c : Choice)
    : Type 0 where
  pub stands : MayStand g outs c.graph.mig c.graph.outs.items
  pub found : HasFound reads writes c.graph.mig c.graph.outs.items c.found.items

-- the choice's graph is the one that the sketch offers
pub record IsCounted (reads writes : List Place) (g : Graph) (outs : List Lit) (s : Sketch)
    (c : Choice) : Type 0 where
  pub right : IsRightChoice reads writes g outs c
  pub offered : IsOffered s c.graph.mig c.graph.outs.items

-- the sketch is not right for the graph, or has more nodes, or no body is made of the graph itself
abbrev pub IsDropped : List Place → List Place → Graph → List Lit → Sketch → Type 0
IsDropped reads writes g outs s =
    IsRight g outs s → IsLarger g s ⊎ IsUnfit reads writes g outs

-- of each sketch in order the choice of its graph, or none where it is dropped
abbrev pub AreCounted : List Place → List Place → Graph → List Lit → List Sketch → List Choice
    → Type 0
AreCounted reads writes g outs [] [] = Unit {0}
AreCounted reads writes g outs [] (c ∷ cs) = ⊥
AreCounted reads writes g outs (s ∷ ss) [] = IsDropped reads writes g outs s
    × AreCounted reads writes g outs ss []
AreCounted reads writes g outs (s ∷ ss) (c ∷ cs) = (IsDropped reads writes g outs s
    × AreCounted reads writes g outs ss (c ∷ cs)) ⊎ (IsCounted reads writes g outs s c
    × AreCounted reads writes g outs ss cs)

-- the sketch of an offer that is tried
abbrev pub sketch_of : Tried → Sketch
sketch_of t = t.sketch
