-- The graph that a sketch stands for
use Rattle.std.specs.Prelude.{◌≡◌, ℕ, zero, suc, ◌+◌, ◌/◌, ◌%◌, ◌<◌, ◌≤◌, ◌==◌, Bool, false, List}
use Rattle.std.specs.Prelude.{[], length, slice_index_or, if◌then◌else◌, nat_lt}
use Rattle.bit_rows.specs.Bits.{flip_if, majority}
use Rattle.mig_graph.specs.declared.Lit.{Lit}
use Rattle.mig_graph.specs.Graph.{Graph, start, value}
use Rattle.mig_graph.specs.Outputs.{lit_at}
use Rattle.mig_graph.specs.Reduced.{IsReduced}
use Rattle.mig_rewrite.specs.declared.sketch.Sketch.{Sketch}
use Rattle.mig_rewrite.specs.Reach.{AreReached}

-- the value of a literal: twice the number of its node, and one more where it is inverted
abbrev pub short_value : (ℕ → Bool) → ℕ → Bool
short_value v l = flip_if (l % 2 == 1) (v (l / 2))

-- literal i of node k
abbrev pub operand : Sketch → ℕ → ℕ → ℕ
operand s k i = slice_index_or (slice_index_or s.nodes k []) i 0

-- the values of the constant, of the inputs, where input i has the value bits i, and of the first k
-- nodes; a node that is not among them has the value 0
unfoldable pub sketch_values : Sketch → (ℕ → Bool) → ℕ → ℕ → Bool
sketch_values s bits zero n = if nat_lt n (s.inputs + 1) then start bits n else false
sketch_values s bits (suc k) n = let v = sketch_values s bits k in
    if n == s.inputs + 1 + k then majority (short_value v (operand s k 0))
    (short_value v (operand s k 1)) (short_value v (operand s k 2)) else v n

-- the value of output j
abbrev pub output_value : Sketch → (ℕ → Bool) → ℕ → Bool
output_value s bits j = short_value (sketch_values s bits s.count) (slice_index_or s.outs j 0)

-- the sketch has the graph's inputs, at most 12, and its outputs with their values on every input
pub record IsRight (g : Graph) (outs : List Lit) (s : Sketch) : Type 0 where
  pub inputs : s.inputs ≡ g.inputs
  pub few : g.inputs ≤ 12
  pub long : s.outputs ≡ length outs
  pub values : (bits : ℕ → Bool) (j : ℕ) → j < length outs
      → output_value s bits j ≡ value g bits (lit_at outs j)

-- the graph has the sketch's inputs, its outputs with their values on every input, and no node more
pub record IsOffered (s : Sketch) (g : Graph) (outs : List Lit) : Type 0 where
  pub inputs : g.inputs ≡ s.inputs
  pub long : length outs ≡ s.outputs
  pub count : length g.nodes ≤ s.count
  pub values : (bits : ℕ → Bool) (j : ℕ) → j < length outs
      → value g bits (lit_at outs j) ≡ output_value s bits j

-- a reduced graph that the sketch stands for has more nodes than the graph
pub record IsLarger (g : Graph) (s : Sketch) : Type 0 where
  pub graph : Graph
  pub outs : List Lit
  pub offered : IsOffered s graph outs
  pub reduced : IsReduced graph outs
  pub reached : AreReached graph outs
  pub more : length g.nodes < length graph.nodes

-- the literals have the values of the constant, the inputs and the first k nodes
pub record Stands (g : Graph) (bits : ℕ → Bool) (lits : List Lit) (s : Sketch) (k : ℕ) : Type 0
  where
    pub long : length lits ≡ s.inputs + 1 + k
    pub values : (n : ℕ) → n < length lits
        → value g bits (lit_at lits n) ≡ sketch_values s bits k n
