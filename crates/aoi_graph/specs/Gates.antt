-- Graphs of gates, and the values of their nodes
use Rattle.std.specs.Prelude.{ℕ, ◌+◌, ◌<◌, ◌==◌, Bool, true, false, not, ◌&&◌, ◌||◌, List, [], ◌∷◌}
use Rattle.std.specs.Prelude.{length, slice_index_or, if◌then◌else◌}
use Rattle.op_text.specs.Values.{majority}
use Rattle.aoi_graph.specs.declared.AoiNode.{AoiNode}
use Rattle.aoi_graph.specs.declared.AoiNode.TheVariants.{Zero, Input, Not, And, Or, Maj}

-- v, but b at k
abbrev pub with_value : ℕ → Bool → (ℕ → Bool) → ℕ → Bool
with_value k b v n = if n == k then b else v n

-- the value of a node, where the inputs and the nodes that it reads have these values
abbrev pub gate_value : (ℕ → Bool) → (ℕ → Bool) → AoiNode → Bool
gate_value bits v Zero = false
gate_value bits v (Input k) = bits k
gate_value bits v (Not a) = not (v a)
gate_value bits v (And a b) = v a && v b
gate_value bits v (Or a b) = v a || v b
gate_value bits v (Maj a b c) = majority (v a) (v b) (v c)

-- it reads nodes below k
abbrev pub ReadsBelow : ℕ → AoiNode → Type 0
ReadsBelow k Zero = Unit {0}
ReadsBelow k (Input n) = Unit {0}
ReadsBelow k (Not a) = a < k
ReadsBelow k (And a b) = (a < k) × (b < k)
ReadsBelow k (Or a b) = (a < k) × (b < k)
ReadsBelow k (Maj a b c) = (a < k) × (b < k) × (c < k)

-- And, Or and Maj nodes
abbrev pub is_gate : AoiNode → Bool
is_gate Zero = false
is_gate (Input n) = false
is_gate (Not a) = false
is_gate (And a b) = true
is_gate (Or a b) = true
is_gate (Maj a b c) = true

-- the nodes by their numbers
abbrev pub aoi_at : List AoiNode → ℕ → AoiNode
aoi_at nodes k = slice_index_or nodes k Zero

-- nodes with the numbers from k on, each from the values below it
unfoldable pub aoi_from : (ℕ → Bool) → ℕ → List AoiNode → (ℕ → Bool) → ℕ → Bool
aoi_from bits k [] v = v
aoi_from bits k (n ∷ ns) v = aoi_from bits (k + 1) ns (with_value k (gate_value bits v n) v)

-- the value of each node, where input k has the value bits k
abbrev pub aoi_values : List AoiNode → (ℕ → Bool) → ℕ → Bool
aoi_values nodes bits = aoi_from bits 0 nodes (λ _. false)

-- each node reads lower nodes
abbrev pub AreLower : List AoiNode → Type 0
AreLower nodes = (k : ℕ) → k < length nodes → ReadsBelow k (aoi_at nodes k)
