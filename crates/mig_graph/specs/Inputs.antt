-- The inputs that a graph of gates reads
use Rattle.std.specs.Prelude.{◌≡◌, ◌⊎◌, ℕ, ◌-◌, ◌<◌, List, length}
use Rattle.aoi_graph.specs.declared.AoiNode.{AoiNode}
use Rattle.aoi_graph.specs.declared.AoiNode.TheVariants.{Zero, Input, Not, And, Or, Maj}
use Rattle.aoi_graph.specs.Gates.{aoi_at}

-- an input that it reads is below i
abbrev pub HasInput : ℕ → AoiNode → Type 0
HasInput i Zero = Unit {0}
HasInput i (Input n) = n < i
HasInput i (Not a) = Unit {0}
HasInput i (And a b) = Unit {0}
HasInput i (Or a b) = Unit {0}
HasInput i (Maj a b c) = Unit {0}

-- one more than the greatest input that a node reads, or 0 where none reads one
pub record IsInputCount (nodes : List AoiNode) (count : ℕ) : Type 0 where
  pub each : (k : ℕ) → k < length nodes → HasInput count (aoi_at nodes k)
  pub least : (count ≡ 0) ⊎ ((k : ℕ) × (k < length nodes) × (0 < count)
      × (aoi_at nodes k ≡ Input (count - 1)))
