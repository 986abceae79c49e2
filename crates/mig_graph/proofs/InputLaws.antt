-- What is true of the inputs of a graph of gates
use Rattle.std.specs.Prelude.{◌≡◌, ℕ, ◌-◌, ◌<◌, ◌≤◌, List, length, Some, bytes_eq}
use Rattle.std.proofs.Common.{arith, inl, inr}
use Rattle.indexmap.specs.IndexMap.{get}
use Rattle.aoi_graph.specs.declared.AoiNode.{AoiNode}
use Rattle.aoi_graph.specs.declared.AoiNode.TheVariants.{Zero, Input, Not, And, Or, Maj}
use Rattle.aoi_graph.specs.Gates.{aoi_at}
use Rattle.aoi_graph.specs.Blocks.{Numbers, IsHeld, AreHeld}
use Rattle.mig_graph.specs.Inputs.{HasInput, IsInputCount}

held-input : (inputs : Numbers) (limit : ℕ) (n : AoiNode)
    → ((name : List ℕ) (i : ℕ) → get bytes_eq inputs name ≡ Some i → i < limit) → IsHeld inputs n
    → HasInput limit n
held-input inputs limit Zero below h = tt
held-input inputs limit (Input i) below h = below h.0 i h.1
held-input inputs limit (Not a) below h = tt
held-input inputs limit (And a b) below h = tt
held-input inputs limit (Or a b) below h = tt
held-input inputs limit (Maj a b c) below h = tt

-- the inputs are below what all numbers of the names are below
pub held-inputs : (inputs : Numbers) (limit : ℕ) (nodes : List AoiNode)
    → ((name : List ℕ) (i : ℕ) → get bytes_eq inputs name ≡ Some i → i < limit)
    → AreHeld inputs nodes → (k : ℕ) → k < length nodes → HasInput limit (aoi_at nodes k)
held-inputs inputs limit nodes below held k b =
    held-input inputs limit (aoi_at nodes k) below (held k b)

-- there are no more inputs than that
pub count-most : (nodes : List AoiNode) (count limit : ℕ) → IsInputCount nodes count
    → ((k : ℕ) → k < length nodes → HasInput limit (aoi_at nodes k)) → count ≤ limit
count-most nodes count limit c h = elim c.least [
  | inl e ↦ omega arith
  | inr e ↦ let b : count - 1 < limit = rw e.3 at (h e.0 e.1) in let p = e.2 in omega arith
]
