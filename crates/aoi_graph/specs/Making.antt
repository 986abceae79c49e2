-- How the nodes of a block are made, one after the other
use Rattle.std.specs.Prelude.{◌≡◌, ℕ, ◌+◌, ◌<◌, ◌≤◌, Bool, List, ◌++◌, length, count_by, Some}
use Rattle.std.specs.Prelude.{bytes_eq}
use Rattle.indexmap.specs.IndexMap.{get}
use Rattle.std.specs.Option.{option_map_or}
use Rattle.aoi_graph.specs.declared.AoiNode.{AoiNode}
use Rattle.aoi_graph.specs.Gates.{AreLower, aoi_values, is_gate}
use Rattle.aoi_graph.specs.Blocks.{Numbers, input_value}

-- the new list goes on from the old one, with so many gates and nodes more at most
pub record Grows (old new : List AoiNode) (gates most : ℕ) : Type 0 where
  pub extends : (more : List AoiNode) × (new ≡ old ++ more)
  pub lower : AreLower new
  pub few : count_by is_gate new ≤ count_by is_gate old + gates
  pub short : length new ≤ length old + most

-- the names stand for nodes of the list
abbrev pub AreBelow : Numbers → ℕ → Type 0
AreBelow known size = (name : List ℕ) (k : ℕ) → get bytes_eq known name ≡ Some k → k < size

-- the value of a name: of its node, or of the input of its number
abbrev pub name_value : List AoiNode → Numbers → Numbers → (ℕ → Bool) → List ℕ → Bool
name_value nodes known inputs bits name = option_map_or (λ k. aoi_values nodes bits k)
    (get bytes_eq known name) (input_value inputs bits name)

-- for these values of the inputs, the names have the values of env
abbrev pub IsEnv : List AoiNode → Numbers → Numbers → (ℕ → Bool) → (List ℕ → Bool) → Type 0
IsEnv nodes known inputs bits env = (name : List ℕ)
    → env name ≡ name_value nodes known inputs bits name
