-- The inputs of a block's graph.
use Rattle.std.specs.Prelude.{◌≡◌, ℕ, ◌<◌, Bool, if◌then◌else◌, List, [], ◌∷◌, ◌++◌, map, length}
use Rattle.std.specs.Prelude.{Some, is_some, slice_index_or, bytes_eq}
use Rattle.indexmap.specs.IndexMap.{get}
use Rattle.op_text.specs.declared.tree.State.{State}
use Rattle.op_text.specs.declared.tree.Assign.{Assign}
use Rattle.op_text.specs.Language.{Block, equation}
use Rattle.op_text.specs.Rules.{is_among}
use Rattle.aoi_graph.specs.Blocks.{Numbers}
use Rattle.loop_ir.specs.Statements.{block_reads}

-- a block by its parts
abbrev pub block_from : Bool → List State → List Assign → List Assign → Block
block_from down states lets assigns = record {
  down = down;
  states = states;
  lets = map equation lets;
  assigns = map equation assigns;
}

-- the names that are known, and after them those of a list that are not, each once
abbrev pub gathered : List (List ℕ) → List (List ℕ) → List (List ℕ)
gathered known [] = known
gathered known (name ∷ names) = gathered (if is_among known name then known
    else known ++ name ∷ []) names

-- the names that a block's graph has as inputs, in the order of the text
abbrev pub block_inputs : Block → List (List ℕ)
block_inputs b = gathered [] (block_reads b)

-- the name with this number
abbrev pub name_at : List (List ℕ) → ℕ → List ℕ
name_at names k = slice_index_or names k []

-- each of the names has its place in the list as its number, and no other name has one
pub record AreNumbered (names : List (List ℕ)) (numbers : Numbers) : Type 0 where
  pub some : (name : List ℕ) → is_some (get bytes_eq numbers name) ≡ is_among names name
  pub place : (name : List ℕ) (k : ℕ) → get bytes_eq numbers name ≡ Some k → (k < length names)
      × (name_at names k ≡ name)
