-- When a loop program is well formed.
use Rattle.std.specs.Prelude.{◌≡◌, ℕ, ◌<◌, ◌≤◌, List, length}
use Rattle.mig_graph.specs.Graph.{size_of}
use Rattle.mig_graph.specs.Outputs.{lit_at}
use Rattle.loop_ir.specs.declared.ir.Place.{Place}
use Rattle.loop_ir.specs.Plain.{Block, StepOf, AllParts}
use Rattle.loop_ir.specs.Spots.{nth_place}

-- the two places are rows of one value
abbrev pub IsOneValue : Place → Place → Type 0
IsOneValue p q = (p.space ≡ q.space) × (p.which ≡ q.which)

-- Each output names a node; there are reads for the inputs and writes for the outputs; two writes
-- are rows of two values; and what a body writes is read in it with the same subscript only
pub record IsWellFormed (b : Block) : Type 0 where
  pub named : (j : ℕ) → j < length b.outs → (lit_at b.outs j).node < size_of b.graph
  pub reads : b.graph.inputs ≤ length b.reads
  pub writes : length b.outs ≤ length b.writes
  pub apart : (i j : ℕ) → i < length b.writes → j < length b.writes
      → IsOneValue (nth_place b.writes i) (nth_place b.writes j) → i ≡ j
  pub same : (j k : ℕ) → j < length b.writes → k < length b.reads
      → IsOneValue (nth_place b.writes j) (nth_place b.reads k)
      → (nth_place b.writes j).sub ≡ (nth_place b.reads k).sub

-- and so for every body
abbrev pub AreWellFormed : List (StepOf Block) → Type 0
AreWellFormed steps = AllParts IsWellFormed steps
