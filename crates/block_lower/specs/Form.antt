-- The loop program of a serial block: the states get their starts, then the block's graph is done
-- at each position. The states stand in rows, or one state in cells from one position to the next
-- and in its row in the end.
use Rattle.std.specs.Prelude.{◌≡◌, ◌⊎◌, ℕ, ◌+◌, ◌*◌, ◌<◌, ◌≤◌, Bool, if◌then◌else◌, List, [], ◌∷◌}
use Rattle.std.specs.Prelude.{◌++◌}
use Rattle.std.specs.Prelude.{map, length, slice_get, Option, Some, None}
use Rattle.mig_graph.specs.declared.Lit.{Lit}
use Rattle.mig_graph.specs.Graph.{IsGraph}
use Rattle.mig_graph.specs.Outputs.{AreNamed}
use Rattle.mig_graph.specs.Reduced.{IsReduced}
use Rattle.row_alloc.specs.declared.body.BodyRef.TheVariants.{C, Out}
use Rattle.row_alloc.specs.declared.body.BodyCmd.TheVariants.{Aap}
use Rattle.op_text.specs.declared.tree.Kind.{Kind}
use Rattle.op_text.specs.declared.tree.Kind.TheVariants.{Word, Bit}
use Rattle.op_text.specs.declared.tree.State.{State}
use Rattle.op_text.specs.Language.{Equation, Block}
use Rattle.op_text.specs.Meaning.{term_bit, with_lets}
use Rattle.op_text.specs.Scratch.{block_weight}
use Rattle.loop_ir.specs.declared.ir.Space.TheVariants.{Source}
use Rattle.loop_ir.specs.declared.ir.Sub.{Sub}
use Rattle.loop_ir.specs.declared.ir.Sub.TheVariants.{Zero, Inner as At_inner, InnerDown}
use Rattle.loop_ir.specs.declared.ir.Place.{Place}
use Rattle.loop_ir.specs.declared.names.Slot.{Slot}
use Rattle.loop_ir.specs.Plain.{Block as Body, StepOf}
use Rattle.loop_ir.specs.Plain.StepOf.{Single, Along}
use Rattle.loop_ir.specs.Loops.{all_rounds}
use Rattle.loop_ir.specs.Costs.{rounds_cost}
use Rattle.loop_ir.specs.Spots.{gives}
use Rattle.loop_ir.specs.Statements.{Slots, targets_of}
use Rattle.block_lower.specs.Inputs.{block_inputs, name_at}
use Rattle.block_lower.specs.Choice.{HasFound, IsOther}
use Rattle.block_lower.specs.declared.home.Home.{Home}
use Rattle.block_lower.specs.Held.{HeldCommands, held_steps, IsHeldOne}

-- a word is read and written at the position, from above where the block goes down; a bit has one
-- row
abbrev pub kind_sub : Bool → Kind → Sub
kind_sub down Word = if down then InnerDown else At_inner
kind_sub down Bit = Zero

-- where a body finds a name: at the position of its word, or in its one row
abbrev pub place_of : Bool → Option Slot → Place
place_of down None = record { space = Source; which = 0; sub = Zero }
place_of down (Some x) = record { space = x.space; which = x.which; sub = kind_sub down x.kind }

-- where a body finds these names, in order
abbrev pub places_of : Slots → Bool → List (List ℕ) → List Place
places_of slots down names = map (λ name. place_of down (slots name)) names

-- the constant, without reads and nodes: one command copies it
abbrev pub constant : Bool → Place → Body
constant value p = let l : Lit = record { node = 0; inverted = value } in
    record {
      reads = [];
      graph = record { inputs = 0; nodes = [] };
      outs = l ∷ [];
      writes = p ∷ [];
      found = Aap (C (if value then 1 else 0)) (Out 0) ∷ [];
    }

-- a state's start
abbrev pub start : Slots → Bool → State → StepOf Body
start slots down s = Single (constant s.start (place_of down (slots s.name)))

-- The body reads the block's inputs at their places and writes the assigned names at theirs. For
-- all values of the names, where each input has its name's value, output j is the value of
-- assignment j. It has no more nodes than the block has weight, and no rule makes the graph
-- smaller
pub record IsBlockBody (slots : Slots) (b : Block) (body : Body) : Type 0 where
  pub reads : body.reads ≡ places_of slots b.down (block_inputs b)
  pub writes : body.writes ≡ places_of slots b.down (targets_of b.assigns)
  pub as_many : length body.outs ≡ length b.assigns
  pub inputs : body.graph.inputs ≤ length (block_inputs b)
  pub values : (env : List ℕ → Bool) (v : ℕ → Bool)
      → ((k : ℕ) → k < length (block_inputs b) → v k ≡ env (name_at (block_inputs b) k))
      → (j : ℕ) (e : Equation) → slice_get b.assigns j ≡ Some e
      → gives body v j ≡ term_bit (with_lets env b.lets) e.value
  pub nodes : length body.graph.nodes ≤ block_weight b
  pub graph : IsGraph body.graph.inputs body.graph.nodes
  pub named : AreNamed body.graph body.outs
  pub reduced : IsReduced body.graph body.outs

-- the state, with the number of its cells
abbrev pub home : Slots → Bool → State → ℕ → Home
home slots down s w = record {
  place = place_of down (slots s.name);
  cells = w;
  start = s.start;
}

-- first the states' starts, in their order, and then the body at each position
abbrev pub row_steps : Slots → Bool → List State → Body → List (StepOf Body)
row_steps slots down states body = map (start slots down) states ++ Along body ∷ []

-- The one state of a block stands in cells: its start goes into them, and the body is done at each
-- position, which at the top one leaves the state in its row
pub record IsInCells (slots : Slots) (down : Bool) (states : List State) (body : Body)
    (steps : List (StepOf Body)) : Type 0 where
  pub state : State
  pub one : states ≡ state ∷ []
  pub cells : ℕ
  pub cmds : HeldCommands
  pub held : IsHeldOne (home slots down state cells) body cmds
  pub form : steps ≡ held_steps (home slots down state cells) body cmds

-- so it is, and at each position it takes fewer commands than the body with its state in a row, and
-- at the top one no more
pub record IsFewerInCells (slots : Slots) (down : Bool) (states : List State) (row body : Body)
    (steps : List (StepOf Body)) : Type 0 where
  pub is : IsInCells slots down states body steps
  pub fewer : length is.cmds.each < length row.found
  pub last : length is.cmds.last ≤ length row.found

-- the steps chosen for a body: they do it with the states in rows, or it or another that may stand
-- for it with the one state in cells
pub record IsChosen (slots : Slots) (down : Bool) (states : List State) (row : Body)
    (steps : List (StepOf Body)) : Type 0 where
  pub body : Body
  pub other : (body ≡ row) ⊎ IsOther row body
  pub form : ((body ≡ row) × (steps ≡ row_steps slots down states row))
      ⊎ IsFewerInCells slots down states row body steps

-- A body of the block, with the states in rows and commands that were found for it, or with the one
-- state in cells, is what the loop does at each position. There are no more commands than its graph
-- says
pub record IsBlockProgram (slots : Slots) (b : Block) (steps : List (StepOf Body)) : Type 0 where
  pub body : Body
  pub is : IsBlockBody slots b body
  pub form : (HasFound body.reads body.writes body.graph body.outs body.found
      × (steps ≡ row_steps slots b.down b.states body))
      ⊎ IsInCells slots b.down b.states body steps
  pub cost : (n : ℕ) → 0 < n → rounds_cost (all_rounds n steps)
      ≤ n * (4 * length body.graph.nodes + 3 * length b.assigns) + length b.states
