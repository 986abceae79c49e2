-- The loop of a block whose one state stands in cells from one position to the next, and in its row
-- in the end.
use Rattle.std.specs.Prelude.{◌≡◌, ℕ, ◌+◌, ◌*◌, ◌<◌, ◌≤◌, ◌==◌, ◌&&◌, Bool, true, List, [], ◌∷◌}
use Rattle.std.specs.Prelude.{map, length, if◌then◌else◌}
use Rattle.std.specs.List.{list_all}
use Rattle.mig_graph.specs.declared.Lit.{Lit}
use Rattle.row_alloc.specs.declared.body.BodyCmd.{BodyCmd}
use Rattle.loop_ir.specs.declared.ir.Move.TheVariants.{SetN, AddI}
use Rattle.loop_ir.specs.declared.ir.Space.TheVariants.{Cells}
use Rattle.loop_ir.specs.declared.ir.Sub.{Sub}
use Rattle.loop_ir.specs.declared.ir.Sub.TheVariants.{Zero, Inner as At_inner, InnerDown, Register}
use Rattle.loop_ir.specs.declared.ir.Place.{Place}
use Rattle.loop_ir.specs.Plain.{Block as Body, StepOf}
use Rattle.loop_ir.specs.Plain.StepOf.{Flowed}
use Rattle.loop_ir.specs.Flows.{FlowOf}
use Rattle.loop_ir.specs.Flows.FlowOf.{End, Do, Put, If, Loop}
use Rattle.loop_ir.specs.Flows.TurnsOf.{Last}
use Rattle.row_alloc.specs.declared.body.OutRow.{OutRow}
use Rattle.row_alloc.specs.Held.{DoesHeld}
use Rattle.loop_ir.specs.Spots.{same_space}
use Rattle.loop_ir.specs.Outputs.{IsOuts}
use Rattle.loop_ir.specs.States.{row_count, enters, leaves}
use Rattle.loop_ir.specs.Chains.{states_in}
use Rattle.loop_ir.specs.Costs.{same_sub}
use Rattle.block_lower.specs.declared.held.HeldLoop.{HeldLoop}
use Rattle.block_lower.specs.declared.home.Home.{Home}

-- the place of cells
abbrev pub cell_place : ℕ → Place
cell_place w = record { space = Cells; which = w; sub = Zero }

-- both are one place
abbrev pub same_place : Place → Place → Bool
same_place p q = same_space p.space q.space && (p.which == q.which && same_sub p.sub q.sub)

-- the subscript in a flow: register 0 holds the position, and register 1 how many come after it
abbrev pub in_register : Sub → Sub
in_register At_inner = Register 0
in_register InnerDown = Register 1
in_register s = s

-- the place in a flow
abbrev pub flow_place : Place → Place
flow_place p = record { space = p.space; which = p.which; sub = in_register p.sub }

-- the place in a flow, or in place of the state's row its cells
abbrev pub held_place : Home → Place → Place
held_place h p = if same_place p h.place then cell_place h.cells else flow_place p

-- the commands of the three bodies
pub record HeldCommands : Type 0 where
  pub start : List BodyCmd
  pub each : List BodyCmd
  pub last : List BodyCmd

-- the start, into cells
abbrev pub held_start : Home → List BodyCmd → Body
held_start h cmds = let l : Lit = record { node = 0; inverted = h.start } in
    record {
      reads = [];
      graph = record { inputs = 0; nodes = [] };
      outs = l ∷ [];
      writes = cell_place h.cells ∷ [];
      found = cmds;
    }

-- the body, with its state in cells
abbrev pub held_body : Home → Body → List BodyCmd → Body
held_body h b cmds = record {
  reads = map (held_place h) b.reads;
  graph = b.graph;
  outs = b.outs;
  writes = map (held_place h) b.writes;
  found = cmds;
}

-- the body that finds its state in cells, and leaves it in its row
abbrev pub held_last : Home → Body → List BodyCmd → Body
held_last h b cmds = record {
  reads = map (held_place h) b.reads;
  graph = b.graph;
  outs = b.outs;
  writes = map flow_place b.writes;
  found = cmds;
}

-- first a start; then one body at each position but the top one, and another one there
abbrev pub each_last : {A : Type 0} → A → A → A → FlowOf A
each_last start each last = Do start (Put (SetN 1) (Loop 1 (Last (If 1 (Do each End) (Do last End)
    (Put (AddI 0 1) End))) End))

-- the start, and the body at each position: at the top position it leaves the state in its row
abbrev pub held_steps : Home → Body → HeldCommands → List (StepOf Body)
held_steps h b cmds = Flowed (each_last (held_start h cmds.start) (held_body h b cmds.each)
    (held_last h b cmds.last)) ∷ []

-- the commands that the body carries do it wherever its rows lie, and are at most so many
pub record CarriesRight (b : Body) (most : ℕ) : Type 0 where
  pub does : (outs : List OutRow) → IsOuts b (row_count b.writes) outs
      → DoesHeld b.graph outs (enters 0 b.reads) (leaves b.writes b.outs) b.found
  pub few : length b.found ≤ most

-- each place that stands in cells stands in these
abbrev pub stand_in : ℕ → List Place → Bool
stand_in w ps = list_all (λ v. v == w) (states_in ps)

-- the body has nodes, reads as many places as its graph has inputs, and writes its one state last;
-- it finds no other in cells
pub record HoldsOne (w : ℕ) (b : Body) : Type 0 where
  pub nodes : 0 < length b.graph.nodes
  pub full : b.graph.inputs ≡ length b.reads
  pub long : length b.outs ≡ length b.writes
  pub last : row_count b.writes + 1 ≡ length b.writes
  pub reads : stand_in w b.reads ≡ true
  pub writes : stand_in w b.writes ≡ true

-- The loop of a body with one state in cells: the commands of each of its bodies do it
pub record IsHeldOne (h : Home) (b : Body) (cmds : HeldCommands) : Type 0 where
  pub holds : HoldsOne h.cells (held_body h b cmds.each)
  pub start : CarriesRight (held_start h cmds.start) 1
  pub each : CarriesRight (held_body h b cmds.each) (4 * length b.graph.nodes
      + 3 * row_count (map (held_place h) b.writes))
  pub last : CarriesRight (held_last h b cmds.last) (4 * length b.graph.nodes
      + 3 * row_count b.writes)

-- what the search has found for the three bodies
abbrev pub commands_in : HeldLoop → HeldCommands
commands_in r = record { start = r.start.items; each = r.each.items; last = r.last.items }

-- a loop of the body with the state of this row and start in cells, whose bodies take no more
-- commands than these, and at each position but the top one fewer
pub record IsLoopFor (place : Place) (start : Bool) (b : Body) (most : ℕ) (r : HeldLoop) : Type
    0 where
  pub held : IsHeldOne r.home b (commands_in r)
  pub row : r.home.place ≡ place
  pub begins : r.home.start ≡ start
  pub fewer : length r.each.items + 1 ≤ most
  pub last : length r.last.items ≤ most
