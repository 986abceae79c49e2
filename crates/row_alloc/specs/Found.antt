-- What commands that are found for a body keep
use Rattle.std.specs.Prelude.{ℕ, ◌<◌, ◌≤◌, List, length}
use Rattle.mig_graph.specs.Graph.{Graph}
use Rattle.row_alloc.specs.declared.body.BodyCmd.{BodyCmd}
use Rattle.row_alloc.specs.declared.body.OutRow.{OutRow}
use Rattle.row_alloc.specs.Body.{FitBody, DoesBody, WritesLate}
use Rattle.row_alloc.specs.declared.body.Held.{Held}
use Rattle.row_alloc.specs.Held.{DoesHeld}
use Rattle.row_alloc.specs.Length.{plain_length}
use Rattle.row_alloc.specs.Known.{Serves, known, known_at}

-- Commands can be made of the body, and these do it and write its outputs late. They are no more
-- than those of the plain body and of each known sequence that may stand for it
pub record IsFound (g : Graph) (outs : List OutRow) (cmds : List BodyCmd) : Type 0 where
  pub fit : FitBody g outs
  pub does : DoesBody g outs cmds
  pub late : WritesLate outs cmds
  pub few : length cmds ≤ plain_length g outs
  pub least : (k : ℕ) → k < length known → Serves g outs (known_at k)
      → length cmds ≤ length (known_at k)

-- The commands do a body that finds these literals in cells and leaves those there. They write its
-- outputs late, and are at most so many
pub record IsFoundHeld (g : Graph) (outs : List OutRow) (enter leave : List Held) (most : ℕ)
    (cmds : List BodyCmd) : Type 0 where
  pub does : DoesHeld g outs enter leave cmds
  pub late : WritesLate outs cmds
  pub few : length cmds ≤ most
