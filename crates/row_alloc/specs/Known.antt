-- The known sequences, and when one may stand for a body
use Rattle.std.specs.Prelude.{◌≡◌, ℕ, ◌<◌, true, List, [], length, map, slice_index_or}
use Rattle.mig_graph.specs.Graph.{Graph}
use Rattle.row_alloc.specs.declared.known.TheConstants.{KNOWN}
use Rattle.row_alloc.specs.declared.known_held.TheConstants.{KNOWN_HELD}
use Rattle.row_alloc.specs.declared.body.BodyCmd.{BodyCmd}
use Rattle.row_alloc.specs.declared.body.OutRow.{OutRow}
use Rattle.row_alloc.specs.declared.body.Held.{Held}
use Rattle.row_alloc.specs.Body.{FitBody, WritesLate}
use Rattle.row_alloc.specs.Held.{IsChecked, IsHeldChecked, have_layouts}

-- the sequences of the table, shorter ones first
abbrev pub known : List (List BodyCmd)
known = map (λ r. r.now) KNOWN

-- the sequence with this number in the table
abbrev pub known_at : ℕ → List BodyCmd
known_at k = slice_index_or known k []

-- the symbolic run says that the commands do the body, and they write its outputs late
pub record Serves (g : Graph) (outs : List OutRow) (cmds : List BodyCmd) : Type 0 where
  pub checked : IsChecked g outs cmds
  pub late : WritesLate outs cmds

-- The sequence of this number is the first that serves
pub record IsFirst (g : Graph) (outs : List OutRow) (k : ℕ) : Type 0 where
  pub within : k < length known
  pub serves : Serves g outs (known_at k)
  pub before : (i : ℕ) → i < k → Serves g outs (known_at i) → ⊥

-- the sequences of the table for states in cells, shorter ones first
abbrev pub known_held : List (List BodyCmd)
known_held = map (λ r. r.now) KNOWN_HELD

-- the sequence with this number in that table
abbrev pub held_at : ℕ → List BodyCmd
held_at k = slice_index_or known_held k []

-- the symbolic run says that the commands do the body with its states in these cells, and they
-- write its outputs late
pub record ServesHeld (g : Graph) (outs : List OutRow) (enter leave : List Held)
    (cmds : List BodyCmd) : Type 0 where
  pub checked : IsHeldChecked g outs enter leave cmds
  pub late : WritesLate outs cmds

-- commands can be made of the body, and its states have layouts
pub record MayHold (g : Graph) (outs : List OutRow) (enter leave : List Held) : Type 0 where
  pub fit : FitBody g outs
  pub starts : have_layouts enter ≡ true
  pub ends : have_layouts leave ≡ true
