-- Places by their owners, and a test after which every round keeps the rules.
use Rattle.std.specs.Prelude.{◌≡◌, ℕ, zero, suc, ◌<◌, ◌==◌, Bool, true, false, not, ◌&&◌, nat_lt}
use Rattle.std.specs.Prelude.{if◌then◌else◌, List, [], ◌∷◌, map, length}
use Rattle.mig_graph.specs.declared.Lit.{Lit}
use Rattle.mig_graph.specs.Graph.{Graph}
use Rattle.row_alloc.specs.declared.body.BodyCmd.{BodyCmd}
use Rattle.loop_ir.specs.declared.ir.Space.{Space}
use Rattle.loop_ir.specs.declared.ir.Space.TheVariants.{Source, Cells}
use Rattle.loop_ir.specs.declared.ir.Sub.{Sub}
use Rattle.loop_ir.specs.declared.ir.Sub.TheVariants as sub
use Rattle.loop_ir.specs.declared.ir.Place.{Place}
use Rattle.loop_ir.specs.Plain.{Block, StepOf, step_map}
use Rattle.loop_ir.specs.Plain.StepOf.{Single, Along, Flowed}
use Rattle.loop_ir.specs.Spots.{Spot, spot_in, IsOwn}
use Rattle.loop_ir.specs.Costs.{sub_code}

-- how many rows an owner has: one or n
pub data Extent : Type 0 where
  One : Extent
  Full : Extent

-- how many rows an owner has at width n
abbrev pub extent : ℕ → Extent → ℕ
extent n One = 1
extent n Full = n

-- where an owner's rows lie, how many there are, and whether a body may write them
pub record Room : Type 0 where
  pub space : Space
  pub which : ℕ
  pub rows : Extent
  pub written : Bool

-- the rows of an owner, by its number
abbrev pub room_at : List Room → ℕ → Room
room_at [] k = record { space = Source; which = 0; rows = One; written = false }
room_at (r ∷ rs) zero = r
room_at (r ∷ rs) (suc k) = room_at rs k

-- whose a place is: an owner's of rows, by its number, or a state's, by its layout of cells
pub data Owner : Type 0 where
  InRoom : ℕ → Owner
  InCells : ℕ → Owner

-- the room of an owner: a state may be written, as one row may
abbrev pub room_for : List Room → Owner → Room
room_for rooms (InRoom k) = room_at rooms k
room_for rooms (InCells w) = record { space = Cells; which = w; rows = One; written = true }

-- both are one owner
abbrev pub same_owner : Owner → Owner → Bool
same_owner (InRoom j) (InRoom k) = j == k
same_owner (InRoom j) (InCells w) = false
same_owner (InCells w) (InRoom k) = false
same_owner (InCells v) (InCells w) = v == w

-- a place by its owner
pub record Mark : Type 0 where
  pub owner : Owner
  pub sub : Sub

-- a body over such places
pub record Marked : Type 0 where
  pub reads : List Mark
  pub graph : Graph
  pub outs : List Lit
  pub writes : List Mark
  pub found : List BodyCmd

-- the place that an owner's place is, once it is known where the owners' rows lie
abbrev pub placed : List Room → Mark → Place
placed rooms m = let r = room_for rooms m.owner in
    record { space = r.space; which = r.which; sub = m.sub }

-- a body with its places found
abbrev pub placed_body : List Room → Marked → Block
placed_body rooms b = record {
  reads = map (placed rooms) b.reads;
  graph = b.graph;
  outs = b.outs;
  writes = map (placed rooms) b.writes;
  found = b.found;
}

-- a loop program with its places found
abbrev pub placed_steps : List Room → List (StepOf Marked) → List (StepOf Block)
placed_steps rooms steps = map (step_map (placed_body rooms)) steps

-- row v of a room
abbrev pub row_in : ℕ → Room → ℕ → Spot
row_in n r v = spot_in n r.space r.which v

-- The row is one of an owner's
abbrev pub IsOwned : ℕ → List Room → Spot → Type 0
IsOwned n rooms q = (k : ℕ) × (v : ℕ) × (k < length rooms) × (v < extent n (room_at rooms k).rows)
    × (q ≡ row_in n (room_at rooms k) v)

-- Rows of two owners are not the same, if a body may write one of them; and such an owner is no
-- source
pub record RoomsApart (n : ℕ) (rooms : List Room) : Type 0 where
  pub apart : (j k u v : ℕ) → j < length rooms → k < length rooms → (room_at rooms j).written ≡ true
      → (j ≡ k → ⊥) → u < extent n (room_at rooms j).rows → v < extent n (room_at rooms k).rows
      → row_in n (room_at rooms j) u ≡ row_in n (room_at rooms k) v → ⊥
  pub own : (k : ℕ) → k < length rooms → (room_at rooms k).written ≡ true
      → IsOwn (room_at rooms k).space

-- an owner with a row at each position of a word
abbrev pub is_long : Extent → Bool
is_long One = false
is_long Full = true

-- the subscript stays within so many rows: by the index only in a loop over an owner of n rows
abbrev pub fits : Bool → Extent → Sub → Bool
fits in_loop w sub.Zero = true
fits in_loop w sub.Inner = is_long w && in_loop
fits in_loop w sub.InnerDown = is_long w && in_loop
fits in_loop w (sub.Register k) = false

-- there is such an owner among so many
abbrev pub is_there : Owner → ℕ → Bool
is_there (InRoom k) count = nat_lt k count
is_there (InCells w) count = true

-- each place has an owner and stays in its rows
abbrev pub all_fit : Bool → List Room → List Mark → Bool
all_fit in_loop rooms [] = true
all_fit in_loop rooms (m ∷ ms) = (is_there m.owner (length rooms)
    && fits in_loop (room_for rooms m.owner).rows m.sub) && all_fit in_loop rooms ms

-- none of these places has this owner
abbrev pub none_like : Owner → List Mark → Bool
none_like owner [] = true
none_like owner (m ∷ ms) = not (same_owner owner m.owner) && none_like owner ms

-- at most one of these places has the owner of a write, and that one is the very place
abbrev pub alone_in : Mark → List Mark → Bool
alone_in p [] = true
alone_in p (m ∷ ms) = if same_owner p.owner m.owner then (sub_code p.sub == sub_code m.sub)
    && none_like p.owner ms else alone_in p ms

-- what is written may be, each owner once, and is read at most at the very place
abbrev pub writes_fit : List Room → List Mark → List Mark → Bool
writes_fit rooms reads [] = true
writes_fit rooms reads (m ∷ ms) = ((room_for rooms m.owner).written
    && (none_like m.owner ms && alone_in m reads)) && writes_fit rooms reads ms

-- the test of a body
abbrev pub body_fits : Bool → List Room → Marked → Bool
body_fits in_loop rooms b = all_fit in_loop rooms b.reads
    && (all_fit in_loop rooms b.writes && writes_fit rooms b.reads b.writes)

-- the test of a loop program's bodies: it is run once on each written program; none with a flow
-- is written so
abbrev pub steps_fit : List Room → List (StepOf Marked) → Bool
steps_fit rooms [] = true
steps_fit rooms (Single b ∷ ss) = body_fits false rooms b && steps_fit rooms ss
steps_fit rooms (Along b ∷ ss) = body_fits true rooms b && steps_fit rooms ss
steps_fit rooms (Flowed f ∷ ss) = false
