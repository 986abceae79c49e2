-- A table as the list of its objects, in order of insertion.
use Rattle.std.specs.Prelude.{◌≢◌, ℕ, ◌-◌, ◌≤◌, Bool, not, List, map, All, filter, length, Option}
use Rattle.std.specs.List.{list_any, find, AllPairs}
use Rattle.std.specs.Option.{option_map}
use Rattle.std.specs.Str.{bytes_eq}
use Rattle.dram_model.specs.declared.geometry.Geometry.{Geometry}
use Rattle.object_alloc.specs.declared.table.Object.{Object}
use Rattle.object_alloc.specs.Free.{AreApart, end_of}

-- an object under its name
abbrev pub Named : Type 0
Named = List ℕ × Object

-- what a table shows: how many rows objects may lie in, and the objects
pub record Listing : Type 0 where
  pub limit : ℕ
  pub pairs : List Named

-- the objects without their names: which rows are taken
abbrev pub objects_of : List Named → List Object
objects_of pairs = map (λ p. p.1) pairs

-- the object of this name
abbrev pub look_up : List Named → List ℕ → Option Object
look_up pairs name = option_map (λ p. p.1) (find (λ p. bytes_eq p.0 name) pairs)

-- whether an object stands under this name, which is then taken
abbrev pub has_name : List Named → List ℕ → Bool
has_name pairs name = list_any (λ p. bytes_eq p.0 name) pairs

-- the pairs of other names
abbrev pub without : List Named → List ℕ → List Named
without pairs name = filter (λ p. not (bytes_eq p.0 name)) pairs

-- at most 256 objects in object rows; no two have one name or a row in common
pub record IsTable (limit : ℕ) (pairs : List Named) : Type 0 where
  pub few : length pairs ≤ 256
  pub within : All (λ p. end_of p.1 ≤ limit) pairs
  pub names : AllPairs (λ p q. p.0 ≢ q.0) pairs
  pub rows : AllPairs (λ p q. AreApart p.1 q.1) pairs

-- how many rows of each bank may hold objects: all but the last 32
abbrev pub limit_of : Geometry → ℕ
limit_of g = g.rows - 32
