-- A command in which nothing fails, and one that wants memory.
use Rattle.std.specs.Prelude.{◌≡◌, ◌≢◌, ℕ, List, [], codes, Option, Some, None}
use Rattle.faults.specs.Counts.{Rose}
use Rattle.host_edge.specs.Views.{Files, Known}
use Rattle.cli_model.specs.World.{World}
use Rattle.cli_model.specs.Steps.{Unopened}
use Rattle.cli_model.specs.Ends.{Sends}

-- the file of a name in a folder that tells its files
abbrev pub file_in : Option Files → List ℕ → Option (List ℕ)
file_in None name = None
file_in (Some files) name = files name

-- no count of faults rose: none of the folder, of the sink and of the chip
pub record NothingFailed (old new : World) : Type 0 where
  pub loads : (name : List ℕ) → Rose (old.files.load_faults name) (new.files.load_faults name)
      → ⊥
  pub stores : Rose old.files.store_faults new.files.store_faults → ⊥
  pub puts : Rose old.sink.faults new.sink.faults → ⊥
  pub chip : Rose old.chip.faults new.chip.faults → ⊥

-- A command is out of memory: its line was sent and nothing before it; all files but this one are
-- as at entry; and the chip is, or has not begun
pub record IsSpared (but : Option (List ℕ)) (old new : World) : Type 0 where
  pub sent : Sends [] (codes "no memory\n") old new
  pub files : Known (λ before after. (name : List ℕ) → but ≢ Some name → after name ≡ before name)
      old.files.holds new.files.holds
  pub chip : Unopened old.chip new.chip
