-- What a machine shows of itself, and what its parts keep.
use Rattle.std.specs.Prelude.{◌≡◌, ℕ, ◌+◌, ◌*◌, ◌≤◌, List, length}
use Rattle.dram_model.specs.declared.geometry.Geometry.{Geometry}
use Rattle.uprog_code.specs.Shape.{Microprogram}
use Rattle.object_alloc.specs.Listed.{Listing, Named}
use Rattle.object_alloc.specs.Reading.{rows_size}
use Rattle.object_alloc.specs.declared.sizes.TheConstants.{HEAD_BYTES, RECORD_BYTES, OBJECTS_MAX}
use Rattle.wave_model.specs.Schedule.{Turn}
use Rattle.object_steps.specs.Objects.{LiesOn}

-- the shape of its chip, the program that its bbops run, its objects, the order in force with its
-- picker's state, and the image file that was spelled last
pub record State : Type 0 where
  pub geometry : Geometry
  pub programs : List Microprogram
  pub table : List Named
  pub turn : Turn
  pub file : List ℕ

-- its parts fit, and it has the memory that it needs
pub record IsReady (g : Geometry) (table : Listing) (words : List ℕ) (capacity : ℕ) : Type 0 where
  pub set : LiesOn g table
  pub stage : length words ≡ 128 * g.words
  pub room : HEAD_BYTES + RECORD_BYTES * OBJECTS_MAX + rows_size g ≤ capacity
