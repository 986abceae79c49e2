-- A recorder that has begun stands on a chip that has.
use Rattle.std.specs.Prelude.{◌≡◌, Bool, true, false, ◌&&◌, refl}
use Rattle.dram_model.specs.View.{ChipView, HasBegun}
use Rattle.cmd_trace.specs.Tape.{NotesView, is_whole, recorded}

first_of : (a b : Bool) → (a && b) ≡ true → a ≡ true
first_of true b h = refl
first_of false b h = h

-- A recorder shows itself as begun only where the chip below it has begun.
pub has_begun_below : (chip : ChipView) (tape : NotesView) → HasBegun (recorded chip tape)
    → HasBegun chip
has_begun_below chip tape h = first_of chip.begun (is_whole chip.geometry tape) h
