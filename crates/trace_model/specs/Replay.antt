-- What a replay leaves, and the trace of a script.
use Rattle.std.specs.Prelude.{List}
use Rattle.dram_model.specs.Chip.{Banks, Event, after}
use Rattle.bbop_isa.specs.Forms.{Instruction}
use Rattle.machine_model.specs.Opened.{Image, opened}
use Rattle.machine_model.specs.Routines.{Program, routines_in}
use Rattle.machine_model.specs.Pieces.{script_events}
use Rattle.machine_model.specs.Script.{table_at_end}
use Rattle.trace_model.specs.Spelling.{Trace}

-- the banks that events leave on an image's rows and B cells of zeros
abbrev pub replayed : List Event → Image → Banks
replayed events image = after events (opened image)

-- the trace of a script on an image, with a program: the table after the script, and the events of
-- the instructions that are done, in order, each wave under the order in force
abbrev pub script_trace : Program → Image → List Instruction → Trace
script_trace p image script = record {
  geometry = image.geometry;
  table = table_at_end image.geometry (routines_in p) image.table script;
  events = script_events image.geometry (routines_in p) image.table script;
}
