-- The trace of a script.
use Rattle.std.proofs.Common.{◌≡◌, ◌<◌, true, List, arith}
use Rattle.dram_model.specs.declared.geometry.Geometry.{Geometry}
use Rattle.dram_model.specs.Geometry.{is_geometry}
use Rattle.object_alloc.specs.Listed.{Named}
use Rattle.object_alloc.proofs.Images.{bounds_of}
use Rattle.file_fields.proofs.Padded.{between_is}
use Rattle.wave_model.specs.Schedule.{Ahead}
use Rattle.machine_model.specs.Laws.{TableFits}
use Rattle.machine_model.specs.Opened.{opened}
use Rattle.machine_model.specs.Routines.{routines_in}
use Rattle.machine_model.proofs.Accepted.{accepted_is_right, accepted_is_plain, all_plain}
use Rattle.machine_model.proofs.Images.{names_stay}
use Rattle.machine_model.proofs.Pieces.{events_are_steps}
use Rattle.machine_model.proofs.Tables.{table_stays, fits_banks}
use Rattle.trace_model.specs.Spelling.{IsWritten}
use Rattle.trace_model.specs.Laws.{ReplayIsScript, ScriptIsTrace, TableIsWritten}
use Rattle.trace_model.proofs.Legal.{events_are_legal}

table_fits : (g : Geometry) (table : List Named) → IsWritten g table → TableFits g table
table_fits g table w = record { listed = w.listed; objects = w.objects }

pub table_is_written : TableIsWritten
table_is_written g operations table script right w =
    let t = table_stays g operations table script (all_plain script right) (table_fits g table w) in
    record {
      listed = t.listed;
      names = names_stay g operations table script right w.names;
      objects = t.objects;
    }

some_words : (g : Geometry) → is_geometry g ≡ true → 0 < g.words
some_words g is = let w = between_is 1 1024 g.words (bounds_of g is).words in omega (arith, w.0)

-- the replay of a script's trace leaves the rows that the script leaves
pub replay_is_script : ReplayIsScript
replay_is_script image p script is =
    events_are_steps image.geometry (routines_in p) Ahead image.table script (opened image)
    (some_words image.geometry is.geometry)
    (fits_banks image.geometry image.table (record { listed = is.listed; objects = is.objects }))

-- the events of an accepted script are those of a trace
pub script_is_trace : ScriptIsTrace
script_is_trace image p text script good said is few = record {
  geometry = is.geometry;
  written = table_is_written image.geometry (routines_in p) image.table script
      (accepted_is_right text script said)
      (record { listed = is.listed; names = is.names; objects = is.objects });
  few = few;
  events = events_are_legal image.geometry p Ahead image.table script is.geometry good
      (record { listed = is.listed; objects = is.objects }) (accepted_is_plain text script said);
}
