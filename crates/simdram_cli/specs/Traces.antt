-- Which trace files are accepted, as what, and why others are refused; and an image for a trace.
use Rattle.std.specs.Prelude.{ℕ, Bool, ◌&&◌, ◌==◌, List, ◌++◌, Result, Ok, Err, codes, decimal}
use Rattle.std.specs.Prelude.{if◌then◌else◌}
use Rattle.dram_model.specs.declared.geometry.Geometry.{Geometry}
use Rattle.machine_model.specs.Opened.{Image}
use Rattle.trace_model.specs.declared.TraceKind.{TraceKind}
use Rattle.trace_model.specs.declared.TraceKind.TheVariants as kinds
use Rattle.trace_model.specs.Reading.{TraceFault, trace_in as trace_read}
use Rattle.trace_model.specs.Spelling.{Trace}
use Rattle.cli_model.specs.Steps.{Refusal}
use Rattle.simdram_cli.specs.Inputs.{image_of}

-- the word for a rule of trace files
abbrev pub trace_word : TraceKind → List ℕ
trace_word kinds.Short = codes "short"
trace_word kinds.Magic = codes "magic"
trace_word kinds.Version = codes "version"
trace_word kinds.Geometry = codes "geometry"
trace_word kinds.Object = codes "object"
trace_word kinds.Overlap = codes "overlap"
trace_word kinds.Event = codes "event"
trace_word kinds.Legal = codes "legal"
trace_word kinds.Rest = codes "rest"

-- a trace file that breaks a rule is refused by the byte and the rule
abbrev pub trace_refusal : TraceFault → Refusal
trace_refusal fault = record {
  status = 13;
  line = codes "trace byte " ++ decimal fault.at
      ++ (codes " " ++ trace_word fault.kind ++ codes "\n");
}

-- the trace of a file, or the line that tells its first fault
abbrev pub trace_or_refusal : Result Trace TraceFault → Result Trace Refusal
trace_or_refusal (Ok t) = Ok t
trace_or_refusal (Err fault) = Err (trace_refusal fault)

-- the trace of a file, or why it is refused
abbrev pub trace_in : List ℕ → Result Trace Refusal
trace_in bytes = trace_or_refusal (trace_read bytes)

-- both chips have one shape
abbrev pub same_geometry : Geometry → Geometry → Bool
same_geometry g h = g.banks == h.banks && (g.rows == h.rows && g.words == h.words)

-- an image of another geometry than the trace's is refused
abbrev pub geometry_differs : Refusal
geometry_differs = record { status = 14; line = codes "geometry differs\n" }

-- an image that is accepted goes on only where it has the trace's shape
abbrev pub if_same : Geometry → Result Image Refusal → Result Image Refusal
if_same g (Ok i) = if same_geometry i.geometry g then Ok i else Err geometry_differs
if_same g (Err refusal) = Err refusal

-- the image of a file for a trace of this geometry, or why it is refused
abbrev pub image_for : Geometry → List ℕ → Result Image Refusal
image_for g bytes = if_same g (image_of bytes)
