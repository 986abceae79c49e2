-- The command `replay`.
use Rattle.std.specs.Prelude.{◌≡◌, ◌≢◌, ℕ, ◌+◌, ◌*◌, Bool, true, false, List, [], ◌∷◌, ◌++◌}
use Rattle.std.specs.Prelude.{Some, count_by, codes, decimal}
use Rattle.dram_model.specs.declared.address.Command.TheVariants.{Ap, Aap}
use Rattle.dram_model.specs.declared.dram.Counters.{Counters}
use Rattle.dram_model.specs.Chip.{Event, LogIs}
use Rattle.dram_model.specs.Chip.Event.{Row, Write}
use Rattle.dram_model.specs.View.{ChipView, HasBegun}
use Rattle.host_edge.specs.Views.{Files, Known}
use Rattle.object_alloc.specs.Spelling.{image_bytes}
use Rattle.machine_model.specs.Opened.{Image, opened, row_writes, rows_in_banks}
use Rattle.trace_model.specs.Spelling.{IsTrace, Trace, bytes_of_trace}
use Rattle.trace_model.specs.Replay.{replayed}
use Rattle.cli_model.specs.World.{World}
use Rattle.cli_model.specs.Waves.{doing}
use Rattle.cli_model.specs.Steps.{Step, Store, Use, Put}
use Rattle.cli_model.specs.Plan.{Answers, Loads, Makes, Plan, Then}
use Rattle.simdram_cli.specs.declared.words.ReplayNames.{ReplayNames}
use Rattle.simdram_cli.specs.declared.words.TheConstants.{IMAGE_MAX, TRACE_MAX}
use Rattle.simdram_cli.specs.Headline.{read_as}
use Rattle.simdram_cli.specs.Inputs.{image_of}
use Rattle.simdram_cli.specs.Job.{opening, reading}
use Rattle.simdram_cli.specs.Traces.{image_for, trace_in}

-- the event is a command that copies a row
abbrev pub is_aap : Event → Bool
is_aap (Row bank (Aap x y)) = true
is_aap (Row bank (Ap x)) = false
is_aap (Write bank row bits) = false

-- the event is a command that activates a triple alone
abbrev pub is_ap : Event → Bool
is_ap (Row bank (Aap x y)) = false
is_ap (Row bank (Ap x)) = true
is_ap (Write bank row bits) = false

-- the event is a row that the host writes
abbrev pub is_write : Event → Bool
is_write (Row bank command) = false
is_write (Write bank row bits) = true

-- the counters after a replay: the trace's events were done, and each row of every bank was written
-- at the opening and read for the image
abbrev pub replay_counters : Trace → Counters
replay_counters t =
    let all = t.geometry.banks * t.geometry.rows in
    record {
      aap = count_by is_aap t.events;
      ap = count_by is_ap t.events;
      writes = all + count_by is_write t.events;
      reads = all;
    }

-- the line of a replay
abbrev pub replay_line : Counters → List ℕ
replay_line k = codes "replay aap=" ++ decimal k.aap ++ codes " ap=" ++ decimal k.ap
    ++ codes " writes=" ++ decimal k.writes ++ codes " reads=" ++ decimal k.reads ++ codes "\n"

-- the image of the trace's geometry and objects, with the rows that its events leave from those of
-- the image read
abbrev pub image_replayed : Trace → Image → List ℕ
image_replayed t i = image_bytes t.geometry t.table (rows_in_banks (replayed t.events i))

-- the chip begins with the image's rows; the events are done; all rows are read
abbrev pub replay_steps : Trace → Image → List Step
replay_steps t i =
    opening i ∷ Use (doing (opened i) t.events) ∷ reading i.geometry (replayed t.events i) ∷ []

-- and then the image of them is stored, and the counters are sent
abbrev pub events_steps : List ℕ → Trace → Image → List Step
events_steps out t i = replay_steps t i ++ (Store out (image_replayed t i)
    ∷ Put (replay_line (replay_counters t)) ∷ [])

-- The trace's events were done on the image, and nothing else: the chip has begun with the trace's
-- geometry; the banks are what they leave, the counters count them, and a log that is known has the
-- image's writes and then the trace's events
pub record EventsDone (t : Trace) (i : Image) (chip : ChipView) : Type 0 where
  pub begun : HasBegun chip
  pub geometry : chip.geometry ≡ t.geometry
  pub banks : chip.banks ≡ replayed t.events i
  pub counters : chip.counters ≡ replay_counters t
  pub log : LogIs (row_writes i ++ t.events) chip.log

-- the events of a trace are done on an image
abbrev pub events_plan : List ℕ → Trace → Image → Plan
events_plan out t i = Then (events_steps out t i) (Answers 0 (EventsDone t i))

-- IMAGE is loaded, and the events are done on it, where it has the trace's geometry
abbrev pub replay_image_plan : ReplayNames → Trace → Plan
replay_image_plan names t = Loads names.image.now IMAGE_MAX (image_for t.geometry) (λ text i.
    events_plan names.out.now t i)

-- TRACE is loaded, the spelling of a trace, and IMAGE, and the events of the one are done on the
-- other
abbrev pub replay_plan : ReplayNames → Plan
replay_plan names = Loads names.trace.now TRACE_MAX trace_in (λ text t.
    Makes {A = Unit {0}} (λ u. IsTrace t × (text ≡ bytes_of_trace t)) (λ u.
    replay_image_plan names t))

-- TRACE is the spelling of a trace, whose geometry the image of IMAGE has. The chip was given the
-- image's rows and then the trace's events, and nothing else; OUT is the spelling of the trace's
-- geometry and objects with the rows that these events leave; and the chip's counters were sent.
-- All files but OUT are as at entry
pub record Replayed (names : ReplayNames) (before after : Files) (old new : World) : Type 0 where
  pub trace : Trace
  pub image : Image
  pub legal : IsTrace trace
  pub trace_is : before names.trace.now ≡ Some (bytes_of_trace trace)
  pub image_is : read_as image_of (before names.image.now) ≡ Some image
  pub same : image.geometry ≡ trace.geometry
  pub events : EventsDone trace image new.chip
  pub file : after names.out.now ≡ Some (image_replayed trace image)
  pub others : (other : List ℕ) → other ≢ names.out.now → after other ≡ before other
  pub sent : Known (λ x y. y ≡ x ++ replay_line new.chip.counters) old.sink.sent new.sink.sent
