-- The log of a recorder, where it is known.
use Rattle.std.proofs.lemmas.Bool.{and_parts}
use Rattle.std.proofs.Common.{◌≡◌, ℕ, ◌*◌, ◌<◌, ◌≤◌, Bool, true, false, cond, leb, List, []}
use Rattle.std.proofs.Common.{◌∷◌, Option, Some, None, refl, sym, ◌∙◌, ap, subst}
use Rattle.std.proofs.Common.{arith}
use Rattle.std.specs.Prelude.{IfSome, is_some}
use Rattle.std.specs.List.{AllByRecursion}
use Rattle.std.proofs.lemmas.Bool.Decides.{nat_tests}
use Rattle.dram_model.specs.declared.geometry.Geometry.{Geometry}
use Rattle.dram_model.specs.Chip.{Event, Log, Grew, event_bits, log_bits}
use Rattle.dram_model.specs.Chip.Event.{Row, Write}
use Rattle.dram_model.specs.View.{ChipView}
use Rattle.object_alloc.specs.Listed.{Named}
use Rattle.trace_model.specs.Recorder.{event_size, events_size, known}
use Rattle.trace_model.specs.Spelling.{IsEvent, trace_bytes}
use Rattle.cmd_trace.specs.declared.sizes.TheConstants.{EVENTS_BYTES_MAX, HEAD_BYTES_MAX}
use Rattle.cmd_trace.specs.Tape.{NotesView, empty_log, events_on, is_whole, log_on}
use Rattle.cmd_trace.proofs.Tapes.{log_bits_are, tells}
use Rattle.trace_job.specs.Telling.{Saw, Spelled, TellsWhatFits, all_fit}

-- eight bits of a log for each byte of an event's spelling
event_bits_of : (g : Geometry) (event : Event) → IsEvent g event
    → event_bits event ≡ 8 * event_size g event
event_bits_of g (Row bank command) is = refl
event_bits_of g (Write bank row bits) is = let size = is.2 in omega (arith, size)

pub log_bits_of : (g : Geometry) (events : List Event) → AllByRecursion (IsEvent g) events
    → log_bits events ≡ 8 * events_size g events
log_bits_of g [] all = refl
log_bits_of g (event ∷ events) all =
    let one = event_bits_of g event all.0 in
    let rest = log_bits_of g events all.1 in
    omega (arith, one, rest)

fitting : (n room : ℕ) → n ≤ room → leb n room ≡ true
fitting n room l = grind (arith, nat_tests)

over : (n room : ℕ) → room < n → leb n room ≡ false
over n room l = grind (arith, nat_tests)

-- the log that is known by what it shows, where its bytes are in the room
known_case : (g : Geometry) (tape : NotesView) (events : List Event) (tells : Bool)
    → AllByRecursion (IsEvent g) events
    → (tells ≡ true → log_bits (events_on g tape) ≤ 8 * EVENTS_BYTES_MAX)
    → Grew (Some empty_log)
    (cond tells (Some (record { room = 8 * EVENTS_BYTES_MAX; events = events_on g tape })) None)
    events
    → cond tells (Some (events_on g tape)) None ≡ known g EVENTS_BYTES_MAX events
known_case g tape events true legal within grew =
    let same : events_on g tape ≡ events = ap (λ (log : Log). log.events) grew in
    let size = log_bits_of g events legal in
    let few : log_bits events ≤ 8 * EVENTS_BYTES_MAX =
    subst (λ (es : List Event). log_bits es ≤ 8 * EVENTS_BYTES_MAX) same (within refl) in
    rw (fitting (events_size g events) EVENTS_BYTES_MAX (omega (arith, size, few)))
    (ap (λ (es : List Event). Some es) same)
known_case g tape events false legal within grew =
    let size = log_bits_of g events legal in
    rw (over (events_size g events) EVENTS_BYTES_MAX (omega (arith, size, grew))) refl

pub tells_what_fits : TellsWhatFits
tells_what_fits chip tape events saw =
    let g = chip.geometry in
    let whole = (and_parts chip.begun (is_whole g tape) saw.begun).1 in
    known_case g tape events tape.known saw.legal
    (λ t. let w = tells g tape whole t in
    let bits = log_bits_are tape.count g HEAD_BYTES_MAX tape.bytes _ w.read in
    omega (arith, bits, w.room)) saw.grew

-- what is known of them
some_known : (b : Bool) (events : List Event) → is_some (cond b (Some events) None) ≡ b
some_known true events = refl
some_known false events = refl

pub known_all : (chip : ChipView) (tape : NotesView) (events : List Event) → Saw chip tape events
    → is_some (log_on chip.geometry tape) ≡ all_fit chip.geometry events
known_all chip tape events saw =
    ap (λ (o : Option (List Event)). is_some o) (tells_what_fits chip tape events saw)
    ∙ some_known (all_fit chip.geometry events) events

spelled_case : (b : Bool) (g : Geometry) (table : List Named) (events : List Event)
    (file : List ℕ) → b ≡ true
    → IfSome (cond b (Some events) None) (λ es. file ≡ trace_bytes g table es)
    → file ≡ trace_bytes g table events
spelled_case true g table events file e is = is
spelled_case false g table events file e is = absurd (cc)

pub spelled_all : (chip : ChipView) (tape : NotesView) (table : List Named) (file : List ℕ)
    → is_some (log_on chip.geometry tape) ≡ true
    → IfSome (log_on chip.geometry tape) (λ es. file ≡ trace_bytes chip.geometry table es)
    → (events : List Event) → Saw chip tape events
    → Spelled chip.geometry table events file true
spelled_all chip tape table file some is events saw =
    let g = chip.geometry in
    let all : all_fit g events ≡ true = sym (known_all chip tape events saw) ∙ some in
    record {
      all_is = sym all;
      file_is = λ e. spelled_case (all_fit g events) g table events file all
          (subst (λ (o : Option (List Event)). IfSome o (λ es. file ≡ trace_bytes g table es))
          (tells_what_fits chip tape events saw) is);
    }

pub not_spelled : (chip : ChipView) (tape : NotesView) (table : List Named) (file : List ℕ)
    → is_some (log_on chip.geometry tape) ≡ false
    → (events : List Event) → Saw chip tape events
    → Spelled chip.geometry table events file false
not_spelled chip tape table file none events saw = record {
  all_is = sym none ∙ known_all chip tape events saw;
  file_is = λ e. absurd (cc);
}
