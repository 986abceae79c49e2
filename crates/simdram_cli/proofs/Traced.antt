-- What a recorded execution promises.
use Rattle.simdram_cli.proofs.Common.{and_parts, ◌≡◌, ℕ, ◌*◌, ◌<◌, ◌≤◌, ◌^◌, Bool, true, false}
use Rattle.simdram_cli.proofs.Common.{List, None, [], ◌∷◌, ◌++◌, Some, refl, sym, ◌∙◌, ap, subst}
use Rattle.simdram_cli.proofs.Common.{arith, append-nil, length, Result, Ok, Err, ◌≢◌, bytes_eq}
use Rattle.simdram_cli.proofs.Common.{result_ok, ChipView, to_le_bytes, w32, leb-true}
use Rattle.simdram_cli.proofs.Common.{flat_map-cons, Files, Known, Geometry, Banks, Event}
use Rattle.simdram_cli.proofs.Common.{image_bytes, ScriptFault, Instruction, script_of, Image}
use Rattle.simdram_cli.proofs.Common.{opened, rows_in_banks, Program, routines_in, Ahead, pieces}
use Rattle.simdram_cli.proofs.Common.{lines, total_line, table_at_end, script_trace, IsTrace, Trace}
use Rattle.simdram_cli.proofs.Common.{bytes_of_trace, trace_bytes, World, with_file, Store}
use Rattle.simdram_cli.proofs.Common.{files_after, sent_by, IsDelivered, known_delivered}
use Rattle.simdram_cli.proofs.Common.{files_append, sent_append, Delivers, at_other, at_own}
use Rattle.simdram_cli.proofs.Common.{bytes_differ}
use Rattle.std.proofs.Common.{leb, length-append}
use Rattle.trace_model.specs.Recorder.{events_size}
use Rattle.trace_model.specs.Spelling.{event_bytes, events_bytes, trace_head}
use Rattle.trace_model.proofs.Files.{files_are_exact, head_length}
use Rattle.trace_model.proofs.Records.{event_length, fitting_are_few}
use Rattle.trace_model.proofs.Scripts.{replay_is_script, script_is_trace}
use Rattle.cmd_trace.specs.declared.sizes.TheConstants.{EVENTS_BYTES_MAX}
use Rattle.simdram_cli.specs.declared.words.TraceNames.{TraceNames}
use Rattle.simdram_cli.specs.declared.words.TheConstants.{TRACE_MAX}
use Rattle.simdram_cli.specs.Headline.{read_as}
use Rattle.simdram_cli.specs.Words.{all_differ, traced_apart}
use Rattle.simdram_cli.specs.Inputs.{image_of, script_in, script_or_refusal}
use Rattle.simdram_cli.specs.Programs.{prog_in}
use Rattle.simdram_cli.specs.Job.{done_status, image_by, reading_by, refused_by, said_in}
use Rattle.simdram_cli.specs.Job.{script_steps, tally_by}
use Rattle.simdram_cli.specs.Tracing.{TraceLeft, Traced, exec_of, fits, full_plan, recorded_steps}
use Rattle.simdram_cli.specs.Tracing.{store_steps, total_steps, trace_plan, traced_steps, unlogged}
use Rattle.simdram_cli.specs.Tracing.{unlogged_world}
use Rattle.simdram_cli.proofs.ExecPlanned.{executed_so}
use Rattle.simdram_cli.proofs.Executing.{file_program}
use Rattle.simdram_cli.proofs.Piecewise.{sent_script}
use Rattle.simdram_cli.proofs.Promised.{RowsDone, pieces_files}
use Rattle.simdram_cli.proofs.Running.{four_differ, other_way}
use Rattle.simdram_cli.proofs.Planned.{Proved, spares_by, zero_or_eight_tells}
use Rattle.simdram_cli.proofs.TracePlanned.{trace_gives, trace_good, trace_takes}
use Rattle.simdram_cli.specs.declared.words.Command.TheVariants.{Trace as TraceOn}

-- what its steps come to in files and bytes
recorded_files : (names : TraceNames) (program : Program) (script : List Instruction) (i : Image)
    (files : Files) → fits program script i ≡ true
    → files_after (recorded_steps names program script i) files
    ≡ with_file names.trace.now (bytes_of_trace (script_trace program i script))
    (with_file names.out.now (image_by program script i) files)
recorded_files names program script i files all =
    let last = reading_by program script i ∷ Store names.out.now (image_by program script i)
    ∷ store_steps (fits program script i) names.trace.now program script i in
    files_append (script_steps program script i) last files
    ∙ ap (files_after last) (pieces_files i.geometry (routines_in program) Ahead i.table (opened i) 1
    (pieces script) files)
    ∙ ap (λ (b : Bool). files_after (store_steps b names.trace.now program script i)
    (with_file names.out.now (image_by program script i) files)) all

traced_files : (names : TraceNames) (program : Program) (script : List Instruction) (i : Image)
    (files : Files) → fits program script i ≡ true
    → files_after (traced_steps names program script i) files
    ≡ with_file names.trace.now (bytes_of_trace (script_trace program i script))
    (with_file names.out.now (image_by program script i) files)
traced_files names program script i files all =
    files_append (recorded_steps names program script i)
    (total_steps (fits program script i) program script i) files
    ∙ ap (λ (b : Bool). files_after (total_steps b program script i)
    (files_after (recorded_steps names program script i) files)) all
    ∙ recorded_files names program script i files all

stores_quiet : (all : Bool) (name : List ℕ) (program : Program) (script : List Instruction)
    (i : Image) → sent_by (store_steps all name program script i) ≡ []
stores_quiet true name program script i = refl
stores_quiet false name program script i = refl

recorded_sent : (names : TraceNames) (program : Program) (script : List Instruction) (i : Image)
    → sent_by (recorded_steps names program script i) ≡ lines 1 (said_in program script i)
recorded_sent names program script i =
    let said = lines 1 (said_in program script i) in
    let last = reading_by program script i ∷ Store names.out.now (image_by program script i)
    ∷ store_steps (fits program script i) names.trace.now program script i in
    sent_append (script_steps program script i) last
    ∙ ap (λ w. w ++ sent_by last) (sent_script i.geometry (routines_in program) Ahead i.table
    (opened i) script)
    ∙ ap (λ w. said ++ w) (stores_quiet (fits program script i) names.trace.now program script i)
    ∙ append-nil said

traced_sent : (names : TraceNames) (program : Program) (script : List Instruction) (i : Image)
    → fits program script i ≡ true → sent_by (traced_steps names program script i)
    ≡ lines 1 (said_in program script i)
    ++ total_line (tally_by program script i) (refused_by program script i)
traced_sent names program script i all =
    let total = total_line (tally_by program script i) (refused_by program script i) in
    let last = total_steps (fits program script i) program script i in
    sent_append (recorded_steps names program script i) last
    ∙ ap (λ w. w ++ sent_by last) (recorded_sent names program script i)
    ∙ ap (λ (b : Bool). lines 1 (said_in program script i)
    ++ sent_by (total_steps b program script i)) all
    ∙ ap (λ w. lines 1 (said_in program script i) ++ w) (append-nil total)

script_accepted : (r : Result (List Instruction) ScriptFault) (script : List Instruction)
    → script_or_refusal r ≡ Ok script → r ≡ Ok script
script_accepted (Ok x) script e = cc
script_accepted (Err f) script e = absurd (cc)

few_events : (size count : ℕ) → leb size EVENTS_BYTES_MAX ≡ true → 8 * count ≤ size
    → count < 2 ^ 32
few_events size count e l = let fits = leb-true size EVENTS_BYTES_MAX e in
    omega (arith, fits, l)

-- how long the spelling of events is
events_length : (g : Geometry) (events : List Event)
    → length (events_bytes g events) ≡ events_size g events
events_length g [] = refl
events_length g (event ∷ events) =
    let one = event_length g event in
    let rest = events_length g events in
    ap length (flat_map-cons (event_bytes g) event events)
    ∙ length-append (event_bytes g event) (events_bytes g events) ∙ omega (arith, one, rest)

-- a trace whose events fit in a recorder is never too long for a replay
trace_within : (t : Trace) → IsTrace t
    → leb (events_size t.geometry t.events) EVENTS_BYTES_MAX ≡ true
    → length (bytes_of_trace t) ≤ TRACE_MAX
unfolding trace_bytes
trace_within t is e =
    let fits = leb-true (events_size t.geometry t.events) EVENTS_BYTES_MAX e in
    let few = is.written.listed.few in
    let head = head_length t.geometry t.table is.written in
    let size = events_length t.geometry t.events in
    let count = to_le_bytes w32 (length t.events) in
    let tail = length-append count (events_bytes t.geometry t.events) in
    let whole = length-append (trace_head t.geometry t.table)
    (count ++ events_bytes t.geometry t.events) in
    omega (arith, fits, few, head, size, tail, whole)

-- OUT is not TRACE
out_apart : (names : TraceNames) → traced_apart names ≡ true
    → bytes_eq names.out.now names.trace.now ≡ false
out_apart names e =
    let parts = and_parts (all_differ (names.prog.now ∷ names.script.now ∷ names.trace.now
    ∷ names.image.now ∷ [])) (all_differ (names.prog.now ∷ names.script.now ∷ names.trace.now
    ∷ names.out.now ∷ [])) e in
    other_way names.trace.now names.out.now
    (four_differ names.prog.now names.script.now names.trace.now names.out.now parts.1).cd

other_kept : (names : TraceNames) (trace bytes : List ℕ) (before : Files) (other : List ℕ)
    → other ≢ names.out.now → other ≢ names.trace.now
    → with_file names.trace.now trace (with_file names.out.now bytes before) other ≡ before other
other_kept names trace bytes before other p q =
    at_other other names.trace.now trace (with_file names.out.now bytes before)
    (bytes_differ other names.trace.now q)
    ∙ at_other other names.out.now bytes before (bytes_differ other names.out.now p)

-- what is delivered where it is done: all events fit, and nothing more is stored or sent
record AllFit (all_fit : Bool) (left : Type 0) (before after : Files) (sent said : List ℕ)
    (done status : ℕ) : Type 0 where
  fit : all_fit ≡ true
  files : after ≡ before
  all : said ≡ sent
  answers : status ≡ done
  leaves : left

all_fits : (fit : Bool) (program : Program) (script : List Instruction) (i : Image)
    (before after : Files) (sent said : List ℕ) (chip : ChipView) (status : ℕ)
    → Delivers (full_plan fit program script i) before after sent said chip status
    → AllFit fit (TraceLeft program script i chip) before after sent said
    (done_status (refused_by program script i)) status
all_fits true program script i before after sent said chip status (same, all, answers, left) = record {
  fit = refl;
  files = same;
  all = all;
  answers = answers;
  leaves = left;
}
all_fits false program script i before after sent said chip status d = absurd d

-- A recorded execution that was done keeps its promises
pub traced : (names : TraceNames) (old new : World) (status : ℕ) → traced_apart names ≡ true
    → IsDelivered (trace_plan names) old new status
    → Known (λ before after. Traced names before after old new status) old.files.holds
    new.files.holds
traced names old new status apart d =
    known_delivered (trace_plan names) old new status
    (λ before after. Traced names before after old new status) d
    (λ before after said sent (
      prog,
      prog_there,
      program,
      prog_is,
      (
        u,
        is_file,
        (text, script_there, script, script_is, (bytes, image_there, i, image_is, end)),
      ),
    ).
    let steps = traced_steps names program script i in
    let a = all_fits (fits program script i) program script i (files_after steps before) after
    (sent_by steps) said new.chip status end in
    let legal = file_program prog program is_file prog_is in
    let rows : RowsDone script i program (unlogged new.chip) (refused_by program script i) =
    record { image = a.leaves.0; plain = a.leaves.1; work = a.leaves.2 } in
    let t = script_trace program i script in
    let between = with_file names.out.now (image_by program script i) before in
    let stored : after ≡ with_file names.trace.now (bytes_of_trace t) between =
    a.files ∙ traced_files names program script i before a.fit in
    let good = script_is_trace i program text script legal
    (script_accepted (script_of text) script script_is) rows.image
    (few_events (events_size i.geometry t.events) (length t.events) a.fit
    (fitting_are_few i.geometry t.events)) in
    record {
      between = between;
      executed = executed_so (exec_of names) program script i before between old
          (unlogged_world new) status (ap (read_as prog_in) prog_there ∙ ap result_ok prog_is)
          (ap (read_as script_in) script_there ∙ ap result_ok script_is)
          (ap (read_as image_of) image_there ∙ ap result_ok image_is) legal rows refl
          (subst (λ (w : List ℕ). Known (λ x y. y ≡ x ++ w) old.sink.sent new.sink.sent)
          (a.all ∙ traced_sent names program script i a.fit) sent) a.answers;
      stored = stored;
      fit = a.fit;
      within = trace_within t good a.fit;
      accepted = files_are_exact.read t good;
      replays = ap (λ (f : Files). f names.out.now) stored
          ∙ at_other names.out.now names.trace.now (bytes_of_trace t) between (out_apart names
          apart)
          ∙ at_own names.out.now (image_by program script i) before
          ∙ ap (λ (b : Banks). Some (image_bytes i.geometry (table_at_end i.geometry
          (routines_in program) i.table script) (rows_in_banks b)))
          (sym (replay_is_script i program script rows.image));
      others = λ other p q. ap (λ (f : Files). f other) stored
          ∙ other_kept names (bytes_of_trace t) (image_by program script i) before other p q;
    })

pub trace_proved : (names : TraceNames) → Proved (TraceOn names)
trace_proved names = record {
  gives = trace_gives names;
  not_one = λ can. cc;
  good = λ holds are good. trace_good names holds good;
  spares = spares_by None (trace_plan names) (trace_takes names);
  tells = zero_or_eight_tells;
  promised = λ old new status d. traced names old new status d.apart d.delivers;
}
