-- The parts of a recorded execution.
use Rattle.simdram_cli.proofs.Common.{◌≡◌, ℕ, ◌+◌, ◌*◌, ◌≤◌, Bool, true, false, List, [], ◌∷◌, ◌++◌}
use Rattle.simdram_cli.proofs.Common.{Some, None, refl, sym, ◌∙◌, ap, subst, inl, inr, length}
use Rattle.simdram_cli.proofs.Common.{append-nil, append_assoc, Result, Ok, Err, count_by}
use Rattle.simdram_cli.proofs.Common.{AllByRecursion, Rose, AppendsPart, FolderView, SinkView}
use Rattle.simdram_cli.proofs.Common.{Known, Geometry, is_geometry, Banks, Event, Grew, after}
use Rattle.simdram_cli.proofs.Common.{all_counted, ChipView, DidRead, HasBegun, Kept, with_reads}
use Rattle.simdram_cli.proofs.Common.{Grew-more, Listing, Named, image_bytes, IsImage, IsProgram}
use Rattle.simdram_cli.proofs.Common.{Instruction, Turn, Ahead, IsPlain, TableFits, Image, opened}
use Rattle.simdram_cli.proofs.Common.{rows_in_banks, Program, Routines, routines_in, Piece, Wave}
use Rattle.simdram_cli.proofs.Common.{Alone, instrs_in, pieces, script_events, piece_events}
use Rattle.simdram_cli.proofs.Common.{turn_after, Said, line, said_by, said_in_rows, total_line}
use Rattle.simdram_cli.proofs.Common.{banks_at_end, is_refused, replies, rows_printed, sum_done}
use Rattle.simdram_cli.proofs.Common.{table_at_end, Machine, geometry_of, is_print, program_of}
use Rattle.simdram_cli.proofs.Common.{table_in, DidAndRead, LiesOn, script_trace, bytes_of_trace}
use Rattle.simdram_cli.proofs.Common.{trace_bytes, empty_log, recorded, has_begun_below, World}
use Rattle.simdram_cli.proofs.Common.{world, ChipUse, IsLeftBy, Step, Use, Store, Put, Refusal}
use Rattle.simdram_cli.proofs.Common.{Reason, Refused, CannotWrite, PutFailed, ChipFailed, End}
use Rattle.simdram_cli.proofs.Common.{Done, Stopped, Goes, Stored, Unstored, Runs, goes_on, stops}
use Rattle.simdram_cli.proofs.Common.{runs_answered, runs_stopped, runs_then}
use Rattle.std.specs.Prelude.{Option}
use Rattle.trace_model.specs.Spelling.{IsEvent}
use Rattle.trace_model.proofs.Legal.{events_are_legal}
use Rattle.cmd_trace.specs.Tape.{NotesView}
use Rattle.trace_job.specs.Below.{BeginOnChip, IsLate}
use Rattle.trace_job.specs.Telling.{Saw, Spelled, all_fit}
use Rattle.trace_job.proofs.Going.{steps_are_below}
use Rattle.cli_model.proofs.Running.{runs_refused}
use Rattle.simdram_cli.specs.declared.words.TraceNames.{TraceNames}
use Rattle.simdram_cli.specs.declared.stop.Stop.{Stop}
use Rattle.simdram_cli.specs.Stops.{reason_of, trace_full}
use Rattle.simdram_cli.specs.Job.{done_status, piece_steps, opening, pieces_steps, put_lines}
use Rattle.simdram_cli.specs.Job.{reading, refused_by, script_steps}
use Rattle.simdram_cli.specs.Plans.{script_said}
use Rattle.simdram_cli.specs.Works.{WorkDone}
use Rattle.simdram_cli.specs.Tracing.{OpensOn, ScriptRecorded, ScriptTraced, TraceLeft, events_on}
use Rattle.simdram_cli.specs.Tracing.{fits, full_plan, image_on, reading_on, reads_on}
use Rattle.simdram_cli.specs.Tracing.{recorded_steps, steps_on, store_steps, total_steps}
use Rattle.simdram_cli.specs.Tracing.{traced_plan, traced_steps, unless_fits, unlogged}
use Rattle.simdram_cli.proofs.Performing.{Started, first_are, first_steps, left_by, own_events}
use Rattle.simdram_cli.proofs.Performing.{own_table, reads_twice, total_is}
use Rattle.simdram_cli.proofs.Progress.{holds_of}
use Rattle.simdram_cli.proofs.Stores.{sent, use_broke, used, put}
use Rattle.cli_model.specs.Waves.{banks_after}
use Rattle.cli_model.specs.Steps.{line_steps}
use Rattle.simdram_cli.specs.declared.stop.Stop.TheVariants as stop

-- a script is done, and the image after it stored

pub image_failed : (on : ChipUse) (name bytes : List ℕ) (f : FolderView) (s : SinkView)
    (a b : ChipView) → a.faults ≤ b.faults → Rose a.faults b.faults → IsLeftBy on b.banks
    → Goes (Use on ∷ Store name bytes ∷ []) (Stopped ChipFailed) (world f s a) (world f s b)
image_failed on name bytes f s a b l r left = inr (refl, use_broke f s a b l, r, left)

pub image_unstored : (on : ChipUse) (name bytes : List ℕ) (f g : FolderView)
    (s : SinkView) (a b : ChipView) → b.faults ≡ a.faults → b.banks ≡ banks_after on
    → Unstored name (world f s b) (world g s b)
    → Goes (Use on ∷ Store name bytes ∷ []) (Stopped (CannotWrite name)) (world f s a)
    (world g s b)
image_unstored on name bytes f g s a b l left u =
    inl (world f s b, (used _ f s a b l left, inr (refl, u)))

pub image_stored : (on : ChipUse) (name bytes : List ℕ) (f g : FolderView) (s : SinkView)
    (a b : ChipView) → b.faults ≡ a.faults → b.banks ≡ banks_after on → Stored name bytes (world f s b) (world g s b)
    → Goes (Use on ∷ Store name bytes ∷ []) Done (world f s a) (world g s b)
image_stored on name bytes f g s a b l left t =
    inl (world f s b, (used _ f s a b l left, inl (world g s b, (t, refl))))

pub work_stopped : (m : Machine) (banks : Banks) (script : List Instruction) (name : List ℕ)
    (reason : Reason) (a b : World) → Goes (steps_on m banks script) (Stopped reason) a b
    → Goes (steps_on m banks script ++ (reading_on m banks script ∷ Store name (image_on m banks script) ∷ []))
    (Stopped reason) a b
work_stopped m banks script name reason a b g =
    stops (steps_on m banks script) (reading_on m banks script ∷ Store name (image_on m banks script) ∷ []) reason a b g

pub then_image : (m : Machine) (banks : Banks) (script : List Instruction) (name : List ℕ)
    (end : End) (a b c : World) → Goes (steps_on m banks script) Done a b
    → Goes (reading_on m banks script ∷ Store name (image_on m banks script) ∷ []) end b c
    → Goes (steps_on m banks script ++ (reading_on m banks script ∷ Store name (image_on m banks script) ∷ [])) end a c
then_image m banks script name end a b c g h =
    goes_on (steps_on m banks script) (reading_on m banks script ∷ Store name (image_on m banks script) ∷ []) end a b c g
    h

pub image_is_on : (m n : Machine) (script : List Instruction) (a b : ChipView)
    → geometry_of n ≡ geometry_of m
    → table_in n ≡ table_at_end (geometry_of m) (routines_in (program_of m)) (table_in m) script
    → b.banks ≡ after (events_on m script) a.banks
    → image_bytes (geometry_of n) (table_in n) (rows_in_banks b.banks) ≡ image_on m a.banks script
image_is_on m n script a b e t s =
    ap (λ (g : Geometry). image_bytes g (table_in n) (rows_in_banks b.banks)) e
    ∙ ap (λ (x : List Named). image_bytes (geometry_of m) x (rows_in_banks b.banks)) t
    ∙ ap (λ (x : Banks). image_bytes (geometry_of m) (table_at_end (geometry_of m)
    (routines_in (program_of m)) (table_in m) script) (rows_in_banks x)) s

-- rows are read after what was done
pub did_read_more : (events : List Event) (m n : ℕ) (a b c : ChipView) → DidAndRead events m a b
    → DidRead n b c → DidAndRead events (m + n) a c
did_read_more events m n a b c did read = record {
  banks = read.banks ∙ did.banks;
  counters = read.counters ∙ ap (with_reads n) did.counters
      ∙ reads_twice m n (all_counted events a.counters);
  faults = read.faults ∙ did.faults;
  log = subst (Grew a.log c.log) (append-nil events)
      (Grew-more a.log b.log c.log events [] did.log read.log);
}

pub did_all : (m : Machine) (script : List Instruction) (g : Geometry) (a b c : ChipView)
    → g ≡ geometry_of m
    → DidAndRead (events_on m script) (sum_done rows_printed (geometry_of m)
    (routines_in (program_of m)) (table_in m) script) a b
    → DidRead (g.banks * g.rows) b c → DidAndRead (events_on m script) (reads_on m script) a c
did_all m script g a b c e did read =
    did_read_more (events_on m script) (sum_done rows_printed (geometry_of m)
    (routines_in (program_of m)) (table_in m) script)
    ((geometry_of m).banks * (geometry_of m).rows) a b c did
    (subst (λ (x : Geometry). DidRead (x.banks * x.rows) b c) e read)

-- the steps after the opening

pub late_more : (xs ys : List Step) → AllByRecursion IsLate xs → AllByRecursion IsLate ys
    → AllByRecursion IsLate (xs ++ ys)
late_more [] ys h k = k
late_more (x ∷ xs) ys h k = (h.0, late_more xs ys h.1 k)

lines_late : (number : ℕ) (said : List Said) → AllByRecursion IsLate (put_lines number said)
lines_late number [] = tt
lines_late number (s ∷ said) = (tt, lines_late (number + 1) said)

instr_late : (on : ChipUse) (prints : Bool) (bytes : List ℕ)
    → AllByRecursion IsLate (line_steps on prints bytes)
instr_late on true bytes = (tt, tt)
instr_late on false bytes = (tt, (tt, tt))

piece_late : (g : Geometry) (o : Routines) (turn : Turn) (table : List Named) (banks : Banks)
    (number : ℕ) (piece : Piece)
    → AllByRecursion IsLate (piece_steps g o turn table banks number piece)
piece_late g o turn table banks number (Wave wave) =
    (tt, lines_late number (said_in_rows g o table banks wave))
piece_late g o turn table banks number (Alone instr) =
    instr_late _ (is_print instr)
    (line number (said_by g o table banks instr))

pub pieces_late : (g : Geometry) (o : Routines) (turn : Turn) (table : List Named) (banks : Banks)
    (number : ℕ) (pieces : List Piece)
    → AllByRecursion IsLate (pieces_steps g o turn table banks number pieces)
pieces_late g o turn table banks number [] = tt
pieces_late g o turn table banks number (piece ∷ rest) =
    late_more (piece_steps g o turn table banks number piece) _
    (piece_late g o turn table banks number piece)
    (pieces_late g o (turn_after g o turn table piece) (table_at_end g o table (instrs_in piece))
    (banks_at_end g o table banks (instrs_in piece)) (number + length (instrs_in piece)) rest)

store_late : (all : Bool) (name : List ℕ) (program : Program) (script : List Instruction)
    (i : Image) → AllByRecursion IsLate (store_steps all name program script i)
store_late true name program script i = (tt, tt)
store_late false name program script i = tt

all_late : (names : TraceNames) (program : Program) (script : List Instruction) (i : Image)
    → AllByRecursion IsLate (recorded_steps names program script i)
all_late names program script i =
    late_more (script_steps program script i) _
    (pieces_late i.geometry (routines_in program) Ahead i.table (opened i) 1 (pieces script))
    (tt, (tt, store_late (fits program script i) names.trace.now program script i))

instr_begins : (on : ChipUse) (prints : Bool) (bytes : List ℕ) (rest : List Step)
    → BeginOnChip (line_steps on prints bytes ++ rest)
instr_begins on true bytes rest = refl
instr_begins on false bytes rest = refl

piece_begins : (g : Geometry) (o : Routines) (turn : Turn) (table : List Named) (banks : Banks)
    (number : ℕ) (piece : Piece) (rest : List Step)
    → BeginOnChip (piece_steps g o turn table banks number piece ++ rest)
piece_begins g o turn table banks number (Wave wave) rest = refl
piece_begins g o turn table banks number (Alone instr) rest =
    instr_begins _ (is_print instr)
    (line number (said_by g o table banks instr)) rest

-- the first of them uses the chip: that of a script, or without one the reading of the image
pieces_begin : (on : ChipUse) (g : Geometry) (o : Routines) (turn : Turn) (table : List Named) (banks : Banks)
    (number : ℕ) (pieces : List Piece) (rest : List Step)
    → BeginOnChip (pieces_steps g o turn table banks number pieces ++ (Use on ∷ rest))
pieces_begin on g o turn table banks number [] rest = refl
pieces_begin on g o turn table banks number (piece ∷ pieces) rest =
    let others = pieces_steps g o (turn_after g o turn table piece)
    (table_at_end g o table (instrs_in piece))
    (banks_at_end g o table banks (instrs_in piece)) (number + length (instrs_in piece)) pieces in
    subst BeginOnChip (sym (append_assoc (piece_steps g o turn table banks number piece) others
    (Use on ∷ rest)))
    (piece_begins g o turn table banks number piece (others ++ (Use on ∷ rest)))

all_are : (names : TraceNames) (program : Program) (script : List Instruction) (i : Image)
    → first_steps names.out.now program script i
    ++ store_steps (fits program script i) names.trace.now program script i
    ≡ recorded_steps names program script i
all_are names program script i = append_assoc (script_steps program script i) _ _

-- what was done over a recorder was done on its chip
below : (names : TraceNames) (program : Program) (script : List Instruction) (i : Image)
    (end : End) (files : FolderView) (sink : SinkView) (old new from : ChipView) (to : World)
    → old.faults ≡ from.faults → new.faults ≡ to.chip.faults → new.banks ≡ to.chip.banks
    → Goes (recorded_steps names program script i) end (world files sink from) to
    → Goes (recorded_steps names program script i) end (world files sink old)
    (world to.files to.sink new)
below names program script i end files sink old new from to p q r g =
    steps_are_below (recorded_steps names program script i) end (world files sink from) to old new
    (all_late names program script i)
    (pieces_begin _
    i.geometry (routines_in program) Ahead i.table (opened i) 1 (pieces script) _) p q
    r g

-- it stopped before OUT was stored
pub first_failed : (names : TraceNames) (program : Program) (script : List Instruction) (i : Image)
    (why : Stop) (m : Machine) (files : FolderView) (sink : SinkView) (old new from : ChipView)
    (to : World) → Started program i m from → old.faults ≡ from.faults
    → new.faults ≡ to.chip.faults → new.banks ≡ to.chip.banks
    → Goes (steps_on m from.banks script
    ++ (reading_on m from.banks script
    ∷ Store names.out.now (image_on m from.banks script) ∷ [])) (Stopped (reason_of why))
    (world files sink from) to
    → ScriptRecorded names program script i (world files sink old) (world to.files to.sink new)
    (Err why)
first_failed names program script i why m files sink old new from to s p q r g =
    let end = Stopped (reason_of why) in
    let first = subst (λ (xs : List Step). Goes xs end (world files sink from) to)
    (first_are names.out.now program script i m from s) g in
    inl (below names program script i end files sink old new from to p q r
    (subst (λ (xs : List Step). Goes xs end (world files sink from) to)
    (all_are names program script i)
    (stops (first_steps names.out.now program script i)
    (store_steps (fits program script i) names.trace.now program script i) (reason_of why)
    (world files sink from) to first)))

-- the recorder saw the script's events
saw_script : (program : Program) (script : List Instruction) (i : Image) (m : Machine)
    (from last : ChipView) (tape : NotesView) → IsProgram program → is_geometry i.geometry ≡ true
    → TableFits i.geometry i.table → AllByRecursion IsPlain script → Started program i m from
    → HasBegun from → Kept from (recorded last tape) → from.log ≡ Some empty_log
    → DidAndRead (events_on m script) (reads_on m script) from (recorded last tape)
    → Saw last tape (script_trace program i script).events
saw_script program script i m from last tape legal shape table plain s begun kept log did =
    let events = script_events i.geometry (routines_in program) i.table script in
    let same : last.geometry ≡ i.geometry = kept.geometry ∙ s.geometry in
    record {
      begun = kept.begun ∙ begun;
      legal = subst (λ (g : Geometry). AllByRecursion (IsEvent g) events) (sym same)
          (events_are_legal i.geometry program Ahead i.table script shape legal table plain);
      grew = subst (λ (l : _). Grew l (recorded last tape).log events) log
          (subst (Grew from.log (recorded last tape).log) (own_events program script i m from s)
          did.log);
    }

-- where the file of what it saw was spelled, all events fit, and it is the trace's
record SpelledBy (program : Program) (script : List Instruction) (i : Image) (file : List ℕ)
    : Type 0 where
  all : fits program script i ≡ true
  is : file ≡ bytes_of_trace (script_trace program i script)

spelled_by : (program : Program) (script : List Instruction) (i : Image) (g : Geometry)
    (table : List Named) (file : List ℕ) (all : Bool) → g ≡ i.geometry
    → table ≡ table_at_end i.geometry (routines_in program) i.table script → all ≡ true
    → Spelled g table (script_trace program i script).events file all
    → SpelledBy program script i file
spelled_by program script i g table file all e t true_is spelled =
    let events = (script_trace program i script).events in
    record {
      all = ap (λ (x : Geometry). all_fit x events) (sym e) ∙ sym spelled.all_is ∙ true_is;
      is = spelled.file_is true_is
          ∙ ap (λ (x : Geometry). trace_bytes x table events) e
          ∙ ap (λ (x : List Named). trace_bytes i.geometry x events) t;
    }

-- where it was not, they do not all fit
not_all : (g : Geometry) (program : Program) (script : List Instruction) (i : Image)
    (table : List Named) (file : List ℕ) (all : Bool) → g ≡ i.geometry → all ≡ false
    → Spelled g table (script_trace program i script).events file all
    → fits program script i ≡ false
not_all g program script i table file all e none spelled =
    ap (λ (x : Geometry). all_fit x (script_trace program i script).events) (sym e)
    ∙ sym spelled.all_is ∙ none

pub started_at : (program : Program) (i : Image) (m : Machine) (old from : ChipView)
    → OpensOn program i m old → from ≡ record old { log = Some empty_log }
    → Started program i m from
started_at program i m old from o e = record {
  machine_is = o.machine_is;
  holds = holds_of i.geometry i.table o.shape o.fits;
  banks = ap (λ (v : ChipView). v.banks) e ∙ o.opened_on.banks;
  counters = ap (λ (v : ChipView). v.counters) e ∙ o.opened_on.counters;
  geometry = ap (λ (v : ChipView). v.geometry) e ∙ o.opened_on.geometry;
}

-- a machine that was opened on the image, a recorder's view of its chip from the mark on, and what
-- it came to where OUT was stored: the view of the chip then, and the recorder's tape
pub record FirstDone (names : TraceNames) (script : List Instruction) (m : Machine)
    (files : FolderView) (sink : SinkView) (old from last : ChipView) (tape : NotesView)
    (after : FolderView) (sent : SinkView) (refused : ℕ) : Type 0 where
  pub plain : AllByRecursion IsPlain script
  pub same : from ≡ record old { log = Some empty_log }
  pub kept : Kept from (recorded last tape)
  pub goes : Goes (steps_on m from.banks script
      ++ (reading_on m from.banks script
      ∷ Store names.out.now (image_on m from.banks script) ∷ [])) Done
      (world files sink from) (world after sent (recorded last tape))
  pub did : DidAndRead (events_on m script) (reads_on m script) from (recorded last tape)
  pub count : refused ≡ count_by is_refused (replies (geometry_of m) (routines_in (program_of m))
      (table_in m) script)

module _ (names : TraceNames) (script : List Instruction) (m : Machine) (files : FolderView)
    (sink : SinkView) (old from last : ChipView) (tape : NotesView) (after : FolderView)
    (sent : SinkView) (refused : ℕ)
    (d : FirstDone names script m files sink old from last tape after sent refused)
    (program : Program) (i : Image) (o : OpensOn program i m old) where
  begun_at : Started program i m from
  begun_at = started_at program i m old from o d.same

  what_saw : Saw last tape (script_trace program i script).events
  what_saw = saw_script program script i m from last tape o.legal o.shape o.fits d.plain begun_at
      (ap (λ (v : ChipView). v.begun) d.same ∙ o.opened_on.begun) d.kept
      (ap (λ (v : ChipView). v.log) d.same) d.did

  own_shape : last.geometry ≡ i.geometry
  own_shape = d.kept.geometry ∙ begun_at.geometry

  own_left : WorkDone program script i (unlogged last) refused
  own_left =
      left_by program script i m from (recorded last tape) last refused begun_at d.did refl refl
      d.count (has_begun_below last tape what_saw.begun) own_shape

  -- all steps over the chip, where the store of the trace goes so
  went_all : (end : End) (to : World) → last.faults ≡ to.chip.faults → last.banks ≡ to.chip.banks
      → Goes (store_steps (fits program script i) names.trace.now program script i) end
      (world after sent (recorded last tape)) to
      → Goes (recorded_steps names program script i) end (world files sink old)
      (world to.files to.sink last)
  went_all end to q r g =
      let a = world files sink from in
      let mid = world after sent (recorded last tape) in
      let first = subst (λ (xs : List Step). Goes xs Done a mid)
      (first_are names.out.now program script i m from begun_at) d.goes in
      below names program script i end files sink old last from to
      (sym (ap (λ (v : ChipView). v.faults) d.same)) q r
      (subst (λ (xs : List Step). Goes xs end a to) (all_are names program script i)
      (goes_on (first_steps names.out.now program script i)
      (store_steps (fits program script i) names.trace.now program script i) end a mid to first g))

  -- too many events
  pub was_full : (table : List Named) (file : List ℕ) (all : Bool) → all ≡ false
      → ((events : List Event) → Saw last tape events
      → Spelled last.geometry table events file all)
      → ScriptRecorded names program script i (world files sink old) (world after sent last)
      (Err stop.TraceFull)
  was_full table file all e spelled =
      let mid = world after sent (recorded last tape) in
      let none = not_all last.geometry program script i table file all own_shape e
      (spelled (script_trace program i script).events what_saw) in
      inr (
        trace_full,
        ap unless_fits none,
        refl,
        went_all Done mid refl refl
            (subst (λ (b : Bool). Goes (store_steps b names.trace.now program script i) Done mid
            mid) (sym none) refl),
        (refused, own_left),
      )

  -- the file of all events was spelled
  own_spelled : (table : List Named) (file : List ℕ) (all : Bool) → all ≡ true
      → table ≡ table_at_end (geometry_of m) (routines_in (program_of m)) (table_in m) script
      → ((events : List Event) → Saw last tape events
      → Spelled last.geometry table events file all)
      → SpelledBy program script i file
  own_spelled table file all e t spelled =
      spelled_by program script i last.geometry table file all own_shape
      (t ∙ own_table program script i m from begun_at) e
      (spelled (script_trace program i script).events what_saw)

  store_goes : (file : List ℕ) (end : End) (a b : World) → SpelledBy program script i file
      → Goes (Store names.trace.now file ∷ []) end a b
      → Goes (store_steps (fits program script i) names.trace.now program script i) end a b
  store_goes file end a b s g =
      subst (λ (x : Bool). Goes (store_steps x names.trace.now program script i) end a b)
      (sym s.all)
      (subst (λ (bytes : List ℕ). Goes (Store names.trace.now bytes ∷ []) end a b) s.is g)

  -- and not stored, or stored
  pub trace_unstored : (table : List Named) (file : List ℕ) (all : Bool) (new : FolderView)
      (why : Stop) → all ≡ true
      → table ≡ table_at_end (geometry_of m) (routines_in (program_of m)) (table_in m) script
      → ((events : List Event) → Saw last tape events
      → Spelled last.geometry table events file all) → reason_of why ≡ CannotWrite names.trace.now
      → ((view : ChipView) → Unstored names.trace.now (world after sent view) (world new sent view))
      → ScriptRecorded names program script i (world files sink old) (world new sent last) (Err why)
  trace_unstored table file all new why e t spelled is u =
      let s = own_spelled table file all e t spelled in
      inl (went_all (Stopped (reason_of why)) (world new sent (recorded last tape)) refl refl
      (store_goes file (Stopped (reason_of why)) (world after sent (recorded last tape))
      (world new sent (recorded last tape)) s (inr (is, u (recorded last tape)))))

  pub trace_stored : (table : List Named) (file : List ℕ) (all : Bool) (new : FolderView)
      → all ≡ true
      → table ≡ table_at_end (geometry_of m) (routines_in (program_of m)) (table_in m) script
      → ((events : List Event) → Saw last tape events
      → Spelled last.geometry table events file all)
      → ((view : ChipView) → Stored names.trace.now file (world after sent view)
      (world new sent view))
      → ScriptRecorded names program script i (world files sink old) (world new sent last)
      (Ok refused)
  trace_stored table file all new e t spelled u =
      let s = own_spelled table file all e t spelled in
      let end = world new sent (recorded last tape) in (
        ap unless_fits s.all,
        went_all Done end refl refl (store_goes file Done (world after sent (recorded last tape)) end s
            (inl (end, (u (recorded last tape), refl)))),
        own_left,
      )

pub not_opened : (names : TraceNames) (program : Program) (script : List Instruction) (i : Image)
    (why : Stop) (a b : World) → Goes (opening i ∷ []) (Stopped (reason_of why)) a b
    → ScriptTraced names program script i a b (Err why)
not_opened names program script i why a b g = inl (inl (
  a,
  (refl, stops (opening i ∷ []) _ (reason_of why) a b g),
))

-- from the opening on
from_open : (names : TraceNames) (program : Program) (script : List Instruction) (i : Image)
    (end : End) (a b c : World) → Goes (opening i ∷ []) Done a b
    → Goes (recorded_steps names program script i
    ++ total_steps (fits program script i) program script i) end b c
    → Goes (traced_steps names program script i) end a c
from_open names program script i end a b c g h = inl (
  a,
  (
    refl,
    goes_on (opening i ∷ []) (recorded_steps names program script i
        ++ total_steps (fits program script i) program script i) end a b c g h,
  ),
)

fits_not : (b : Bool) (known : Refusal) → unless_fits b ≡ Some known → b ≡ false
fits_not true known e = absurd (cc)
fits_not false known e = refl

fits_so : (b : Bool) → unless_fits b ≡ None → b ≡ true
fits_so true e = refl
fits_so false e = absurd (cc)

-- the script was not done, or its trace is full or was not stored
pub not_recorded : (names : TraceNames) (program : Program) (script : List Instruction) (i : Image)
    (why : Stop) (a b c : World) → Goes (opening i ∷ []) Done a b
    → ScriptRecorded names program script i b c (Err why)
    → ScriptTraced names program script i a c (Err why)
not_recorded names program script i why a b c g (inl h) =
    inl (from_open names program script i (Stopped (reason_of why)) a b c g
    (stops (recorded_steps names program script i)
    (total_steps (fits program script i) program script i) (reason_of why) b c h))
not_recorded names program script i why a b c g (inr w) =
    inr (
      w.0,
      w.1,
      w.2,
      from_open names program script i Done a b c g
          (goes_on (recorded_steps names program script i)
          (total_steps (fits program script i) program script i) Done b c c w.3
          (subst (λ (x : Bool). Goes (total_steps x program script i) Done c c)
          (sym (fits_not (fits program script i) w.0 w.1)) refl)),
      w.4,
    )

total_goes : (program : Program) (script : List Instruction) (i : Image) (chip : ChipView)
    (refused : ℕ) (end : End) (a b : World) → fits program script i ≡ true
    → WorkDone program script i chip refused
    → Goes (Put (total_line chip.counters refused) ∷ []) end a b
    → Goes (total_steps (fits program script i) program script i) end a b
total_goes program script i chip refused end a b all w g =
    subst (λ (x : Bool). Goes (total_steps x program script i) end a b) (sym all)
    (total_is program script i chip refused end a b w g)

-- the line of the totals is not sent, or is
pub total_unsent : (names : TraceNames) (program : Program) (script : List Instruction) (i : Image)
    (refused : ℕ) (a b : World) (files : FolderView) (s t : SinkView) (chip : ChipView)
    → Goes (opening i ∷ []) Done a b
    → ScriptRecorded names program script i b (world files s chip) (Ok refused)
    → Known (AppendsPart (total_line chip.counters refused)) s.sent t.sent → s.faults ≤ t.faults
    → Rose s.faults t.faults
    → ScriptTraced names program script i a (world files t chip) (Err stop.PutFailed)
total_unsent names program script i refused a b files s t chip g w p n r =
    let mid = world files s chip in
    let end = world files t chip in
    inl (from_open names program script i (Stopped PutFailed) a b end g
    (goes_on (recorded_steps names program script i)
    (total_steps (fits program script i) program script i) (Stopped PutFailed) b mid end w.1
    (total_goes program script i (unlogged chip) refused (Stopped PutFailed) mid end
    (fits_so (fits program script i) w.0) w.2
    (inr (refl, sent (AppendsPart (total_line chip.counters refused)) files s t chip p n, r)))))

pub total_sent : (names : TraceNames) (program : Program) (script : List Instruction) (i : Image)
    (refused : ℕ) (a b : World) (files : FolderView) (s t : SinkView) (chip : ChipView)
    → Goes (opening i ∷ []) Done a b
    → ScriptRecorded names program script i b (world files s chip) (Ok refused)
    → Known (λ before after. after ≡ before ++ total_line chip.counters refused) s.sent t.sent
    → t.faults ≡ s.faults
    → ScriptTraced names program script i a (world files t chip) (Ok refused)
total_sent names program script i refused a b files s t chip g w p n =
    let mid = world files s chip in
    let end = world files t chip in
    let line = total_line chip.counters refused in (
      w.0,
      from_open names program script i Done a b end g
          (goes_on (recorded_steps names program script i)
          (total_steps (fits program script i) program script i) Done b mid end w.1
          (total_goes program script i (unlogged chip) refused Done mid end
          (fits_so (fits program script i) w.0) w.2
          (inl (end, (put line files s t chip p n, refl))))),
      w.2,
    )

-- so it goes by its plan

full_done : (all : Bool) (program : Program) (script : List Instruction) (i : Image) (refused : ℕ)
    (at : World) → all ≡ true → refused ≡ refused_by program script i
    → TraceLeft program script i at.chip
    → Runs (full_plan all program script i) at at (Ok (done_status refused))
full_done true program script i refused at e is left =
    subst (λ n. Runs (full_plan true program script i) at at (Ok n)) (sym (ap done_status is))
    (runs_answered (done_status (refused_by program script i)) (TraceLeft program script i) at left)
full_done false program script i refused at e is left = absurd (cc)

full_refused : (all : Bool) (program : Program) (script : List Instruction) (i : Image)
    (said : Refusal) (reason : Reason) (at : World) → unless_fits all ≡ Some said
    → reason ≡ Refused said → TraceLeft program script i at.chip
    → Runs (full_plan all program script i) at at (Err reason)
full_refused true program script i said reason at e is left = absurd (cc)
full_refused false program script i said reason at e is left =
    let same : trace_full ≡ said = cc in
    subst (λ (x : Reason). Runs (full_plan false program script i) at at (Err x))
    (ap (λ x. Refused x) same ∙ sym is)
    (runs_refused trace_full (TraceLeft program script i) at left)

-- of its own count of refusals
own_count : (program : Program) (script : List Instruction) (i : Image) (chip : ChipView)
    (refused : ℕ) → WorkDone program script i chip refused
    → WorkDone program script i chip (refused_by program script i)
own_count program script i chip refused w = record {
  begun = w.begun;
  geometry = w.geometry;
  banks = w.banks;
  counters = w.counters;
  log = w.log;
  refused_is = refl;
}

pub script_runs : (names : TraceNames) (program : Program) (script : List Instruction) (i : Image)
    (result : Result ℕ Stop) (old new : World) → IsImage i.geometry i.table i.rows
    → AllByRecursion IsPlain script → ScriptTraced names program script i old new result
    → Runs (traced_plan names program script i) old new (script_said result)
script_runs names program script i (Ok refused) old new is plain w =
    runs_then (traced_steps names program script i) _ _ old new new w.1
    (full_done (fits program script i) program script i refused new
    (fits_so (fits program script i) w.0) w.2.refused_is
    (is, plain, own_count program script i (unlogged new.chip) refused w.2))
script_runs names program script i (Err why) old new is plain (inl g) =
    runs_stopped (traced_steps names program script i) _ (reason_of why) old new g
script_runs names program script i (Err why) old new is plain
    (inr (said, some, by, g, (refused, w))) =
    runs_then (traced_steps names program script i) _ _ old new new g
    (full_refused (fits program script i) program script i said (reason_of why) new some by
    (is, plain, own_count program script i (unlogged new.chip) refused w))

-- a recorder stands on the chip that it was given
pub same_name : (a b : ℕ) (xs ys : List ℕ) → a ∷ xs ≡ b ∷ ys → a ≡ b
same_name a b xs ys e = cc

-- what is let go is what was lent
pub moved : {D : Type 0} (view : D → ChipView) (x y : D) (P : ChipView → Type 0) → x ≡ y
    → P (view y) → P (view x)
moved view x y P e p = subst (λ (d : _). P (view d)) (sym e) p

-- the table of an image fits its shape
pub table_fits : (g : Geometry) (table : Listing) → LiesOn g table → TableFits g table.pairs
table_fits g table lies = record { listed = lies.listed; objects = lies.objects }
