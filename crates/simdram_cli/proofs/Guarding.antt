-- How a guarded run goes and ends.
use Rattle.simdram_cli.proofs.Common.{and_parts, ◌≡◌, ℕ, ◌+◌, ◌*◌, ◌≤◌, Bool, true, false, cond}
use Rattle.simdram_cli.proofs.Common.{List, [], ◌∷◌, ◌++◌, length, Option, Some, None, refl, sym}
use Rattle.simdram_cli.proofs.Common.{◌∙◌, ap, subst, inl, inr, append-nil, arith, map, Result, Ok}
use Rattle.simdram_cli.proofs.Common.{Err, IfOk, bytes_eq, count_by, not, AllByRecursion, list_all}
use Rattle.simdram_cli.proofs.Common.{option_map, length-map, Counters, Geometry, Banks, Event}
use Rattle.simdram_cli.proofs.Common.{Grew, Log, LogIs, ChipView, DidRead, with_reads, Kept}
use Rattle.simdram_cli.proofs.Common.{LogIs-more, Rose, FolderView, SinkView, Known, AppendsPart}
use Rattle.simdram_cli.proofs.Common.{ImageNo, Named, Found, IsFault, image_in, IsImage}
use Rattle.simdram_cli.proofs.Common.{image_bytes, StepFault, Instr, Instruction, view_of, lines_of}
use Rattle.simdram_cli.proofs.Common.{IsPlain, Image, opened, row_writes, rows_in_banks}
use Rattle.simdram_cli.proofs.Common.{routines_in, total_line, is_refused, Machine, Ahead}
use Rattle.simdram_cli.proofs.Common.{geometry_of, operations_by, table_in, turn_in, machine_on}
use Rattle.simdram_cli.proofs.Common.{Flip, FlipsFault, flips_of, guarded_replies}
use Rattle.simdram_cli.proofs.Common.{guarded_table_at_end, first_long_name, vote_line}
use Rattle.simdram_cli.proofs.Common.{first_stranger, guarded_steps, World, world, ChipUse, Step}
use Rattle.simdram_cli.proofs.Common.{Store, Use, Put, Refusal, Reason, Refused, NoMemory}
use Rattle.simdram_cli.proofs.Common.{CannotWrite, PutFailed, ChipFailed, End, Done, Stopped, Goes}
use Rattle.simdram_cli.proofs.Common.{LoadFails, Stored, Unstored, goes_on, stops, Answers, Runs}
use Rattle.simdram_cli.proofs.Common.{runs_answered, runs_stopped, runs_then, LoadedAs, NotRead}
use Rattle.simdram_cli.proofs.Common.{refusal_of}
use Rattle.std.specs.Prelude.{position}
use Rattle.std.specs.List.{position_from}
use Rattle.std.proofs.lemmas.Iterator.Adapters.{position_from-zero}
use Rattle.bbop_isa.specs.Words.{words_in}
use Rattle.text_lex.specs.Lexical.{items_of}
use Rattle.guard_model.specs.declared.FlipsKind.{FlipsKind}
use Rattle.guard_model.specs.FlipText.{and_rest, flip_in, flips_from, with_flip}
use Rattle.guard_model.specs.Guarded.{guarded_rows_at_end, guarded_tally, votes_at_end}
use Rattle.guard_model.specs.Named.{has_long_name}
use Rattle.guard_job.specs.Events.{run_events}
use Rattle.guard_job.specs.Steps.{end_by}
use Rattle.cli_model.specs.Steps.{CannotRead, TooLong}
use Rattle.cli_model.specs.Reads.{ReadAs}
use Rattle.simdram_cli.specs.declared.words.GuardNames.{GuardNames}
use Rattle.simdram_cli.specs.declared.words.TheConstants.{FLIPS_MAX, IMAGE_MAX, SCRIPT_MAX}
use Rattle.simdram_cli.specs.declared.stop.Stop.{Stop}
use Rattle.simdram_cli.specs.Flips.{flips_in, flips_or_refusal, flips_refusal, guarded_image_of}
use Rattle.simdram_cli.specs.Flips.{guarded_script_in, in_triples, name_refusal, table_refusal}
use Rattle.simdram_cli.specs.Flips.{unless_some, with_short_names}
use Rattle.simdram_cli.specs.Guard.{GuardDone, GuardJob, banks_at_last, events_of, image_at_last}
use Rattle.simdram_cli.specs.Guard.{last_steps, refused_of, table_at_last, tally_of, votes_of}
use Rattle.simdram_cli.specs.Guard.{work_steps, GuardDoneOn, guard_work_plan}
use Rattle.simdram_cli.specs.Inputs.{image_found, image_or_refusal, image_refusal, script_in}
use Rattle.simdram_cli.specs.Plans.{script_said}
use Rattle.simdram_cli.specs.Job.{done_status, opened_counters, opening, reading}
use Rattle.simdram_cli.specs.Stops.{end_of, fault_reason, image_reason, reason_of}
use Rattle.simdram_cli.specs.Words.{all_differ, guard_apart}
use Rattle.simdram_cli.specs.Works.{OpenedOn}
use Rattle.simdram_cli.proofs.Joins.{loaded_text, no_chip, no_sink}
use Rattle.simdram_cli.proofs.Running.{not_true, other_way}
use Rattle.simdram_cli.proofs.Scripts.{lines_long}
use Rattle.simdram_cli.proofs.Stores.{sent, used, put}
use Rattle.cli_model.specs.Waves.{banks_after}
use Rattle.object_alloc.specs.declared.fault.ImageNo.TheVariants as no
use Rattle.object_steps.specs.declared.fault.StepFault.TheVariants as step_fault

-- SCRIPT

either_none : (b : Bool) (i : ℕ) (rest : Option ℕ) → cond b (Some i) rest ≡ None
    → (b ≡ false) × (rest ≡ None)
either_none true i rest e = absurd (cc)
either_none false i rest e = (refl, e)

none_passes : {X : Type 0} (p : X → Bool) (i : ℕ) (xs : List X) → position_from p i xs ≡ None
    → AllByRecursion (λ x. p x ≡ false) xs
none_passes p i [] e = tt
none_passes p i (x ∷ xs) e =
    let here = either_none (p x) i (position_from p (i + 1) xs) e in
    (here.0, none_passes p (i + 1) xs here.1)

mapped_none : (o : Option ℕ) (f : ℕ → ℕ) → option_map f o ≡ None → o ≡ None
mapped_none None f e = refl
mapped_none (Some k) f e = absurd (cc)

-- a script none of whose objects has a long name
pub all_short : (script : List Instruction) → first_long_name script ≡ None
    → AllByRecursion (λ instr. has_long_name instr ≡ false) script
all_short script e =
    let none = mapped_none (position has_long_name script) (λ place. place + 1) e in
    none_passes has_long_name 0 script (sym (position_from-zero has_long_name script) ∙ none)

pub short_read : (name : List ℕ) (script : List Instruction) (old new : FolderView)
    → first_long_name script ≡ None → ReadAs script_in name SCRIPT_MAX script old new
    → ReadAs guarded_script_in name SCRIPT_MAX script old new
short_read name script old new none r = record {
  text = r.text;
  value_is = ap with_short_names r.value_is ∙ ap (λ o. unless_some name_refusal o script) none;
  loaded = r.loaded;
}

-- an instruction that names an object of more than 15 bytes
pub long_refused : (name : List ℕ) (script : List Instruction) (k : ℕ) (old new : FolderView)
    → first_long_name script ≡ Some k → ReadAs script_in name SCRIPT_MAX script old new
    → NotRead guarded_script_in name SCRIPT_MAX (Refused (name_refusal k)) old new
long_refused name script k old new some r =
    let refused : guarded_script_in r.text ≡ Err (name_refusal k) =
    ap with_short_names r.value_is ∙ ap (λ o. unless_some name_refusal o script) some in
    record {
      text = r.text;
      is_text = loaded_text name SCRIPT_MAX r.text (world old no_sink no_chip)
          (world new no_sink no_chip) (r.loaded no_sink no_chip);
      fails = λ sink chip. (ap refusal_of refused, r.loaded sink chip);
    }

-- a load that fails, where what refuses the text refuses it so too
fails_as : (name : List ℕ) (limit : ℕ) (text : List ℕ) (p q : Option Refusal) (reason : Reason)
    (a b : World) → ((r : Refusal) → p ≡ Some r → q ≡ Some r)
    → LoadFails name limit text p reason a b → LoadFails name limit text q reason a b
fails_as name limit text p q (CannotRead known) a b h f = f
fails_as name limit text p q (TooLong known) a b h f = f
fails_as name limit text p q (Refused r) a b h f = (h r f.0, f.1)
fails_as name limit text p q NoMemory a b h f = f
fails_as name limit text p q (CannotWrite known) a b h f = absurd f
fails_as name limit text p q PutFailed a b h f = absurd f
fails_as name limit text p q ChipFailed a b h f = absurd f

refused_short : (read : Result (List Instruction) Refusal) (r : Refusal)
    → refusal_of read ≡ Some r → refusal_of (with_short_names read) ≡ Some r
refused_short (Ok script) r e = absurd (cc)
refused_short (Err other) r e = e

pub guarded_unread : (name : List ℕ) (reason : Reason) (old new : FolderView)
    → NotRead script_in name SCRIPT_MAX reason old new
    → NotRead guarded_script_in name SCRIPT_MAX reason old new
guarded_unread name reason old new n = record {
  text = n.text;
  is_text = n.is_text;
  fails = λ sink chip. fails_as name SCRIPT_MAX n.text (refusal_of (script_in n.text))
      (refusal_of (guarded_script_in n.text)) reason (world old sink chip) (world new sink chip)
      (refused_short (script_in n.text)) (n.fails sink chip);
}

-- FLIPS

pub flips_refused : (g : Geometry) (instrs : ℕ) (text : List ℕ) (fault : FlipsFault)
    → flips_of g instrs text ≡ Err fault → flips_in g instrs text ≡ Err (flips_refusal fault)
flips_refused g instrs text fault e = ap flips_or_refusal e

pub flips_accepted : (g : Geometry) (instrs : ℕ) (text : List ℕ) (flips : List Flip)
    → flips_of g instrs text ≡ Ok flips → flips_in g instrs text ≡ Ok flips
flips_accepted g instrs text flips e = ap flips_or_refusal e

abbrev AtMost : ℕ → Result (List Flip) FlipsFault → Type 0
AtMost n read = (flips : List Flip) → read ≡ Ok flips → length flips ≤ n

after_flip : (f : Flip) (rest : Result (List Flip) FlipsFault) (lines : ℕ) → AtMost lines rest
    → AtMost (lines + 1) (with_flip f rest)
after_flip f (Err fault) lines more flips e = absurd (cc)
after_flip f (Ok others) lines more flips e =
    let few = more others refl in
    let same : f ∷ others ≡ flips = cc in
    subst (λ (xs : List Flip). length xs ≤ lines + 1) same (omega (arith, few))

line_few : (before number lines : ℕ) (said : Result (Option Flip) FlipsKind)
    (rest : ℕ → Result (List Flip) FlipsFault) → ((k : ℕ) → AtMost lines (rest k))
    → AtMost (lines + 1) (and_rest before number said rest)
line_few before number lines (Err kind) rest more flips e = absurd (cc)
line_few before number lines (Ok None) rest more flips e =
    let few = more before flips e in omega (arith, few)
line_few before number lines (Ok (Some f)) rest more flips e =
    after_flip f (rest f.before) lines (more f.before) flips e

flips_few : (g : Geometry) (instrs number : ℕ) (lines : List (List ℕ)) (before : ℕ)
    → AtMost (length lines) (flips_from g instrs number lines before)
flips_few g instrs number [] before flips e =
    let none : List Flip = [] in
    let same : none ≡ flips = cc in
    subst (λ (xs : List Flip). length xs ≤ 0) same (omega arith)
flips_few g instrs number (line ∷ lines) before flips e =
    let few = line_few before number (length lines)
    (flip_in g instrs before (words_in (items_of line)))
    (λ k. flips_from g instrs (number + 1) lines k)
    (λ k. flips_few g instrs (number + 1) lines k) flips e in
    omega (arith, few)

-- there are no more flips than bytes and one
pub accepted_flips : (g : Geometry) (instrs : ℕ) (text : List ℕ) (flips : List Flip)
    → flips_of g instrs text ≡ Ok flips → length flips ≤ length text + 1
accepted_flips g instrs text flips e =
    let p = flips_few g instrs 1 (lines_of text) 0 flips e in
    let l = lines_long text in
    omega (arith, p, l)

-- the script on the image

-- what stands before the end of a guarded script, with a machine of this shape and table
pub record Worked (job : GuardJob) (shape : Geometry) (table : List Named) (now : ChipView)
    (votes refused : ℕ) : Type 0 where
  pub shape_is : shape ≡ job.image.geometry
  pub table_is : table ≡ table_at_last job
  pub banks : now.banks ≡ banks_at_last job
  pub counters : now.counters ≡ guarded_tally job.image.geometry (routines_in job.program)
      job.image.table job.script job.flips (opened_counters job.image.geometry)
  pub log : LogIs (events_of job) now.log
  pub votes_is : votes ≡ votes_of job
  pub refused_is : refused ≡ refused_of job

-- a machine that was opened on the image of a job
pub record Begins (job : GuardJob) (m : Machine) (start : ChipView) : Type 0 where
  pub machine_is : m ≡ machine_on job.image.geometry job.program job.image.table
  pub opened_on : OpenedOn job.image start

-- what was done by such a machine
pub record Did (m : Machine) (flips : List Flip) (script : List Instruction) (last : List Named)
    (start now : ChipView) (votes refused : ℕ) : Type 0 where
  pub table_is : last ≡ guarded_table_at_end (geometry_of m) (operations_by m) (table_in m) script
  pub banks : now.banks ≡ guarded_rows_at_end (geometry_of m) (operations_by m) flips 1 (table_in m)
      start.banks script
  pub counters : now.counters
      ≡ guarded_tally (geometry_of m) (operations_by m) (table_in m) script flips start.counters
  pub log : Grew start.log now.log (run_events (geometry_of m) (operations_by m) flips 1
      (turn_in m) (table_in m) start.banks script)
  pub votes_is : votes ≡ votes_at_end (geometry_of m) (operations_by m) (table_in m) script
  pub refused_is : refused ≡ count_by is_refused (guarded_replies (geometry_of m)
      (operations_by m) (table_in m) script)

log_is : (i : Image) (events : List Event) (a b : Option Log) → LogIs (row_writes i) a
    → Grew a b events → LogIs (row_writes i ++ events) b
log_is i events a b is grew = LogIs-more (row_writes i) events a b is grew

pub worked : (job : GuardJob) (m : Machine) (own : Geometry) (last : List Named)
    (start now : ChipView) (votes refused : ℕ) → Begins job m start → own ≡ geometry_of m
    → Did m job.flips job.script last start now votes refused
    → Worked job own last now votes refused
worked job m own last start now votes refused b e d =
    let on = b.opened_on in
    record {
      shape_is = e ∙ ap geometry_of b.machine_is;
      table_is = rw b.machine_is at d.table_is;
      banks = rw (b.machine_is, on.banks) at d.banks;
      counters = rw (b.machine_is, on.counters) at d.counters;
      log = log_is job.image _ start.log now.log on.log (rw (b.machine_is, on.banks) at d.log);
      votes_is = rw b.machine_is at d.votes_is;
      refused_is = rw b.machine_is at d.refused_is;
    }

module _ (job : GuardJob) (shape : Geometry) (table : List Named) (now : ChipView)
    (votes refused : ℕ) (w : Worked job shape table now votes refused) where
  own_image : image_bytes shape table (rows_in_banks now.banks) ≡ image_at_last job
  own_image =
      ap (λ (s : Geometry). image_bytes s table (rows_in_banks now.banks)) w.shape_is
      ∙ ap (λ (t : List Named). image_bytes job.image.geometry t (rows_in_banks now.banks)) w.table_is
      ∙ ap (λ (b : Banks). image_bytes job.image.geometry (table_at_last job) (rows_in_banks b)) w.banks

  own_tally : with_reads (shape.banks * shape.rows) now.counters ≡ tally_of job
  own_tally =
      ap (λ (s : Geometry). with_reads (s.banks * s.rows) now.counters) w.shape_is
      ∙ ap (with_reads (job.image.geometry.banks * job.image.geometry.rows)) w.counters

  -- the steps at the end are those of the job
  pub last_are : (name : List ℕ) (end : End) (a b : World)
      → Goes (reading shape now.banks ∷ Store name (image_bytes shape table (rows_in_banks now.banks))
      ∷ Put (vote_line votes (length job.flips))
      ∷ Put (total_line (with_reads (shape.banks * shape.rows) now.counters) refused)
      ∷ []) end a b
      → Goes (last_steps name job) end a b
  last_are name end a b g =
      subst (λ (steps : List Step). Goes steps end a b)
      (ap (λ (s : Geometry). reading s now.banks ∷ Store name
      (image_bytes shape table (rows_in_banks now.banks))
      ∷ Put (vote_line votes (length job.flips))
      ∷ Put (total_line (with_reads (shape.banks * shape.rows) now.counters) refused)
      ∷ []) w.shape_is
      ∙ ap (λ (bytes : List ℕ). reading job.image.geometry now.banks ∷ Store name bytes
      ∷ Put (vote_line votes (length job.flips))
      ∷ Put (total_line (with_reads (shape.banks * shape.rows) now.counters) refused)
      ∷ []) own_image
      ∙ ap (λ (n : ℕ). reading job.image.geometry now.banks ∷ Store name (image_at_last job)
      ∷ Put (vote_line n (length job.flips))
      ∷ Put (total_line (with_reads (shape.banks * shape.rows) now.counters) refused)
      ∷ []) w.votes_is
      ∙ ap (λ (k : Counters). reading job.image.geometry now.banks ∷ Store name (image_at_last job)
      ∷ Put (vote_line (votes_of job) (length job.flips)) ∷ Put (total_line k refused) ∷ [])
      own_tally
      ∙ ap (λ (n : ℕ). reading job.image.geometry now.banks ∷ Store name (image_at_last job)
      ∷ Put (vote_line (votes_of job) (length job.flips)) ∷ Put (total_line (tally_of job) n) ∷ [])
      w.refused_is
      ∙ ap (λ (b : Banks). reading job.image.geometry b ∷ Store name (image_at_last job)
      ∷ Put (vote_line (votes_of job) (length job.flips))
      ∷ Put (total_line (tally_of job) (refused_of job)) ∷ []) w.banks) g

  -- what stands when all is done
  pub all_done : (start last : ChipView) → OpenedOn job.image start → Kept start last
      → DidRead (shape.banks * shape.rows) now last → GuardDone job last refused
  all_done start last opened_on kept read = record {
    begun = kept.begun ∙ opened_on.begun;
    geometry = kept.geometry ∙ opened_on.geometry;
    banks = read.banks ∙ w.banks;
    counters = read.counters ∙ own_tally;
    log = subst (λ (all : List Event). LogIs all last.log) (append-nil (events_of job))
        (LogIs-more (events_of job) [] now.log last.log w.log read.log);
    refused_is = w.refused_is;
  }

-- the steps of the script on a machine that was opened on the image are those of the job
pub script_are : (job : GuardJob) (m : Machine) (start : ChipView) (end : End) (a b : World)
    → (k : Begins job m start)
    → Goes (guarded_steps (geometry_of m) (operations_by m) job.flips 1 (turn_in m) (table_in m)
    start.banks job.script) end a b
    → Goes (guarded_steps job.image.geometry (routines_in job.program) job.flips 1 Ahead
    job.image.table (opened job.image) job.script) end a b
script_are job m start end a b k g = rw (k.machine_is, k.opened_on.banks) at g

-- a run that stopped at the opening or in the script, or went on to its end
pub stopped_open : (name : List ℕ) (job : GuardJob) (reason : Reason) (a b : World)
    → Goes (opening job.image ∷ []) (Stopped reason) a b → Goes (work_steps name job) (Stopped reason) a b
stopped_open name job reason a b g = stops (opening job.image ∷ []) (guarded_steps job.image.geometry
    (routines_in job.program) job.flips 1 Ahead job.image.table (opened job.image) job.script
    ++ last_steps name job) reason a b g

fault_end : (X : Type 0) (fault : StepFault) (reason : Reason) → reason ≡ fault_reason fault
    → end_by {X = X} (Err fault) ≡ Stopped reason
fault_end X step_fault.ChipFault reason e = ap Stopped (sym e)
fault_end X step_fault.WriteFault reason e = ap Stopped (sym e)

pub stopped_work : (X : Type 0) (name : List ℕ) (job : GuardJob) (fault : StepFault)
    (reason : Reason) (a b c : World) → reason ≡ fault_reason fault → Goes (opening job.image ∷ []) Done a b
    → Goes (guarded_steps job.image.geometry (routines_in job.program) job.flips 1 Ahead
    job.image.table (opened job.image) job.script) (end_by {X = X} (Err fault)) b c
    → Goes (work_steps name job) (Stopped reason) a c
stopped_work X name job fault reason a b c e g h =
    let steps = guarded_steps job.image.geometry (routines_in job.program) job.flips 1 Ahead
    job.image.table (opened job.image) job.script in
    goes_on (opening job.image ∷ []) (steps ++ last_steps name job) (Stopped reason) a b c g
    (stops steps (last_steps name job) reason b c
    (subst (λ (end : End). Goes steps end b c) (fault_end X fault reason e) h))

pub worked_on : (name : List ℕ) (job : GuardJob) (end : End) (a b c d : World)
    → Goes (opening job.image ∷ []) Done a b
    → Goes (guarded_steps job.image.geometry (routines_in job.program) job.flips 1 Ahead
    job.image.table (opened job.image) job.script) Done b c
    → Goes (last_steps name job) end c d → Goes (work_steps name job) end a d
worked_on name job end a b c d g h k =
    let steps = guarded_steps job.image.geometry (routines_in job.program) job.flips 1 Ahead
    job.image.table (opened job.image) job.script in
    goes_on (opening job.image ∷ []) (steps ++ last_steps name job) end a b d g
    (goes_on steps (last_steps name job) end b c d h k)

-- the end: the image is stored, and two lines are sent

pub puts_half : (first second : List ℕ) (files : FolderView) (s t u : SinkView) (chip : ChipView)
    → Known (λ before after. after ≡ before ++ first) s.sent t.sent → t.faults ≡ s.faults
    → Known (AppendsPart second) t.sent u.sent → t.faults ≤ u.faults → Rose t.faults u.faults
    → Goes (Put first ∷ Put second ∷ []) (Stopped PutFailed) (world files s chip)
    (world files u chip)
puts_half first second files s t u chip p n q m r = inl (
  world files t chip,
  (
    put first files s t chip p n,
    inr (refl, sent (AppendsPart second) files t u chip q m, r),
  ),
)

pub puts_done : (first second : List ℕ) (files : FolderView) (s t u : SinkView) (chip : ChipView)
    → Known (λ before after. after ≡ before ++ first) s.sent t.sent → t.faults ≡ s.faults
    → Known (λ before after. after ≡ before ++ second) t.sent u.sent → u.faults ≡ t.faults
    → Goes (Put first ∷ Put second ∷ []) Done (world files s chip) (world files u chip)
puts_done first second files s t u chip p n q m = inl (
  world files t chip,
  (
    put first files s t chip p n,
    inl (
      world files u chip,
      (put second files t u chip q m, refl),
    ),
  ),
)

pub not_stored : (on : ChipUse) (name bytes : List ℕ) (steps : List Step) (f g : FolderView)
    (s : SinkView) (a b : ChipView) → b.faults ≡ a.faults → b.banks ≡ banks_after on → Unstored name (world f s b) (world g s b)
    → Goes (Use on ∷ Store name bytes ∷ steps) (Stopped (CannotWrite name)) (world f s a) (world g s b)
not_stored on name bytes steps f g s a b l left u =
    inl (world f s b, (used _ f s a b l left, inr (refl, u)))

pub stored_then : (on : ChipUse) (name bytes : List ℕ) (steps : List Step) (end : End)
    (f g : FolderView) (s : SinkView) (a b : ChipView) (w : World) → b.faults ≡ a.faults
    → b.banks ≡ banks_after on → Stored name bytes (world f s b) (world g s b) → Goes steps end (world g s b) w
    → Goes (Use on ∷ Store name bytes ∷ steps) end (world f s a) w
stored_then on name bytes steps end f g s a b w l left u h =
    inl (world f s b, (used _ f s a b l left, inl (world g s b, (u, h))))

-- FLIPS, and the job that it makes

-- so it is read for a script as the code keeps it

pub unread_mapped : (g : Geometry) (name : List ℕ) (script : List Instr) (reason : Reason)
    (old new : FolderView)
    → NotRead (flips_in g (length script)) name FLIPS_MAX reason old new
    → NotRead (flips_in g (length (map view_of script))) name FLIPS_MAX reason old new
unread_mapped g name script reason old new n =
    subst (λ (k : ℕ). NotRead (flips_in g k) name FLIPS_MAX reason old new)
    (sym (length-map script view_of)) n

pub read_mapped : (g : Geometry) (name : List ℕ) (script : List Instr) (flips : List Flip)
    (old new : FolderView) → ReadAs (flips_in g (length script)) name FLIPS_MAX flips old new
    → ReadAs (flips_in g (length (map view_of script))) name FLIPS_MAX flips old new
read_mapped g name script flips old new r =
    subst (λ (k : ℕ). ReadAs (flips_in g k) name FLIPS_MAX flips old new)
    (sym (length-map script view_of)) r

-- IMAGE

-- why an image is not read
pub image_not : (name text : List ℕ) (why : ImageNo) (reason : Reason) (old new : FolderView)
    → LoadedAs name IMAGE_MAX text old new → IsFault why (image_in text)
    → reason ≡ image_reason why → NotRead guarded_image_of name IMAGE_MAX reason old new
image_not name text (no.Fault fault) reason old new loaded e f =
    let refused : guarded_image_of text ≡ Err (image_refusal fault) =
    ap (λ r. in_triples (image_or_refusal r)) e in
    record {
      text = text;
      is_text = loaded_text name IMAGE_MAX text (world old no_sink no_chip)
          (world new no_sink no_chip) (loaded no_sink no_chip);
      fails = λ sink chip. rw f (ap refusal_of refused, loaded sink chip);
    }
image_not name text no.NoMemory reason old new loaded e f = record {
  text = text;
  is_text = loaded_text name IMAGE_MAX text (world old no_sink no_chip)
      (world new no_sink no_chip) (loaded no_sink no_chip);
  fails = λ sink chip. rw f (loaded sink chip).reads;
}

pub image_is : (text : List ℕ) (found : Found) → image_in text ≡ Ok found
    → first_stranger found.table ≡ None → guarded_image_of text ≡ Ok (image_found found)
image_is text found e none =
    ap (λ r. in_triples (image_or_refusal r)) e
    ∙ ap (λ o. unless_some table_refusal o (image_found found)) none

-- a table with a stranger
pub strange : (name text : List ℕ) (found : Found) (k : ℕ) (old new : FolderView)
    → LoadedAs name IMAGE_MAX text old new → image_in text ≡ Ok found
    → first_stranger found.table ≡ Some k
    → NotRead guarded_image_of name IMAGE_MAX (Refused (table_refusal k)) old new
strange name text found k old new loaded e some =
    let refused : guarded_image_of text ≡ Err (table_refusal k) =
    ap (λ r. in_triples (image_or_refusal r)) e
    ∙ ap (λ o. unless_some table_refusal o (image_found found)) some in
    record {
      text = text;
      is_text = loaded_text name IMAGE_MAX text (world old no_sink no_chip)
          (world new no_sink no_chip) (loaded no_sink no_chip);
      fails = λ sink chip. (ap refusal_of refused, loaded sink chip);
    }

-- the guarded run

-- the files that are read after the store of PROG are not PROG
pub record AreOthers (names : GuardNames) : Type 0 where
  pub script : bytes_eq names.script.now names.prog.now ≡ false
  pub image : bytes_eq names.image.now names.prog.now ≡ false
  pub flips : bytes_eq names.flips.now names.prog.now ≡ false

-- so is OUT
pub record Apart (names : GuardNames) : Type 0 where
  pub others : AreOthers names
  pub prog_out : bytes_eq names.prog.now names.out.now ≡ false

-- the second of five names differs from the three after it
record SecondDiffers (b c d e : List ℕ) : Type 0 where
  third : bytes_eq b c ≡ false
  fourth : bytes_eq b d ≡ false
  fifth : bytes_eq b e ≡ false

second_differs : (a b c d e : List ℕ) → all_differ (a ∷ b ∷ c ∷ d ∷ e ∷ []) ≡ true
    → SecondDiffers b c d e
second_differs a b c d e all =
    let first = and_parts (list_all (λ other. not (bytes_eq a other)) (b ∷ c ∷ d ∷ e ∷ []))
    (all_differ (b ∷ c ∷ d ∷ e ∷ [])) all in
    let second = and_parts (list_all (λ other. not (bytes_eq b other)) (c ∷ d ∷ e ∷ []))
    (all_differ (c ∷ d ∷ e ∷ [])) first.1 in
    let one = and_parts (not (bytes_eq b c)) (list_all (λ other. not (bytes_eq b other)) (d ∷ e ∷ []))
    second.0 in
    let two = and_parts (not (bytes_eq b d)) (list_all (λ other. not (bytes_eq b other)) (e ∷ [])) one.1
    in
    let three = and_parts (not (bytes_eq b e)) true two.1 in
    record {
      third = not_true _ one.0;
      fourth = not_true _ two.0;
      fifth = not_true _ three.0;
    }

pub apart : (names : GuardNames) → guard_apart names ≡ true → Apart names
apart names e =
    let parts = and_parts (all_differ (names.ops.now ∷ names.prog.now ∷ names.script.now
    ∷ names.flips.now ∷ names.image.now ∷ [])) (all_differ (names.ops.now ∷ names.prog.now
    ∷ names.script.now ∷ names.flips.now ∷ names.out.now ∷ [])) e in
    let inputs = second_differs names.ops.now names.prog.now names.script.now names.flips.now
    names.image.now parts.0 in
    let outputs = second_differs names.ops.now names.prog.now names.script.now names.flips.now
    names.out.now parts.1 in
    record {
      others = record {
        script = other_way names.prog.now names.script.now inputs.third;
        image = other_way names.prog.now names.image.now inputs.fifth;
        flips = other_way names.prog.now names.flips.now inputs.fourth;
      };
      prog_out = outputs.fifth;
    }

-- the script was done with its flips, as far as nothing failed
pub guard_runs : (out : List ℕ) (job : GuardJob) (result : Result ℕ Stop) (old new : World)
    → IsImage job.image.geometry job.image.table job.image.rows → AllByRecursion IsPlain job.script
    → Goes (work_steps out job) (end_of result) old new
    → IfOk result (GuardDone job new.chip)
    → Runs (guard_work_plan out job) old new (script_said result)
guard_runs out job (Ok refused) old new is plain g d =
    let status = done_status (refused_of job) in
    let left = λ (chip : ChipView). GuardDoneOn job chip (refused_of job) in
    runs_then (work_steps out job) (Answers status left) (script_said (Ok refused)) old new new g
    (subst (λ n. Runs (Answers status left) new new (Ok n)) (sym (ap done_status d.refused_is))
    (runs_answered status left new (record {
      image = is;
      plain = plain;
      done = record {
        begun = d.begun;
        geometry = d.geometry;
        banks = d.banks;
        counters = d.counters;
        log = d.log;
        refused_is = refl;
      };
    })))
guard_runs out job (Err stop) old new is plain g d =
    runs_stopped (work_steps out job) _ (reason_of stop) old new g
