-- A guarded run that ends with 0 or 8 keeps its promises.
use Rattle.simdram_cli.proofs.Common.{◌≡◌, ℕ, ◌+◌, ◌<◌, Bool, true, false, List, [], ◌∷◌, ◌++◌}
use Rattle.simdram_cli.proofs.Common.{length, map, Option, Some, None, refl, sym, ◌∙◌, ap, subst}
use Rattle.simdram_cli.proofs.Common.{append-nil, append_assoc, Result, Ok, Err, AllByRecursion}
use Rattle.simdram_cli.proofs.Common.{result_ok, Geometry, Banks, column_count, Files, Known, Named}
use Rattle.simdram_cli.proofs.Common.{image_bytes, program_bytes, TextOp, ImplementsAll, text_op}
use Rattle.simdram_cli.proofs.Common.{ScriptFault, Instruction, Init, Bbop, Fill, Free, Order}
use Rattle.simdram_cli.proofs.Common.{script_of, IsPlain, replies, Counts, Routines, meaning_in}
use Rattle.simdram_cli.proofs.Common.{routines_in, routines_of, Image, opened, rows_in_banks, line}
use Rattle.simdram_cli.proofs.Common.{lines, total_line, same_operations, Flip, guarded_replies}
use Rattle.simdram_cli.proofs.Common.{guarded_rows, guarded_said_by, guarded_table}
use Rattle.simdram_cli.proofs.Common.{guarded_table_at_end, guarded_turn, mended, first_long_name}
use Rattle.simdram_cli.proofs.Common.{vote_line, first_stranger, guarded_steps, line_steps, World}
use Rattle.simdram_cli.proofs.Common.{with_file, Ahead, Turn, ChipUse, Step, Refusal, files_after}
use Rattle.simdram_cli.proofs.Common.{sent_by, is_print, IsDelivered, known_delivered, at_other}
use Rattle.simdram_cli.proofs.Common.{at_own}
use Rattle.bbop_isa.specs.Forms.{Load as ByLoad, Print as ByPrint}
use Rattle.machine_model.specs.declared.Reply.{Reply}
use Rattle.machine_model.specs.declared.Reply.TheVariants.{Done as ByDone, Refused}
use Rattle.machine_model.specs.Script.{plus}
use Rattle.guard_model.specs.Guarded.{joined, plain_ones, guarded_said_in_rows}
use Rattle.guard_model.specs.Laws.{HasName, IsGuarded}
use Rattle.guard_model.specs.Report.{guarded_report}
use Rattle.guard_model.specs.Survival.{HoldsWhole, Spot}
use Rattle.guard_model.proofs.Adding.{accepted_has_names}
use Rattle.guard_model.proofs.Whole.{guarded_text, triples_kept}
use Rattle.simdram_cli.specs.declared.words.GuardNames.{GuardNames}
use Rattle.simdram_cli.specs.Flips.{flips_in, in_triples, table_refusal, name_refusal, unless_some}
use Rattle.simdram_cli.specs.Flips.{with_short_names}
use Rattle.simdram_cli.specs.Guard.{GuardDoneOn, GuardJob, ElementsRight, Guarded, GuardedRows}
use Rattle.simdram_cli.specs.Guard.{GuardedWords, guard_job, image_at_last, last_steps, lone_by}
use Rattle.simdram_cli.specs.Guard.{lone_first, operations_by, refused_of, replies_by, replies_of}
use Rattle.simdram_cli.specs.Guard.{said_of, table_at_last, tally_of, votes_of, whole_at_last}
use Rattle.simdram_cli.specs.Guard.{whole_in, work_steps, guard_plan}
use Rattle.simdram_cli.specs.Headline.{IsNoBadWalk, read_as}
use Rattle.simdram_cli.specs.Inputs.{image_of, script_in, script_or_refusal}
use Rattle.simdram_cli.proofs.OpsPlans.{spells_at}
use Rattle.simdram_cli.proofs.Guarding.{Apart, apart}
use Rattle.simdram_cli.proofs.NoWalks.{AllEnd, all_end, no_walks}
use Rattle.simdram_cli.proofs.Promised.{kept_other}
use Rattle.simdram_cli.proofs.GuardPlanned.{guard_gives, guard_good, guard_takes}
use Rattle.simdram_cli.proofs.Planned.{Proved, spares_by, zero_or_eight_tells}
use Rattle.simdram_cli.specs.declared.words.Command.TheVariants.{Guard}

-- what the steps send and store

line_sent : (on : ChipUse) (prints : Bool) (bytes : List ℕ) (rest more : List Step)
    → sent_by ((line_steps on prints bytes ++ rest) ++ more) ≡ bytes ++ sent_by (rest ++ more)
line_sent on true bytes rest more = refl
line_sent on false bytes rest more = refl

script_sent : (g : Geometry) (o : Routines) (flips : List Flip) (k : ℕ) (turn : Turn)
    (table : List Named) (banks : Banks) (script : List Instruction) (more : List Step)
    → sent_by (guarded_steps g o flips k turn table banks script ++ more)
    ≡ lines k (guarded_said_in_rows g o flips k table banks script) ++ sent_by more
script_sent g o flips k turn table banks [] more = refl
script_sent g o flips k turn table banks (instr ∷ script) more =
    let now = mended g flips k table banks in
    let bytes = line k (guarded_said_by g o table now instr) in
    let after = guarded_turn g o turn table instr in
    let next = guarded_table g o table instr in
    let rows = guarded_rows g o table now instr in
    line_sent _ (is_print instr) bytes (guarded_steps g o flips (k + 1) after next rows script)
    more
    ∙ ap (λ w. bytes ++ w) (script_sent g o flips (k + 1) after next rows script more)
    ∙ sym (append_assoc bytes (lines (k + 1)
    (guarded_said_in_rows g o flips (k + 1) next rows script)) (sent_by more))

line_files : (on : ChipUse) (prints : Bool) (bytes : List ℕ) (rest more : List Step)
    (f : Files) → files_after ((line_steps on prints bytes ++ rest) ++ more) f
    ≡ files_after (rest ++ more) f
line_files on true bytes rest more f = refl
line_files on false bytes rest more f = refl

script_files : (g : Geometry) (o : Routines) (flips : List Flip) (k : ℕ) (turn : Turn)
    (table : List Named) (banks : Banks) (script : List Instruction) (more : List Step) (f : Files)
    → files_after (guarded_steps g o flips k turn table banks script ++ more) f
    ≡ files_after more f
script_files g o flips k turn table banks [] more f = refl
script_files g o flips k turn table banks (instr ∷ script) more f =
    let now = mended g flips k table banks in
    let after = guarded_turn g o turn table instr in
    let next = guarded_table g o table instr in
    let rows = guarded_rows g o table now instr in
    line_files _ (is_print instr) (line k (guarded_said_by g o table now instr))
    (guarded_steps g o flips (k + 1) after next rows script) more f
    ∙ script_files g o flips (k + 1) after next rows script more f

work_sent : (out : List ℕ) (job : GuardJob) → sent_by (work_steps out job)
    ≡ guarded_report (said_of job) (votes_of job) (length job.flips) (tally_of job)
    (replies_of job)
work_sent out job =
    let total = total_line (tally_of job) (refused_of job) in
    let votes = vote_line (votes_of job) (length job.flips) in
    script_sent job.image.geometry (routines_in job.program) job.flips 1 Ahead job.image.table
    (opened job.image) job.script (last_steps out job)
    ∙ ap (λ w. lines 1 (said_of job) ++ (votes ++ w)) (append-nil total)
    ∙ sym (append_assoc (lines 1 (said_of job)) votes total)

work_files : (out : List ℕ) (job : GuardJob) (f : Files) → files_after (work_steps out job) f
    ≡ with_file out (image_at_last job) f
work_files out job f = script_files job.image.geometry (routines_in job.program) job.flips 1
    Ahead job.image.table (opened job.image) job.script (last_steps out job) f

-- the image at the end, with these banks
abbrev image_spelled : GuardJob → Banks → List ℕ
image_spelled job banks = image_bytes job.image.geometry (table_at_last job) (rows_in_banks banks)

-- what an accepted script and an accepted image are

pub record ShortRead (read : Result (List Instruction) Refusal) (script : List Instruction) : Type 0
  where
    pub is : read ≡ Ok script
    pub short : first_long_name script ≡ None

short_by : (o : Option ℕ) (one script : List Instruction)
    → unless_some name_refusal o one ≡ Ok script → (one ≡ script) × (o ≡ None)
short_by None one script e = (cc, refl)
short_by (Some k) one script e = absurd (cc)

pub short_read : (read : Result (List Instruction) Refusal) (script : List Instruction)
    → with_short_names read ≡ Ok script → ShortRead read script
short_read (Ok one) script e =
    let both = short_by (first_long_name one) one script e in
    record {
      is = ap (λ (x : List Instruction). Ok x) both.0;
      short = ap first_long_name
          (sym both.0) ∙ both.1;
    }
short_read (Err r) script e = absurd (cc)

pub record TripleRead (read : Result Image Refusal) (i : Image) : Type 0 where
  pub is : read ≡ Ok i
  pub triples : first_stranger i.table ≡ None

triple_by : (o : Option ℕ) (one i : Image) → unless_some table_refusal o one ≡ Ok i
    → (one ≡ i) × (o ≡ None)
triple_by None one i e = (cc, refl)
triple_by (Some k) one i e = absurd (cc)

pub triple_read : (read : Result Image Refusal) (i : Image) → in_triples read ≡ Ok i
    → TripleRead read i
triple_read (Ok one) i e =
    let both = triple_by (first_stranger one.table) one i e in
    record {
      is = ap (λ (x : Image). Ok x) both.0;
      triples = ap (λ (x : Image). first_stranger
          x.table) (sym both.0) ∙ both.1;
    }
triple_read (Err r) i e = absurd (cc)

script_by : (read : Result (List Instruction) ScriptFault) (script : List Instruction)
    → script_or_refusal read ≡ Ok script → read ≡ Ok script
script_by (Ok one) script e = let same : one ≡ script = cc in ap (λ (x : List Instruction). Ok x)
    same
script_by (Err fault) script e = absurd (cc)

names_of : (text : List ℕ) (script : List Instruction) → script_in text ≡ Ok script
    → AllByRecursion HasName script
names_of text script e = accepted_has_names text script (script_by (script_of text) script e)

-- no walk is stuck

joined_walks : (counts : Counts) (rs : List Reply) → AllByRecursion IsNoBadWalk rs
    → IsNoBadWalk (joined counts rs)
joined_walks counts [] all = λ walk e. cc
joined_walks counts (ByDone more ∷ rs) all = joined_walks (plus counts more) rs all.1
joined_walks counts (Refused reason ∷ rs) all = all.0

ones_plain : (instr : Instruction) → IsPlain instr → AllByRecursion IsPlain (plain_ones instr)
ones_plain (Init name count n) plain = (plain, (plain, (plain, tt)))
ones_plain (Bbop op dst srcs count n) plain = (plain, (plain, (plain, tt)))
ones_plain (ByLoad name values) plain = (tt, (tt, (tt, tt)))
ones_plain (Fill name value) plain = (tt, (tt, (tt, tt)))
ones_plain (ByPrint name) plain = (tt, tt)
ones_plain (Free name) plain = (tt, (tt, (tt, tt)))
ones_plain (Order order) plain = (tt, tt)

walks_all : (g : Geometry) (o : Routines) (table : List Named) (script : List Instruction)
    → AllEnd o → AllByRecursion IsPlain script
    → AllByRecursion IsNoBadWalk (guarded_replies g o table script)
walks_all g o table [] ends plain = tt
walks_all g o table (instr ∷ script) ends plain = (
  joined_walks (record { aap = 0; ap = 0 }) (replies g o table (plain_ones instr))
      (no_walks g o table (plain_ones instr) ends (ones_plain instr plain.0)),
  walks_all g o (guarded_table g o table instr) script ends plain.1,
)

-- what is said in words

triples_end : (g : Geometry) (o : Routines) (table : List Named) (script : List Instruction)
    → AllByRecursion HasName script → first_stranger table ≡ None
    → first_stranger (guarded_table_at_end g o table script) ≡ None
triples_end g o table [] names none = none
triples_end g o table (instr ∷ script) names none =
    triples_end g o (guarded_table g o table instr) script names.1
    (triples_kept g o table instr names.0 none)

module _ (t : List TextOp) (job : GuardJob) (implements : ImplementsAll job.program t) where
  same : routines_of t job.program ≡ routines_in job.program
  same = same_operations job.program t implements

  replies_same : replies_of job ≡ replies_by t job
  replies_same = ap (λ (o : Routines). guarded_replies job.image.geometry o job.image.table
      job.script) (sym same)

  table_same : table_at_last job ≡ guarded_table_at_end job.image.geometry (operations_by t job)
      job.image.table job.script
  table_same =
      ap (λ (o : Routines). guarded_table_at_end job.image.geometry o job.image.table job.script)
      (sym same)

-- what is known of a job that was done
record IsDone (out : List ℕ) (job : GuardJob) (after : Files) (old new : World) (status : ℕ)
    : Type 0 where
  refused : ℕ
  done : GuardDoneOn job new.chip refused
  names : AllByRecursion HasName job.script
  triples : first_stranger job.image.table ≡ None
  rows : GuardedRows out job after old new status

elements_right : (t : List TextOp) (out : List ℕ) (job : GuardJob) (after : Files)
    (old new : World) (status : ℕ) → ImplementsAll job.program t
    → IsDone out job after old new status → (spot : Spot)
    → spot.column < column_count job.image.geometry
    → ElementsRight t job new.chip.banks spot
elements_right t out job after old new status implements d spot fits =
    let g : IsGuarded job.image.geometry (routines_in job.program) (meaning_in t) job.flips 1 spot
    (whole_in job spot) job.image.table (opened job.image) (lone_first job) job.script =
    subst (λ (o : Routines). IsGuarded job.image.geometry o (meaning_in t) job.flips 1 spot
    (whole_in job spot) job.image.table (opened job.image) (lone_first job) job.script)
    (same t job implements)
    (guarded_text job.program t job.image job.flips job.script d.done.image implements
    d.done.plain d.names d.triples spot fits) in
    record {
      held = subst (λ (b : Banks). HoldsWhole job.image.geometry b spot (whole_at_last job spot)
          (table_at_last job) (lone_by t job)) (sym d.rows.banks) g.holds;
      printed = g.prints;
    }

in_words : (t : List TextOp) (out : List ℕ) (job : GuardJob) (after : Files) (old new : World)
    (status : ℕ) → ImplementsAll job.program t → IsDone out job after old new status
    → GuardedWords t job new.chip.banks
in_words t out job after old new status implements d = record {
  replies = replies_same t job implements;
  walks = subst (AllByRecursion IsNoBadWalk) (replies_same t job implements)
      (walks_all job.image.geometry (routines_in job.program) job.image.table job.script
      (all_end job.program t implements) d.done.plain);
  table = table_same t job implements;
  triples = triples_end job.image.geometry (routines_in job.program) job.image.table job.script
      d.names d.triples;
  elements = elements_right t out job after old new status implements d;
}

-- A guarded run that was done keeps its promises
pub guard_promised : (names : GuardNames) (old new : World) (status : ℕ) → Apart names
    → IsDelivered (guard_plan names) old new status
    → Known (λ before after. Guarded names before after old new status) old.files.holds
    new.files.holds
guard_promised names old new status apart d =
    known_delivered (guard_plan names) old new status
    (λ before after. Guarded names before after old new status) d
    (λ before after said sent (
      ops,
      ops_there,
      u,
      ops_is,
      (
        program,
        v,
        (
          w,
          compiled,
          (
            script_text,
            script_there,
            script,
            script_is,
            (
              image_text,
              image_there,
              i,
              image_is,
              (flips_text, flips_there, flips, flips_is, (same, all, answers, left)),
            ),
          ),
        ),
      ),
    ).
    let job = guard_job program script i flips in
    let out = names.out.now in
    let bytes = program_bytes 2 program in
    let stored = with_file names.prog.now bytes before in
    let text = map text_op compiled.ops in
    let short = short_read (script_in script_text) script script_is in
    let triple = triple_read (image_of image_text) i image_is in
    let files = same ∙ work_files out job stored in
    let told = subst (λ (w : List ℕ). Known (λ x y. y ≡ x ++ w) old.sink.sent new.sink.sent)
    (all ∙ work_sent out job) sent in
    let rows : GuardedRows out job after old new status = record {
      begun = left.done.begun;
      geometry = left.done.geometry;
      banks = left.done.banks;
      counters = left.done.counters;
      log = left.done.log;
      file = ap (λ (x : Files). x out) files ∙ at_own out (image_at_last job) stored
          ∙ ap (λ (b : Banks). Some (image_spelled job b)) (sym left.done.banks);
      sent = subst (λ k. Known (λ x y. y ≡ x ++ guarded_report (said_of job) (votes_of job)
          (length job.flips) k (replies_of job)) old.sink.sent new.sink.sent)
          (sym left.done.counters) told;
      answers = answers;
    } in
    let done : IsDone out job after old new status = record {
      refused = refused_of job;
      done = left;
      names = names_of script_text script short.is;
      triples = triple.triples;
      rows = rows;
    } in
    record {
      text = text;
      job = job;
      of_files = record {
        ops = compiled.ops;
        are = spells_at (before names.ops.now) ops compiled.ops ops_there compiled.is;
        text = refl;
        script = ap (read_as script_in)
            (sym (at_other names.script.now names.prog.now bytes before apart.others.script)
            ∙ script_there) ∙ ap result_ok short.is;
        image = ap (read_as image_of)
            (sym (at_other names.image.now names.prog.now bytes before apart.others.image)
            ∙ image_there) ∙ ap result_ok triple.is;
      };
      short = short.short;
      triples = triple.triples;
      flips_are = ap (read_as (flips_in i.geometry (length script)))
          (sym (at_other names.flips.now names.prog.now bytes before apart.others.flips)
          ∙ flips_there) ∙ ap result_ok flips_is;
      program_written = record {
        file = ap (λ (x : Files). x names.prog.now) files
            ∙ at_other names.prog.now out (image_at_last job) stored apart.prog_out
            ∙ at_own names.prog.now bytes before;
        legal = compiled.legal;
        implements = compiled.implements;
        taken = compiled.taken;
      };
      exact = compiled.exact;
      rows = rows;
      words = λ t implements. in_words t out job after old new status implements done;
      others = kept_other names.prog.now out bytes (image_at_last job) before after files;
    })

pub guard_proved : (names : GuardNames) → Proved (Guard names)
guard_proved names = record {
  gives = guard_gives names;
  not_one = λ can. cc;
  good = λ holds are good. guard_good names holds (apart names are).others good;
  spares = spares_by (Some names.prog.now) (guard_plan names) (guard_takes names);
  tells = zero_or_eight_tells;
  promised = λ old new status d.
      guard_promised names old new status (apart names d.apart) d.delivers;
}
