-- The facts of `scan`: how its parts go, its statuses, its files, its memory, and what one that is
-- done promises.
use Rattle.simdram_cli.proofs.Common.{and_parts, ◌≡◌, ℕ, ◌*◌, ◌≤◌, ◌^◌, Bool, true, List, [], ◌∷◌}
use Rattle.simdram_cli.proofs.Common.{◌++◌, Option, Some, None, refl, sym, ◌∙◌, ap, subst, inl, inr}
use Rattle.simdram_cli.proofs.Common.{arith, append-nil, map, zero-add, Result, Ok, Err, IfErr}
use Rattle.simdram_cli.proofs.Common.{IfSome, count_by, nat_le, ◌&&◌, range_with_len, result_ok}
use Rattle.simdram_cli.proofs.Common.{leb-true, fun_ext, Counters, Geometry, Banks, after}
use Rattle.simdram_cli.proofs.Common.{StoppedWithin, LogIs-more, is_geometry, is_between, fits_size}
use Rattle.simdram_cli.proofs.Common.{ChipView, Kept, with_reads, Rose, Files, FolderView, SinkView}
use Rattle.simdram_cli.proofs.Common.{Known, Named, image_in, Operation, Counts, IsProgram}
use Rattle.simdram_cli.proofs.Common.{ImplementsAll, text_op, program_bytes, AreExact, Why}
use Rattle.simdram_cli.proofs.Common.{Instruction, Turn, Ahead, Image, opened, row_writes}
use Rattle.simdram_cli.proofs.Common.{objects_held, Program, routines_in, events_of_pieces, pieces}
use Rattle.simdram_cli.proofs.Common.{script_events, with_counts, events_are_steps, DidAndRead}
use Rattle.simdram_cli.proofs.Common.{query_script, count_of, scan_script, scan_refused, Node}
use Rattle.simdram_cli.proofs.Common.{Query, nodes_of, World, world, ChipUse, IsLeftBy, Step, Take}
use Rattle.simdram_cli.proofs.Common.{Refusal, Reason, ChipFailed, End, Done, Stopped, Goes}
use Rattle.simdram_cli.proofs.Common.{sent_by, file_in, Makes, Plan, Then, LoadedAs, Runs}
use Rattle.simdram_cli.proofs.Common.{IsDelivered, Delivers, goes_on, stops, Gives, GoodFor, NotTen}
use Rattle.simdram_cli.proofs.Common.{TakesFirst, runs_made, runs_stopped, runs_then, OfSteps}
use Rattle.std.specs.Result.{IsOkAnd}
use Rattle.std.proofs.lemmas.Nat.{mul-le}
use Rattle.dram_model.specs.Elements.{segments_of}
use Rattle.object_alloc.specs.Reading.{Found as ImageIs}
use Rattle.scan_model.specs.declared.QueryFault.{QueryFault}
use Rattle.scan_model.specs.declared.ScanWhy.{ScanWhy}
use Rattle.scan_model.specs.Answers.{Answer, Found, Refused as NotFound, answer, by_checks, by_run}
use Rattle.scan_model.specs.Answers.{element_in, found_in, query_count}
use Rattle.scan_model.specs.Checks.{checked}
use Rattle.scan_model.specs.Laws.{element}
use Rattle.scan_model.specs.Operations.{scan_operations}
use Rattle.scan_model.specs.Queries.{matches}
use Rattle.scan_model.specs.Texts.{fault_in}
use Rattle.scan_model.proofs.Answered.{elements}
use Rattle.scan_query.specs.Answers.{CountersRose, answer_of, is_done}
use Rattle.scan_query.specs.Parsing.{IsQueryOf}
use Rattle.scan_query.specs.Queries.{IsNodesOf}
use Rattle.scan_query.specs.Running.{AreBelow, events_until, until_refused}
use Rattle.scan_query.specs.declared.query.ScanReply.{ScanReply}
use Rattle.cli_model.specs.Runs.{Went}
use Rattle.cli_model.proofs.Delivering.{if_delivered}
use Rattle.cli_model.proofs.Running.{if_all}
use Rattle.simdram_cli.specs.declared.words.Command.TheVariants.{Scan}
use Rattle.simdram_cli.specs.declared.words.ScanNames.{ScanNames}
use Rattle.simdram_cli.specs.declared.words.TheConstants.{IMAGE_MAX, QUERY_MAX}
use Rattle.simdram_cli.specs.declared.stop.Stop.{Stop}
use Rattle.simdram_cli.specs.Commands.{CanAnswer, AreGood}
use Rattle.simdram_cli.specs.Headline.{read_as}
use Rattle.simdram_cli.specs.Inputs.{image_found, image_of, image_or_refusal}
use Rattle.simdram_cli.specs.Job.{opened_counters, opening}
use Rattle.simdram_cli.specs.declared.completion.Completion.{Completion}
use Rattle.simdram_cli.specs.Plans.{said_of}
use Rattle.simdram_cli.specs.Queries.{Asks, AsksIn, query_in, query_refusal, scan_refusal}
use Rattle.simdram_cli.specs.Queries.{unless_broken}
use Rattle.simdram_cli.specs.Scan.{AnswerGoes, DoesScans, IsScanFile, QueryDone, QueryRead}
use Rattle.simdram_cli.specs.Scan.{QueryStopped, ScanLeft, Scanned, answer_on, answer_plan}
use Rattle.simdram_cli.specs.Scan.{count_line, number_found, query_plan, scan_counters, scan_counts}
use Rattle.simdram_cli.specs.Scan.{query_use, scan_image_plan, scan_plan, use_steps}
use Rattle.simdram_cli.specs.Stops.{reason_of}
use Rattle.simdram_cli.specs.Works.{OpenedOn}
use Rattle.simdram_cli.proofs.JobPlans.{good_file, image_refuses}
use Rattle.simdram_cli.proofs.Planned.{GivesOwn, IsFailing, IsOneOf, Proved, spares_by, zero_tells}
use Rattle.simdram_cli.proofs.Progress.{Holds}
use Rattle.cli_model.proofs.Doing.{nothing_read}
use Rattle.simdram_cli.proofs.Stores.{use_broke, used}
use Rattle.dram_model.specs.Chip.{Event}
use Rattle.machine_model.specs.Pieces.{piece_of}
use Rattle.sim_machine.specs.declared.machine.Machine.{Machine}
use Rattle.sim_machine.specs.Machine.{geometry_of, program_of, table_in, turn_in}
use Rattle.cli_model.specs.Waves.{banks_after}
use Rattle.scan_query.specs.declared.query.ScanReply.TheVariants as reply
use Rattle.simdram_cli.specs.declared.stop.Stop.TheVariants as stop

-- a query text

pub query_parsed : (name text : List ℕ) (nodes : List Node) (old new : FolderView)
    → LoadedAs name QUERY_MAX text old new → IsQueryOf text nodes → QueryRead name nodes old new
query_parsed name text nodes old new loaded is = record {
  text = text;
  loaded = loaded;
  accepted = ap unless_broken is.accepted;
  tree = is.tree;
  asks = is.says;
  nodes_are = is.nodes_are;
}

pub query_refused : (text : List ℕ) (fault : QueryFault) → fault_in text ≡ Some fault
    → query_in text ≡ Err (query_refusal fault)
query_refused text fault e = ap unless_broken e

-- the program

pub scan_file_is : (bytes : List ℕ) (program : Program) (ops : List Operation) → IsProgram program
    → ImplementsAll program (map text_op ops) → AreExact program ops → ops ≡ scan_operations
    → bytes ≡ program_bytes 2 program → IsScanFile bytes
scan_file_is bytes program ops legal implements exact same spelled = record {
  program = program;
  does = record {
    legal = legal;
    implements = subst (λ (xs : List Operation). ImplementsAll program (map text_op xs)) same
        implements;
    exact = subst (AreExact program) same exact;
  };
  spelled = spelled;
}

-- what is read of the file is the program
pub scan_file_opens : (bytes : List ℕ) (programs : Program) → (f : IsScanFile bytes)
    → ((p : Program) → IsProgram p → bytes ≡ program_bytes 2 p → programs ≡ p)
    → DoesScans programs
scan_file_opens bytes programs f opens =
    subst DoesScans (sym (opens f.program f.does.legal f.spelled)) f.does

-- what an answer says of the image

record PassesRun (o : Option (Why × ℕ)) (a : Answer) (found of : ℕ) (counts : Counts) : Type 0 where
  none : o ≡ None
  is : a ≡ Found found of counts

run_found : (o : Option (Why × ℕ)) (a : Answer) (found of : ℕ) (counts : Counts)
    → by_run o a ≡ Found found of counts → PassesRun o a found of counts
run_found None a found of counts e = record { none = refl; is = e }
run_found (Some (w, k)) a found of counts e = absurd (cc)

record PassesChecks (o : Option (ScanWhy × ℕ)) (a : Answer) (found of : ℕ) (counts : Counts)
    : Type 0 where
  none : o ≡ None
  is : a ≡ Found found of counts

checks_found : (o : Option (ScanWhy × ℕ)) (a : Answer) (found of : ℕ) (counts : Counts)
    → by_checks o a ≡ Found found of counts → PassesChecks o a found of counts
checks_found None a found of counts e = record { none = refl; is = e }
checks_found (Some (w, k)) a found of counts e = absurd (cc)

record FoundOn (program : Program) (q : Query) (i : Image) (found of : ℕ) (counts : Counts) : Type 0
  where
    fits : checked i.table (nodes_of q) ≡ None
    room : scan_refused i.geometry (routines_in program) i.table q ≡ None
    found_is : found ≡ found_in i.geometry (opened i) i.table q
    of_is : of ≡ query_count i.table q
    counts_are : counts ≡ scan_counts program q i

same_found : (a b c d : ℕ) (x y : Counts) → Found a b x ≡ Found c d y
    → (c ≡ a) × (d ≡ b) × (y ≡ x)
same_found a b c d x y e = (cc, cc, cc)

found_on : (program : Program) (q : Query) (i : Image) (found of : ℕ) (counts : Counts)
    → answer_on program q i ≡ Found found of counts → FoundOn program q i found of counts
unfolding answer
found_on program q i found of counts e =
    let ran = scan_refused i.geometry (routines_in program) i.table q in
    let whole = Found (found_in i.geometry (opened i) i.table q) (query_count i.table q)
    (scan_counts program q i) in
    let checks = checks_found (checked i.table (nodes_of q)) (by_run ran whole) found of counts e in
    let run = run_found ran whole found of counts checks.is in
    let same = same_found _ _ _ _ _ _ run.is in
    record {
      fits = checks.none;
      room = run.none;
      found_is = same.0;
      of_is = same.1;
      counts_are = same.2;
    }

number_is : (q : Query) (i : Image)
    → found_in i.geometry (opened i) i.table q ≡ number_found q i
number_is q i =
    let same : (λ e. matches q (element_in i.geometry (opened i) i.table e))
    ≡ (λ e. matches q (element (objects_held i) e)) =
    fun_ext (λ e. ap (matches q) (fun_ext (λ name.
    sym (elements i.geometry (opened i) i.table e name)))) in
    ap (λ (test : ℕ → Bool). count_by test (range_with_len 0 (query_count i.table q))) same

-- the chip begins, and the query is done on it

pub no_stage : (program : Program) (q : Query) (i : Image) (w : World)
    → AnswerGoes program q i (Err stop.NoMemory) w w
no_stage program q i w = inr (refl, nothing_read w)

pub not_opened : (program : Program) (q : Query) (i : Image) (why : Stop) (a b : World)
    → Goes (opening i ∷ []) (Stopped (reason_of why)) a b → AnswerGoes program q i (Err why) a b
not_opened program q i why a b g = inl (
  a,
  (
    refl,
    stops (opening i ∷ []) (use_steps (query_use program q i) (checked i.table (nodes_of q)))
        (reason_of why) a b g,
  ),
)

-- the chip is used where no comparison is at fault
use_failed : (on : ChipUse) (o : Option (ScanWhy × ℕ)) (files : FolderView)
    (sink : SinkView) (a b : ChipView) → a.faults ≤ b.faults → Rose a.faults b.faults
    → IsLeftBy on b.banks → ((fault : ScanWhy × ℕ) → o ≡ Some fault → ⊥)
    → Goes (use_steps on o) (Stopped ChipFailed) (world files sink a) (world files sink b)
use_failed on None files sink a b l r left none = inr (refl, use_broke files sink a b l, r, left)
use_failed on (Some fault) files sink a b l r left none = absurd (none fault refl)

use_done : (on : ChipUse) (o : Option (ScanWhy × ℕ)) (files : FolderView) (sink : SinkView)
    (a b : ChipView) → b.faults ≡ a.faults → (o ≡ None → b.banks ≡ banks_after on) → ((fault : ScanWhy × ℕ) → o ≡ Some fault → b ≡ a)
    → Goes (use_steps on o) Done (world files sink a) (world files sink b)
use_done on None files sink a b e left same =
    inl (world files sink b, (used _ files sink a b e (left refl), refl))
use_done on (Some fault) files sink a b e left same = ap (world files sink) (same fault refl)

taken_open : (i : Image) (on : ChipUse) (o : Option (ScanWhy × ℕ)) (end : End)
    (a b c : World) → Goes (opening i ∷ []) Done a b
    → Goes (use_steps on o) end b c → Goes (Take ∷ opening i ∷ use_steps on o) end a c
taken_open i on o end a b c g h =
    inl (a, (refl, goes_on (opening i ∷ []) (use_steps on o) end a b c g h))

not_ok : {T E : Type 0} (r : Result T E) (e : E) (P : T → Type 0) → r ≡ Err e → IsOkAnd r P → ⊥
not_ok (Ok x) e P is ok = absurd (cc)
not_ok (Err x) e P is ok = ok

ok_and : {T E : Type 0} (r : Result T E) (x : T) (P : Type 0) → r ≡ Ok x
    → IsOkAnd r (λ y. P) → P
ok_and (Ok y) x P is ok = ok
ok_and (Err y) x P is ok = absurd (cc)

-- a chip that was opened on the image, and the query run on it
pub record RanOn (program : Program) (q : Query) (i : Image) (nodes : List Node) (table : List
    Named)
    (old new : ChipView) : Type 0 where
  pub table_is : table ≡ i.table
  pub nodes_are : IsNodesOf q nodes
  pub opened_on : OpenedOn i old

pub checks_are : (program : Program) (q : Query) (i : Image) (nodes : List Node)
    (table : List Named) (old new : ChipView) → RanOn program q i nodes table old new
    → checked i.table (nodes_of q) ≡ checked table nodes
checks_are program q i nodes table old new r =
    ap (λ (t : List Named). checked t (nodes_of q)) (sym r.table_is)
    ∙ ap (checked table) (sym r.nodes_are.nodes_are)

pub asked_failed : {E : Type 0} (program : Program) (q : Query) (i : Image) (nodes : List Node)
    (table : List Named) (files : FolderView) (sink : SinkView) (before old new : ChipView)
    (r : Result ScanReply E) (e : E) → RanOn program q i nodes table old new
    → Goes (opening i ∷ []) Done (world files sink before) (world files sink old)
    → r ≡ Err e → old.faults ≤ new.faults → Rose old.faults new.faults
    → IsLeftBy (query_use program q i) new.banks
    → ((found : ScanWhy × ℕ) → checked table nodes ≡ Some found → IsOkAnd r (λ said. new ≡ old))
    → AnswerGoes program q i (Err stop.ChipFailed) (world files sink before) (world files sink new)
asked_failed program q i nodes table files sink before old new r e ran g is l rose left unused =
    let on = query_use program q i in
    let o = checked i.table (nodes_of q) in
    taken_open i on o (Stopped ChipFailed) (world files sink before) (world files sink old)
    (world files sink new) g
    (use_failed on o files sink old new l rose left (λ fault some.
    not_ok r e (λ said. new ≡ old) is (unused fault
    (sym (checks_are program q i nodes table old new ran) ∙ some))))

from_opened : (g : Geometry) (of : ℕ) (counts : Counts)
    → with_reads (segments_of g of) (with_counts (opened_counters g) counts)
    ≡ scan_counters g of counts
from_opened g of counts =
    rw (zero-add counts.aap, zero-add counts.ap, zero-add (segments_of g of)) refl

-- the counters of a scan that is done
counted_done : (program : Program) (q : Query) (i : Image) (nodes : List Node) (table : List Named)
    (old new : ChipView) (said : ScanReply) (found of : ℕ) (counts : Counts) (g : Geometry)
    → RanOn program q i nodes table old new → g ≡ i.geometry → of ≡ query_count i.table q
    → answer_of said ≡ Found found of counts
    → CountersRose said (segments_of g (count_of table nodes)) old.counters new.counters
    → new.counters ≡ scan_counters i.geometry of counts
counted_done program q i nodes table old new (reply.Refused why k) found of counts g ran shape of_is
    e rose = absurd (cc)
counted_done program q i nodes table old new (reply.Done f n c) found of counts g ran shape of_is e
    rose =
    let same = same_found f n found of c counts e in
    let many : count_of table nodes ≡ of =
    ap (λ (t : List Named). count_of t nodes) ran.table_is
    ∙ ap (count_of i.table) ran.nodes_are.nodes_are ∙ sym of_is in
    let reads : segments_of g (count_of table nodes) ≡ segments_of i.geometry of =
    ap (λ (x : Geometry). segments_of x (count_of table nodes)) shape
    ∙ ap (segments_of i.geometry) many in
    rose
    ∙ ap (λ (k : Counters). with_reads (segments_of g (count_of table nodes)) (with_counts k c))
    ran.opened_on.counters
    ∙ ap (λ n. with_reads n (with_counts (opened_counters i.geometry) c)) reads
    ∙ ap (λ (k : Counts). with_reads (segments_of i.geometry of)
    (with_counts (opened_counters i.geometry) k)) (sym same.2)
    ∙ from_opened i.geometry of counts

done_reply : (said : ScanReply) (found of : ℕ) (counts : Counts)
    → answer_of said ≡ Found found of counts → is_done said ≡ true
done_reply (reply.Done f n c) found of counts e = refl
done_reply (reply.Refused why k) found of counts e = absurd (cc)

-- the events of the query's instructions, on the image's table
own_events : (program p : Program) (i : Image) (shape : Geometry) (table : List Named) (turn : Turn)
    (script own : List Instruction) (reads : ℕ) (a b : ChipView) → shape ≡ i.geometry
    → p ≡ program → table ≡ i.table → turn ≡ Ahead → script ≡ own
    → DidAndRead (events_of_pieces shape (routines_in p) turn table (pieces script)) reads a b
    → DidAndRead (script_events i.geometry (routines_in program) i.table own) reads a b
own_events program p i shape table turn script own reads a b e f t o s did =
    rw (e, f, t, o, s) at did

pub own_script : (program : Program) (q : Query) (i : Image) (nodes : List Node)
    (table : List Named) (old new : ChipView) → RanOn program q i nodes table old new
    → scan_script table nodes ≡ query_script i.table q
own_script program q i nodes table old new r =
    ap (λ (t : List Named). scan_script t nodes) r.table_is
    ∙ ap (scan_script i.table) r.nodes_are.nodes_are

-- what the instructions of a query leave, on a machine that was opened on the image
pub query_done : (program p : Program) (q : Query) (i : Image) (nodes : List Node)
    (shape : Geometry) (table : List Named) (turn : Turn) (reads : ℕ) (old new : ChipView)
    → RanOn program q i nodes table old new → Holds i.geometry i.table → shape ≡ i.geometry
    → p ≡ program → turn ≡ Ahead
    → DidAndRead (events_of_pieces shape (routines_in p) turn table
    (pieces (scan_script table nodes))) reads old new
    → QueryDone program q i new
query_done program p q i nodes shape table turn reads old new ran holds e f o ran_events =
    let script = query_script i.table q in
    let events = script_events i.geometry (routines_in program) i.table script in
    let did : DidAndRead events reads old new =
    own_events program p i shape table turn (scan_script table nodes) script reads old new e f
    ran.table_is o (own_script program q i nodes table old new ran) ran_events in
    record {
      banks = did.banks ∙ ap (after events) ran.opened_on.banks
          ∙ events_are_steps i.geometry (routines_in program) Ahead i.table script (opened i)
          holds.words holds.fits;
      log = LogIs-more (row_writes i) events old.log new.log ran.opened_on.log did.log;
    }

-- the events of its instructions before the first that is refused
own_use : (program p : Program) (i : Image) (shape : Geometry) (table : List Named) (turn : Turn)
    (script own : List Instruction) → shape ≡ i.geometry → p ≡ program → table ≡ i.table
    → turn ≡ Ahead → script ≡ own
    → events_of_pieces shape (routines_in p) turn table (map piece_of (until_refused shape
    (routines_in p) table script))
    ≡ events_of_pieces i.geometry (routines_in program) Ahead i.table (map piece_of (until_refused
    i.geometry (routines_in program) i.table own))
own_use program p i shape table turn script own e f t o s = rw (e, f, t, o, s) refl

own_count : (program : Program) (q : Query) (i : Image) (nodes : List Node)
    (table : List Named) (old new : ChipView) → RanOn program q i nodes table old new
    → count_of table nodes ≡ query_count i.table q
own_count program q i nodes table old new r =
    ap (λ (t : List Named). count_of t nodes) r.table_is
    ∙ ap (count_of i.table) r.nodes_are.nodes_are

-- what the chip has where it failed among them
pub query_left : (program : Program) (q : Query) (i : Image) (nodes : List Node) (m : Machine)
    (old new : ChipView) → RanOn program q i nodes (table_in m) old new
    → geometry_of m ≡ i.geometry → program_of m ≡ program → turn_in m ≡ Ahead
    → StoppedWithin (segments_of (geometry_of m) (count_of (table_in m) nodes))
    (events_until m (scan_script (table_in m) nodes)) old.banks new.banks
    → IsLeftBy (query_use program q i) new.banks
query_left program q i nodes m old new ran e f o left =
    let on = query_use program q i in
    let same : segments_of (geometry_of m) (count_of (table_in m) nodes) ≡ on.reads =
    ap (λ (g : Geometry). segments_of g (count_of (table_in m) nodes)) e
    ∙ ap (segments_of i.geometry) (own_count program q i nodes (table_in m) old new ran) in
    let events = own_use program (program_of m) i (geometry_of m) (table_in m) (turn_in m)
    (scan_script (table_in m) nodes) (query_script i.table q) e f ran.table_is o
    (own_script program q i nodes (table_in m) old new ran) in
    subst (λ (banks : Banks). StoppedWithin on.reads on.events banks new.banks) ran.opened_on.banks
    (subst (λ (es : List Event). StoppedWithin on.reads es old.banks new.banks) events
    (subst (λ (n : ℕ). StoppedWithin n (events_until m (scan_script (table_in m) nodes)) old.banks
    new.banks) same left))

-- and where it did not
pub query_used : (program : Program) (q : Query) (i : Image) (nodes : List Node) (m : Machine)
    (old new : ChipView) → RanOn program q i nodes (table_in m) old new
    → geometry_of m ≡ i.geometry → program_of m ≡ program → turn_in m ≡ Ahead
    → new.banks ≡ after (events_until m (scan_script (table_in m) nodes)) old.banks
    → new.banks ≡ banks_after (query_use program q i)
query_used program q i nodes m old new ran e f o used =
    used
    ∙ ap (λ (es : List Event). after es old.banks) (own_use program (program_of m) i (geometry_of m)
    (table_in m) (turn_in m) (scan_script (table_in m) nodes) (query_script i.table q) e f
    ran.table_is o (own_script program q i nodes (table_in m) old new ran))
    ∙ ap (after (query_use program q i).events) ran.opened_on.banks

pub asked_done : {E : Type 0} (program : Program) (q : Query) (i : Image) (nodes : List Node)
    (table : List Named) (files : FolderView) (sink : SinkView) (before old new : ChipView)
    (r : Result ScanReply E) (said : ScanReply) (g : Geometry)
    → RanOn program q i nodes table old new
    → Goes (opening i ∷ []) Done (world files sink before) (world files sink old) → r ≡ Ok said
    → g ≡ i.geometry → answer_of said ≡ answer_on program q i
    → CountersRose said (segments_of g (count_of table nodes)) old.counters new.counters
    → ((found : ScanWhy × ℕ) → checked table nodes ≡ Some found → IsOkAnd r (λ said. new ≡ old))
    → (checked table nodes ≡ None → new.banks ≡ banks_after (query_use program q i))
    → (is_done said ≡ true → QueryDone program q i new) → Kept old new → new.faults ≡ old.faults
    → ((reason : Why) (k : ℕ) → checked i.table (nodes_of q) ≡ None
    → scan_refused i.geometry (routines_in program) i.table q ≡ Some (reason, k)
    → QueryStopped program q i reason new)
    → AnswerGoes program q i (Ok said) (world files sink before) (world files sink new)
asked_done program q i nodes table files sink before old new r said g ran opens is shape says rose
    unused used did kept unfailed stopped =
    let o = checked i.table (nodes_of q) in
    let stays : (fault : ScanWhy × ℕ) → o ≡ Some fault → new ≡ old = λ fault some.
    ok_and r said (new ≡ old) is (unused fault
    (sym (checks_are program q i nodes table old new ran) ∙ some)) in (
      says,
      taken_open i (query_use program q i) o Done (world files sink before)
          (world files sink old) (world files sink new) opens
          (use_done (query_use program q i) o files sink old new unfailed
          (λ none. used (sym (checks_are program q i nodes table old new ran) ∙ none)) stays),
      record {
        begun = kept.begun ∙ ran.opened_on.begun;
        geometry = kept.geometry ∙ ran.opened_on.geometry;
        unused = λ fault some. subst (OpenedOn i) (sym (stays fault some)) ran.opened_on;
        stopped = stopped;
        counted = λ found of counts e. counted_done program q i nodes table old new said found of
            counts g ran shape (found_on program q i found of counts e).of_is (says ∙ e) rose;
        worked = λ found of counts e. did (done_reply said found of counts (says ∙ e));
      },
    )

-- the answer, as a machine that was opened on the image has it
pub answer_moves : (program p : Program) (q : Query) (i : Image) (g : Geometry) (banks : Banks)
    (table : List Named) (a : Answer) → g ≡ i.geometry → p ≡ program → banks ≡ opened i
    → table ≡ i.table → a ≡ answer g (routines_in p) banks table q → a ≡ answer_on program q i
answer_moves program p q i g banks table a shape same there listed e =
    e ∙ ap (λ (x : Geometry). answer x (routines_in p) banks table q) shape
    ∙ ap (λ (x : Program). answer i.geometry (routines_in x) banks table q) same
    ∙ ap (λ (x : Banks). answer i.geometry (routines_in program) x table q) there
    ∙ ap (λ (x : List Named). answer i.geometry (routines_in program) (opened i) x q) listed

-- the counters of an opened chip are far from their ends

record Small (g : Geometry) : Type 0 where
  banks : g.banks ≤ 16
  rows : g.rows ≤ 1006

small_of : (g : Geometry) → is_geometry g ≡ true → Small g
small_of g e =
    let one = and_parts (is_between 1 16 g.banks && is_between 64 1006 g.rows
    && is_between 1 1024 g.words) (fits_size g) e in
    let two = and_parts (is_between 1 16 g.banks && is_between 64 1006 g.rows)
    (is_between 1 1024 g.words) one.0 in
    let three = and_parts (is_between 1 16 g.banks) (is_between 64 1006 g.rows) two.0 in
    let banks = and_parts (nat_le 1 g.banks) (nat_le g.banks 16) three.0 in
    let rows = and_parts (nat_le 64 g.rows) (nat_le g.rows 1006) three.1 in
    record { banks = leb-true g.banks 16 banks.1; rows = leb-true g.rows 1006 rows.1 }

pub room_opened : (i : Image) (chip : ChipView) → is_geometry i.geometry ≡ true → OpenedOn i chip
    → AreBelow (2 ^ 62) chip.counters
room_opened i chip ok o =
    let small = small_of i.geometry ok in
    let all : i.geometry.banks * i.geometry.rows ≤ 16 * 1006 =
    mul-le _ _ _ _ small.banks small.rows in
    let aap = ap (λ (k : Counters). k.aap) o.counters in
    let ap' = ap (λ (k : Counters). k.ap) o.counters in
    let writes = ap (λ (k : Counters). k.writes) o.counters in
    let reads = ap (λ (k : Counters). k.reads) o.counters in
    record {
      aap = omega (arith, aap);
      ap = omega (arith, ap');
      writes = omega (arith, writes, all);
      reads = omega (arith, reads);
    }

-- the image, and the plan from it on

pub image_is : (text : List ℕ) (found : ImageIs) → image_in text ≡ Ok found
    → image_of text ≡ Ok (image_found found)
image_is text found e = ap image_or_refusal e

-- what follows an answer, whatever the chip is like then
with_left : (left : ChipView → Type 0) (a : Answer) (result : Result ℕ Reason) (old new : World)
    → left new.chip → Runs (answer_plan (λ view. Unit {0}) a) old new result
    → Runs (answer_plan left a) old new result
with_left left (Found found of counts) (Ok status) old new l r = record {
  way = tt;
  texts = if_all old.files.holds (λ files. Unit {0}) (λ files. tt);
  went = (r.went.0, r.went.1, r.went.2, l);
}
with_left left (Found found of counts) (Err reason) old new l r = record {
  way = tt;
  texts = if_all old.files.holds (λ files. Unit {0}) (λ files. tt);
  went = by_cases r.went;
}
  where
    by_cases : Went (answer_plan (λ view. Unit {0}) (Found found of counts)) r.way (Err reason) old
        new → Went (answer_plan left (Found found of counts)) tt (Err reason) old new
    by_cases (inl g) = inl g
    by_cases (inr (refusal, some, is, has, g, t)) = inr (refusal, some, is, has, g, l)
with_left left (NotFound why k) (Ok status) old new l r = absurd (none_last r.went.1)
  where
    none_last : ◌≡◌ {A = Option Refusal} (Some (scan_refusal why k)) None → ⊥
    none_last e = cc
with_left left (NotFound why k) (Err reason) old new l r = record {
  way = tt;
  texts = if_all old.files.holds (λ files. Unit {0}) (λ files. tt);
  went = by_cases r.went;
}
  where
    by_cases : Went (answer_plan (λ view. Unit {0}) (NotFound why k)) r.way (Err reason) old new
        → Went (answer_plan left (NotFound why k)) tt (Err reason) old new
    by_cases (inl g) = inl g
    by_cases (inr (refusal, some, is, has, g, t)) = inr (refusal, some, is, has, g, l)

-- the chip failed, or there was no memory for the rows or to begin it
pub query_unasked : (program : Program) (q : Query) (i : Image) (why : Stop) (old new : World)
    → DoesScans program → AnswerGoes program q i (Err why) old new
    → Runs (query_plan q i) old new (said_of (Err why))
query_unasked program q i why old new does (inl (mid, (d, g))) =
    runs_then (Take ∷ []) _ _ old mid new (inl (mid, (d, refl)))
    (runs_made _ _ program _ _ _ does
    (runs_stopped (opening i ∷ use_steps (query_use program q i) (checked i.table (nodes_of q))) _
    (reason_of why) mid new g))
query_unasked program q i why old new does (inr f) =
    runs_stopped (Take ∷ []) _ (reason_of why) old new (inr f)

took : (steps : List Step) (rest : Plan) (result : Result ℕ Reason) (old at new : World)
    → Goes (Take ∷ steps) Done old at
    → ((mid : World) → Goes steps Done mid at → Runs rest mid new result)
    → Runs (Then (Take ∷ []) rest) old new result
took steps rest result old at new (inl (mid, (d, g))) more =
    runs_then (Take ∷ []) rest result old mid new (inl (mid, (d, refl))) (more mid g)
took steps rest result old at new (inr f) more = absurd f

pub query_asked : (program : Program) (q : Query) (i : Image) (said : ScanReply)
    (result : Result Completion Stop) (files : FolderView) (sink after : SinkView) (before chip : ChipView)
    → DoesScans program
    → AnswerGoes program q i (Ok said) (world files sink before) (world files sink chip)
    → Runs (answer_plan (λ view. Unit {0}) (answer_of said)) (world files sink chip)
    (world files after chip) (said_of result)
    → Runs (query_plan q i) (world files sink before) (world files after chip) (said_of result)
query_asked program q i said result files sink after before chip does g r =
    let a = world files sink before in
    let b = world files sink chip in
    let c = world files after chip in
    let steps = opening i ∷ use_steps (query_use program q i) (checked i.table (nodes_of q)) in
    let left = ScanLeft program q i in
    let answered : Runs (answer_plan left (answer_on program q i)) b c (said_of result) =
    with_left left (answer_on program q i) (said_of result) b c g.2
    (subst (λ (x : Answer). Runs (answer_plan (λ view. Unit {0}) x) b c (said_of result)) g.0 r) in
    took steps _ (said_of result) a b c g.1
    (λ mid go. runs_made _ _ program _ _ _ does (runs_then steps _ _ mid b c go answered))

-- its statuses, where it takes memory, and its files

broken_so : (P : ℕ → Type 0) (fault : Option QueryFault) → P 15
    → IfErr (unless_broken fault) (λ refusal. P refusal.status)
broken_so P None fifteen = tt
broken_so P (Some fault) fifteen = fifteen

query_refuses : (P : ℕ → Type 0) → P 15 → (text : List ℕ)
    → IfErr (query_in text) (λ refusal. P refusal.status)
query_refuses P fifteen text = broken_so P (fault_in text) fifteen

use_of : (P : ℕ → Type 0) (on : ChipUse) (fault : Option (ScanWhy × ℕ)) → P 9
    → OfSteps P (use_steps on fault)
use_of P on None nine = (nine, tt)
use_of P on (Some fault) nine = tt

answer_gives : (F D : ℕ → Type 0) (left : ChipView → Type 0) (a : Answer) → F 3 → F 16 → D 0
    → Gives F D (answer_plan left a)
answer_gives F D left (Found found of counts) three sixteen zero = ((three, tt), zero)
answer_gives F D left (NotFound why k) three sixteen zero = sixteen

pub scan_gives : (names : ScanNames) → GivesOwn (Scan names) (scan_plan names)
scan_gives names =
    let F = IsFailing (Scan names) in (
      refl,
      refl,
      refl,
      query_refuses F refl,
      λ text u q. (
        refl,
        refl,
        refl,
        image_refuses F refl,
        λ own i. (
          (refl, tt),
          λ program. (
            ((refl, refl), use_of F (query_use program q i) (checked i.table (nodes_of q)) refl),
            answer_gives F (CanAnswer (Scan names)) (ScanLeft program q i) (answer_on program q i) refl refl
                refl,
          ),
        ),
      ),
    )

pub scan_takes : (names : ScanNames) → TakesFirst None (scan_plan names)
scan_takes names = (
  query_refuses NotTen (λ e. cc),
  λ text u q. (
    image_refuses NotTen (λ e. cc),
    λ own i program. (
      use_of NotTen (query_use program q i) (checked i.table (nodes_of q)) (λ e. cc),
      answer_gives NotTen NotTen (ScanLeft program q i) (answer_on program q i) (λ e. cc) (λ e. cc)
          (λ e. cc),
    ),
  ),
)

answer_good : (P : ℕ → Type 0) (left : ChipView → Type 0) (a : Answer) (holds : Option Files) → P 0
    → P 16 → GoodFor P (answer_plan left a) holds
answer_good P left (Found found of counts) holds zero sixteen = (((λ e. cc), tt), zero)
answer_good P left (NotFound why k) holds zero sixteen = sixteen

pub scan_good : (names : ScanNames) (holds : Option Files) → AreGood (Scan names) (file_in holds)
    → GoodFor (IsOneOf (10 ∷ 0 ∷ 16 ∷ [])) (scan_plan names) holds
scan_good names holds good =
    let P = IsOneOf (10 ∷ 0 ∷ 16 ∷ []) in
    good_file P names.query.now QUERY_MAX query_in (λ text u. Makes (Asks text) (λ q.
    scan_image_plan names.image.now q)) holds good.0 (λ q asks.
    good_file P names.image.now IMAGE_MAX image_of (λ text i. query_plan q i) holds good.1 (
      ((λ e. cc), tt),
      λ program does. (
        (
          ((λ e. cc), (λ e. cc)),
          use_of (λ s. s ≡ 2 → ⊥) (query_use program q good.1.value)
              (checked good.1.value.table (nodes_of q))
              (λ e. cc),
        ),
        answer_good P (ScanLeft program q good.1.value)
            (answer_on program q good.1.value) _ refl refl,
      ),
    ))

-- what it promises

-- what is delivered where it is done: the elements were counted, and their line was sent
record Counted (left : Type 0) (a : Answer) (sent said : List ℕ) : Type 0 where
  found : ℕ
  of : ℕ
  counts : Counts
  is : a ≡ Found found of counts
  sends : said ≡ sent ++ count_line found of counts
  leaves : left

counted_by : (left : ChipView → Type 0) (a : Answer) (before after : Files) (sent said : List ℕ)
    (chip : ChipView) (status : ℕ) → Delivers (answer_plan left a) before after sent said chip status
    → Counted (left chip) a sent said
counted_by left (Found found of counts) before after sent said chip status (same, all, own, l) = record {
  found = found;
  of = of;
  counts = counts;
  is = refl;
  sends = all ∙ ap (λ w. sent ++ w) (append-nil (count_line found of counts));
  leaves = l;
}
counted_by left (NotFound why k) before after sent said chip status d = absurd d

use_quiet : (on : ChipUse) (fault : Option (ScanWhy × ℕ))
    → sent_by (use_steps on fault) ≡ []
use_quiet on None = refl
use_quiet on (Some fault) = refl

asks_at : (file : Option (List ℕ)) (text : List ℕ) (q : Query) → file ≡ Some text → Asks text q
    → AsksIn file q
asks_at file text q e asks = subst (λ (o : Option (List ℕ)). AsksIn o q) (sym e) asks

pub scanned : (names : ScanNames) (old new : World) (status : ℕ)
    → new.files.holds ≡ old.files.holds → IsDelivered (scan_plan names) old new status
    → IfSome old.files.holds (λ before. Scanned names before old new)
scanned names old new status files d =
    if_delivered (scan_plan names) old new status (λ before. Scanned names before old new) d
    (λ before after said sent (
      text,
      query_there,
      u,
      query_is,
      (q, asks, (own, image_there, i, image_is, (program, does, answer))),
    ).
    let left = ScanLeft program q i in
    let sends = sent_by (use_steps (query_use program q i) (checked i.table (nodes_of q))) in
    let c = counted_by left (answer_on program q i) _ after sends said new.chip status answer in
    let o = found_on program q i c.found c.of c.counts c.is in
    let line : count_line c.found c.of c.counts ≡ count_line (number_found q i)
    (query_count i.table q) (scan_counts program q i) =
    ap (λ n. count_line n c.of c.counts) (o.found_is ∙ number_is q i)
    ∙ ap (λ n. count_line (number_found q i) n c.counts) o.of_is
    ∙ ap (count_line (number_found q i) (query_count i.table q)) o.counts_are in
    let all : said ≡ count_line (number_found q i) (query_count i.table q)
    (scan_counts program q i) =
    c.sends ∙ ap (λ w. w ++ count_line c.found c.of c.counts)
    (use_quiet (query_use program q i) (checked i.table (nodes_of q))) ∙ line in
    record {
      query = q;
      image = i;
      program = program;
      query_is = asks_at (before names.query.now) text q query_there asks;
      image_is = ap (read_as image_of) image_there ∙ ap result_ok image_is;
      does = does;
      fits = o.fits;
      room = o.room;
      work = c.leaves.worked c.found c.of c.counts c.is;
      sent = subst (λ (bytes : List ℕ). Known (λ x y. y ≡ x ++ bytes) old.sink.sent new.sink.sent)
          all sent;
      counters = c.leaves.counted c.found c.of c.counts c.is
          ∙ ap (λ n. scan_counters i.geometry n c.counts) o.of_is
          ∙ ap (scan_counters i.geometry (query_count i.table q)) o.counts_are;
      files = files;
    })

pub scan_proved : (names : ScanNames) → Proved (Scan names)
scan_proved names = record {
  gives = scan_gives names;
  not_one = λ can. cc;
  good = λ holds are good. scan_good names holds good;
  spares = λ old new status ends.
      spares_by None (scan_plan names) (scan_takes names) old new status ends.0;
  tells = zero_tells;
  promised = λ old new status d. scanned names old new status d.ends.1 d.delivers;
}
