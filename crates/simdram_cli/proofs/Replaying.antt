-- The facts of `replay`: how its parts go, its statuses, its files, its memory, and what one that is
-- done promises.
use Rattle.simdram_cli.proofs.Common.{and_parts, ◌≡◌, ℕ, ◌+◌, ◌*◌, ◌<◌, ◌≤◌, ◌^◌, Bool, true, false}
use Rattle.simdram_cli.proofs.Common.{cond, List, [], ◌∷◌, ◌++◌, Option, Some, None, refl, sym, ◌∙◌}
use Rattle.simdram_cli.proofs.Common.{ap, subst, inl, inr, arith, append-nil, zero-add, Result, Ok}
use Rattle.simdram_cli.proofs.Common.{Err, IfErr, ◌==◌, ◌&&◌, count_by, not, result_ok, eq-eqb}
use Rattle.simdram_cli.proofs.Common.{Rose, AppendsPart, Files, FolderView, SinkView, Known, Ap}
use Rattle.simdram_cli.proofs.Common.{Aap, Counters, Geometry, Banks, Event, after, all_counted}
use Rattle.simdram_cli.proofs.Common.{counted, Row, Write, StoppedWithin, ChipView, Did, DidRead}
use Rattle.simdram_cli.proofs.Common.{with_reads, Kept, ImageNo, Named, Found, ImageFault, image_in}
use Rattle.simdram_cli.proofs.Common.{IsFault, image_bytes, IsProgramFile, program_bytes, Image}
use Rattle.simdram_cli.proofs.Common.{opened, row_writes, rows_in_banks, IsTrace, Trace}
use Rattle.simdram_cli.proofs.Common.{bytes_of_trace, World, world, doing, Step, Store, Use, Put}
use Rattle.simdram_cli.proofs.Common.{Refusal, Reason, CannotWrite, PutFailed, ChipFailed, End}
use Rattle.simdram_cli.proofs.Common.{Done, Stopped, Goes, Stored, Unstored, file_in, Loads, Makes}
use Rattle.simdram_cli.proofs.Common.{Plan, LoadedAs, Runs, IsDelivered, known_delivered, refused}
use Rattle.simdram_cli.proofs.Common.{unparsed, at_other, at_own, bytes_differ, goes_on, stops}
use Rattle.simdram_cli.proofs.Common.{GoodFor, NotTen, TakesFirst, OfSteps}
use Rattle.std.specs.Prelude.{◌⊎◌}
use Rattle.std.proofs.lemmas.Bool.{eqb-true}
use Rattle.std.proofs.lemmas.List.Sums.{sum_by-cons}
use Rattle.dram_model.specs.View.{StoppedIn}
use Rattle.transpose_unit.proofs.Stopping.{stopped_at_event}
use Rattle.trace_model.specs.Replay.{replayed}
use Rattle.trace_model.specs.Reading.{TraceFault, trace_in as trace_read}
use Rattle.cmd_trace.specs.declared.fault.TraceNo.{TraceNo}
use Rattle.cmd_trace.specs.Opened.{IsFault as IsTraceFault}
use Rattle.simdram_cli.specs.declared.words.Command.TheVariants.{Replay}
use Rattle.simdram_cli.specs.declared.words.ReplayNames.{ReplayNames}
use Rattle.simdram_cli.specs.declared.words.TheConstants.{IMAGE_MAX, TRACE_MAX}
use Rattle.simdram_cli.specs.declared.stop.Stop.{Stop}
use Rattle.simdram_cli.specs.Commands.{AreGood}
use Rattle.simdram_cli.specs.GoodFiles.{IsImageFile}
use Rattle.simdram_cli.specs.Headline.{read_as}
use Rattle.simdram_cli.specs.Inputs.{image_found, image_of, image_or_refusal, image_refusal}
use Rattle.simdram_cli.specs.Job.{opened_counters, opening, reading}
use Rattle.simdram_cli.specs.Plans.{said_of}
use Rattle.simdram_cli.specs.Replay.{EventsDone, Replayed, events_plan, events_steps, replay_steps}
use Rattle.simdram_cli.specs.Replay.{image_replayed, is_aap, is_ap, is_write, replay_counters}
use Rattle.simdram_cli.specs.Replay.{replay_image_plan, replay_line, replay_plan}
use Rattle.simdram_cli.specs.Stops.{image_reason, reason_of, trace_reason}
use Rattle.simdram_cli.specs.Traces.{geometry_differs, if_same, image_for, same_geometry, trace_in}
use Rattle.simdram_cli.specs.Traces.{trace_or_refusal, trace_refusal}
use Rattle.simdram_cli.specs.Works.{OpenedOn}
use Rattle.simdram_cli.proofs.JobPlans.{good_file}
use Rattle.simdram_cli.proofs.Planned.{GivesOwn, IsFailing, IsOneOf, Proved, spares_by, zero_tells}
use Rattle.simdram_cli.proofs.Stores.{sent, use_broke, used, put}
use Rattle.simdram_cli.proofs.Tallies.{log_is}
use Rattle.object_alloc.specs.declared.fault.ImageNo.TheVariants as no
use Rattle.cmd_trace.specs.declared.fault.TraceNo.TheVariants as trace_no

-- two geometries with equal fields are one

-- one shape is found the same
pub geometry_same : (g h : Geometry) → g ≡ h → same_geometry g h ≡ true
geometry_same g h e =
    subst (λ (x : Geometry). same_geometry g x ≡ true) e
    (rw (eq-eqb g.banks g.banks refl, eq-eqb g.rows g.rows refl, eq-eqb g.words g.words refl) refl)

of_fields : (b c r s w v : ℕ) → b ≡ c → r ≡ s → w ≡ v
    → ◌≡◌ {A = Geometry} (record { banks = b; rows = r; words = w })
    (record { banks = c; rows = s; words = v })
of_fields b c r s w v e f g = rw (e, f, g) refl

pub geometry_is : (g h : Geometry) → same_geometry g h ≡ true → g ≡ h
geometry_is g h e =
    let two = and_parts (g.banks == h.banks) (g.rows == h.rows && g.words == h.words) e in
    let one = and_parts (g.rows == h.rows) (g.words == h.words) two.1 in
    of_fields g.banks h.banks g.rows h.rows g.words h.words (eqb-true g.banks h.banks two.0)
    (eqb-true g.rows h.rows one.0) (eqb-true g.words h.words one.1)

-- by the test whether they differ

pub same_at : (differ same : Bool) → differ ≡ not same → differ ≡ false → same ≡ true
same_at differ true e f = refl
same_at differ false e f = absurd (cc)

pub differs_at : (differ same : Bool) → differ ≡ not same → differ ≡ true → same ≡ false
differs_at differ true e f = absurd (cc)
differs_at differ false e f = refl

-- the file of a program without entries

no_program_bytes : program_bytes 2 [] ≡ 83 ∷ 68 ∷ 77 ∷ 80 ∷ 2 ∷ 0 ∷ 0 ∷ 0 ∷ []
unfolding program_bytes
no_program_bytes = refl

pub no_program : IsProgramFile (83 ∷ 68 ∷ 77 ∷ 80 ∷ 2 ∷ 0 ∷ 0 ∷ 0 ∷ [])
no_program = record {
  version = 2;
  programs = [];
  is = record { few = omega arith; entries = tt; names = λ i j d l m. absurd (omega (arith, m)) };
  has = inr refl;
  spelled = sym no_program_bytes;
}

-- the counters of events

one_counted : (x : ℕ) (p : Event → Bool) (y : Event) (ys : List Event) → p y ≡ true
    → x + 1 + count_by p ys ≡ x + count_by p (y ∷ ys)
one_counted x p y ys h = rw (sum_by-cons (λ z. cond (p z) 1 0) y ys, h) (omega arith)

none_counted : (x : ℕ) (p : Event → Bool) (y : Event) (ys : List Event) → p y ≡ false
    → x + count_by p ys ≡ x + count_by p (y ∷ ys)
none_counted x p y ys h = rw (sum_by-cons (λ z. cond (p z) 1 0) y ys, h) (omega arith)

-- these counters and what events add to them
abbrev with_all : Counters → List Event → Counters
with_all k events = record {
  aap = k.aap + count_by is_aap events;
  ap = k.ap + count_by is_ap events;
  writes = k.writes + count_by is_write events;
  reads = k.reads;
}

same_counts : (a b p q w v r : ℕ) → a ≡ b → p ≡ q → w ≡ v
    → ◌≡◌ {A = Counters} (record { aap = a; ap = p; writes = w; reads = r })
    (record { aap = b; ap = q; writes = v; reads = r })
same_counts a b p q w v r e f g = rw (e, f, g) refl

pub events_counted : (events : List Event) (k : Counters)
    → all_counted events k ≡ with_all k events
events_counted [] k =
    same_counts k.aap (k.aap + 0) k.ap (k.ap + 0) k.writes (k.writes + 0) k.reads (omega arith)
    (omega arith) (omega arith)
events_counted (Row bank (Ap x) ∷ events) k =
    let event : Event = Row bank (Ap x) in
    events_counted events (counted event k)
    ∙ same_counts _ _ _ _ _ _ k.reads (none_counted k.aap is_aap event events refl)
    (one_counted k.ap is_ap event events refl) (none_counted k.writes is_write event events refl)
events_counted (Row bank (Aap x y) ∷ events) k =
    let event : Event = Row bank (Aap x y) in
    events_counted events (counted event k)
    ∙ same_counts _ _ _ _ _ _ k.reads (one_counted k.aap is_aap event events refl)
    (none_counted k.ap is_ap event events refl) (none_counted k.writes is_write event events refl)
events_counted (Write bank row bits ∷ events) k =
    let event : Event = Write bank row bits in
    events_counted events (counted event k)
    ∙ same_counts _ _ _ _ _ _ k.reads (none_counted k.aap is_aap event events refl)
    (none_counted k.ap is_ap event events refl) (one_counted k.writes is_write event events refl)

all_read : (t : Trace) (g : Geometry) → g ≡ t.geometry
    → with_reads (g.banks * g.rows) (with_all (opened_counters g) t.events) ≡ replay_counters t
all_read t g e = rw (
  e,
  zero-add (count_by is_aap t.events),
  zero-add (count_by is_ap t.events),
  zero-add (t.geometry.banks * t.geometry.rows),
) refl

-- no event is a read
pub reads_still : (events : List Event) (i : Image) (a b : ChipView) → OpenedOn i a
    → Did events a b → b.counters.reads < 2 ^ 62
reads_still events i a b o did =
    let e : b.counters.reads ≡ 0 =
    ap (λ (k : Counters). k.reads) (did.counters ∙ events_counted events a.counters)
    ∙ ap (λ (k : Counters). k.reads) o.counters in
    omega (arith, e)

-- the rows

-- the steps after the opening
abbrev rest_of : Trace → Image → List Step
rest_of t i = Use (doing (opened i) t.events) ∷ reading i.geometry (replayed t.events i) ∷ []

pub rows_unopened : (t : Trace) (i : Image) (reason : Reason) (a b : World)
    → Goes (opening i ∷ []) (Stopped reason) a b → Goes (replay_steps t i) (Stopped reason) a b
rows_unopened t i reason a b g = stops (opening i ∷ []) (rest_of t i) reason a b g

pub events_failed : (t : Trace) (i : Image) (files : FolderView) (sink : SinkView)
    (before a b : ChipView)
    → Goes (opening i ∷ []) Done (world files sink before) (world files sink a)
    → a.faults ≤ b.faults → OpenedOn i a → StoppedIn t.events a b
    → Goes (replay_steps t i) (Stopped ChipFailed) (world files sink before) (world files sink b)
events_failed t i files sink before a b g l o s =
    goes_on (opening i ∷ []) (rest_of t i) (Stopped ChipFailed) (world files sink before)
    (world files sink a) (world files sink b) g (inr (
      refl,
      use_broke files sink a b l,
      s.rose,
      subst (λ (banks : Banks). StoppedWithin 0 t.events banks b.banks) o.banks
          (stopped_at_event t.events a b s),
    ))

pub reads_failed : (t : Trace) (i : Image) (files : FolderView) (sink : SinkView)
    (before a b c : ChipView)
    → Goes (opening i ∷ []) Done (world files sink before) (world files sink a)
    → b.faults ≤ c.faults → OpenedOn i a → Did t.events a b
    → Rose b.faults c.faults → StoppedWithin i.geometry.banks [] b.banks c.banks
    → Goes (replay_steps t i) (Stopped ChipFailed) (world files sink before) (world files sink c)
reads_failed t i files sink before a b c g m o did r s =
    goes_on (opening i ∷ []) (rest_of t i) (Stopped ChipFailed) (world files sink before)
    (world files sink a) (world files sink c) g (inl (
      world files sink b,
      (
        used _ files sink a b did.faults (did.banks ∙ ap (after t.events) o.banks),
        inr (
          refl,
          use_broke files sink b c m,
          r,
          subst (λ (banks : Banks). StoppedWithin i.geometry.banks [] banks c.banks)
              (did.banks ∙ ap (after t.events) o.banks) s,
        ),
      ),
    ))

pub rows_read : (t : Trace) (i : Image) (files : FolderView) (sink : SinkView)
    (before a b c : ChipView)
    → Goes (opening i ∷ []) Done (world files sink before) (world files sink a)
    → b.faults ≡ a.faults → b.banks ≡ replayed t.events i → c.faults ≡ b.faults
    → c.banks ≡ b.banks
    → Goes (replay_steps t i) Done (world files sink before) (world files sink c)
rows_read t i files sink before a b c g l left m same =
    goes_on (opening i ∷ []) (rest_of t i) Done (world files sink before) (world files sink a)
    (world files sink c) g
    (inl (
      world files sink b,
      (
        used _ files sink a b l left,
        inl (world files sink c, (used _ files sink b c m (same ∙ left), refl)),
      ),
    ))

pub events_done : (t : Trace) (i : Image) (g : Geometry) (a b c : ChipView) → g ≡ i.geometry
    → i.geometry ≡ t.geometry → OpenedOn i a → Did t.events a b → DidRead (g.banks * g.rows) b c
    → Kept a b → Kept b c → EventsDone t i c
events_done t i g a b c shape same o did read first last = record {
  begun = last.begun ∙ (first.begun ∙ o.begun);
  geometry = last.geometry ∙ (first.geometry ∙ (o.geometry ∙ same));
  banks = read.banks ∙ did.banks ∙ ap (after t.events) o.banks;
  counters = read.counters
      ∙ ap (with_reads (g.banks * g.rows)) (did.counters
      ∙ ap (all_counted t.events) o.counters
      ∙ events_counted t.events (opened_counters i.geometry))
      ∙ ap (λ (x : Geometry). with_reads (x.banks * x.rows)
      (with_all (opened_counters i.geometry) t.events)) shape
      ∙ all_read t i.geometry same;
  log = log_is (row_writes i) a.log b.log c.log t.events o.log did.log read.log;
}

pub file_is : (t : Trace) (i : Image) (g : Geometry) (table : List Named) (a b : ChipView)
    → g ≡ t.geometry → table ≡ t.table → OpenedOn i a → Did t.events a b
    → image_bytes g table (rows_in_banks b.banks) ≡ image_replayed t i
file_is t i g table a b shape listed o did =
    ap (λ (x : Geometry). image_bytes x table (rows_in_banks b.banks)) shape
    ∙ ap (λ (x : List Named). image_bytes t.geometry x (rows_in_banks b.banks)) listed
    ∙ ap (λ (x : Banks). image_bytes t.geometry t.table (rows_in_banks x))
    (did.banks ∙ ap (after t.events) o.banks)

-- the store of OUT, and the line

pub not_stored : (name bytes line : List ℕ) (f g : FolderView) (s : SinkView) (k : ChipView)
    → Unstored name (world f s k) (world g s k)
    → Goes (Store name bytes ∷ Put line ∷ []) (Stopped (CannotWrite name)) (world f s k)
    (world g s k)
not_stored name bytes line f g s k u = inr (refl, u)

pub not_put : (name bytes line : List ℕ) (f g : FolderView) (s t : SinkView) (k : ChipView)
    → Stored name bytes (world f s k) (world g s k) → Known (AppendsPart line) s.sent t.sent
    → s.faults ≤ t.faults → Rose s.faults t.faults
    → Goes (Store name bytes ∷ Put line ∷ []) (Stopped PutFailed) (world f s k) (world g t k)
not_put name bytes line f g s t k u p n r =
    inl (world g s k, (u, inr (refl, sent (AppendsPart line) g s t k p n, r)))

pub all_put : (name bytes line : List ℕ) (f g : FolderView) (s t : SinkView) (k : ChipView)
    → Stored name bytes (world f s k) (world g s k)
    → Known (λ before after. after ≡ before ++ line) s.sent t.sent → t.faults ≡ s.faults
    → Goes (Store name bytes ∷ Put line ∷ []) Done (world f s k) (world g t k)
all_put name bytes line f g s t k u p n =
    inl (
      world g s k,
      (u, inl (world g t k, (put line g s t k p n, refl))),
    )

-- the events on an image

pub on_unread : (out : List ℕ) (t : Trace) (i : Image) (reason : Reason) (a b : World)
    → Goes (replay_steps t i) (Stopped reason) a b
    → Goes (events_steps out t i) (Stopped reason) a b
on_unread out t i reason a b g =
    stops (replay_steps t i) (Store out (image_replayed t i)
    ∷ Put (replay_line (replay_counters t)) ∷ []) reason a b g

pub on_read : (out : List ℕ) (t : Trace) (i : Image) (file : List ℕ) (k : Counters) (end : End)
    (a b c : World) → Goes (replay_steps t i) Done a b → file ≡ image_replayed t i
    → k ≡ replay_counters t → Goes (Store out file ∷ Put (replay_line k) ∷ []) end b c
    → Goes (events_steps out t i) end a c
on_read out t i file k end a b c g f e h =
    goes_on (replay_steps t i) (Store out (image_replayed t i)
    ∷ Put (replay_line (replay_counters t)) ∷ []) end a b c g
    (subst (λ (x : List ℕ). Goes (Store out x ∷ Put (replay_line (replay_counters t)) ∷ []) end b c)
    f (subst (λ (x : Counters). Goes (Store out file ∷ Put (replay_line x) ∷ []) end b c) e h))

-- what is read, and what is not

pub image_not_read : (g : Geometry) (rest : List ℕ → Image → Plan) (name : List ℕ) (why : Stop)
    (fault : ImageNo) (text : List ℕ) (old new : FolderView) (sink : SinkView) (chip : ChipView)
    → LoadedAs name IMAGE_MAX text old new → IsFault fault (image_in text)
    → reason_of why ≡ image_reason fault
    → Runs (Loads name IMAGE_MAX (image_for g) rest) (world old sink chip) (world new sink chip)
    (said_of (Err why))
image_not_read g rest name why (no.Fault fault) text old new sink chip l is e =
    rw e (refused name IMAGE_MAX (image_for g) rest text (image_refusal fault) old new sink chip l
    (ap (λ r. if_same g (image_or_refusal r)) is))
image_not_read g rest name why no.NoMemory text old new sink chip l is e =
    rw e (unparsed name IMAGE_MAX (image_for g) rest text old new sink chip l)

pub trace_not_read : (rest : List ℕ → Trace → Plan) (name : List ℕ) (why : Stop)
    (fault : TraceNo) (text : List ℕ) (old new : FolderView) (sink : SinkView) (chip : ChipView)
    → LoadedAs name TRACE_MAX text old new → IsTraceFault fault (trace_read text)
    → reason_of why ≡ trace_reason fault
    → Runs (Loads name TRACE_MAX trace_in rest) (world old sink chip) (world new sink chip)
    (said_of (Err why))
trace_not_read rest name why (trace_no.Fault fault) text old new sink chip l is e =
    rw e (refused name TRACE_MAX trace_in rest text (trace_refusal fault) old new sink chip l
    (ap trace_or_refusal is))
trace_not_read rest name why trace_no.NoMemory text old new sink chip l is e =
    rw e (unparsed name TRACE_MAX trace_in rest text old new sink chip l)

pub differs : (g : Geometry) (text : List ℕ) (i : Image) → image_of text ≡ Ok i
    → same_geometry i.geometry g ≡ false → image_for g text ≡ Err geometry_differs
differs g text i is other = ap (if_same g) is ∙ rw other refl

pub same : (g : Geometry) (text : List ℕ) (i : Image) → image_of text ≡ Ok i
    → same_geometry i.geometry g ≡ true → image_for g text ≡ Ok i
same g text i is e = ap (if_same g) is ∙ rw e refl

-- its statuses, where it takes memory, and its files

trace_so : (P : ℕ → Type 0) (r : Result Trace TraceFault) → P 13
    → IfErr (trace_or_refusal r) (λ refusal. P refusal.status)
trace_so P (Ok t) thirteen = tt
trace_so P (Err fault) thirteen = thirteen

trace_refuses : (P : ℕ → Type 0) → P 13 → (text : List ℕ)
    → IfErr (trace_in text) (λ refusal. P refusal.status)
trace_refuses P thirteen text = trace_so P (trace_read text) thirteen

same_so : (P : ℕ → Type 0) (b : Bool) (i : Image) → P 14
    → IfErr (cond b (Ok i) (Err geometry_differs)) (λ refusal. P refusal.status)
same_so P true i fourteen = tt
same_so P false i fourteen = fourteen

for_so : (P : ℕ → Type 0) (g : Geometry) (r : Result Found ImageFault) → P 7 → P 14
    → IfErr (if_same g (image_or_refusal r)) (λ refusal. P refusal.status)
for_so P g (Ok found) seven fourteen =
    same_so P (same_geometry found.geometry g) (image_found found) fourteen
for_so P g (Err fault) seven fourteen = seven

image_refuses : (P : ℕ → Type 0) (g : Geometry) → P 7 → P 14 → (text : List ℕ)
    → IfErr (image_for g text) (λ refusal. P refusal.status)
image_refuses P g seven fourteen text = for_so P g (image_in text) seven fourteen

-- the statuses that a replay can answer by its plan
pub replay_gives : (names : ReplayNames) → GivesOwn (Replay names) (replay_plan names)
replay_gives names =
    let F = IsFailing (Replay names) in (
      refl,
      refl,
      refl,
      trace_refuses F refl,
      λ text t u. (
        refl,
        refl,
        refl,
        image_refuses F t.geometry refl refl,
        λ own i.
            (((refl, refl), (refl, (refl, (refl, (refl, tt))))), refl),
      ),
    )

pub replay_takes : (names : ReplayNames) → TakesFirst None (replay_plan names)
replay_takes names = (
  trace_refuses NotTen (λ e. cc),
  λ text t u. (
    image_refuses NotTen t.geometry (λ e. cc) (λ e. cc),
    λ own i.
        (((λ e. cc), ((λ e. cc), ((λ e. cc), ((λ e. cc), tt)))), (λ e. cc)),
  ),
)

-- no step after the loads loads a file
pub none_loads : (out : List ℕ) (t : Trace) (i : Image)
    → OfSteps (λ s. s ≡ 2 → ⊥) (events_steps out t i)
none_loads out t i =
    (((λ e. cc), (λ e. cc)), ((λ e. cc), ((λ e. cc), ((λ e. cc), ((λ e. cc), tt)))))

image_good : (P : ℕ → Type 0) (names : ReplayNames) (t : Trace) (holds : Option Files)
    → IsImageFile (file_in holds names.image.now) → P 0 → P 14
    → GoodFor P (replay_image_plan names t) holds
image_good P names t holds good zero fourteen = (
  good.text,
  good.there,
  good.within,
  either (same_geometry good.value.geometry t.geometry) refl,
)
  where
    either : (b : Bool) → same_geometry good.value.geometry t.geometry ≡ b
        → ((value : Image) × (image_for t.geometry good.text ≡ Ok value)
        × GoodFor P (events_plan names.out.now t value) holds)
        ⊎ ((refusal : Refusal) × (image_for t.geometry good.text ≡ Err refusal)
        × P refusal.status)
    either true e = inl (
      good.value,
      same t.geometry good.text good.value good.accepted e,
      (none_loads names.out.now t good.value, zero),
    )
    either false e = inr (
      geometry_differs,
      differs t.geometry good.text good.value good.accepted e,
      fourteen,
    )

pub replay_good : (names : ReplayNames) (holds : Option Files)
    → AreGood (Replay names) (file_in holds)
    → GoodFor (IsOneOf (10 ∷ 0 ∷ 14 ∷ [])) (replay_plan names) holds
replay_good names holds good =
    let P = IsOneOf (10 ∷ 0 ∷ 14 ∷ []) in
    good_file P names.trace.now TRACE_MAX trace_in (λ text t.
    Makes {A = Unit {0}} (λ u. IsTrace t × (text ≡ bytes_of_trace t)) (λ u.
    replay_image_plan names t)) holds good.0 (λ u has.
    image_good P names good.0.value holds good.1 refl refl)

-- what it promises

-- an image that is taken for a trace was accepted, and has its geometry
record TakenFor (g : Geometry) (text : List ℕ) (i : Image) : Type 0 where
  is : image_of text ≡ Ok i
  shape : i.geometry ≡ g

taken_if : (g : Geometry) (i x : Image) (b : Bool) → same_geometry i.geometry g ≡ b
    → cond b (Ok i) (Err geometry_differs) ≡ Ok x → (i ≡ x) × (i.geometry ≡ g)
taken_if g i x true e f = (cc, geometry_is i.geometry g e)
taken_if g i x false e f = absurd (cc)

taken_by : (g : Geometry) (text : List ℕ) (read : Result Image Refusal) (i : Image)
    → image_of text ≡ read → if_same g read ≡ Ok i → TakenFor g text i
taken_by g text (Ok x) i e f =
    let t = taken_if g x i (same_geometry x.geometry g) refl f in
    record {
      is = e ∙ ap (λ (y : Image). Ok y) t.0;
      shape = ap (λ (y : Image). y.geometry) (sym t.0) ∙ t.1;
    }
taken_by g text (Err r) i e f = absurd (cc)

pub replayed_by : (names : ReplayNames) (old new : World) (status : ℕ)
    → IsDelivered (replay_plan names) old new status
    → Known (λ before after. Replayed names before after old new) old.files.holds new.files.holds
replayed_by names old new status d =
    known_delivered (replay_plan names) old new status
    (λ before after. Replayed names before after old new) d
    (λ before after said sent (
      text,
      trace_there,
      t,
      trace_is,
      (u, legal, (own, image_there, i, image_is, (stored, all, answers, events))),
    ).
    let taken = taken_by t.geometry own (image_of own) i refl image_is in
    let line = replay_line (replay_counters t) in
    record {
      trace = t;
      image = i;
      legal = legal.0;
      trace_is = trace_there ∙ ap (λ (x : List ℕ). Some x) legal.1;
      image_is = ap (read_as image_of) image_there ∙ ap result_ok taken.is;
      same = taken.shape;
      events = events;
      file = ap (λ (f : Files). f names.out.now) stored
          ∙ at_own names.out.now (image_replayed t i) before;
      others = λ other apart. ap (λ (f : Files). f other) stored
          ∙ at_other other names.out.now (image_replayed t i) before
          (bytes_differ other names.out.now apart);
      sent = subst (λ (bytes : List ℕ). Known (λ x y. y ≡ x ++ bytes) old.sink.sent new.sink.sent)
          (all ∙ append-nil line ∙ ap replay_line (sym events.counters)) sent;
    })

pub replay_proved : (names : ReplayNames) → Proved (Replay names)
replay_proved names = record {
  gives = replay_gives names;
  not_one = λ can. cc;
  good = λ holds are good. replay_good names holds good;
  spares = spares_by None (replay_plan names) (replay_takes names);
  tells = zero_tells;
  promised = λ old new status d. replayed_by names old new status d.delivers;
}
