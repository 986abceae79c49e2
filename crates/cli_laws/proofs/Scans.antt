-- The files at entry decide what a scan tells.
use Rattle.cli_laws.proofs.Common.{◌≡◌, ◌⊎◌, ℕ, ◌<◌, ◌≤◌, Bool, true, false, cond, List, [], ◌∷◌}
use Rattle.cli_laws.proofs.Common.{◌++◌, map, Option, Some, None, refl, sym, ◌∙◌, ap, subst, inl}
use Rattle.cli_laws.proofs.Common.{inr, append-nil, append_assoc, arith, IfSome, bytes_eq}
use Rattle.cli_laws.proofs.Common.{AllByRecursion, option_map, result_ok, WIDTH_MAX, Files, Known}
use Rattle.cli_laws.proofs.Common.{Operation, IsObject, counts_of, Microprogram, ImplementsAll}
use Rattle.cli_laws.proofs.Common.{text_op, AreExact, Image, opened, Program, Routines, entry_named}
use Rattle.cli_laws.proofs.Common.{routine_of, routines_in, World, All, At, Ended, EndsSo}
use Rattle.cli_laws.proofs.Common.{IsForetold, foreseen, AreTexts, Way, last_status, refused_last}
use Rattle.cli_laws.proofs.Common.{steps_of, EndsBy, LeavesAt, TellsLast, Done, Load, ChipUse}
use Rattle.cli_laws.proofs.Common.{refused_so, IMAGE_MAX, read_as, image_of, opening, image_refuses}
use Rattle.std.specs.Prelude.{All as Each, IfErr}
use Rattle.dram_model.specs.View.{ChipView}
use Rattle.host_edge.specs.Views.{AppendsPart}
use Rattle.uprog_code.specs.declared.walker.Counts.{Counts}
use Rattle.uprog_gen.proofs.Costs.Blocks.{AllWords, words_cost_the_same}
use Rattle.machine_model.specs.declared.Why.{Why}
use Rattle.machine_model.specs.Steps.{issues_at}
use Rattle.machine_model.proofs.Texts.{same_operations}
use Rattle.scan_model.specs.declared.QueryFault.{QueryFault}
use Rattle.scan_model.specs.declared.ScanWhy.{ScanWhy}
use Rattle.scan_model.specs.Answers.{Answer, CostTheSame, Found, Refused as NotFound, answer}
use Rattle.scan_model.specs.Answers.{by_checks, by_run, found_in, query_count}
use Rattle.scan_model.specs.Checks.{checked}
use Rattle.scan_model.specs.Laws.{scan_refused}
use Rattle.scan_model.specs.Operations.{scan_operations, scan_text}
use Rattle.scan_model.specs.Queries.{Query, HasParts, nodes_of}
use Rattle.scan_model.specs.Texts.{fault_in}
use Rattle.scan_model.proofs.Alike.{scans_answer_the_same}
use Rattle.scan_model.proofs.Accepted.{once}
use Rattle.scan_model.proofs.Parts.{written_parts}
use Rattle.cli_model.specs.Ends.{AppendsAfter, IsAllDone, Sends}
use Rattle.cli_model.specs.Plan.{Leaves}
use Rattle.cli_model.specs.Stands.{sent_by}
use Rattle.cli_model.specs.Status.{Says}
use Rattle.cli_model.specs.Steps.{Take}
use Rattle.cli_model.proofs.Delivering.{load_there}
use Rattle.cli_model.proofs.Going.{known_sent, within}
use Rattle.cli_model.proofs.Statuses.{OfSteps, all_done, of_more}
use Rattle.simdram_cli.specs.declared.words.ScanNames.{ScanNames}
use Rattle.simdram_cli.specs.declared.words.TheConstants.{QUERY_MAX}
use Rattle.simdram_cli.specs.Queries.{Asks, AsksIn, query_in, scan_refusal, unless_broken}
use Rattle.simdram_cli.specs.Scan.{DoesScans, ScanLeft, Scanned, answer_on, answer_plan, count_line}
use Rattle.simdram_cli.specs.Scan.{number_found, scan_counters, scan_counts, query_use, scan_plan}
use Rattle.simdram_cli.specs.Scan.{use_steps}
use Rattle.cli_laws.specs.Unique.{OneAnswered, OneScanned, Tells}
use Rattle.cli_laws.proofs.Images.{image_objects}
use Rattle.cli_laws.proofs.Unique.{one_value}

-- Programs of exact costs take as many commands

abbrev entry_counts : Option Microprogram → ℕ → Counts
entry_counts e n = counts_of (issues_at (option_map routine_of e) n)

entry_case : (b : Bool) (e f : Microprogram) (x y : Option Microprogram) (n : ℕ)
    → entry_counts (Some e) n ≡ entry_counts (Some f) n → entry_counts x n ≡ entry_counts y n
    → entry_counts (cond b (Some e) x) n ≡ entry_counts (cond b (Some f) y) n
entry_case true e f x y n same rest = same
entry_case false e f x y n same rest = rest

exact_costs : (ops : List Operation) (p q : Program) (name : List ℕ) (n : ℕ)
    → ImplementsAll p (map text_op ops) → ImplementsAll q (map text_op ops) → AreExact p ops
    → AreExact q ops → AllByRecursion (λ (op : Operation). AllWords op.body) ops → 0 < n
    → n ≤ WIDTH_MAX → entry_counts (entry_named p name) n ≡ entry_counts (entry_named q name) n
exact_costs [] [] [] name n i j x y words l k = refl
exact_costs [] [] (f ∷ q) name n i j x y words l k = absurd j
exact_costs [] (e ∷ p) q name n i j x y words l k = absurd i
exact_costs (op ∷ ops) [] q name n i j x y words l k = absurd i
exact_costs (op ∷ ops) (e ∷ p) [] name n i j x y words l k = absurd j
exact_costs (op ∷ ops) (e ∷ p) (f ∷ q) name n i j x y words l k =
    let left : List ℕ → Counts = λ own.
    entry_counts (cond (bytes_eq own name) (Some e) (entry_named p name)) n in
    let right : List ℕ → Counts = λ own.
    entry_counts (cond (bytes_eq own name) (Some f) (entry_named q name)) n in
    ap left i.0.name
    ∙ entry_case (bytes_eq op.name name) e f (entry_named p name) (entry_named q name) n
    (words_cost_the_same e f op words.0 x.0 y.0 n l k)
    (exact_costs ops p q name n i.1 j.1 x.1 y.1 words.1 l k)
    ∙ sym (ap right j.0.name)

scans_cost_the_same : (p q : Program) → DoesScans p → DoesScans q → CostTheSame p q
scans_cost_the_same p q x y name n l k =
    let cost : Routines → Counts = λ operations. counts_of (issues_at (operations name) n) in
    ap cost (same_operations p scan_text x.implements)
    ∙ exact_costs scan_operations p q name n x.implements y.implements x.exact y.exact
    (tt, (tt, (tt, (tt, (tt, (tt, tt)))))) l k
    ∙ sym (ap cost (same_operations q scan_text y.implements))

-- and so answer the same
same_answer : (p q : Program) (query : Query) (i : Image) → DoesScans p → DoesScans q
    → Each (λ named. IsObject i.geometry named.1) i.table → HasParts query
    → answer_on p query i ≡ answer_on q query i
same_answer p q query i x y objects parts =
    let by : Routines → Answer = λ operations.
    answer i.geometry operations (opened i) i.table query in
    ap by (sym (same_operations p scan_text x.implements))
    ∙ scans_answer_the_same i.geometry p q (opened i) i.table query x.implements y.implements
    (scans_cost_the_same p q x y) objects parts
    ∙ ap by (same_operations q scan_text y.implements)

-- Scans that are done

asked_parts : (file : Option (List ℕ)) (q : Query) → AsksIn file q → HasParts q
asked_parts None q x = absurd x
asked_parts (Some text) q x = written_parts q x.query.written

same_query : (file : Option (List ℕ)) (p q : Query) → AsksIn file p → AsksIn file q → p ≡ q
same_query None p q x y = absurd x
same_query (Some text) p q x y = (once p q [] [] (sym x.spelling ∙ y.spelling)).0

abbrev counts_in : Answer → Counts
counts_in (Found found of counts) = counts
counts_in (NotFound why k) = record { aap = 0; ap = 0 }

counts_are : (program : Program) (q : Query) (i : Image) → checked i.table (nodes_of q) ≡ None
    → scan_refused i.geometry (routines_in program) i.table q ≡ None
    → counts_in (answer_on program q i) ≡ scan_counts program q i
unfolding answer
counts_are program q i fits room =
    let found = Found (found_in i.geometry (opened i) i.table q) (query_count i.table q)
    (scan_counts program q i) in
    let refused = scan_refused i.geometry (routines_in program) i.table q in
    ap (λ (c : Option (ScanWhy × ℕ)). counts_in (by_checks c (by_run refused found))) fits
    ∙ ap (λ (r : Option (Why × ℕ)). counts_in (by_run r found)) room

scanned_counts : (names : ScanNames) (before : Files) (a b : World) (s : Scanned names before a b)
    → counts_in (answer_on s.program s.query s.image) ≡ scan_counts s.program s.query s.image
scanned_counts names before a b s = counts_are s.program s.query s.image s.fits s.room

pub one_scanned : OneScanned
one_scanned names before a b c d s t =
    let query = same_query (before names.query.now) s.query t.query s.query_is t.query_is in
    let image : s.image ≡ t.image = one_value _ s.image t.image s.image_is t.image_is in
    let objects = image_objects (before names.image.now) s.image s.image_is in
    let parts = asked_parts (before names.query.now) s.query s.query_is in
    let counts : scan_counts s.program s.query s.image ≡ scan_counts t.program t.query t.image =
    sym (scanned_counts names before a b s)
    ∙ ap counts_in (same_answer s.program t.program s.query s.image s.does t.does objects parts)
    ∙ ap (λ (q : Query). counts_in (answer_on t.program q s.image)) query
    ∙ ap (λ (i : Image). counts_in (answer_on t.program t.query i)) image
    ∙ scanned_counts names before c d t in
    record {
      query = query;
      image = image;
      line = ap (λ k. count_line (number_found s.query s.image)
          (query_count s.image.table s.query) k) counts
          ∙ ap (λ (q : Query). count_line (number_found q s.image) (query_count s.image.table q)
          (scan_counts t.program t.query t.image)) query
          ∙ ap (λ (i : Image). count_line (number_found t.query i) (query_count i.table t.query)
          (scan_counts t.program t.query t.image)) image;
      counters = s.counters
          ∙ ap (scan_counters s.image.geometry (query_count s.image.table s.query)) counts
          ∙ ap (λ (q : Query). scan_counters s.image.geometry (query_count s.image.table q)
          (scan_counts t.program t.query t.image)) query
          ∙ ap (λ (i : Image). scan_counters i.geometry (query_count i.table t.query)
          (scan_counts t.program t.query t.image)) image
          ∙ sym t.counters;
    }

-- Scans that end with 0 or 16

-- such a scan is done with all of its steps

abbrev IsOther : ℕ → ℕ → Type 0
IsOther status s = s ≡ status → ⊥

record NotByStep (status : ℕ) : Type 0 where
  two : 2 ≡ status → ⊥
  three : 3 ≡ status → ⊥
  seven : 7 ≡ status → ⊥
  nine : 9 ≡ status → ⊥
  ten : 10 ≡ status → ⊥
  eleven : 11 ≡ status → ⊥
  fifteen : 15 ≡ status → ⊥

not_by_step : (status : ℕ) → (status ≡ 0) ⊎ (status ≡ 16) → NotByStep status
not_by_step status (inl e) = record {
  two = λ f. omega (arith, e, f);
  three = λ f. omega (arith, e, f);
  seven = λ f. omega (arith, e, f);
  nine = λ f. omega (arith, e, f);
  ten = λ f. omega (arith, e, f);
  eleven = λ f. omega (arith, e, f);
  fifteen = λ f. omega (arith, e, f);
}
not_by_step status (inr e) = record {
  two = λ f. omega (arith, e, f);
  three = λ f. omega (arith, e, f);
  seven = λ f. omega (arith, e, f);
  nine = λ f. omega (arith, e, f);
  ten = λ f. omega (arith, e, f);
  eleven = λ f. omega (arith, e, f);
  fifteen = λ f. omega (arith, e, f);
}

broken_so : (P : ℕ → Type 0) (fault : Option QueryFault) → P 15
    → IfErr (unless_broken fault) (λ refusal. P refusal.status)
broken_so P None fifteen = tt
broken_so P (Some fault) fifteen = fifteen

use_so : (P : ℕ → Type 0) (on : ChipUse) (fault : Option (ScanWhy × ℕ)) → P 9
    → OfSteps P (use_steps on fault)
use_so P on None nine = (nine, tt)
use_so P on (Some fault) nine = tt

answer_so : (P : ℕ → Type 0) (left : ChipView → Type 0) (a : Answer)
    (way : Way (answer_plan left a)) → P 3 → OfSteps P (steps_of (answer_plan left a) way)
answer_so P left (Found found of counts) way three = (three, tt)
answer_so P left (NotFound why k) way three = tt

scan_so : (status : ℕ) (names : ScanNames) (way : Way (scan_plan names)) → NotByStep status
    → OfSteps (IsOther status) (steps_of (scan_plan names) way)
scan_so status names (inl cut) n = tt
scan_so status names (inr (text, inr (refusal, is))) n = (
  (
    n.two,
    n.eleven,
    n.ten,
    refused_so (IsOther status) (query_in text) refusal is
        (broken_so (IsOther status) (fault_in text) n.fifteen),
  ),
  tt,
)
scan_so status names (inr (text, inl (u, is, inl cut))) n = ((n.two, n.eleven, n.ten, tt), tt)
scan_so status names (inr (text, inl (u, is, inr (q, asks, inl cut)))) n =
    ((n.two, n.eleven, n.ten, tt), tt)
scan_so status names (inr (text, inl (u, is, inr (q, asks, inr (bytes, inr (refusal, image)))))) n =
    let refused = refused_so (IsOther status) (image_of bytes) refusal image
    (image_refuses (IsOther status) n.seven bytes) in
    ((n.two, n.eleven, n.ten, tt), ((n.two, n.eleven, n.ten, refused), tt))
scan_so status names
    (inr (text, inl (u, is, inr (q, asks, inr (bytes, inl (i, image, inl cut)))))) n =
    ((n.two, n.eleven, n.ten, tt), ((n.two, n.eleven, n.ten, tt), (n.ten, tt)))
scan_so status names
    (inr (text, inl (u, is, inr (q, asks, inr (bytes, inl (i, image, inr (p, does, way))))))) n =
    let checks = checked i.table (nodes_of q) in
    let left = ScanLeft p q i in
    let x = answer_on p q i in
    let on = query_use p q i in
    let last = of_more (IsOther status) (use_steps on checks) (steps_of (answer_plan left x) way)
    (use_so (IsOther status) on checks n.nine) (answer_so (IsOther status) left x way n.three) in
    ((n.two, n.eleven, n.ten, tt), ((n.two, n.eleven, n.ten, tt), (n.ten, ((n.nine, n.ten), last))))

-- and tells its answer

known_part : (line : List ℕ) (a b c : Option (List ℕ)) → Known (λ x y. y ≡ x ++ []) a b
    → Known (AppendsPart line) b c → Known (AppendsAfter [] line) a c
known_part line None b c p q = tt
known_part line (Some x) None c p q = absurd p
known_part line (Some x) (Some y) None p q = absurd q
known_part line (Some x) (Some y) (Some z) p (part, (is, e)) =
    (part, (is, e ∙ ap (λ w. w ++ part) p ∙ append_assoc x [] part))

line_sent : (line : List ℕ) (a b c : World) → Known (λ x y. y ≡ x ++ []) a.sink.sent b.sink.sent
    → a.sink.faults ≤ b.sink.faults → Says line b c → Sends [] line a c
line_sent line a b c nothing less s =
    elim s.sent as (λ _. Sends [] line a c) [
      | inl whole ↦ inl (known_sent [] line _ _ _ nothing whole)
      | inr part ↦ inr (within _ _ _ 1 less part.0, known_part line _ _ _ nothing part.1)
    ]

counted_sent : (line : List ℕ) (a b c : World)
    → Known (λ x y. y ≡ x ++ (line ++ [])) a.sink.sent b.sink.sent → c ≡ b
    → Known (λ x y. y ≡ x ++ line) a.sink.sent c.sink.sent
counted_sent line a b c sent same =
    subst (λ (bytes : List ℕ). Known (λ x y. y ≡ x ++ bytes) a.sink.sent c.sink.sent)
    (append-nil line)
    (subst (λ (w : World). Known (λ x y. y ≡ x ++ (line ++ [])) a.sink.sent w.sink.sent)
    (sym same) sent)

tells_so : (left : ChipView → Type 0) (x : Answer) (on : ChipUse)
    (fault : Option (ScanWhy × ℕ))
    (way : Way (answer_plan left x)) (a b c : World) (status : ℕ)
    → status ≡ last_status (answer_plan left x) way
    → Known (λ y z. z ≡ y ++ sent_by (use_steps on fault ++ steps_of (answer_plan left x) way))
    a.sink.sent b.sink.sent
    → a.sink.faults ≤ b.sink.faults → TellsLast All (refused_last (answer_plan left x) way) b c
    → Tells x a c status
tells_so left (Found found of counts) on None way a b c status is sent less same =
    (is, counted_sent (count_line found of counts) a b c sent same)
tells_so left (Found found of counts) on (Some fault) way a b c status is sent less same =
    (is, counted_sent (count_line found of counts) a b c sent same)
tells_so left (NotFound why k) on None way a b c status is sent less says =
    (is, line_sent (scan_refusal why k).line a b c sent less says)
tells_so left (NotFound why k) on (Some fault) way a b c status is sent less says =
    (is, line_sent (scan_refusal why k).line a b c sent less says)

-- what a scan tells
record Told (names : ScanNames) (before : Files) (a c : World) (status : ℕ) : Type 0 where
  query : Query
  image : Image
  program : Program
  query_is : AsksIn (before names.query.now) query
  image_is : read_as image_of (before names.image.now) ≡ Some image
  does : DoesScans program
  tells : Tells (answer_on program query image) a c status

text_in : (file : Option (List ℕ)) (bytes text : List ℕ) → file ≡ Some bytes
    → IfSome file (λ b. b ≡ text) → file ≡ Some text
text_in None bytes text e h = absurd (cc)
text_in (Some b) bytes text e h = ap (λ x. Some x) h

asks_at : (file : Option (List ℕ)) (text : List ℕ) (q : Query) → file ≡ Some text → Asks text q
    → AsksIn file q
asks_at file text q e asks = subst (λ (o : Option (List ℕ)). AsksIn o q) (sym e) asks

told : (names : ScanNames) (before : Files) (a b c : World) (status : ℕ)
    (way : Way (scan_plan names)) → foreseen (steps_of (scan_plan names) way) before ≡ Done
    → AreTexts (scan_plan names) way before → Leaves (scan_plan names) way c.chip
    → IsAllDone (steps_of (scan_plan names) way) (last_status (scan_plan names) way) a b status
    → a.sink.faults ≤ b.sink.faults → TellsLast All (refused_last (scan_plan names) way) b c
    → Told names before a c status
told names before a b c status (inl cut) f t left so less last = absurd left
told names before a b c status (inr (text, inr (refusal, is))) f t left so less last = absurd left
told names before a b c status (inr (text, inl (u, is, inl cut))) f t left so less last =
    absurd left
told names before a b c status (inr (text, inl (u, is, inr (q, asks, inl cut)))) f t left so less
    last = absurd left
told names before a b c status
    (inr (text, inl (u, is, inr (q, asks, inr (bytes, inr (refusal, image)))))) f t left so less last =
    absurd left
told names before a b c status
    (inr (text, inl (u, is, inr (q, asks, inr (bytes, inl (i, image, inl cut)))))) f t left so less
    last = absurd left
told names before a b c status
    (inr (text, inl (u, is, inr (q, asks, inr (bytes, inl (i, image, inr (program, does, way)))))))
    f t left so less last =
    let shown = ScanLeft program q i in
    let x = answer_on program q i in
    let fault = checked i.table (nodes_of q) in
    let on = query_use program q i in
    let steps = Take ∷ opening i ∷ (use_steps on fault ++ steps_of (answer_plan shown x) way) in
    let asked = load_there names.query.now QUERY_MAX None (before names.query.now)
    (foreseen (Load names.image.now IMAGE_MAX bytes None ∷ steps) before) f in
    let found = load_there names.image.now IMAGE_MAX None (before names.image.now)
    (foreseen steps before) asked.goes_on in
    let query_there = text_in (before names.query.now) asked.bytes text asked.there t.0 in
    let image_there = text_in (before names.image.now) found.bytes bytes found.there t.1.0 in
    record {
      query = q;
      image = i;
      program = program;
      query_is = asks_at (before names.query.now) text q query_there asks;
      image_is = ap (read_as image_of) image_there ∙ ap result_ok image;
      does = does;
      tells = tells_so shown x on fault way a b c status so.answers so.sent less last;
    }

at_end : (names : ScanNames) (before : Files) (a c : World) (status : ℕ)
    → a.files.holds ≡ Some before → (e : EndsBy (scan_plan names) a c status) → (ended : Ended)
    → ended ≡ All
    → EndsSo (steps_of (scan_plan names) e.way) (last_status (scan_plan names) e.way) ended a
    e.stood status
    → IfSome a.files.holds (IsForetold (steps_of (scan_plan names) e.way) ended)
    → TellsLast ended (refused_last (scan_plan names) e.way) e.stood c
    → LeavesAt ended (scan_plan names) e.way c.chip → Told names before a c status
at_end names before a c status here e (At stop) is so known last left = absurd (cc)
at_end names before a c status here e All is so known last left =
    let plan = scan_plan names in
    told names before a e.stood c status e.way
    (subst (λ (o : Option Files). IfSome o (IsForetold (steps_of plan e.way) All)) here known)
    (subst (λ (o : Option Files). IfSome o (AreTexts plan e.way)) here e.texts) left so
    e.ends.counts.sink last

scan_told : (names : ScanNames) (before : Files) (a c : World) (status : ℕ)
    → a.files.holds ≡ Some before → EndsBy (scan_plan names) a c status
    → (status ≡ 0) ⊎ (status ≡ 16) → Told names before a c status
scan_told names before a c status here e is =
    let plan = scan_plan names in
    at_end names before a c status here e e.ends.ended
    (all_done (steps_of plan e.way) (last_status plan e.way) e.ends.ended a e.stood status
    (scan_so status names e.way (not_by_step status is)) e.ends.so)
    e.ends.so e.ends.foretold e.last e.left

pub one_answered : OneAnswered
one_answered names before a b c d status other here there x y is also =
    let s = scan_told names before a b status here x.0 is in
    let t = scan_told names before c d other there y.0 also in
    let query = same_query (before names.query.now) s.query t.query s.query_is t.query_is in
    let image : s.image ≡ t.image = one_value _ s.image t.image s.image_is t.image_is in
    let objects = image_objects (before names.image.now) s.image s.image_is in
    let parts = asked_parts (before names.query.now) s.query s.query_is in
    let same : answer_on s.program s.query s.image ≡ answer_on t.program t.query t.image =
    same_answer s.program t.program s.query s.image s.does t.does objects parts
    ∙ ap (λ (q : Query). answer_on t.program q s.image) query
    ∙ ap (λ (i : Image). answer_on t.program t.query i) image in
    record {
      query = s.query;
      image = s.image;
      program = s.program;
      query_is = s.query_is;
      image_is = s.image_is;
      does = s.does;
      one = s.tells;
      two = subst (λ (z : Answer). Tells z c d other) (sym same) t.tells;
    }
