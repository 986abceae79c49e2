-- What the parts of a scan come to together.
use Rattle.scan_query.proofs.Common.{◌≡◌, ℕ, suc, ◌+◌, ◌*◌, ◌<◌, ◌≤◌, List, [], ◌∷◌, ◌++◌, map}
use Rattle.scan_query.proofs.Common.{length, Option, Some, None, sym, ◌∙◌, ap, subst, arith}
use Rattle.scan_query.proofs.Common.{length-append, ◌-◌, ◌^◌, ◌==◌, take, append-nil, count_by}
use Rattle.scan_query.proofs.Common.{AllByRecursion, Geometry, Counters, column_count, segments_of}
use Rattle.scan_query.proofs.Common.{Banks, Event, all_counted, ChipView, DidRead, with_reads}
use Rattle.scan_query.proofs.Common.{Counts, Named, Turn, Why, IsPlain, Routines, Piece}
use Rattle.scan_query.proofs.Common.{events_of_pieces, pieces, piece_of, turn_at_end, table_at_end}
use Rattle.scan_query.proofs.Common.{Machine, geometry_of, operations_by, program_of, table_in}
use Rattle.scan_query.proofs.Common.{turn_in, DidAndRead, Refused, checked, checked_from, count_of}
use Rattle.scan_query.proofs.Common.{scan_script, free_name, Query, Compare, Negate, Node}
use Rattle.scan_query.proofs.Common.{nodes_from, size, each_is_alone, size_is, Ok, after, segments}
use Rattle.std.specs.Prelude.{All}
use Rattle.dram_model.specs.Chip.{Grew}
use Rattle.dram_model.proofs.EventLaws.{Grew-more}
use Rattle.uprog_code.specs.Texts.{ImplementsAll}
use Rattle.object_alloc.specs.declared.table.Object.{Object}
use Rattle.object_alloc.specs.Free.{end_of}
use Rattle.object_alloc.specs.Listed.{limit_of}
use Rattle.object_alloc.specs.Spelling.{IsObject}
use Rattle.machine_model.specs.Columns.{columns}
use Rattle.machine_model.specs.Laws.{FitsBanks}
use Rattle.machine_model.specs.Script.{banks_at_end, replies, sum_of, with_counts, with_writes}
use Rattle.machine_model.proofs.Bounds.{geometry_parts}
use Rattle.machine_model.proofs.Pieces.{counted_by_replies, events_are_steps}
use Rattle.machine_model.proofs.Texts.{same_operations}
use Rattle.sim_machine.specs.Machine.{IsLaidOut, at_end}
use Rattle.scan_model.specs.declared.ScanWhy.{ScanWhy}
use Rattle.scan_model.specs.Answers.{Found, LeavesOne, answer, by_checks, by_run, found_in}
use Rattle.scan_model.specs.Answers.{query_count, query_script, room_word}
use Rattle.scan_model.specs.Laws.{scan_refused}
use Rattle.scan_model.specs.Operations.{scan_text}
use Rattle.scan_model.specs.Queries.{Both, Either, nodes_of, HasParts}
use Rattle.scan_model.proofs.Answered.{scan_is_plain, scans_answer}
use Rattle.scan_model.proofs.Counted.{all_append, nothing_is_moved}
use Rattle.scan_model.proofs.Trees.{size_some}
use Rattle.scan_query.specs.Queries.{IsNodesOf, sources_fit}
use Rattle.scan_query.specs.Running.{AreBelow, NodesRan, NodesRun, refused_node}
use Rattle.scan_query.proofs.Nodewise.{node_room}

-- the sources of a query's nodes are among them
sources_of : (k limit : ℕ) (q : Query) → k + size q ≤ limit
    → AllByRecursion (sources_fit limit) (nodes_from k q)
sources_of k limit (Compare op name v) l = (tt, tt)
sources_of k limit (Negate a) l =
    let s = size_some a in
    all_append (sources_fit limit) (nodes_from k a) _ (sources_of k limit a (omega (arith, l)))
    (omega (arith, l, s), tt)
sources_of k limit (Both a b) l =
    let s = size_some a in
    let r = size_some b in
    all_append (sources_fit limit) (nodes_from k a) _ (sources_of k limit a (omega (arith, l)))
    (all_append (sources_fit limit) (nodes_from (k + size a) b) _
    (sources_of (k + size a) limit b (omega (arith, l)))
    ((omega (arith, l, s), omega (arith, l, r)), tt))
sources_of k limit (Either a b) l =
    let s = size_some a in
    let r = size_some b in
    all_append (sources_fit limit) (nodes_from k a) _ (sources_of k limit a (omega (arith, l)))
    (all_append (sources_fit limit) (nodes_from (k + size a) b) _
    (sources_of (k + size a) limit b (omega (arith, l)))
    ((omega (arith, l, s), omega (arith, l, r)), tt))

pub sources_fit_all : (t : Query) (nodes : List Node) → IsNodesOf t nodes
    → AllByRecursion (sources_fit 64) nodes
sources_fit_all t nodes h = subst (AllByRecursion (sources_fit 64)) (sym h.nodes_are)
    (sources_of 0 64 t (omega (arith, h.small)))

pub few_nodes : (t : Query) (nodes : List Node) → IsNodesOf t nodes → length nodes ≤ 64
few_nodes t nodes h = let s = size_is 0 t in let e = ap length h.nodes_are in
    omega (arith, s, e, h.small)

pub plain_nodes : (m : Machine) (t : Query) (nodes : List Node) → IsLaidOut m → IsNodesOf t nodes
    → checked (table_in m) nodes ≡ None → AllByRecursion IsPlain (scan_script (table_in m) nodes)
plain_nodes m t nodes laid h e =
    subst (λ (ns : List Node). AllByRecursion IsPlain (scan_script (table_in m) ns))
    (sym h.nodes_are) (scan_is_plain (geometry_of m) (table_in m) t laid.table.objects h.parts
    (ap (checked (table_in m)) (sym h.nodes_are) ∙ e))

-- the answers
pub answer_checked : (g : Geometry) (ops : Routines) (banks : Banks) (table : List Named)
    (t : Query) (why : ScanWhy) (k : ℕ) → checked table (nodes_of t) ≡ Some (why, k)
    → Refused why k ≡ answer g ops banks table t
unfolding answer
answer_checked g ops banks table t why k e = sym (ap (λ r. by_checks r
    (by_run (scan_refused g ops table t) (Found (found_in g banks table t) (query_count table t)
    (sum_of (replies g ops table (query_script table t)))))) e)

pub answer_refused : (g : Geometry) (ops : Routines) (banks : Banks) (table : List Named)
    (t : Query) (why : Why) (k : ℕ) → checked table (nodes_of t) ≡ None
    → scan_refused g ops table t ≡ Some (why, k)
    → Refused (room_word why) k ≡ answer g ops banks table t
unfolding answer
answer_refused g ops banks table t why k e f = sym (ap (λ r. by_checks r
    (by_run (scan_refused g ops table t) (Found (found_in g banks table t) (query_count table t)
    (sum_of (replies g ops table (query_script table t)))))) e
    ∙ ap (λ r. by_run r (Found (found_in g banks table t) (query_count table t)
    (sum_of (replies g ops table (query_script table t))))) f)

pub answer_found : (g : Geometry) (ops : Routines) (banks : Banks) (table : List Named)
    (t : Query) → checked table (nodes_of t) ≡ None → scan_refused g ops table t ≡ None
    → Found (found_in g banks table t) (query_count table t)
    (sum_of (replies g ops table (query_script table t))) ≡ answer g ops banks table t
unfolding answer
answer_found g ops banks table t e f = sym (ap (λ r. by_checks r
    (by_run (scan_refused g ops table t) (Found (found_in g banks table t) (query_count table t)
    (sum_of (replies g ops table (query_script table t)))))) e
    ∙ ap (λ r. by_run r (Found (found_in g banks table t) (query_count table t)
    (sum_of (replies g ops table (query_script table t))))) f)

no_writes : (c : Counters) → with_writes 0 c ≡ c
no_writes c = ap (λ k. let d : Counters = record c { writes = k } in d) (omega arith)

-- the counters rise by the replies
pub counts_risen : (g : Geometry) (ops : Routines) (turn : Turn) (table : List Named)
    (nodes : List Node) (k new : Counters) → 0 < g.words → FitsBanks g table
    → new ≡ all_counted (events_of_pieces g ops turn table (map piece_of (scan_script table nodes)))
    k
    → new ≡ with_counts k (sum_of (replies g ops table (scan_script table nodes)))
counts_risen g ops turn table nodes k new words fits e =
    e ∙ ap (λ ps. all_counted (events_of_pieces g ops turn table ps) k) (sym (each_is_alone table
    nodes))
    ∙ counted_by_replies g ops turn table (scan_script table nodes) k words fits
    ∙ ap (λ n. with_writes n (with_counts k (sum_of (replies g ops table (scan_script table
    nodes)))))
    (nothing_is_moved.loads g ops table table nodes)
    ∙ no_writes (with_counts k (sum_of (replies g ops table (scan_script table nodes))))

-- the last object's ones are what is found
pub leaves_one : (m : Machine) (banks : Banks) (t : Query) → IsLaidOut m
    → ((b : ℕ) → b < (geometry_of m).banks → length (banks b) ≡ column_count (geometry_of m))
    → ImplementsAll (program_of m) scan_text → size t ≤ 64 → HasParts t
    → checked (table_in m) (nodes_of t) ≡ None
    → scan_refused (geometry_of m) (operations_by m) (table_in m) t ≡ None
    → LeavesOne (geometry_of m) (operations_by m) banks (table_in m) t
leaves_one m banks t laid shaped impl small parts checks none =
    let g = geometry_of m in
    let same = same_operations (program_of m) scan_text impl in
    subst (λ (ops : Routines). LeavesOne g ops banks (table_in m) t) same
    (scans_answer g (program_of m) banks (table_in m) t (geometry_parts g laid.shape).0 impl
    shaped laid.table.listed laid.table.objects small parts checks
    (subst (λ (ops : Routines). scan_refused g ops (table_in m) t ≡ None) (sym same) none))

all_last : {X : Type 0} (P : X → Type 0) (front : List X) (x : X) → All P (front ++ x ∷ []) → P x
all_last P [] x all = all 0 x (omega arith)
all_last P (y ∷ front) x all = all_last P front x (λ k d l. all (suc k) d (omega (arith, l)))

fit : (g : Geometry) (table : List Named) → All (λ named. IsObject g named.1) table
    → FitsBanks g table
fit g table all k d l = (all k d l).fits

-- a query's events leave the banks as its instructions one after another do
banks_come : (m : Machine) (nodes : List Node) (banks : Banks) → IsLaidOut m
    → after (events_of_pieces (geometry_of m) (operations_by m) (turn_in m) (table_in m)
    (map piece_of (scan_script (table_in m) nodes))) banks
    ≡ banks_at_end (geometry_of m) (operations_by m) (table_in m) banks
    (scan_script (table_in m) nodes)
banks_come m nodes banks laid =
    let g = geometry_of m in
    let ops = operations_by m in
    let table = table_in m in
    ap (λ (ps : List Piece). after (events_of_pieces g ops (turn_in m) table ps) banks)
    (sym (each_is_alone table nodes))
    ∙ events_are_steps g ops (turn_in m) table (scan_script table nodes) banks
    (geometry_parts g laid.shape).0 (fit g table laid.table.objects)

-- what a scan that is done leaves
pub leaves : (a b : Machine) (s t : ChipView) (nodes : List Node) (q : Query) → IsLaidOut a
    → ((bank : ℕ) → bank < (geometry_of a).banks
    → length (s.banks bank) ≡ column_count (geometry_of a))
    → ImplementsAll (program_of a) scan_text → IsNodesOf q nodes
    → checked (table_in a) nodes ≡ None → NodesRan nodes a b s t
    → LeavesOne (geometry_of a) (operations_by a) s.banks (table_in a) q
leaves a b s t nodes q laid shaped impl h checks ran =
    leaves_one a s.banks q laid shaped impl h.small h.parts
    (ap (checked (table_in a)) (sym h.nodes_are) ∙ checks)
    (ap (λ (ns : List Node). refused_node a ns) (sym h.nodes_are) ∙ ran.allowed)

pub table_left : (a b : Machine) (s t : ChipView) (nodes : List Node) (q : Query)
    → IsNodesOf q nodes → NodesRan nodes a b s t
    → (l : LeavesOne (geometry_of a) (operations_by a) s.banks (table_in a) q)
    → table_in b ≡ table_in a ++ (free_name (table_in a) (size q), l.object) ∷ []
table_left a b s t nodes q h ran l =
    ap table_in ran.ran.machine
    ∙ ap (λ (ns : List Node). table_at_end (geometry_of a) (operations_by a) (table_in a)
    (scan_script (table_in a) ns)) h.nodes_are
    ∙ l.one_more

shaped_as : (g shown : Geometry) (banks : Banks) → shown ≡ g
    → ((b : ℕ) → b < shown.banks → length (banks b) ≡ 64 * shown.words)
    → (b : ℕ) → b < g.banks → length (banks b) ≡ column_count g
shaped_as g shown banks e w = subst (λ (x : Geometry). (b : ℕ) → b < x.banks
    → length (banks b) ≡ column_count x) e w

-- what stands where the nodes of a query were done
pub record Asked (a b : Machine) (s t : ChipView) (nodes : List Node) (q : Query) : Type 0 where
  pub ran : NodesRan nodes a b s t
  pub checks : checked (table_in a) nodes ≡ None
  pub leaves : LeavesOne (geometry_of a) (operations_by a) s.banks (table_in a) q
  pub left : table_in b ≡ table_in a ++ (free_name (table_in a) (size q), leaves.object) ∷ []

pub asked : (a b : Machine) (s t : ChipView) (nodes seen : List Node) (q : Query)
    (r : Option (Why × ℕ)) → IsLaidOut a → s.geometry ≡ geometry_of a
    → ((bank : ℕ) → bank < s.geometry.banks → length (s.banks bank) ≡ 64 * s.geometry.words)
    → ImplementsAll (program_of a) scan_text → IsNodesOf q nodes → seen ≡ nodes
    → checked (table_in a) nodes ≡ None → r ≡ None → NodesRun seen a b s t (Ok r)
    → Asked a b s t nodes q
asked a b s t nodes seen q r laid shape shaped impl h same checks none runs =
    let ran = subst (λ (ns : List Node). NodesRan ns a b s t) same
    (subst (λ (x : Option (Why × ℕ)). NodesRun seen a b s t (Ok x)) none runs) in
    let l = leaves a b s t nodes q laid (shaped_as (geometry_of a) s.geometry s.banks shape shaped)
    impl h checks ran in
    record { ran = ran; checks = checks; leaves = l; left = table_left a b s t nodes q h ran l }

pub some_left : (front : List Named) (x : Named) (table : List Named) → table ≡ front ++ x ∷ []
    → 0 < length table
some_left front x table e =
    let n = ap length e in
    let m = length-append front (x ∷ []) in
    omega (arith, n, m)

-- the last object lies in the banks
pub record LiesIn (g : Geometry) (o : Object) : Type 0 where
  pub low : end_of o ≤ limit_of g
  pub object : IsObject g o

pub last_lies : (b : Machine) (front : List Named) (x : Named) → IsLaidOut b
    → table_in b ≡ front ++ x ∷ [] → LiesIn (geometry_of b) x.1
last_lies b front x laid e = record {
  low = all_last (λ p. end_of p.1 ≤ limit_of (geometry_of b)) front x
      (subst (λ (t : List Named). All (λ p. end_of p.1 ≤ limit_of (geometry_of b)) t) e
      laid.table.listed.within);
  object = all_last (λ p. IsObject (geometry_of b) p.1) front x
      (subst (λ (t : List Named). All (λ p. IsObject (geometry_of b) p.1) t) e
      laid.table.objects);
}

-- its ones are the elements found
pub ones_found : (a b : Machine) (s t : ChipView) (nodes : List Node) (q : Query) → IsLaidOut a
    → IsNodesOf q nodes → NodesRan nodes a b s t
    → (l : LeavesOne (geometry_of a) (operations_by a) s.banks (table_in a) q)
    → count_by (λ v. v == 1) (take l.object.count (columns (geometry_of a) t.banks l.object))
    ≡ found_in (geometry_of a) s.banks (table_in a) q
ones_found a b s t nodes q laid h ran l =
    let g = geometry_of a in
    let found : Banks → ℕ = λ banks.
    count_by (λ v. v == 1) (take l.object.count (columns g banks l.object)) in
    ap found (ran.ran.did.banks ∙ banks_come a nodes s.banks laid
    ∙ ap (λ (ns : List Node). banks_at_end g (operations_by a) (table_in a) s.banks
    (scan_script (table_in a) ns)) h.nodes_are)
    ∙ l.ones

-- the counters after it
pub counts_after : (a b : Machine) (s t : ChipView) (nodes : List Node) → IsLaidOut a
    → NodesRan nodes a b s t
    → t.counters ≡ with_counts s.counters (sum_of (replies (geometry_of a) (operations_by a)
    (table_in a) (scan_script (table_in a) nodes)))
counts_after a b s t nodes laid ran = counts_risen (geometry_of a) (operations_by a) (turn_in a)
    (table_in a) nodes s.counters t.counters
    (geometry_parts (geometry_of a) laid.shape).0
    (fit (geometry_of a) (table_in a) laid.table.objects) ran.ran.did.counters

difference : (old new : Counters) (sum counts : Counts) → new ≡ with_counts old sum
    → counts.aap ≡ new.aap - old.aap → counts.ap ≡ new.ap - old.ap → counts ≡ sum
difference old new sum counts e aap ap' =
    let more = ap (λ (k : Counters). k.aap) e in
    let more' = ap (λ (k : Counters). k.ap) e in
    let first : counts.aap ≡ sum.aap = omega (arith, aap, more) in
    let second : counts.ap ≡ sum.ap = omega (arith, ap', more') in
    ap (λ n. let c : Counts = record { aap = n; ap = counts.ap } in c) first
    ∙ ap (λ n. let c : Counts = record { aap = sum.aap; ap = n } in c) second

-- so the answer is the model's
pub answer_done : (a b : Machine) (s t : ChipView) (nodes : List Node) (q : Query)
    (found of : ℕ) (counts : Counts) → IsLaidOut a → IsNodesOf q nodes
    → checked (table_in a) nodes ≡ None → NodesRan nodes a b s t
    → (l : LeavesOne (geometry_of a) (operations_by a) s.banks (table_in a) q)
    → found ≡ count_by (λ v. v == 1) (take l.object.count
    (columns (geometry_of a) t.banks l.object))
    → of ≡ count_of (table_in a) nodes
    → counts.aap ≡ t.counters.aap - s.counters.aap → counts.ap ≡ t.counters.ap - s.counters.ap
    → Found found of counts ≡ answer (geometry_of a) (operations_by a) s.banks (table_in a) q
answer_done a b s t nodes q found of counts laid h checks ran l ones same aap ap' =
    let g = geometry_of a in
    let ops = operations_by a in
    let table = table_in a in
    let sum = sum_of (replies g ops table (scan_script table nodes)) in
    ap (λ n. Found n of counts) (ones ∙ ones_found a b s t nodes q laid h ran l)
    ∙ ap (λ n. Found (found_in g s.banks table q) n counts)
    (same ∙ ap (count_of table) h.nodes_are)
    ∙ ap (λ (c : Counts). Found (found_in g s.banks table q) (query_count table q) c)
    (difference s.counters t.counters sum counts (counts_after a b s t nodes laid ran) aap ap'
    ∙ ap (λ (ns : List Node). sum_of (replies g ops table (scan_script table ns))) h.nodes_are)
    ∙ answer_found g ops s.banks table q
    (ap (checked table) (sym h.nodes_are) ∙ checks)
    (ap (λ (ns : List Node). refused_node a ns) (sym h.nodes_are) ∙ ran.allowed)

-- and its events and reads are what the chip did
pub all_done : (a b : Machine) (s t u : ChipView) (nodes : List Node) (n : ℕ)
    → NodesRan nodes a b s t → DidRead n t u
    → DidAndRead (events_of_pieces (geometry_of a) (operations_by a) (turn_in a) (table_in a)
    (pieces (scan_script (table_in a) nodes))) n s u
all_done a b s t u nodes n ran read =
    let g = geometry_of a in
    let events : List Piece → List Event = events_of_pieces g (operations_by a) (turn_in a)
    (table_in a) in
    let script = scan_script (table_in a) nodes in
    subst (λ (ps : List Piece). DidAndRead (events ps) n s u)
    (sym (each_is_alone (table_in a) nodes))
    (let d : DidAndRead (events (map piece_of script)) n s u = record {
      banks = read.banks ∙ ran.ran.did.banks;
      counters = read.counters ∙ ap (with_reads n) ran.ran.did.counters;
      faults = read.faults ∙ ran.ran.did.faults;
      log = subst (λ (es : List Event). Grew s.log u.log es)
          (append-nil (events (map piece_of script)))
          (Grew-more s.log t.log u.log (events (map piece_of script)) [] ran.ran.did.log
          read.log);
    } in d)

pub room_left : (a b : Machine) (s t : ChipView) (nodes : List Node) → length nodes ≤ 64
    → NodesRan nodes a b s t → AreBelow (2 ^ 62) s.counters
    → AreBelow (2 ^ 62 + 2 ^ 59) t.counters
room_left a b s t nodes few ran room = node_room (table_in a) (free_name (table_in a))
    (count_of (table_in a) nodes) nodes a b s t few ran.ran room

pub goes_on : (a b : Machine) (s t : ChipView) (nodes : List Node) → NodesRan nodes a b s t
    → b ≡ at_end a (scan_script (table_in a) nodes)
goes_on a b s t nodes ran =
    let m = at_end a (scan_script (table_in a) nodes) in
    ran.ran.machine
    ∙ ap (λ (ps : List Piece). let n : Machine = record m {
      turn = turn_at_end (geometry_of a) (operations_by a) (turn_in a) (table_in a) ps;
    } in n) (sym (each_is_alone (table_in a) nodes))

-- what the code looked at is what the definitions name
pub check_says : (table shown again : List Named) (nodes seen : List Node) (count : ℕ)
    (r : Option (ScanWhy × ℕ)) → shown ≡ table → again ≡ table → seen ≡ nodes
    → count ≡ count_of shown seen → r ≡ checked_from again count 0 seen → r ≡ checked table nodes
check_says table shown again nodes seen count r e f s c h = rw (c, e, f, s) at h

-- the last object can be read
pub record IsLast (g : Geometry) (o : Object) : Type 0 where
  pub low : o.base < g.rows
  pub object : IsObject g o
  pub narrow : o.width ≡ 1

pub last_is : (a b : Machine) (s t : ChipView) (nodes : List Node) (q : Query) (shown : Geometry)
    (o : Object) → IsLaidOut b → IsNodesOf q nodes → NodesRan nodes a b s t
    → (l : LeavesOne (geometry_of a) (operations_by a) s.banks (table_in a) q)
    → shown ≡ geometry_of a → o ≡ l.object → IsLast shown o
last_is a b s t nodes q shown o laid h ran l e f =
    let lies = subst (λ (x : Geometry). LiesIn x l.object) (ap geometry_of ran.ran.machine ∙ sym e)
    (last_lies b (table_in a) (free_name (table_in a) (size q), l.object) laid
    (table_left a b s t nodes q h ran l)) in
    let low = lies.low in
    let narrow = l.narrow in
    subst (λ (x : Object). IsLast shown x) (sym f) (record {
      low = omega (arith, low, narrow);
      object = lies.object;
      narrow = narrow;
    })

-- it is read once, row by row
pub reads_are : (a : Machine) (s : ChipView) (nodes : List Node) (q : Query) (shown : Geometry)
    (o : Object) → IsNodesOf q nodes
    → (l : LeavesOne (geometry_of a) (operations_by a) s.banks (table_in a) q)
    → shown ≡ geometry_of a → o ≡ l.object
    → segments shown o ≡ segments_of (geometry_of a) (count_of (table_in a) nodes)
reads_are a s nodes q shown o h l e f =
    ap (λ (x : Geometry). segments x o) e ∙ ap (λ (x : Object). segments (geometry_of a) x) f
    ∙ ap (segments_of (geometry_of a))
    (l.counted ∙ ap (count_of (table_in a)) (sym h.nodes_are))

-- what is counted is what the definitions count
pub ones_as : (g shown : Geometry) (banks : Banks) (o object : Object) (found : ℕ) → shown ≡ g
    → o ≡ object
    → found ≡ count_by (λ v. v == 1) (take o.count (columns shown banks o))
    → found ≡ count_by (λ v. v == 1) (take object.count (columns g banks object))
ones_as g shown banks o object found e f h =
    h ∙ ap (λ (x : Geometry). count_by (λ v. v == 1) (take o.count (columns x banks o))) e
    ∙ ap (λ (x : Object). count_by (λ v. v == 1) (take x.count (columns g banks x))) f

pub rises : (old new : Counters) (sum : Counts) → new ≡ with_counts old sum
    → (old.aap ≤ new.aap) × (old.ap ≤ new.ap)
rises old new sum e =
    let more = ap (λ (k : Counters). k.aap) e in
    let more' = ap (λ (k : Counters). k.ap) e in
    (omega (arith, more), omega (arith, more'))

pub counters_end : (a b : Machine) (s t u : ChipView) (nodes : List Node) (n : ℕ)
    (counts : Counts) → IsLaidOut a → NodesRan nodes a b s t → DidRead n t u
    → counts.aap ≡ t.counters.aap - s.counters.aap → counts.ap ≡ t.counters.ap - s.counters.ap
    → u.counters ≡ with_reads n (with_counts s.counters counts)
counters_end a b s t u nodes n counts laid ran read aap ap' =
    let following = counts_after a b s t nodes laid ran in
    read.counters
    ∙ ap (with_reads n) (following
    ∙ ap (with_counts s.counters) (sym (difference s.counters t.counters
    (sum_of (replies (geometry_of a) (operations_by a) (table_in a)
    (scan_script (table_in a) nodes))) counts following aap ap')))

-- the checks do not pass and refuse
pub not_both : {X : Type 0} (o : Option X) (found : X) → o ≡ Some found → o ≡ None → ⊥
not_both (Some x) found e f = cc
not_both None found e f = cc
