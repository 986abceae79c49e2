-- Programs that do the operations of scans refuse and answer alike.
use Rattle.scan_model.proofs.Common.{◌≡◌, ℕ, ◌+◌, ◌<◌, ◌≤◌, List, [], ◌∷◌, ◌++◌, Option, Some, None}
use Rattle.scan_model.proofs.Common.{refl, sym, ◌∙◌, ap, subst, is_none, AllByRecursion, option_map}
use Rattle.scan_model.proofs.Common.{WIDTH_MAX, Geometry, Shape, Microprogram, need, HasEnded}
use Rattle.scan_model.proofs.Common.{trace, TextOp, ImplementsAll, free, Named, limit_of}
use Rattle.scan_model.proofs.Common.{objects_of, Place, Instruction, Init, Bbop, Fill, Free, Why}
use Rattle.scan_model.proofs.Common.{Program, Routines, entry_named, routines_of, segments}
use Rattle.scan_model.proofs.Common.{text_op_named, trace_of, first, refusal, rows_of, walks_badly}
use Rattle.scan_model.proofs.Common.{when, table_after, table_at_end, IsPlain, Matched, both}
use Rattle.scan_model.proofs.Common.{matched}
use Rattle.std.specs.Prelude.{not, ◌==◌, length}
use Rattle.uprog_code.specs.declared.walker.Counts.{Counts}
use Rattle.uprog_code.specs.Shape.{results}
use Rattle.uprog_code.specs.Count.{counts_of}
use Rattle.uprog_code.specs.Texts.{EntryDoes}
use Rattle.bbop_isa.specs.Forms.{Load, Print, Order}
use Rattle.machine_model.specs.declared.Reply.{Reply}
use Rattle.machine_model.specs.Routines.{Routine}
use Rattle.machine_model.specs.Refusals.{bbop_refusal, operand_conditions}
use Rattle.machine_model.specs.Steps.{counts_for, if_done, issues_at, reply_by, reply_to, tabled}
use Rattle.machine_model.specs.Steps.{times}
use Rattle.machine_model.specs.Script.{replies, sum_of}
use Rattle.machine_model.specs.declared.Why.TheVariants as why
use Rattle.scan_model.specs.declared.ScanWhy.{ScanWhy}
use Rattle.scan_model.specs.Queries.{Node, nodes_of}
use Rattle.scan_model.specs.Names.{free_name}
use Rattle.scan_model.specs.Instructions.{count_of, node_instructions, script_from}
use Rattle.scan_model.specs.Checks.{checked, or_else, or_later, refused_from, refused_in}
use Rattle.scan_model.specs.Operations.{scan_text}
use Rattle.scan_model.specs.Laws.{scan_refused}
use Rattle.scan_model.specs.Answers.{Found, ScansAnswerAlike, ScansAnswerTheSame, answer}
use Rattle.scan_model.specs.Answers.{by_checks, by_run, found_in, query_count, query_script}
use Rattle.scan_model.specs.Answers.{uncounted}
use Rattle.scan_model.proofs.Answered.{scan_is_plain}
use Rattle.scan_model.proofs.Meant.{ended}

-- two routines of one shape, both of which end, or neither, at each width
abbrev AreAlike : Option Routine → Option Routine → Type 0
AreAlike None None = Unit {0}
AreAlike None (Some y) = ⊥
AreAlike (Some x) None = ⊥
AreAlike (Some x) (Some y) = (x.shape ≡ y.shape) × ((n : ℕ) → 0 < n → n ≤ WIDTH_MAX
    → walks_badly (x.trace n) ≡ walks_badly (y.trace n))

abbrev Alike : Routines → Routines → Type 0
Alike a b = (name : List ℕ) → AreAlike (a name) (b name)

walks_end : (e : Microprogram) (o : TextOp) → EntryDoes e o → (n : ℕ) → 0 < n → n ≤ WIDTH_MAX
    → walks_badly (trace e.shape e.code n) ≡ None
walks_end e o d n l k = ended (trace e.shape e.code n)
    (subst (λ (s : Shape). HasEnded (trace s e.code n)) (sym d.shape) (d.code.ends n l k))

routine_alike : (x y : Option Microprogram) (o : Option TextOp) → Matched x o → Matched y o
    → AreAlike (option_map {U = Routine} (λ (op : TextOp). record {
      shape = op.shape;
      trace = trace_of x;
    }) o) (option_map {U = Routine} (λ (op : TextOp). record {
      shape = op.shape;
      trace = trace_of y;
    }) o)
routine_alike None None None m n = tt
routine_alike None None (Some o) m n = elim m [ ]
routine_alike None (Some f) None m n = elim n [ ]
routine_alike None (Some f) (Some o) m n = elim m [ ]
routine_alike (Some e) None None m n = elim m [ ]
routine_alike (Some e) None (Some o) m n = elim n [ ]
routine_alike (Some e) (Some f) None m n = elim m [ ]
routine_alike (Some e) (Some f) (Some o) (both _ _ d) (both _ _ c) =
    (refl, λ n l k. walks_end e o d n l k ∙ sym (walks_end f o c n l k))

scans_alike : (p other : Program) → ImplementsAll p scan_text → ImplementsAll other scan_text
    → Alike (routines_of scan_text p) (routines_of scan_text other)
scans_alike p other i j name =
    routine_alike (entry_named p name) (entry_named other name) (text_op_named scan_text name)
    (matched p scan_text name i) (matched other scan_text name j)

-- the first condition that holds of an operation of this shape, whose walk is bad or not
abbrev first_of : Geometry → List Named → Shape → Option Why → List Place → ℕ → ℕ → Option Why
first_of g table shape walk places count n =
    first (when (not (length places == length (results shape ++ shape.sources))) why.Arity
    ∷ operand_conditions table shape places count n ++ walk
    ∷ when (is_none (free (limit_of g) (objects_of table) (need shape n))) why.NoRows ∷ [])

bbop_alike : (g : Geometry) (table : List Named) (x y : Option Routine) (places : List Place)
    (count n : ℕ) → AreAlike x y → 0 < n → n ≤ WIDTH_MAX
    → bbop_refusal g table x places count n ≡ bbop_refusal g table y places count n
bbop_alike g table None None places count n a l k = refl
bbop_alike g table None (Some y) places count n a l k = absurd a
bbop_alike g table (Some x) None places count n a l k = absurd a
bbop_alike g table (Some x) (Some y) places count n a l k =
    ap (λ (s : Shape). first_of g table s (walks_badly (x.trace n)) places count n) a.0
    ∙ ap (λ (w : Option Why). first_of g table y.shape w places count n) (a.1 n l k)

refusal_alike : (g : Geometry) (a b : Routines) (table : List Named) (instr : Instruction)
    → Alike a b → IsPlain instr → refusal g a table instr ≡ refusal g b table instr
refusal_alike g a b table (Init name count n) same plain = refl
refusal_alike g a b table (Bbop op dst srcs count n) same plain =
    bbop_alike g table (a op) (b op) (dst ∷ srcs) count n (same op) plain.0 plain.1
refusal_alike g a b table (Load name values) same plain = refl
refusal_alike g a b table (Fill name value) same plain = refl
refusal_alike g a b table (Print name) same plain = refl
refusal_alike g a b table (Free name) same plain = refl
refusal_alike g a b table (Order order) same plain = refl

after_alike : (g : Geometry) (a b : Routines) (table : List Named) (instr : Instruction)
    → Alike a b → IsPlain instr → table_after g a table instr ≡ table_after g b table instr
after_alike g a b table instr same plain =
    ap (λ (r : Option Why). if_done r (tabled g table instr) table)
    (refusal_alike g a b table instr same plain)

-- these are refused alike, and leave one table
refused_alike : (g : Geometry) (a b : Routines) (table : List Named) (script : List Instruction)
    → Alike a b → AllByRecursion IsPlain script
    → refused_in g a table script ≡ refused_in g b table script
refused_alike g a b table [] same plain = refl
refused_alike g a b table (instr ∷ script) same plain =
    ap (λ (r : Option Why). or_else r (refused_in g a (table_after g a table instr) script))
    (refusal_alike g a b table instr same plain.0)
    ∙ ap (λ (t : List Named). or_else (refusal g b table instr) (refused_in g a t script))
    (after_alike g a b table instr same plain.0)
    ∙ ap (or_else (refusal g b table instr))
    (refused_alike g a b (table_after g b table instr) script same plain.1)

table_alike : (g : Geometry) (a b : Routines) (table : List Named) (script : List Instruction)
    → Alike a b → AllByRecursion IsPlain script
    → table_at_end g a table script ≡ table_at_end g b table script
table_alike g a b table [] same plain = refl
table_alike g a b table (instr ∷ script) same plain =
    ap (λ (t : List Named). table_at_end g a t script)
    (after_alike g a b table instr same plain.0)
    ∙ table_alike g a b (table_after g b table instr) script same plain.1

front_plain : (xs ys : List Instruction) → AllByRecursion IsPlain (xs ++ ys)
    → AllByRecursion IsPlain xs × AllByRecursion IsPlain ys
front_plain [] ys all = (tt, all)
front_plain (x ∷ xs) ys all =
    let more = front_plain xs ys all.1 in ((all.0, more.0), more.1)

nodes_alike : (g : Geometry) (a b : Routines) (start table : List Named) (names : ℕ → List ℕ)
    (count k : ℕ) (nodes : List Node) → Alike a b
    → AllByRecursion IsPlain (script_from start names count k nodes)
    → refused_from g a start table names count k nodes
    ≡ refused_from g b start table names count k nodes
nodes_alike g a b start table names count k [] same plain = refl
nodes_alike g a b start table names count k (node ∷ nodes) same plain =
    let these = node_instructions start names count k node in
    let parts = front_plain these (script_from start names count (k + 1) nodes) plain in
    ap (λ (r : Option Why). or_later r k (refused_from g a start
    (table_at_end g a table these) names count (k + 1) nodes))
    (refused_alike g a b table these same parts.0)
    ∙ ap (λ (t : List Named). or_later (refused_in g b table these) k
    (refused_from g a start t names count (k + 1) nodes))
    (table_alike g a b table these same parts.0)
    ∙ ap (or_later (refused_in g b table these) k)
    (nodes_alike g a b start (table_at_end g b table these) names count (k + 1) nodes same
    parts.1)

run_case : (found of : ℕ) (x y : Counts) (r : Option (Why × ℕ))
    → uncounted (by_run r (Found found of x)) ≡ uncounted (by_run r (Found found of y))
run_case found of x y None = refl
run_case found of x y (Some r) = refl

answer_case : (found of : ℕ) (x y : Counts) (c : Option (ScanWhy × ℕ)) (r s : Option (Why × ℕ))
    → (c ≡ None → r ≡ s)
    → uncounted (by_checks c (by_run r (Found found of x)))
    ≡ uncounted (by_checks c (by_run s (Found found of y)))
answer_case found of x y (Some reason) r s same = refl
answer_case found of x y None r s same =
    ap (λ (t : Option (Why × ℕ)). uncounted (by_run t (Found found of x))) (same refl)
    ∙ run_case found of x y s

pub scans_answer_alike : ScansAnswerAlike
unfolding answer
scans_answer_alike g p other banks table q i j all parts =
    let a = routines_of scan_text p in
    let b = routines_of scan_text other in
    answer_case (found_in g banks table q) (query_count table q)
    (sum_of (replies g a table (query_script table q)))
    (sum_of (replies g b table (query_script table q))) (checked table (nodes_of q))
    (scan_refused g a table q) (scan_refused g b table q)
    (λ checks. nodes_alike g a b table table (free_name table) (count_of table (nodes_of q)) 0
    (nodes_of q) (scans_alike p other i j) (scan_is_plain g table q all parts checks))

-- ---- where the operations take as many commands

abbrev SameCosts : Routines → Routines → Type 0
SameCosts a b = (name : List ℕ) (n : ℕ) → 0 < n → n ≤ WIDTH_MAX
    → counts_of (issues_at (a name) n) ≡ counts_of (issues_at (b name) n)

counts_same : (g : Geometry) (a b : Routines) (table : List Named) (instr : Instruction)
    → SameCosts a b → IsPlain instr → counts_for g a table instr ≡ counts_for g b table instr
counts_same g a b table (Init name count n) costs plain = refl
counts_same g a b table (Bbop op dst srcs count n) costs plain =
    ap (times (segments g (rows_of table dst))) (costs op n plain.0 plain.1)
counts_same g a b table (Load name values) costs plain = refl
counts_same g a b table (Fill name value) costs plain = refl
counts_same g a b table (Print name) costs plain = refl
counts_same g a b table (Free name) costs plain = refl
counts_same g a b table (Order order) costs plain = refl

reply_same : (g : Geometry) (a b : Routines) (table : List Named) (instr : Instruction)
    → Alike a b → SameCosts a b → IsPlain instr
    → reply_to g a table instr ≡ reply_to g b table instr
reply_same g a b table instr same costs plain =
    ap (λ (r : Option Why). reply_by r (counts_for g a table instr))
    (refusal_alike g a b table instr same plain)
    ∙ ap (reply_by (refusal g b table instr)) (counts_same g a b table instr costs plain)

replies_same : (g : Geometry) (a b : Routines) (table : List Named) (script : List Instruction)
    → Alike a b → SameCosts a b → AllByRecursion IsPlain script
    → replies g a table script ≡ replies g b table script
replies_same g a b table [] same costs plain = refl
replies_same g a b table (instr ∷ script) same costs plain =
    ap (λ (r : Reply). r ∷ replies g a (table_after g a table instr) script)
    (reply_same g a b table instr same costs plain.0)
    ∙ ap (λ (t : List Named). reply_to g b table instr ∷ replies g a t script)
    (after_alike g a b table instr same plain.0)
    ∙ ap (λ (rs : List Reply). reply_to g b table instr ∷ rs)
    (replies_same g a b (table_after g b table instr) script same costs plain.1)

same_case : (found of : ℕ) (x y : Counts) (c : Option (ScanWhy × ℕ)) (r s : Option (Why × ℕ))
    → (c ≡ None → (r ≡ s) × (x ≡ y))
    → by_checks c (by_run r (Found found of x)) ≡ by_checks c (by_run s (Found found of y))
same_case found of x y (Some reason) r s same = refl
same_case found of x y None r s same =
    let both = same refl in
    ap (λ (t : Option (Why × ℕ)). by_run t (Found found of x)) both.0
    ∙ ap (λ (k : Counts). by_run s (Found found of k)) both.1

-- programs of the same costs give the same answer
pub scans_answer_the_same : ScansAnswerTheSame
unfolding answer
scans_answer_the_same g p other banks table q i j costs all parts =
    let a = routines_of scan_text p in
    let b = routines_of scan_text other in
    let alike = scans_alike p other i j in
    same_case (found_in g banks table q) (query_count table q)
    (sum_of (replies g a table (query_script table q)))
    (sum_of (replies g b table (query_script table q))) (checked table (nodes_of q))
    (scan_refused g a table q) (scan_refused g b table q)
    (λ checks. let plain = scan_is_plain g table q all parts checks in (
      nodes_alike g a b table table (free_name table) (count_of table (nodes_of q)) 0
          (nodes_of q) alike plain,
      ap sum_of (replies_same g a b table (query_script table q) alike costs plain),
    ))
