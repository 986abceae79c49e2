-- What stands where there was no room for one of a query's instructions.
use Rattle.simdram_cli.proofs.Common.{◌≡◌, ℕ, ◌+◌, Bool, true, false, List, [], ◌∷◌, ◌++◌, map}
use Rattle.simdram_cli.proofs.Common.{cond, refl, sym, ◌∙◌, ap, subst, arith, ◌&&◌, Counters}
use Rattle.simdram_cli.proofs.Common.{Geometry, after, all_counted, ChipView, Did, LogIs-more}
use Rattle.simdram_cli.proofs.Common.{Named, Instruction, Free, Ahead, Why, Image, opened}
use Rattle.simdram_cli.proofs.Common.{row_writes, Alone, Piece, Wave, events_of_pieces, pieces}
use Rattle.simdram_cli.proofs.Common.{script_events, Program, Routines, routines_in, is_bbop}
use Rattle.simdram_cli.proofs.Common.{replies, rows_loaded, sum_done, sum_of, with_counts}
use Rattle.simdram_cli.proofs.Common.{counted_by_replies, events_are_steps, Machine, geometry_of}
use Rattle.simdram_cli.proofs.Common.{program_of, table_in, turn_in, query_script, count_of}
use Rattle.simdram_cli.proofs.Common.{scan_script, scan_refused, Node, Query, nodes_of}
use Rattle.machine_model.specs.Pieces.{piece_of, pieces_from}
use Rattle.machine_model.specs.Script.{with_writes}
use Rattle.machine_model.proofs.Parts.{rows_append}
use Rattle.scan_model.specs.Instructions.{node_instructions, script_from}
use Rattle.scan_model.specs.Names.{free_name}
use Rattle.scan_model.specs.Queries.{And, Not, Or, Test}
use Rattle.scan_model.proofs.Counted.{nothing_is_moved}
use Rattle.scan_query.specs.Running.{StoppedAt, refused_node}
use Rattle.simdram_cli.specs.Job.{opened_counters}
use Rattle.simdram_cli.specs.Scan.{QueryStopped}
use Rattle.simdram_cli.proofs.Progress.{Holds}
use Rattle.simdram_cli.proofs.Scanning.{RanOn, own_script}

-- each instruction of a query is a piece of its own, also where it stops early

-- no two bbops stand side by side
abbrev IsLone : List Instruction → Type 0
IsLone [] = Unit {0}
IsLone (x ∷ []) = Unit {0}
IsLone (x ∷ (y ∷ xs)) = ((is_bbop x && is_bbop y) ≡ false) × IsLone (y ∷ xs)

lone_tail : (x : Instruction) (xs : List Instruction) → IsLone (x ∷ xs) → IsLone xs
lone_tail x [] h = tt
lone_tail x (y ∷ xs) h = h.1

lone_front : (xs ys : List Instruction) → IsLone (xs ++ ys) → IsLone xs
lone_front [] ys h = tt
lone_front (x ∷ []) ys h = tt
lone_front (x ∷ (y ∷ xs)) ys h = (h.0, lone_front (y ∷ xs) ys h.1)

one_piece : (b : Bool) (x : Instruction) → is_bbop x ≡ b → pieces (x ∷ []) ≡ piece_of x ∷ []
one_piece true x e = rw e refl
one_piece false x e = rw e refl

two_pieces : (b : Bool) (x y : Instruction) (xs : List Instruction) → is_bbop x ≡ b
    → (is_bbop x && is_bbop y) ≡ false → pieces (y ∷ xs) ≡ map piece_of (y ∷ xs)
    → pieces xs ≡ map piece_of xs → pieces (x ∷ (y ∷ xs)) ≡ map piece_of (x ∷ (y ∷ xs))
two_pieces true x y xs e h rest last =
    let other : is_bbop y ≡ false = rw e at h in
    let tail = Wave (x ∷ []) ∷ Alone y ∷ pieces xs in
    let first : pieces (x ∷ (y ∷ xs)) ≡ pieces_from (x ∷ []) (y ∷ xs) =
    ap (λ b. cond b (pieces_from (x ∷ []) (y ∷ xs)) (Alone x ∷ pieces (y ∷ xs))) e in
    let second : pieces_from (x ∷ []) (y ∷ xs) ≡ tail =
    ap (λ b. cond b (pieces_from (x ∷ y ∷ []) xs) tail) other in
    let one : piece_of x ≡ Wave (x ∷ []) = ap (λ b. cond b (Wave (x ∷ [])) (Alone x)) e in
    let two : piece_of y ≡ Alone y = ap (λ b. cond b (Wave (y ∷ [])) (Alone y)) other in
    first ∙ second ∙ ap (λ (ps : List Piece). Wave (x ∷ []) ∷ Alone y ∷ ps) last
    ∙ sym (ap (λ (p : Piece). p ∷ piece_of y ∷ map piece_of xs) one
    ∙ ap (λ (p : Piece). Wave (x ∷ []) ∷ p ∷ map piece_of xs) two)
two_pieces false x y xs e h rest last =
    let first : pieces (x ∷ (y ∷ xs)) ≡ Alone x ∷ pieces (y ∷ xs) =
    ap (λ b. cond b (pieces_from (x ∷ []) (y ∷ xs)) (Alone x ∷ pieces (y ∷ xs))) e in
    let one : piece_of x ≡ Alone x = ap (λ b. cond b (Wave (x ∷ [])) (Alone x)) e in
    first ∙ ap (λ (ps : List Piece). Alone x ∷ ps) rest
    ∙ sym (ap (λ (p : Piece). p ∷ map piece_of (y ∷ xs)) one)

lone_pieces : (xs : List Instruction) → IsLone xs → pieces xs ≡ map piece_of xs
lone_pieces [] h = refl
lone_pieces (x ∷ []) h = one_piece (is_bbop x) x refl
lone_pieces (x ∷ (y ∷ xs)) h =
    two_pieces (is_bbop x) x y xs refl h.0 (lone_pieces (y ∷ xs) h.1)
    (lone_pieces xs (lone_tail y xs h.1))

lone_free : (name : List ℕ) (rest : List Instruction) → IsLone rest → IsLone (Free name ∷ rest)
lone_free name [] h = tt
lone_free name (y ∷ rest) h = (refl, h)

lone_node : (table : List Named) (names : ℕ → List ℕ) (count k : ℕ) (node : Node)
    (rest : List Instruction) → IsLone rest
    → IsLone (node_instructions table names count k node ++ rest)
lone_node table names count k (Test op name v) rest h =
    (refl, (refl, (refl, (refl, lone_free (names 0) rest h))))
lone_node table names count k (Not a) rest h = (refl, (refl, lone_free (names (a + 1)) rest h))
lone_node table names count k (And a b) rest h =
    (refl, (refl, (refl, lone_free (names (b + 1)) rest h)))
lone_node table names count k (Or a b) rest h =
    (refl, (refl, (refl, lone_free (names (b + 1)) rest h)))

lone_script : (table : List Named) (names : ℕ → List ℕ) (count k : ℕ) (nodes : List Node)
    → IsLone (script_from table names count k nodes)
lone_script table names count k [] = tt
lone_script table names count k (node ∷ nodes) =
    lone_node table names count k node (script_from table names count (k + 1) nodes)
    (lone_script table names count (k + 1) nodes)

front_alone : (table : List Named) (nodes : List Node) (front rest : List Instruction)
    → front ++ rest ≡ scan_script table nodes → pieces front ≡ map piece_of front
front_alone table nodes front rest e =
    lone_pieces front (lone_front front rest (subst IsLone (sym e)
    (lone_script table (free_name table) (count_of table nodes) 0 nodes)))

-- and loads no row
none_loaded : (g : Geometry) (o : Routines) (table : List Named) (nodes : List Node)
    (front rest : List Instruction) → front ++ rest ≡ scan_script table nodes
    → sum_done rows_loaded g o table front ≡ 0
none_loaded g o table nodes front rest e =
    let whole = ap (sum_done rows_loaded g o table) e
    ∙ nothing_is_moved.loads g o table table nodes in
    let parts = rows_append g o rows_loaded table front rest in
    omega (arith, whole, parts)

no_writes : (k : Counters) → with_writes 0 k ≡ k
no_writes k = let e : k.writes + 0 ≡ k.writes = omega arith in rw e refl

-- the first refused node, on a machine that was opened on the image
pub refused_moves : (program : Program) (q : Query) (i : Image) (nodes : List Node) (m : Machine)
    (old new : ChipView) → RanOn program q i nodes (table_in m) old new
    → geometry_of m ≡ i.geometry → program_of m ≡ program
    → refused_node m nodes ≡ scan_refused i.geometry (routines_in program) i.table q
refused_moves program q i nodes m old new ran e f =
    rw (e, f, ran.table_is, ran.nodes_are.nodes_are) refl

-- what the instructions before a refused one leave on it
pub query_stopped : (program : Program) (q : Query) (i : Image) (nodes : List Node) (m : Machine)
    (reason : Why) (old new : ChipView) → RanOn program q i nodes (table_in m) old new
    → Holds i.geometry i.table → geometry_of m ≡ i.geometry → program_of m ≡ program
    → turn_in m ≡ Ahead → StoppedAt reason (scan_script (table_in m) nodes) m old new
    → QueryStopped program q i reason new
query_stopped program q i nodes m reason old new ran holds e f turn s =
    let g = i.geometry in
    let o = routines_in program in
    let rest = s.refused ∷ s.following in
    let parts : s.before ++ rest ≡ query_script i.table q =
    s.parts ∙ own_script program q i nodes (table_in m) old new ran in
    let events = script_events g o i.table s.before in
    let each : Did (events_of_pieces g o Ahead i.table (map piece_of s.before)) old new =
    rw (e, f, ran.table_is, turn) at s.did in
    let did : Did events old new =
    subst (λ (ps : List Piece). Did (events_of_pieces g o Ahead i.table ps) old new)
    (sym (front_alone i.table (nodes_of q) s.before rest parts)) each in
    let start = opened_counters g in
    let risen = with_counts start (sum_of (replies g o i.table s.before)) in
    record {
      before = s.before;
      refused = s.refused;
      following = s.following;
      parts = parts;
      allowed = rw (e, f, ran.table_is) at s.allowed;
      why = rw (e, f, ran.table_is) at s.why_is;
      banks = did.banks ∙ ap (after events) ran.opened_on.banks
          ∙ events_are_steps g o Ahead i.table s.before (opened i) holds.words holds.fits;
      counters = did.counters ∙ ap (all_counted events) ran.opened_on.counters
          ∙ counted_by_replies g o Ahead i.table s.before start holds.words holds.fits
          ∙ ap (λ n. with_writes n risen)
          (none_loaded g o i.table (nodes_of q) s.before rest parts)
          ∙ no_writes risen;
      log = LogIs-more (row_writes i) events old.log new.log ran.opened_on.log did.log;
    }
