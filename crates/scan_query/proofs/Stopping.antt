-- Instructions that are done up to one that is refused.
use Rattle.scan_query.proofs.Common.{◌≡◌, ℕ, zero, suc, ◌+◌, false, cond, take, drop, List, [], ◌∷◌}
use Rattle.scan_query.proofs.Common.{◌++◌, map, length, Option, Some, None, refl, sym, ◌∙◌, ap}
use Rattle.scan_query.proofs.Common.{subst, arith, append_assoc, is_none, range_with_len}
use Rattle.scan_query.proofs.Common.{take-append-drop, map-append, Geometry, ChipView, Did, Event}
use Rattle.scan_query.proofs.Common.{Did-more, Turn, Named, Instruction, Init, Bbop, Load, Fill}
use Rattle.scan_query.proofs.Common.{Print, Free, Order, Counts, Why, refusal, Routines, counts_for}
use Rattle.scan_query.proofs.Common.{reply_by, events_of_pieces, piece_of, turn_at_end}
use Rattle.scan_query.proofs.Common.{table_at_end, scripts_go_on, pieces_go_on, Machine, events_by}
use Rattle.scan_query.proofs.Common.{geometry_of, is_print, operations_by, reads_by, reply_of}
use Rattle.scan_query.proofs.Common.{table_in, turn_in, DidAndRead, or_else, refused_in}
use Rattle.scan_query.proofs.Common.{node_instructions, script_from, Node, refused-append, Ok}
use Rattle.scan_query.proofs.Common.{if_done, piece_events}
use Rattle.std.specs.Prelude.{sum_by}
use Rattle.wave_model.specs.Schedule.{queues, events_of_picks, picks, whole_picks, in_turn}
use Rattle.machine_model.specs.declared.Reply.TheVariants.{Refused}
use Rattle.machine_model.specs.Steps.{job_of, own_events}
use Rattle.machine_model.specs.Pieces.{wave_queues}
use Rattle.scan_query.specs.Running.{Ran, Runs, StoppedAt}
use Rattle.scan_query.proofs.Nodewise.{script_snoc}
use Rattle.scan_query.proofs.Running.{holds_all, refused_one, silent_did, silent_reads}
use Rattle.scan_query.proofs.Running.{take_one_more}

-- one that is refused has no events

no_work : (a n : ℕ) → sum_by (λ bank. length (queues [] bank)) (range_with_len a n) ≡ 0
no_work a zero = refl
no_work a (suc n) = no_work (a + 1) n

no_picks : (banks : ℕ) (turn : Turn)
    → events_of_picks banks (whole_picks in_turn banks turn (queues [])) (queues []) ≡ []
no_picks banks turn = ap (λ n. events_of_picks banks (picks in_turn banks n turn (queues []))
    (queues [])) (no_work 0 banks)

if_refused : {X : Type 0} (r : Option Why) (w : Why) (x y : X) → r ≡ Some w
    → cond (is_none r) x y ≡ y
if_refused None w x y e = cc
if_refused (Some v) w x y e = refl

none_done : (r : Option Why) (w : Why) (es : List Event) → r ≡ Some w → if_done r es [] ≡ []
none_done None w es e = cc
none_done (Some v) w es e = refl

none_own : (g : Geometry) (o : Routines) (table : List Named) (instr : Instruction) (w : Why)
    → refusal g o table instr ≡ Some w
    → if_done (refusal g o table instr) (own_events g table instr) [] ≡ []
none_own g o table instr w e =
    none_done (refusal g o table instr) w (own_events g table instr) e

pub refused_events : (g : Geometry) (o : Routines) (turn : Turn) (table : List Named)
    (instr : Instruction) (w : Why) → refusal g o table instr ≡ Some w
    → piece_events g o turn table (piece_of instr) ≡ []
refused_events g o turn table (Bbop op dst srcs count n) w e =
    let instr : Instruction = Bbop op dst srcs count n in
    let none : wave_queues g o table (instr ∷ []) ≡ queues [] =
    ap (λ xs. queues (map (job_of g o table) xs))
    (if_refused (refusal g o table instr) w (instr ∷ []) [] e) in
    ap (λ left. events_of_picks g.banks (whole_picks in_turn g.banks turn left) left) none
    ∙ no_picks g.banks turn
refused_events g o turn table (Init name count n) w e = none_own g o table (Init name count n) w e
refused_events g o turn table (Load name values) w e = none_own g o table (Load name values) w e
refused_events g o turn table (Fill name value) w e = none_own g o table (Fill name value) w e
refused_events g o turn table (Print name) w e = none_own g o table (Print name) w e
refused_events g o turn table (Free name) w e = none_own g o table (Free name) w e
refused_events g o turn table (Order order) w e = cc

said_why : (r : Option Why) (counts : Counts) (why : Why) → Refused why ≡ reply_by r counts
    → r ≡ Some why
said_why None counts why e = absurd (cc)
said_why (Some w) counts why e = same w why e where
  same : (w why : Why) → Refused why ≡ Refused w → Some w ≡ Some why
  same w why e = cc

-- one instruction was refused
pub runs_refused : (instr : Instruction) (a b : Machine) (s t : ChipView) (why : Why)
    → Refused why ≡ reply_of a instr → is_print instr ≡ false
    → DidAndRead (events_by a (piece_of instr)) (reads_by a instr) s t
    → Runs (instr ∷ []) a b s t (Ok (Some why))
runs_refused instr a b s t why e silent did =
    let is : refusal (geometry_of a) (operations_by a) (table_in a) instr ≡ Some why =
    said_why (refusal (geometry_of a) (operations_by a) (table_in a) instr)
    (counts_for (geometry_of a) (operations_by a) (table_in a) instr) why e in
    let none = refused_events (geometry_of a) (operations_by a) (turn_in a) (table_in a) instr why
    is in (
      refused_one instr a why e,
      record {
        before = [];
        refused = instr;
        following = [];
        parts = refl;
        allowed = refl;
        why_is = is;
        did = subst (λ (es : List Event). Did es s t) none
            (silent_did (events_by a (piece_of instr)) (reads_by a instr) s t
            (silent_reads a instr silent) did);
      },
    )

-- after instructions that were done
stopped_then : (xs ys : List Instruction) (a b : Machine) (s t u : ChipView) (why : Why)
    → Ran xs a b s t → StoppedAt why ys b t u → StoppedAt why (xs ++ ys) a s u
stopped_then xs ys a b s t u why p q =
    let g = geometry_of a in
    let ops = operations_by a in
    let scripts = scripts_go_on g ops (table_in a) xs q.before in
    let parts = pieces_go_on g ops (turn_in a) (table_in a) (map piece_of xs)
    (map piece_of q.before) in
    let allowed = rw p.machine at q.allowed in
    let why_is = rw p.machine at q.why_is in
    let did = rw p.machine at q.did in
    record {
      before = xs ++ q.before;
      refused = q.refused;
      following = q.following;
      parts = append_assoc xs q.before (q.refused ∷ q.following)
          ∙ ap (λ (rest : List Instruction). xs ++ rest) q.parts;
      allowed = refused-append g ops (table_in a) xs q.before
          ∙ ap (λ r. or_else r (refused_in g ops (table_at_end g ops (table_in a) xs) q.before))
          p.allowed
          ∙ allowed;
      why_is = ap (λ (table : List Named). refusal g ops table q.refused) scripts.tables ∙ why_is;
      did = subst (λ (es : List Event). Did es s u)
          (ap (λ ts. events_of_pieces g ops (turn_in a) (table_in a) (map piece_of xs)
          ++ events_of_pieces g ops (turn_at_end g ops (turn_in a) (table_in a)
          (map piece_of xs)) (table_at_end g ops (table_in a) ts) (map piece_of q.before))
          (sym (holds_all xs))
          ∙ sym parts.events
          ∙ ap (events_of_pieces g ops (turn_in a) (table_in a))
          (sym (map-append piece_of xs q.before)))
          (Did-more _ _ s t u p.did did);
    }

-- and before others
stopped_before : (xs ys : List Instruction) (a : Machine) (s t : ChipView) (why : Why)
    → StoppedAt why xs a s t → StoppedAt why (xs ++ ys) a s t
stopped_before xs ys a s t why q = record {
  before = q.before;
  refused = q.refused;
  following = q.following ++ ys;
  parts = sym (append_assoc q.before (q.refused ∷ q.following) ys)
      ∙ ap (λ (front : List Instruction). front ++ ys) q.parts;
  allowed = q.allowed;
  why_is = q.why_is;
  did = q.did;
}

-- at one place of a script
pub stopped_at : (script : List Instruction) (i : ℕ) (a b : Machine) (s t u : ChipView)
    (why : Why) → Ran (take i script) a b s t → StoppedAt why (take 1 (drop i script)) b t u
    → StoppedAt why script a s u
stopped_at script i a b s t u why p q =
    let front = take i script ++ take 1 (drop i script) in
    subst (λ (xs : List Instruction). StoppedAt why xs a s u)
    (ap (λ (xs : List Instruction). xs ++ drop (i + 1) script) (take_one_more script i)
    ∙ take-append-drop (i + 1) script)
    (stopped_before front (drop (i + 1) script) a s u why
    (stopped_then (take i script) (take 1 (drop i script)) a b s t u why p q))

-- the instructions of nodes, and then of others
pub script_more : (start : List Named) (names : ℕ → List ℕ) (count k : ℕ) (xs ys : List Node)
    → script_from start names count k (xs ++ ys)
    ≡ script_from start names count k xs ++ script_from start names count (k + length xs) ys
script_more start names count k [] ys =
    let same : k ≡ k + 0 = omega arith in
    ap (λ i. script_from start names count i ys) same
script_more start names count k (x ∷ xs) ys =
    let same : k + 1 + length xs ≡ k + length (x ∷ xs) = omega arith in
    let one = node_instructions start names count k x in
    let front = script_from start names count (k + 1) xs in
    ap (λ rest. one ++ rest) (script_more start names count (k + 1) xs ys)
    ∙ ap (λ i. one ++ (front ++ script_from start names count i ys)) same
    ∙ sym (append_assoc one front (script_from start names count (k + length (x ∷ xs)) ys))

-- at one node
pub stopped_node : {X : Type 0} (f : X → Node) (nodes : List X) (start : List Named)
    (names : ℕ → List ℕ) (count j : ℕ) (x : X) (a b : Machine) (s t u : ChipView) (why : Why)
    → length (map f (take j nodes)) ≡ j
    → map f (take j nodes) ++ f x ∷ [] ≡ map f (take (j + 1) nodes)
    → Ran (script_from start names count 0 (map f (take j nodes))) a b s t
    → StoppedAt why (node_instructions start names count j (f x)) b t u
    → StoppedAt why (script_from start names count 0 (map f nodes)) a s u
stopped_node f nodes start names count j x a b s t u why l more p q =
    let front = map f (take j nodes) in
    let back = map f (drop (j + 1) nodes) in
    let place : j ≡ 0 + length front = omega (arith, l) in
    let all : map f (take (j + 1) nodes) ++ back ≡ map f nodes =
    sym (map-append f (take (j + 1) nodes) (drop (j + 1) nodes))
    ∙ ap (map f) (take-append-drop (j + 1) nodes) in
    let here = stopped_then (script_from start names count 0 front)
    (node_instructions start names count (0 + length front) (f x)) a b s t u why p
    (subst (λ i. StoppedAt why (node_instructions start names count i (f x)) b t u) place q) in
    let whole = script_snoc start names count 0 front (f x)
    ∙ ap (script_from start names count 0) more in
    let rest = script_from start names count (0 + length (map f (take (j + 1) nodes))) back in
    subst (λ (xs : List Instruction). StoppedAt why xs a s u)
    (sym (script_more start names count 0 (map f (take (j + 1) nodes)) back)
    ∙ ap (script_from start names count 0) all)
    (stopped_before (script_from start names count 0 (map f (take (j + 1) nodes))) rest a s u why
    (subst (λ (xs : List Instruction). StoppedAt why xs a s u) whole here))

abbrev first_of : Why → Option (Why × ℕ) → Why
first_of w None = w
first_of w (Some p) = p.0

pub same_why : (x y : Why) (j k : ℕ)
    → ◌≡◌ {A = Option (Why × ℕ)} (Some (x, j)) (Some (y, k)) → x ≡ y
same_why x y j k e = ap (first_of x) e
