-- Instructions that are done up to one at which the chip fails.
use Rattle.scan_query.proofs.Common.{◌≡◌, ℕ, ◌+◌, take, drop, List, [], ◌∷◌, ◌++◌, map, length, sym}
use Rattle.scan_query.proofs.Common.{◌∙◌, ap, subst, arith, append-nil, take-append-drop}
use Rattle.scan_query.proofs.Common.{map-append, Geometry, Banks, Event, ChipView, DidRead, Named}
use Rattle.scan_query.proofs.Common.{Turn, Instruction, Routines, events_of_pieces, piece_of}
use Rattle.scan_query.proofs.Common.{turn_at_end, table_at_end, pieces_go_on, Machine, events_by}
use Rattle.scan_query.proofs.Common.{geometry_of, operations_by, table_in, turn_in}
use Rattle.scan_query.proofs.Common.{node_instructions, scan_script, script_from, Node}
use Rattle.scan_query.proofs.Common.{StoppedWithin, ◌<◌, false, Option, Some, None, refl, after}
use Rattle.scan_query.proofs.Common.{Why, refusal, if_done, piece_events, is_print}
use Rattle.faults.specs.Counts.{Rose}
use Rattle.transpose_unit.proofs.Stopping.{stopped_before, stopped_first, stopped_later}
use Rattle.scan_query.specs.Running.{FailedAmong, NodesRan, Ran, StoppedAt, events_until}
use Rattle.scan_query.specs.Running.{until_refused}
use Rattle.scan_query.proofs.Nodewise.{script_snoc}
use Rattle.scan_query.proofs.Running.{holds_all, take_one_more}
use Rattle.scan_query.proofs.Stopping.{script_more, refused_events}
use Rattle.sim_machine.specs.Machine.{banks_read}
use Rattle.sim_machine.proofs.Stepping.{none_read}
use Rattle.scan_query.proofs.Until.{until-append, until_all, until_more, until_stops}

-- the events of two scripts in turn
both_events : (g : Geometry) (o : Routines) (turn : Turn) (table : List Named)
    (xs ys : List Instruction)
    → events_of_pieces g o turn table (map piece_of xs)
    ++ events_of_pieces g o (turn_at_end g o turn table (map piece_of xs))
    (table_at_end g o table xs) (map piece_of ys)
    ≡ events_of_pieces g o turn table (map piece_of (xs ++ ys))
both_events g o turn table xs ys =
    let parts = pieces_go_on g o turn table (map piece_of xs) (map piece_of ys) in
    ap (λ ts. events_of_pieces g o turn table (map piece_of xs)
    ++ events_of_pieces g o (turn_at_end g o turn table (map piece_of xs))
    (table_at_end g o table ts) (map piece_of ys)) (sym (holds_all xs))
    ∙ sym parts.events
    ∙ ap (events_of_pieces g o turn table) (sym (map-append piece_of xs ys))

-- one instruction failed, and so it was not refused
one_so : (g : Geometry) (o : Routines) (turn : Turn) (table : List Named) (instr : Instruction)
    (r : Option Why) (a b : Banks) → refusal g o table instr ≡ r
    → StoppedWithin 0 (piece_events g o turn table (piece_of instr)) a b
    → StoppedWithin 0 (events_of_pieces g o turn table (map piece_of (if_done r (instr ∷ []) [])))
    a b
one_so g o turn table instr None a b e s =
    stopped_before 0 (piece_events g o turn table (piece_of instr)) [] a b s
one_so g o turn table instr (Some why) a b e s =
    subst (λ (es : List Event). StoppedWithin 0 es a b) (refused_events g o turn table instr why e) s

pub failed_one : (instr : Instruction) (a : Machine) (s t : ChipView) → Rose s.faults t.faults
    → is_print instr ≡ false
    → StoppedWithin (banks_read a instr) (events_by a (piece_of instr)) s.banks t.banks
    → FailedAmong (instr ∷ []) a s t
failed_one instr a s t rose silent left = record {
  rose = rose;
  left = one_so (geometry_of a) (operations_by a) (turn_in a) (table_in a) instr
      (refusal (geometry_of a) (operations_by a) (table_in a) instr) s.banks t.banks refl
      (subst (λ (n : ℕ). StoppedWithin n (events_by a (piece_of instr)) s.banks t.banks)
      (none_read a instr silent) left);
}

-- after instructions that were done
failed_then : (xs ys : List Instruction) (a b : Machine) (s t u : ChipView) → Ran xs a b s t
    → FailedAmong ys b t u → FailedAmong (xs ++ ys) a s u
failed_then xs ys a b s t u p q =
    let g = geometry_of a in
    let o = operations_by a in
    let left = rw p.machine at q.left in
    record {
      rose = omega (arith, q.rose, p.kept.faults);
      left = subst (λ (is : List Instruction). StoppedWithin 0 (events_of_pieces g o (turn_in a)
          (table_in a) (map piece_of is)) s.banks u.banks)
          (sym (until-append g o (table_in a) xs ys p.allowed))
          (subst (λ (es : List Event). StoppedWithin 0 es s.banks u.banks)
          (both_events g o (turn_in a) (table_in a) xs
          (until_refused g o (table_at_end g o (table_in a) xs) ys))
          (stopped_later 0 (events_of_pieces g o (turn_in a) (table_in a) (map piece_of xs)) _
          s.banks t.banks u.banks p.did.banks left));
    }

-- and before others
failed_before : (xs ys : List Instruction) (a : Machine) (s t : ChipView) → FailedAmong xs a s t
    → FailedAmong (xs ++ ys) a s t
failed_before xs ys a s t q =
    let g = geometry_of a in
    let o = operations_by a in
    let more = until_more g o (table_in a) xs ys in
    record {
      rose = q.rose;
      left = subst (λ (is : List Instruction). StoppedWithin 0 (events_of_pieces g o (turn_in a)
          (table_in a) (map piece_of is)) s.banks t.banks) more.1
          (subst (λ (es : List Event). StoppedWithin 0 es s.banks t.banks)
          (both_events g o (turn_in a) (table_in a) (until_refused g o (table_in a) xs) more.0)
          (stopped_before 0 (events_until a xs) _ s.banks t.banks q.left));
    }

-- at one place of a script
pub failed_at : (script : List Instruction) (i : ℕ) (a b : Machine) (s t u : ChipView)
    → Ran (take i script) a b s t → FailedAmong (take 1 (drop i script)) b t u
    → FailedAmong script a s u
failed_at script i a b s t u p q =
    let front = take i script ++ take 1 (drop i script) in
    subst (λ (xs : List Instruction). FailedAmong xs a s u)
    (ap (λ (xs : List Instruction). xs ++ drop (i + 1) script) (take_one_more script i)
    ∙ take-append-drop (i + 1) script)
    (failed_before front (drop (i + 1) script) a s u
    (failed_then (take i script) (take 1 (drop i script)) a b s t u p q))

-- at one node
pub failed_node : {X : Type 0} (f : X → Node) (nodes : List X) (start : List Named)
    (names : ℕ → List ℕ) (count j : ℕ) (x : X) (a b : Machine) (s t u : ChipView)
    → length (map f (take j nodes)) ≡ j
    → map f (take j nodes) ++ f x ∷ [] ≡ map f (take (j + 1) nodes)
    → Ran (script_from start names count 0 (map f (take j nodes))) a b s t
    → FailedAmong (node_instructions start names count j (f x)) b t u
    → FailedAmong (script_from start names count 0 (map f nodes)) a s u
failed_node f nodes start names count j x a b s t u l more p q =
    let front = map f (take j nodes) in
    let back = map f (drop (j + 1) nodes) in
    let place : j ≡ 0 + length front = omega (arith, l) in
    let all : map f (take (j + 1) nodes) ++ back ≡ map f nodes =
    sym (map-append f (take (j + 1) nodes) (drop (j + 1) nodes))
    ∙ ap (map f) (take-append-drop (j + 1) nodes) in
    let here = failed_then (script_from start names count 0 front)
    (node_instructions start names count (0 + length front) (f x)) a b s t u p
    (subst (λ i. FailedAmong (node_instructions start names count i (f x)) b t u) place q) in
    let whole = script_snoc start names count 0 front (f x)
    ∙ ap (script_from start names count 0) more in
    let rest = script_from start names count (0 + length (map f (take (j + 1) nodes))) back in
    subst (λ (xs : List Instruction). FailedAmong xs a s u)
    (sym (script_more start names count 0 (map f (take (j + 1) nodes)) back)
    ∙ ap (script_from start names count 0) all)
    (failed_before (script_from start names count 0 (map f (take (j + 1) nodes))) rest a s u
    (subst (λ (xs : List Instruction). FailedAmong xs a s u) whole here))

-- what is done of instructions of which none is refused is all of them
pub left_by_all : (a b : Machine) (s t : ChipView) (script : List Instruction)
    → Ran script a b s t → t.banks ≡ after (events_until a script) s.banks
left_by_all a b s t script ran =
    ran.did.banks
    ∙ ap (λ (is : List Instruction). after (events_of_pieces (geometry_of a) (operations_by a)
    (turn_in a) (table_in a) (map piece_of is)) s.banks)
    (sym (until_all (geometry_of a) (operations_by a) (table_in a) script ran.allowed))

-- and where one is, those before it
pub left_by_some : (why : Why) (a : Machine) (s t : ChipView) (script : List Instruction)
    → StoppedAt why script a s t → t.banks ≡ after (events_until a script) s.banks
left_by_some why a s t script q =
    let g = geometry_of a in
    let o = operations_by a in
    q.did.banks
    ∙ ap (λ (is : List Instruction). after (events_of_pieces g o (turn_in a) (table_in a)
    (map piece_of is)) s.banks)
    (sym (until_stops g o (table_in a) q.before q.following q.refused why q.allowed q.why_is)
    ∙ ap (until_refused g o (table_in a)) q.parts)

-- the chip failed after them
pub failed_after : (reads : ℕ) (a b : Machine) (s t u : ChipView) (nodes : List Node)
    → NodesRan nodes a b s t → StoppedWithin reads [] t.banks u.banks
    → StoppedWithin reads (events_until a (scan_script (table_in a) nodes)) s.banks u.banks
failed_after reads a b s t u nodes ran stopped =
    let script = scan_script (table_in a) nodes in
    let events = events_until a script in
    subst (λ (es : List Event). StoppedWithin reads es s.banks u.banks) (append-nil events)
    (stopped_later reads events [] s.banks t.banks u.banks (left_by_all a b s t script ran.ran)
    stopped)

-- a row of it could not be read
pub read_failed : (reads n bank : ℕ) (s t u : ChipView) → bank < reads → DidRead n s t
    → ((b : ℕ) → (b ≡ bank → ⊥) → u.banks b ≡ t.banks b) → StoppedWithin reads [] s.banks u.banks
read_failed reads n bank s t u below did others = stopped_first reads [] bank s.banks u.banks below
    (λ b other. others b other ∙ ap (λ (banks : Banks). banks b) did.banks)
