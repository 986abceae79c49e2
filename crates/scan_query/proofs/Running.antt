-- Instructions that are done one after another.
use Rattle.scan_query.proofs.Common.{◌≡◌, ℕ, zero, suc, ◌+◌, ◌*◌, Bool, true, false, cond, take}
use Rattle.scan_query.proofs.Common.{drop, List, [], ◌∷◌, ◌++◌, map, length, length-append, Option}
use Rattle.scan_query.proofs.Common.{Some, None, refl, sym, ◌∙◌, ap, subst, arith, flat_map}
use Rattle.scan_query.proofs.Common.{is_none, slice_get, take-append-drop, map-append, ChipView}
use Rattle.scan_query.proofs.Common.{Did, with_reads, Counters, Did-more, Kept-more, WALK_MAX, Turn}
use Rattle.scan_query.proofs.Common.{Event, all_counted, Geometry, Named, Counts, Instruction, Init}
use Rattle.scan_query.proofs.Common.{Bbop, Load, Fill, Print, Free, Order, Why, refusal, reply_by}
use Rattle.scan_query.proofs.Common.{counts_for, events_of_pieces, piece_of, turn_at_end, Routines}
use Rattle.scan_query.proofs.Common.{table_at_end, scripts_go_on, pieces_go_on, Machine}
use Rattle.scan_query.proofs.Common.{geometry_of, operations_by, table_in, turn_in, reply_of}
use Rattle.scan_query.proofs.Common.{reads_by, is_print, DidAndRead, refused_in, or_else}
use Rattle.scan_query.proofs.Common.{refused-append}
use Rattle.dram_model.proofs.EventLaws.{Did-none, Kept-same}
use Rattle.machine_model.specs.declared.Reply.TheVariants.{Refused}
use Rattle.machine_model.specs.Pieces.{instrs_in}
use Rattle.machine_model.specs.Script.{is_bbop}
use Rattle.object_steps.specs.Objects.{RisesAtMost}
use Rattle.scan_query.specs.Running.{Ran}

-- single pieces hold the script
holds_case : (b : Bool) (instr : Instruction) → is_bbop instr ≡ b
    → instrs_in (piece_of instr) ≡ instr ∷ []
holds_case true instr e = rw e refl
holds_case false instr e = rw e refl

pub holds_one : (instr : Instruction) → instrs_in (piece_of instr) ≡ instr ∷ []
holds_one instr = holds_case (is_bbop instr) instr refl

pub holds_all : (script : List Instruction) → flat_map instrs_in (map piece_of script) ≡ script
holds_all [] = refl
holds_all (instr ∷ script) = rw (holds_one instr) (ap (λ rest. instr ∷ rest) (holds_all script))

rises_none : (k : Counters) → RisesAtMost 0 k k
rises_none k = record {
  aap = omega arith;
  ap = omega arith;
  writes = omega arith;
  reads =
      omega arith;
}

rises_more : (m n all : ℕ) (a b c : Counters) → RisesAtMost m a b → RisesAtMost n b c
    → m + n ≡ all → RisesAtMost all a c
rises_more m n all a b c p q e = record {
  aap = omega (arith, p.aap, q.aap, e);
  ap = omega (arith, p.ap, q.ap, e);
  writes = omega (arith, p.writes, q.writes, e);
  reads = omega (arith, p.reads, q.reads, e);
}

-- nothing is done
pub ran_nothing : (m : Machine) (chip : ChipView) → Ran [] m m chip chip
ran_nothing m chip = record {
  kept = Kept-same chip;
  allowed = refl;
  machine = refl;
  did = Did-none chip;
  rises = rises_none chip.counters;
}

with_both : (m : Machine) (table table' : List Named) (turn turn' : Turn) → table ≡ table'
    → turn ≡ turn'
    → (let n : Machine = record m { table = table; turn = turn } in n)
    ≡ record m { table = table'; turn = turn' }
with_both m table table' turn turn' e f = rw (e, f) refl

lengths : (xs ys : List Instruction) (n : ℕ) → length xs * n + length ys * n
    ≡ length (xs ++ ys) * n
lengths xs ys n = grind (arith, length-append)

-- some instructions, and then others
pub ran_then : (xs ys : List Instruction) (a b c : Machine) (s t u : ChipView) → Ran xs a b s t
    → Ran ys b c t u → Ran (xs ++ ys) a c s u
ran_then xs ys a b c s t u p q =
    let g = geometry_of a in
    let ops = operations_by a in
    let scripts = scripts_go_on g ops (table_in a) xs ys in
    let parts = pieces_go_on g ops (turn_in a) (table_in a) (map piece_of xs) (map piece_of ys) in
    let allowed = rw p.machine at q.allowed in
    let did = rw p.machine at q.did in
    record {
      kept = Kept-more s t u p.kept q.kept;
      allowed = refused-append g ops (table_in a) xs ys
          ∙ ap (λ r. or_else r (refused_in g ops (table_at_end g ops (table_in a) xs) ys))
          p.allowed
          ∙ allowed;
      machine = (rw p.machine at q.machine)
          ∙ with_both a _ _ _ _ (sym scripts.tables)
          (ap (λ ts. turn_at_end g ops (turn_at_end g ops (turn_in a) (table_in a)
          (map piece_of xs)) (table_at_end g ops (table_in a) ts) (map piece_of ys))
          (sym (holds_all xs))
          ∙ sym parts.turns
          ∙ ap (turn_at_end g ops (turn_in a) (table_in a)) (sym (map-append piece_of xs ys)));
      did = subst (λ (es : List Event). Did es s u)
          (ap (λ ts. events_of_pieces g ops (turn_in a) (table_in a) (map piece_of xs)
          ++ events_of_pieces g ops (turn_at_end g ops (turn_in a) (table_in a)
          (map piece_of xs)) (table_at_end g ops (table_in a) ts) (map piece_of ys))
          (sym (holds_all xs))
          ∙ sym parts.events
          ∙ ap (events_of_pieces g ops (turn_in a) (table_in a))
          (sym (map-append piece_of xs ys)))
          (Did-more _ _ s t u p.did did);
      rises = rises_more (length xs * (16 * WALK_MAX)) (length ys * (16 * WALK_MAX))
          (length (xs ++ ys) * (16 * WALK_MAX)) s.counters t.counters u.counters p.rises q.rises
          (lengths xs ys (16 * WALK_MAX));
    }

no_reads : (c : Counters) → with_reads 0 c ≡ c
no_reads c = ap (λ k. let d : Counters = record c { reads = k } in d) (omega arith)

if_none : (r : Option Why) → ◌≡◌ {A = ℕ} (cond (is_none r) 0 0) 0
if_none None = refl
if_none (Some w) = refl

pub silent_reads : (m : Machine) (instr : Instruction) → is_print instr ≡ false
    → reads_by m instr ≡ 0
silent_reads m (Init name count n) e = if_none
    (refusal (geometry_of m) (operations_by m) (table_in m) (Init name count n))
silent_reads m (Bbop op dst srcs count n) e =
    if_none (refusal (geometry_of m) (operations_by m) (table_in m) (Bbop op dst srcs count n))
silent_reads m (Load name values) e = if_none
    (refusal (geometry_of m) (operations_by m) (table_in m) (Load name values))
silent_reads m (Fill name value) e = if_none (refusal (geometry_of m) (operations_by m)
    (table_in m) (Fill name value))
silent_reads m (Print name) e = cc
silent_reads m (Free name) e = if_none (refusal (geometry_of m) (operations_by m) (table_in m)
    (Free name))
silent_reads m (Order o) e = if_none (refusal (geometry_of m) (operations_by m) (table_in m)
    (Order o))

pub silent_did : (events : List Event) (n : ℕ) (s t : ChipView) → n ≡ 0 → DidAndRead events n s t
    → Did events s t
silent_did events n s t e d = record {
  banks = d.banks;
  counters = d.counters
      ∙ ap (λ k. with_reads k (all_counted events s.counters)) e
      ∙ no_reads (all_counted events s.counters);
  faults = d.faults;
  log = d.log;
}

refused_said : (r : Option Why) (counts : Counts) (why : Why) → Refused why ≡ reply_by r counts
    → or_else r None ≡ Some why
refused_said None counts why e = cc
refused_said (Some w) counts why e = same w why e where
  same : (w why : Why) → Refused why ≡ Refused w → Some w ≡ Some why
  same w why e = cc

pub refused_one : (instr : Instruction) (a : Machine) (why : Why) → Refused why ≡ reply_of a instr
    → refused_in (geometry_of a) (operations_by a) (table_in a) (instr ∷ []) ≡ Some why
refused_one instr a why e = refused_said (refusal (geometry_of a) (operations_by a) (table_in a)
    instr) (counts_for (geometry_of a) (operations_by a) (table_in a) instr) why e

-- a refusal after instructions that were done
pub refused_then : (xs ys : List Instruction) (a b : Machine) (s t : ChipView) (why : Why)
    → Ran xs a b s t
    → refused_in (geometry_of b) (operations_by b) (table_in b) ys ≡ Some why
    → refused_in (geometry_of a) (operations_by a) (table_in a) (xs ++ ys) ≡ Some why
refused_then xs ys a b s t why p e =
    let g = geometry_of a in
    let ops = operations_by a in
    refused-append g ops (table_in a) xs ys
    ∙ ap (λ r. or_else r (refused_in g ops (table_at_end g ops (table_in a) xs) ys)) p.allowed
    ∙ (rw p.machine at e)

refused_front : (g : Geometry) (ops : Routines) (table : List Named) (xs ys : List Instruction)
    (why : Why)
    → refused_in g ops table xs ≡ Some why → refused_in g ops table (xs ++ ys) ≡ Some why
refused_front g ops table xs ys why e = refused-append g ops table xs ys
    ∙ ap (λ r. or_else r (refused_in g ops (table_at_end g ops table xs) ys)) e

-- a script's refusal is that of its first part
pub refused_part : (script : List Instruction) (i : ℕ) (a : Machine) (why : Why)
    → refused_in (geometry_of a) (operations_by a) (table_in a) (take i script) ≡ Some why
    → refused_in (geometry_of a) (operations_by a) (table_in a) script ≡ Some why
refused_part script i a why e =
    ap (refused_in (geometry_of a) (operations_by a) (table_in a))
    (sym (take-append-drop i script))
    ∙ refused_front (geometry_of a) (operations_by a) (table_in a) (take i script) (drop i script)
    why e

pub at_front : (script : List Instruction) (i : ℕ) (instr : Instruction)
    → slice_get script i ≡ Some instr → instr ∷ [] ≡ take 1 (drop i script)
at_front [] i instr e = cc
at_front (x ∷ script) zero instr e = ap (λ y. y ∷ []) (same x instr e) where
  same : (x y : Instruction) → Some x ≡ Some y → y ≡ x
  same x y e = cc
at_front (x ∷ script) (suc i) instr e = at_front script i instr e

pub at_end : (script : List Instruction) (i : ℕ) → slice_get script i ≡ None
    → [] ≡ take 1 (drop i script)
at_end [] zero e = refl
at_end [] (suc i) e = refl
at_end (x ∷ script) zero e = cc
at_end (x ∷ script) (suc i) e = at_end script i e

one_more : (script : List Instruction) (i : ℕ)
    → take i script ++ take 1 (drop i script) ≡ take (suc i) script
one_more [] zero = refl
one_more [] (suc i) = refl
one_more (x ∷ script) zero = refl
one_more (x ∷ script) (suc i) = ap (λ rest. x ∷ rest) (one_more script i)

pub take_one_more : (script : List Instruction) (i : ℕ)
    → take i script ++ take 1 (drop i script) ≡ take (i + 1) script
take_one_more script i = let next : suc i ≡ i + 1 = omega arith in one_more script i
    ∙ ap (λ n. take n script) next

-- one place more of a script was done
pub took_one : (script : List Instruction) (i : ℕ) (a b c : Machine) (s t u : ChipView)
    → Ran (take i script) a b s t → Ran (take 1 (drop i script)) b c t u
    → Ran (take (i + 1) script) a c s u
took_one script i a b c s t u p q = subst (λ xs. Ran xs a c s u) (take_one_more script i)
    (ran_then (take i script) (take 1 (drop i script)) a b c s t u p q)

-- or is refused
pub refused_at : (script : List Instruction) (i : ℕ) (a b : Machine) (s t : ChipView) (why : Why)
    → Ran (take i script) a b s t
    → refused_in (geometry_of b) (operations_by b) (table_in b) (take 1 (drop i script))
    ≡ Some why
    → refused_in (geometry_of a) (operations_by a) (table_in a) script ≡ Some why
refused_at script i a b s t why p e = refused_part script (i + 1) a why
    (ap (refused_in (geometry_of a) (operations_by a) (table_in a)) (sym (take_one_more script i))
    ∙ refused_then (take i script) (take 1 (drop i script)) a b s t why p e)
