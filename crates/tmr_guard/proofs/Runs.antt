-- Plain instructions one after another.
use Rattle.tmr_guard.proofs.Common.{◌≡◌, ℕ, zero, suc, ◌+◌, cond, List, [], ◌∷◌, ◌++◌, length, map}
use Rattle.tmr_guard.proofs.Common.{Option, Some, None, refl, sym, ◌∙◌, ap, subst, arith}
use Rattle.tmr_guard.proofs.Common.{append-nil, is_none, range_with_len, map-append, Geometry}
use Rattle.tmr_guard.proofs.Common.{Event, after, Write, ChipView, after-append, Grew-more, Turn}
use Rattle.tmr_guard.proofs.Common.{Named, Instruction, Init, Bbop, Load, Fill, Print, Free, Order}
use Rattle.tmr_guard.proofs.Common.{Why, Program, Routines, routines_in, refusal, if_done, tabled}
use Rattle.tmr_guard.proofs.Common.{sum_done, rows_printed, table_at_end, piece_of, piece_events}
use Rattle.tmr_guard.proofs.Common.{turn_at_end, events_of_pieces, pieces_go_on, DidAndRead}
use Rattle.tmr_guard.proofs.Common.{all_instrs}
use Rattle.std.specs.Prelude.{sum_by}
use Rattle.dram_model.specs.declared.dram.Counters.{Counters}
use Rattle.dram_model.specs.declared.address.Command.TheVariants.{Ap, Aap}
use Rattle.dram_model.specs.Chip.{all_counted, counted}
use Rattle.dram_model.specs.Chip.Event.{Row}
use Rattle.dram_model.specs.View.{with_reads}
use Rattle.dram_model.proofs.EventLaws.{all_counted-append}
use Rattle.wave_model.specs.Schedule.{queues, last_state, state_after, events_of_picks, picks}
use Rattle.wave_model.specs.Schedule.{whole_picks, in_turn}
use Rattle.machine_model.specs.Steps.{job_of, own_events, table_after}
use Rattle.machine_model.specs.Script.{rows_if_done}
use Rattle.machine_model.specs.Pieces.{turn_after, wave_queues}
use Rattle.machine_model.proofs.Parts.{rows_append, table_append}
use Rattle.guard_model.proofs.Runs.{if_some}
use Rattle.tmr_guard.specs.Steps.{Ran}

-- Reads stand apart from events
one_event : (event : Event) (n : ℕ) (k : Counters)
    → counted event (with_reads n k) ≡ with_reads n (counted event k)
one_event (Row bank (Ap x)) n k = refl
one_event (Row bank (Aap x y)) n k = refl
one_event (Write bank row bits) n k = refl

reads_apart : (events : List Event) (n : ℕ) (k : Counters)
    → all_counted events (with_reads n k) ≡ with_reads n (all_counted events k)
reads_apart [] n k = refl
reads_apart (event ∷ events) n k =
    ap (all_counted events) (one_event event n k) ∙ reads_apart events n (counted event k)

more_reads : (n m : ℕ) (k : Counters) → with_reads m (with_reads n k) ≡ with_reads (n + m) k
more_reads n m k = let e : k.reads + n + m ≡ k.reads + (n + m) = omega arith in rw e refl

pub did_more : (es fs : List Event) (n m : ℕ) (a b c : ChipView) → DidAndRead es n a b
    → DidAndRead fs m b c → DidAndRead (es ++ fs) (n + m) a c
did_more es fs n m a b c d e = record {
  banks = e.banks ∙ ap (after fs) d.banks ∙ sym (after-append es fs a.banks);
  counters = e.counters ∙ ap (λ k. with_reads m (all_counted fs k)) d.counters
      ∙ ap (with_reads m) (reads_apart fs n (all_counted es a.counters))
      ∙ more_reads n m (all_counted fs (all_counted es a.counters))
      ∙ ap (with_reads (n + m)) (sym (all_counted-append es fs a.counters));
  faults = e.faults ∙ d.faults;
  log = Grew-more a.log b.log c.log es fs d.log e.log;
}

-- one
pub plus_none : (n : ℕ) → n ≡ n + 0
plus_none n = omega arith

pub ran_one : (g : Geometry) (p : Program) (turn turn' : Turn) (table table' : List Named)
    (instr : Instruction) (a b : ChipView)
    → table' ≡ table_after g (routines_in p) table instr
    → turn' ≡ turn_after g (routines_in p) turn table (piece_of instr)
    → DidAndRead (piece_events g (routines_in p) turn table (piece_of instr))
    (rows_if_done rows_printed g (routines_in p) table instr) a b
    → Ran g p turn turn' table table' (instr ∷ []) a b
ran_one g p turn turn' table table' instr a b e f d = record {
  tables = e;
  turns = f;
  did = subst (λ n. DidAndRead (piece_events g (routines_in p) turn table (piece_of instr)
      ++ [])
      n a b) (plus_none _)
      (subst (λ es. DidAndRead es (rows_if_done rows_printed g (routines_in p) table instr) a b)
      (sym (append-nil (piece_events g (routines_in p) turn table (piece_of instr)))) d);
}

-- some, and then others
pub ran_more : (g : Geometry) (p : Program) (t t' t'' : Turn) (T T' T'' : List Named)
    (xs ys : List Instruction) (a b c : ChipView) → Ran g p t t' T T' xs a b
    → Ran g p t' t'' T' T'' ys b c → Ran g p t t'' T T'' (xs ++ ys) a c
ran_more g p t t' t'' T T' T'' xs ys a b c h k =
    let o = routines_in p in
    let ps = map piece_of xs in
    let qs = map piece_of ys in
    let on = pieces_go_on g o t T ps qs in
    let es = events_of_pieces g o t T ps in
    let turn = turn_at_end g o t T ps in
    let turns : turn_at_end g o t T (map piece_of (xs ++ ys)) ≡ turn_at_end g o t' T' qs =
    ap (turn_at_end g o t T) (map-append piece_of xs ys) ∙ on.turns
    ∙ ap (λ u. turn_at_end g o turn (table_at_end g o T u) qs) (all_instrs xs)
    ∙ ap (λ v. turn_at_end g o v (table_at_end g o T xs) qs) (sym h.turns)
    ∙ ap (λ v. turn_at_end g o t' v qs) (sym h.tables) in
    let events : events_of_pieces g o t T (map piece_of (xs ++ ys))
    ≡ es ++ events_of_pieces g o t' T' qs =
    ap (events_of_pieces g o t T) (map-append piece_of xs ys) ∙ on.events
    ∙ ap (λ u. es ++ events_of_pieces g o turn (table_at_end g o T u) qs) (all_instrs xs)
    ∙ ap (λ v. es ++ events_of_pieces g o v (table_at_end g o T xs) qs) (sym h.turns)
    ∙ ap (λ v. es ++ events_of_pieces g o t' v qs) (sym h.tables) in
    let reads : sum_done rows_printed g o T (xs ++ ys)
    ≡ sum_done rows_printed g o T xs + sum_done rows_printed g o T' ys =
    rows_append g o rows_printed T xs ys
    ∙ ap (λ v. sum_done rows_printed g o T xs + sum_done rows_printed g o v ys) (sym h.tables) in
    record {
      tables = k.tables ∙ ap (λ v. table_at_end g o v ys) h.tables
          ∙ sym (table_append g o T xs ys);
      turns = k.turns ∙ sym turns;
      did = subst (λ fs. DidAndRead fs (sum_done rows_printed g o T (xs ++ ys)) a c) (sym events)
          (subst (λ n. DidAndRead (es ++ events_of_pieces g o t' T' qs) n a c) (sym reads)
          (did_more _ _ _ _ a b c h.did k.did));
    }

-- Nothing is left to do where no bank has a command
no_work : (a n : ℕ) → sum_by (λ bank. length (queues [] bank)) (range_with_len a n) ≡ 0
no_work a zero = refl
no_work a (suc n) = no_work (a + 1) n

turn_stays : (banks : ℕ) (turn : Turn) → last_state in_turn banks turn (queues []) ≡ turn
turn_stays banks turn = ap (λ n. state_after in_turn banks n turn (queues [])) (no_work 0 banks)

no_picks : (banks : ℕ) (turn : Turn)
    → events_of_picks banks (whole_picks in_turn banks turn (queues [])) (queues []) ≡ []
no_picks banks turn = ap (λ n. events_of_picks banks (picks in_turn banks n turn (queues []))
    (queues [])) (no_work 0 banks)

if_refused : {X : Type 0} (r : Option Why) (w : Why) (x y : X) → r ≡ Some w
    → cond (is_none r) x y ≡ y
if_refused None w x y e = cc
if_refused (Some v) w x y e = refl

refused_queues : (g : Geometry) (o : Routines) (table : List Named) (instr : Instruction)
    (w : Why) → refusal g o table instr ≡ Some w
    → wave_queues g o table (instr ∷ []) ≡ queues []
refused_queues g o table instr w e = ap (λ xs. queues (map (job_of g o table) xs))
    (if_refused (refusal g o table instr) w (instr ∷ []) [] e)

refused_turn : (g : Geometry) (o : Routines) (turn : Turn) (table : List Named)
    (instr : Instruction) (w : Why) → refusal g o table instr ≡ Some w
    → turn_after g o turn table (piece_of instr) ≡ turn
refused_turn g o turn table (Bbop op dst srcs count n) w e =
    ap (last_state in_turn g.banks turn)
    (refused_queues g o table (Bbop op dst srcs count n) w e) ∙ turn_stays g.banks turn
refused_turn g o turn table (Init name count n) w e = refl
refused_turn g o turn table (Load name values) w e = refl
refused_turn g o turn table (Fill name value) w e = refl
refused_turn g o turn table (Print name) w e = refl
refused_turn g o turn table (Free name) w e = refl
refused_turn g o turn table (Order order) w e = cc

none_own : (g : Geometry) (o : Routines) (table : List Named) (instr : Instruction) (w : Why)
    → refusal g o table instr ≡ Some w
    → if_done (refusal g o table instr) (own_events g table instr) [] ≡ []
none_own g o table instr w e =
    if_some (refusal g o table instr) w (own_events g table instr) [] e

pub refused_events : (g : Geometry) (o : Routines) (turn : Turn) (table : List Named)
    (instr : Instruction) (w : Why) → refusal g o table instr ≡ Some w
    → piece_events g o turn table (piece_of instr) ≡ []
refused_events g o turn table (Bbop op dst srcs count n) w e =
    ap (λ left. events_of_picks g.banks (whole_picks in_turn g.banks turn left) left)
    (refused_queues g o table (Bbop op dst srcs count n) w e) ∙ no_picks g.banks turn
refused_events g o turn table (Init name count n) w e = none_own g o table (Init name count n) w e
refused_events g o turn table (Load name values) w e = none_own g o table (Load name values) w e
refused_events g o turn table (Fill name value) w e = none_own g o table (Fill name value) w e
refused_events g o turn table (Print name) w e = none_own g o table (Print name) w e
refused_events g o turn table (Free name) w e = none_own g o table (Free name) w e
refused_events g o turn table (Order order) w e = cc

-- one that is refused is none
pub ran_refused : (g : Geometry) (p : Program) (t t' : Turn) (T T' : List Named)
    (instr : Instruction) (w : Why) (a b : ChipView) → Ran g p t t' T T' (instr ∷ []) a b
    → refusal g (routines_in p) T instr ≡ Some w → Ran g p t t' T T' [] a b
ran_refused g p t t' T T' instr w a b h e =
    let o = routines_in p in
    let events : events_of_pieces g o t T (map piece_of (instr ∷ [])) ≡ [] =
    append-nil (piece_events g o t T (piece_of instr)) ∙ refused_events g o t T instr w e in
    let rows : rows_if_done rows_printed g o T instr ≡ 0 =
    if_refused (refusal g o T instr) w (rows_printed g T instr) 0 e in
    let reads : sum_done rows_printed g o T (instr ∷ []) ≡ 0 = omega (arith, rows) in
    record {
      tables = h.tables ∙ if_some (refusal g o T instr) w (tabled g T instr) T e;
      turns = h.turns ∙ refused_turn g o t T instr w e;
      did = subst (λ es. DidAndRead es 0 a b) events
          (subst (λ n. DidAndRead (events_of_pieces g o t T (map piece_of (instr ∷ []))) n a b)
          reads h.did);
    }
