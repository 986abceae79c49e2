-- What stands where the chip fails in a guarded instruction.
use Rattle.tmr_guard.proofs.Common.{◌≡◌, ℕ, Bool, true, false, List, [], ◌∷◌, ◌++◌, map, Option}
use Rattle.tmr_guard.proofs.Common.{Some, None, refl, sym, ◌∙◌, ap, subst, append-nil, flat_map}
use Rattle.tmr_guard.proofs.Common.{Result, Ok, Err, OnErr, map-append, Geometry, Banks, Event}
use Rattle.tmr_guard.proofs.Common.{ChipView, StoppedWithin, stopped_before, Turn, Counts, Named}
use Rattle.tmr_guard.proofs.Common.{Instruction, Init, Bbop, Load, Fill, Print, Free, Order, Why}
use Rattle.tmr_guard.proofs.Common.{Reply, Done, Program, Routines, routines_in, refusal}
use Rattle.tmr_guard.proofs.Common.{counts_for, tabled, is_refused, replies, table_at_end}
use Rattle.tmr_guard.proofs.Common.{events_of_pieces, piece_events, piece_of, turn_at_end}
use Rattle.tmr_guard.proofs.Common.{pieces_go_on, Machine, geometry_of, operations_by, table_in}
use Rattle.tmr_guard.proofs.Common.{turn_in, if_same, done_ones, joined, plain_ones, removal}
use Rattle.tmr_guard.proofs.Common.{all_instrs, done_first, done_more, if_none, none_yet, script_by}
use Rattle.tmr_guard.proofs.Common.{is_print, on_copy}
use Rattle.transpose_unit.proofs.Stopping.{stopped_later}
use Rattle.machine_model.specs.Pieces.{Piece}
use Rattle.sim_machine.specs.Machine.{events_by as plain_events, program_of as program_in}
use Rattle.tmr_guard.specs.Steps.{One, Ran, events_by}
use Rattle.tmr_guard.proofs.Exits.{replied_done}
use Rattle.tmr_guard.proofs.Runs.{refused_events}
use Rattle.guard_model.specs.Guarded.{on_copies}

-- where it fails, and so whatever it answers
pub on_err_always : {T E P : Type 0} (r : Result T E) → P → OnErr r P
on_err_always (Ok x) p = tt
on_err_always (Err e) p = p

-- the events of a plain script
abbrev pub all_events : Geometry → Routines → Turn → List Named → List Instruction → List Event
all_events g o t T xs = events_of_pieces g o t T (map piece_of xs)

both_events : (g : Geometry) (o : Routines) (t : Turn) (T : List Named) (xs ys : List Instruction)
    → all_events g o t T xs
    ++ all_events g o (turn_at_end g o t T (map piece_of xs)) (table_at_end g o T xs) ys
    ≡ all_events g o t T (xs ++ ys)
both_events g o t T xs ys =
    let parts = pieces_go_on g o t T (map piece_of xs) (map piece_of ys) in
    ap (λ ts. all_events g o t T xs ++ all_events g o (turn_at_end g o t T (map piece_of xs))
    (table_at_end g o T ts) ys) (sym (all_instrs xs))
    ∙ sym parts.events ∙ ap (events_of_pieces g o t T) (sym (map-append piece_of xs ys))

-- what takes an object away has no event
free_events : (g : Geometry) (o : Routines) (t : Turn) (T : List Named) (name : List ℕ)
    → piece_events g o t T (piece_of (Free name)) ≡ []
free_events g o t T name = if_same (refusal g o T (Free name)) []

pub removal_events : (g : Geometry) (o : Routines) (t : Turn) (T : List Named) (i : Instruction)
    → all_events g o t T (removal i) ≡ []
removal_events g o t T (Init name count n) = append-nil _ ∙ free_events g o t T name
removal_events g o t T (Bbop op dst srcs count n) = refl
removal_events g o t T (Load name values) = refl
removal_events g o t T (Fill name value) = refl
removal_events g o t T (Print name) = refl
removal_events g o t T (Free name) = refl
removal_events g o t T (Order order) = refl

pub free_failed : (m : Machine) (name : List ℕ) (a b : Banks)
    → StoppedWithin 0 (plain_events m (piece_of (Free name))) a b → StoppedWithin 0 [] a b
free_failed m name a b s = subst (λ (es : List Event). StoppedWithin 0 es a b)
    (free_events (geometry_of m) (operations_by m) (turn_in m) (table_in m) name) s

-- the same geometry and program
pub moved_left : (g h : Geometry) (p q : Program) (t : Turn) (T : List Named) (piece : Piece)
    (a b : Banks) → h ≡ g → q ≡ p
    → StoppedWithin 0 (piece_events h (routines_in q) t T piece) a b
    → StoppedWithin 0 (piece_events g (routines_in p) t T piece) a b
moved_left g h p q t T piece a b e f s =
    subst (λ x. StoppedWithin 0 (piece_events g (routines_in x) t T piece) a b) f
    (subst (λ x. StoppedWithin 0 (piece_events x (routines_in q) t T piece) a b) e s)

-- after an instruction that was done or refused
pub after_one : (g : Geometry) (p : Program) (t t' : Turn) (T T' : List Named) (i : Instruction)
    (reply : Reply) (a b : ChipView) (c : Banks) → One g p t t' T T' i reply a b
    → StoppedWithin 0 [] b.banks c
    → StoppedWithin 0 (piece_events g (routines_in p) t T (piece_of i)) a.banks c
after_one g p t t' T T' i reply a b c one s =
    let own = piece_events g (routines_in p) t T (piece_of i) in
    subst (λ (es : List Event). StoppedWithin 0 es a.banks c)
    (append-nil (own ++ []) ∙ append-nil own)
    (stopped_later 0 (own ++ []) [] a.banks b.banks c one.ran.did.banks s)

-- after copies were taken away
pub after_removal : (g : Geometry) (p : Program) (t t' : Turn) (T T' : List Named)
    (i : Instruction) (a b : ChipView) (c : Banks) → Ran g p t t' T T' (removal i) a b
    → StoppedWithin 0 [] b.banks c → StoppedWithin 0 [] a.banks c
after_removal g p t t' T T' i a b c ran s =
    let es = all_events g (routines_in p) t T (removal i) in
    subst (λ (fs : List Event). StoppedWithin 0 fs a.banks c)
    (append-nil es ∙ removal_events g (routines_in p) t T i)
    (stopped_later 0 es [] a.banks b.banks c ran.did.banks s)

module _ (g : Geometry) (p : Program) where
  abbrev o : Routines
  o = routines_in p

  -- the instructions that are done, as far as they go
  abbrev done_events : Turn → List Named → List Instruction → List Event
  done_events t T xs = all_events g o t T (done_ones g o T xs)

  -- the chip failed at the first
  at_first_by : (t : Turn) (T : List Named) (x : Instruction) (rest : List Instruction)
      (a b : Banks) (r : Option Why) → refusal g o T x ≡ r
      → StoppedWithin 0 (piece_events g o t T (piece_of x)) a b
      → StoppedWithin 0 (done_events t T (x ∷ rest)) a b
  at_first_by t T x rest a b None e s =
      subst (λ (xs : List Instruction). StoppedWithin 0 (all_events g o t T xs) a b)
      (sym (done_more g o T x rest e))
      (stopped_before 0 (piece_events g o t T (piece_of x)) _ a b s)
  at_first_by t T x rest a b (Some w) e s =
      subst (λ (xs : List Instruction). StoppedWithin 0 (all_events g o t T xs) a b)
      (sym (done_first g o T x rest w e))
      (subst (λ (es : List Event). StoppedWithin 0 es a b) (refused_events g o t T x w e) s)

  pub at_first : (t : Turn) (T : List Named) (x : Instruction) (rest : List Instruction)
      (a b : Banks) → StoppedWithin 0 (piece_events g o t T (piece_of x)) a b
      → StoppedWithin 0 (done_events t T (x ∷ rest)) a b
  at_first t T x rest a b s = at_first_by t T x rest a b (refusal g o T x) refl s

  -- or at a later one
  pub at_later : (t t' : Turn) (T T' : List Named) (x : Instruction) (rest : List Instruction)
      (k : Counts) (a b : ChipView) (c : Banks) → One g p t t' T T' x (Done k) a b
      → StoppedWithin 0 (done_events t' T' rest) b.banks c
      → StoppedWithin 0 (done_events t T (x ∷ rest)) a.banks c
  at_later t t' T T' x rest k a b c one s =
      let e = (replied_done (refusal g o T x) (counts_for g o T x) k one.answer).0 in
      let table : T' ≡ tabled g T x =
      one.ran.tables ∙ if_none (refusal g o T x) (tabled g T x) T e in
      let here = all_events g o t T (x ∷ []) in
      let moved : StoppedWithin 0 (all_events g o (turn_at_end g o t T (map piece_of (x ∷ [])))
      (table_at_end g o T (x ∷ [])) (done_ones g o (tabled g T x) rest)) b.banks c =
      subst (λ (n : List Named). StoppedWithin 0 (all_events g o (turn_at_end g o t T
      (map piece_of (x ∷ []))) (table_at_end g o T (x ∷ [])) (done_ones g o n rest)) b.banks c)
      table
      (subst (λ (n : List Named). StoppedWithin 0 (all_events g o (turn_at_end g o t T
      (map piece_of (x ∷ []))) n (done_ones g o T' rest)) b.banks c) one.ran.tables
      (subst (λ (u : Turn). StoppedWithin 0 (all_events g o u T' (done_ones g o T' rest)) b.banks c)
      one.ran.turns s)) in
      subst (λ (xs : List Instruction). StoppedWithin 0 (all_events g o t T xs) a.banks c)
      (sym (done_more g o T x rest e))
      (subst (λ (es : List Event). StoppedWithin 0 es a.banks c)
      (both_events g o t T (x ∷ []) (done_ones g o (tabled g T x) rest))
      (stopped_later 0 here _ a.banks b.banks c one.ran.did.banks moved))

-- those that are done begin the plain script
script_front : (b : Bool) (done : List Instruction) → (rest : List Instruction)
    × (done ++ rest ≡ script_by b done)
script_front true done = (flat_map removal done, refl)
script_front false done = ([], append-nil done)

-- and so it failed in the guarded instruction
pub in_guarded : (m : Machine) (i : Instruction) (xs : List Instruction) (a b : Banks)
    → plain_ones i ≡ xs
    → StoppedWithin 0 (done_events (geometry_of m) (program_in m) (turn_in m) (table_in m) xs) a b
    → StoppedWithin 0 (events_by m i) a b
in_guarded m i xs a b ones s =
    let g = geometry_of m in
    let o = operations_by m in
    let t = turn_in m in
    let T = table_in m in
    let done = done_ones g o T (plain_ones i) in
    let front = script_front (is_refused (joined none_yet (replies g o T (plain_ones i)))) done in
    let own : StoppedWithin 0 (all_events g o t T done) a b =
    subst (λ (ys : List Instruction). StoppedWithin 0 (all_events g o t T (done_ones g o T ys)) a b)
    (sym ones) s in
    subst (λ (ys : List Instruction). StoppedWithin 0 (all_events g o t T ys) a b) front.1
    (subst (λ (es : List Event). StoppedWithin 0 es a b) (both_events g o t T done front.0)
    (stopped_before 0 (all_events g o t T done) _ a b own))

-- what is done on three copies is no print
pub not_print : (letter : ℕ) (i : Instruction) → plain_ones i ≡ on_copies i
    → is_print (on_copy letter i) ≡ false
not_print letter (Init name count n) e = refl
not_print letter (Bbop op dst srcs count n) e = refl
not_print letter (Load place values) e = refl
not_print letter (Fill place value) e = refl
not_print letter (Print place) e = absurd (cc)
not_print letter (Free name) e = refl
not_print letter (Order order) e = refl
