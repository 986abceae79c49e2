-- Every event of a script is one that a chip can do.
use Rattle.std.proofs.Common.{◌≡◌, ℕ, zero, suc, ◌+◌, ◌-◌, ◌*◌, ◌<◌, ◌≤◌, Bool, true, false, cond}
use Rattle.std.proofs.Common.{eqb, ltb, not, List, [], ◌∷◌, ◌++◌, length, map, drop}
use Rattle.std.proofs.Common.{Option, Some, None, refl, sym, ◌∙◌, subst, arith, length-append}
use Rattle.std.specs.Prelude.{◌||◌, All, flat_map, replicate}
use Rattle.std.specs.List.{AllByRecursion, range_with_len, find}
use Rattle.std.specs.Option.{unwrap_or, option_map}
use Rattle.std.specs.Str.{bytes_eq}
use Rattle.std.proofs.Math.Nat.{mul-le-mul_left}
use Rattle.std.proofs.lemmas.Bool.{lt-ltb, eq-eqb}
use Rattle.std.proofs.lemmas.Bool.Decides.{nat_tests}
use Rattle.std.proofs.lemmas.Grind.{div_ceil_times}
use Rattle.std.proofs.lemmas.List.{length-map, length-take, length-drop, length-replicate}
use Rattle.bit_rows.specs.Bits.{bit_at, bit_number}
use Rattle.dram_model.specs.declared.address.Addr.TheVariants as addr
use Rattle.dram_model.specs.declared.address.Command.{Command}
use Rattle.dram_model.specs.declared.address.Command.TheVariants.{Aap}
use Rattle.dram_model.specs.declared.geometry.Geometry.{Geometry}
use Rattle.dram_model.specs.Geometry.{is_geometry}
use Rattle.dram_model.specs.Column.{is_legal}
use Rattle.dram_model.specs.Chip.{Event, bank_of}
use Rattle.dram_model.specs.Chip.Event.{Row, Write}
use Rattle.dram_model.specs.Elements.{column_count, padded_to, row_bits}
use Rattle.dram_model.specs.Events.{events_of as seen_by, row_events}
use Rattle.uprog_code.specs.Programs.{IsEntry, IsProgram}
use Rattle.uprog_code.specs.Bound.{Bound, bound}
use Rattle.uprog_code.specs.Fits.{Fits}
use Rattle.uprog_code.specs.Machine.{issues_of}
use Rattle.uprog_code.proofs.Kept.{legal_commands}
use Rattle.object_alloc.specs.declared.table.Object.{Object}
use Rattle.object_alloc.specs.Free.{end_of, is_free}
use Rattle.object_alloc.specs.Listed.{Named, limit_of, has_name, objects_of}
use Rattle.object_alloc.specs.Spelling.{IsObject}
use Rattle.object_alloc.proofs.Images.{bounds_of}
use Rattle.file_fields.proofs.Padded.{between_is}
use Rattle.bbop_isa.specs.declared.instr.Place.{Place}
use Rattle.bbop_isa.specs.Forms.{Instruction, Init, Bbop, Load, Fill, Print, Free, Order}
use Rattle.wave_model.specs.Schedule.{WaveJob}
use Rattle.machine_model.specs.declared.Why.{Why}
use Rattle.machine_model.specs.declared.Why.TheVariants as why
use Rattle.machine_model.specs.Columns.{segments, object_size, each_row}
use Rattle.machine_model.specs.Routines.{Program, Routine, Routines, routines_in}
use Rattle.machine_model.specs.Routines.{routine_of}
use Rattle.machine_model.specs.Refusals.{first, when, object_named, rows_of, goes_past, is_absent}
use Rattle.machine_model.specs.Refusals.{refusal}
use Rattle.machine_model.specs.Steps.{base_for, binding, bound_at, events_of, fill_events}
use Rattle.machine_model.specs.Steps.{if_done, job_events, job_of, load_events, new_object}
use Rattle.machine_model.specs.Steps.{table_after}
use Rattle.machine_model.specs.Agrees.{IsPlain}
use Rattle.machine_model.specs.Laws.{TableFits}
use Rattle.machine_model.specs.Pieces.{pieces, events_of_pieces}
use Rattle.machine_model.specs.Script.{events_in_order}
use Rattle.machine_model.proofs.Bbops.{part_count, part_end}
use Rattle.machine_model.proofs.Facts.{first_none, when_none, not_false, operand_is}
use Rattle.machine_model.proofs.Below.{base_free, all_in, row_within}
use Rattle.machine_model.proofs.Grants.{grants_fit}
use Rattle.machine_model.proofs.KeptAll.{entry_holds}
use Rattle.machine_model.proofs.Makes.{few_banks}
use Rattle.machine_model.proofs.Pieces.{seen_in_order}
use Rattle.machine_model.proofs.Tables.{made, table_fits_after, fits_banks}
use Rattle.trace_model.specs.Spelling.{IsEvent}
use Rattle.trace_model.specs.Laws.{EventsAreLegal}

-- a geometry's bounds as far as events need them
record IsBig (g : Geometry) : Type 0 where
  words : 0 < g.words
  rows : 64 ≤ g.rows

big : (g : Geometry) → is_geometry g ≡ true → IsBig g
big g h =
    let b = bounds_of g h in
    let w = between_is 1 1024 g.words b.words in
    record { words = omega (arith, w.0); rows = (between_is 64 1006 g.rows b.rows).0 }

-- the object lies in object rows, and its elements in the banks
record IsPlaced (g : Geometry) (o : Object) : Type 0 where
  ends : end_of o ≤ limit_of g
  fits : o.count ≤ column_count g * g.banks

all_append : {X : Type 0} (P : X → Type 0) (xs ys : List X) → AllByRecursion P xs
    → AllByRecursion P ys → AllByRecursion P (xs ++ ys)
all_append P [] ys a b = b
all_append P (x ∷ xs) ys a b = (a.0, all_append P xs ys a.1 b)

all_banks : (P : Event → Type 0) (f : ℕ → List Event) (a n : ℕ)
    → ((k : ℕ) → a ≤ k → k < a + n → AllByRecursion P (f k))
    → AllByRecursion P (flat_map f (range_with_len a n))
all_banks P f a zero h = tt
all_banks P f a (suc n) h = all_append P (f a) (flat_map f (range_with_len (a + 1) n))
    (h a (omega arith) (omega arith))
    (all_banks P f (a + 1) n (λ k l m. h k (omega (arith, l)) (omega (arith, m))))

all_rows : (P : Event → Type 0) (f : ℕ → Event) (a n : ℕ)
    → ((k : ℕ) → a ≤ k → k < a + n → P (f k))
    → AllByRecursion P (map f (range_with_len a n))
all_rows P f a zero h = tt
all_rows P f a (suc n) h = (
  h a (omega arith) (omega arith),
  all_rows P f (a + 1) n (λ k l m. h k (omega (arith, l)) (omega (arith, m))),
)

all_by_row : (g : Geometry) (o : Object) (f : ℕ → ℕ → Event)
    → ((bank k : ℕ) → bank < segments g o → k < o.width → IsEvent g (f bank k))
    → AllByRecursion (IsEvent g) (each_row g o f)
all_by_row g o f h =
    all_banks (IsEvent g) (λ bank. map (λ k. f bank k) (range_with_len 0 o.width)) 0 (segments g o)
    (λ bank l m. all_rows (IsEvent g) (f bank) 0 o.width
    (λ k i j. h bank k (omega (arith, m)) (omega (arith, j))))

c_row : (b : Bool) → ltb (bit_number b) 2 ≡ true
c_row true = refl
c_row false = refl

fill_legal : (rows k : ℕ) (b : Bool) → k < rows
    → is_legal rows (Aap (addr.C (bit_number b)) (addr.D k)) ≡ true
fill_legal rows k b l = rw (c_row b, lt-ltb k rows l) refl

few : (g : Geometry) (o : Object) → IsBig g → IsPlaced g o → segments g o ≤ g.banks
few g o b p = let w = b.words in few_banks o.count (column_count g) g.banks (omega (arith, w))
    p.fits

fills_legal : (g : Geometry) (o : Object) (v : ℕ) → IsBig g → IsPlaced g o
    → AllByRecursion (IsEvent g) (fill_events g o v)
fills_legal g o v b p =
    all_by_row g o (λ bank k.
    Row bank (Aap (addr.C (bit_number (bit_at v k))) (addr.D (o.base + k))))
    (λ bank k l m. (
      omega (arith, l, few g o b p),
      fill_legal g.rows (o.base + k) (bit_at v k) (omega (arith, m, p.ends, b.rows)),
    ))

padded_length : (size : ℕ) (vs : List ℕ) → length vs ≤ size → length (padded_to size vs) ≡ size
padded_length size vs h = length-append vs (replicate (size - length vs) 0)
    ∙ omega (arith, h, length-replicate {A = ℕ} (size - length vs) 0)

part : (w s bank : ℕ) → bank < s → bank * w + w ≤ w * s
part w s bank l =
    let m : w * (bank + 1) ≤ w * s = mul-le-mul_left w (omega (arith, l)) in
    omega (arith, m)

row_length : (g : Geometry) (ns : List ℕ) (bank k s : ℕ) → length ns ≡ column_count g * s
    → bank < s → length (row_bits g ns bank k) ≡ column_count g
row_length g ns bank k s e l =
    let p = part (column_count g) s bank l in
    let d = length-drop (bank * column_count g) ns in
    let t = length-take (column_count g) (drop (bank * column_count g) ns) in
    simp length-map (omega (arith, p, d, t, e))

loads_legal : (g : Geometry) (o : Object) (vs : List ℕ) → IsBig g → IsPlaced g o
    → length vs ≡ o.count → AllByRecursion (IsEvent g) (load_events g o vs)
loads_legal g o vs b p counted =
    let w = b.words in
    let ns = padded_to (object_size g o) vs in
    let room : o.count ≤ object_size g o =
    omega (arith, (div_ceil_times o.count (column_count g) (omega (arith, w))).0) in
    let long : length ns ≡ column_count g * segments g o =
    padded_length (object_size g o) vs (omega (arith, counted, room)) in
    all_by_row g o (λ bank k. Write bank (o.base + k) (row_bits g ns bank k)) (λ bank k l m. (
      omega (arith, l, few g o b p),
      omega (arith, m, p.ends, b.rows),
      row_length g ns bank k (segments g o) long l,
    ))

-- an object that is there has what all have
named_case : (P : Object → Type 0) (b : Bool) (p : Named) (found : Option Named) (other : Object)
    (rest : Bool) → P p.1
    → (rest ≡ true → P (unwrap_or (option_map (λ (q : Named). q.1) found) other))
    → (b || rest) ≡ true
    → P (unwrap_or (option_map (λ (q : Named). q.1) (cond b (Some p) found)) other)
named_case P true p found other rest x go h = x
named_case P false p found other rest x go h = go h

named_all : (P : Object → Type 0) (table : List Named) (name : List ℕ)
    → AllByRecursion (λ p. P p.1) table → has_name table name ≡ true → P (object_named table name)
named_all P [] name all h = cc
named_all P (p ∷ table) name all h =
    named_case P (bytes_eq p.0 name) p (find (λ q. bytes_eq q.0 name) table) _
    (has_name table name) all.0 (named_all P table name all.1) h

all_placed : (g : Geometry) (table : List Named) → All (λ p. end_of p.1 ≤ limit_of g) table
    → All (λ named. IsObject g named.1) table → AllByRecursion (λ named. IsPlaced g named.1) table
all_placed g [] ends objects = tt
all_placed g (x ∷ table) ends objects = (
  record { ends = ends 0 x (omega arith); fits = (objects 0 x (omega arith)).fits },
  all_placed g table (λ k d l. ends (suc k) d (omega (arith, l)))
      (λ k d l. objects (suc k) d (omega (arith, l))),
)

placed : (g : Geometry) (table : List Named) (place : Place) → TableFits g table
    → has_name table place.name ≡ true → goes_past table place ≡ false
    → IsPlaced g (rows_of table place)
placed g table place t h inside =
    let o = object_named table place.name in
    let is = named_all (IsPlaced g) table place.name
    (all_placed g table t.listed.within t.objects) h in
    record {
      ends = omega (arith, is.ends, part_end o place.part inside);
      fits = subst (λ (c : ℕ). c ≤ column_count g * g.banks) (sym (part_count o place.part)) is.fits;
    }

new_placed : (g : Geometry) (operations : Routines) (table : List Named) (name : List ℕ)
    (count n : ℕ) → 0 < n → refusal g operations table (Init name count n) ≡ None
    → IsPlaced g (new_object g table count n)
new_placed g operations table name count (suc n) some h =
    let m = made g operations table name count (suc n) h in
    let base = base_for g table (suc n) in
    let all = (base_free (limit_of g) (objects_of table) (suc n) m.room).1 in
    let last : base + n < limit_of g = row_within (limit_of g) (objects_of table) (base + n)
    (all_in (is_free (limit_of g) (objects_of table)) base (suc n) (base + n) all (omega arith)
    (omega arith)) in
    record { ends = omega (arith, last); fits = m.fits }
new_placed g operations table name count zero some h = absurd (omega (arith, some))

loaded_count : (table : List Named) (place : Place) (vs : List ℕ) (rest : List (Option Why))
    → first (when (not (eqb (length vs) (rows_of table place).count)) why.Count ∷ rest) ≡ None
    → length vs ≡ (rows_of table place).count
loaded_count table place vs rest h =
    let count = when (not (eqb (length vs) (rows_of table place).count)) why.Count in
    same (length vs) (rows_of table place).count
    (not_false _ (when_none _ _ (first_none count rest h).0)) where
      same : (x y : ℕ) → eqb x y ≡ true → x ≡ y
      same x y h = grind (arith, nat_tests)

-- commands that are legal, on each of the banks
rows_legal : (g : Geometry) (bank : ℕ) (commands : List Command) → bank < g.banks
    → AllByRecursion (λ c. is_legal g.rows c ≡ true) commands
    → AllByRecursion (IsEvent g) (row_events bank commands)
rows_legal g bank [] l all = tt
rows_legal g bank (c ∷ commands) l all = ((l, all.0), rows_legal g bank commands l all.1)

job_legal : (g : Geometry) (job : WaveJob) → job.banks ≤ g.banks
    → AllByRecursion (λ c. is_legal g.rows c ≡ true) job.commands
    → AllByRecursion (IsEvent g) (job_events job)
job_legal g job l all =
    all_banks (IsEvent g) (λ bank. row_events bank job.commands) 0 job.banks
    (λ bank a m. rows_legal g bank job.commands (omega (arith, m, l)) all)

-- what an operation issues under a binding that fits
abbrev IssuesLegal : Routine → Type 0
IssuesLegal o = (rows n : ℕ) (b : Bound) → 0 < n → Fits rows o.shape n b
    → AllByRecursion (λ c. is_legal rows c ≡ true) (bound rows o.shape n b (issues_of (o.trace n)))

entries_legal : (p : Program) → AllByRecursion IsEntry p
    → AllByRecursion (λ e. IssuesLegal (routine_of e)) p
entries_legal [] all = tt
entries_legal (e ∷ p) all =
    (legal_commands e.shape e.code all.0.code, entries_legal p all.1)

bbop_legal : (g : Geometry) (p : Program) (table : List Named) (op : List ℕ) (dst : Place)
    (srcs : List Place) (count n : ℕ) (found : Option Routine)
    → routines_in p op ≡ found → IsBig g → IsProgram p → TableFits g table → 0 < n
    → refusal g (routines_in p) table (Bbop op dst srcs count n) ≡ None
    → AllByRecursion (IsEvent g) (job_events (record {
      commands = bound_at g table found (dst ∷ srcs) n;
      banks = segments g (rows_of table dst);
    }))
bbop_legal g p table op dst srcs count n None is b good t some h =
    all_banks (IsEvent g) (λ bank. row_events bank []) 0 (segments g (rows_of table dst))
    (λ bank l m. tt)
bbop_legal g p table op dst srcs count n (Some o) is b good t some h =
    let granted = grants_fit g (routines_in p) table o op dst srcs count n b.words t is h in
    let legal = entry_holds IssuesLegal p op o (entries_legal p good.entries) is in
    job_legal g (record {
      commands = bound_at g table (Some o) (dst ∷ srcs) n;
      banks = segments g (rows_of table dst);
    }) granted.banks (legal g.rows n (binding g table o.shape (dst ∷ srcs) n) some granted.fits)

module _ (g : Geometry) (p : Program) (b : IsBig g) (good : IsProgram p) where
  -- the events of an instruction that is done
  done_legal : (table : List Named) (instr : Instruction) → TableFits g table → IsPlain instr
      → refusal g (routines_in p) table instr ≡ None
      → AllByRecursion (IsEvent g) (events_of g (routines_in p) table instr)
  done_legal table (Init name count n) t plain h = fills_legal g (new_object g table count n) 0 b
      (new_placed g (routines_in p) table name count n plain.1.0 h)
  done_legal table (Bbop op dst srcs count n) t plain h =
      all_append (IsEvent g)
      (job_events (job_of g (routines_in p) table (Bbop op dst srcs count n))) []
      (bbop_legal g p table op dst srcs count n (routines_in p op) refl b good t plain.0 h) tt
  done_legal table (Load place vs) t plain h =
      let is = operand_is (is_absent table place.name) (goes_past table place) _ h in
      loads_legal g (rows_of table place) vs b (placed g table place t (not_false _ is.0) is.1)
      (loaded_count table place vs _ is.2)
  done_legal table (Fill place v) t plain h =
      let is = operand_is (is_absent table place.name) (goes_past table place) _ h in
      fills_legal g (rows_of table place) v b (placed g table place t (not_false _ is.0) is.1)
  done_legal table (Print name) t plain h = tt
  done_legal table (Free name) t plain h = tt
  done_legal table (Order o) t plain h = tt

  events_case : (r : Option Why) (es : List Event) → (r ≡ None → AllByRecursion (IsEvent g) es)
      → AllByRecursion (IsEvent g) (if_done r es [])
  events_case None es h = h refl
  events_case (Some w) es h = tt

  -- and of a script, one instruction after another
  in_order_legal : (table : List Named) (script : List Instruction) → TableFits g table
      → AllByRecursion IsPlain script
      → AllByRecursion (IsEvent g) (events_in_order g (routines_in p) table script)
  in_order_legal table [] t plain = tt
  in_order_legal table (instr ∷ script) t plain =
      all_append (IsEvent g) (if_done (refusal g (routines_in p) table instr)
      (events_of g (routines_in p) table instr) []) _
      (events_case (refusal g (routines_in p) table instr) _
      (done_legal table instr t plain.0))
      (in_order_legal (table_after g (routines_in p) table instr) script
      (table_fits_after g (routines_in p) table instr plain.0 t) plain.1)

-- what holds of all events holds of those that a bank sees
seen_case : (P : Event → Type 0) (c : Bool) (e : Event) (rest : List Event) → P e
    → AllByRecursion P rest → AllByRecursion P (cond c (e ∷ rest) rest)
seen_case P true e rest h all = (h, all)
seen_case P false e rest h all = all

seen_all : (P : Event → Type 0) (bank : ℕ) (es : List Event) → AllByRecursion P es
    → AllByRecursion P (seen_by bank es)
seen_all P bank [] all = tt
seen_all P bank (e ∷ es) all = seen_case P (eqb (bank_of e) bank) e (seen_by bank es) all.0
    (seen_all P bank es all.1)

-- and what holds of those that each bank sees holds of all
rest_case : (P : Event → Type 0) (c : Bool) (e : Event) (rest : List Event)
    → AllByRecursion P (cond c (e ∷ rest) rest) → AllByRecursion P rest
rest_case P true e rest all = all.1
rest_case P false e rest all = all

first_case : (P : Event → Type 0) (c : Bool) (e : Event) (rest : List Event) → c ≡ true
    → AllByRecursion P (cond c (e ∷ rest) rest) → P e
first_case P true e rest h all = all.0
first_case P false e rest h all = cc

all_seen : (P : Event → Type 0) (es : List Event)
    → ((bank : ℕ) → AllByRecursion P (seen_by bank es)) → AllByRecursion P es
all_seen P [] h = tt
all_seen P (e ∷ es) h = (
  first_case P (eqb (bank_of e) (bank_of e)) e (seen_by (bank_of e) es)
      (eq-eqb (bank_of e) (bank_of e) refl) (h (bank_of e)),
  all_seen P es (λ bank. rest_case P (eqb (bank_of e) bank) e (seen_by bank es) (h bank)),
)

-- Under every order in force each bank sees the events in the same order, so all of them are legal
pub events_are_legal : EventsAreLegal
events_are_legal g p turn table script is good t plain =
    let b = big g is in
    let legal = in_order_legal g p b good table script t plain in
    all_seen (IsEvent g) (events_of_pieces g (routines_in p) turn table (pieces script))
    (λ bank. subst (AllByRecursion (IsEvent g))
    (sym (seen_in_order g (routines_in p) turn table script bank b.words (fits_banks g table t)))
    (seen_all (IsEvent g) bank (events_in_order g (routines_in p) table script) legal))
