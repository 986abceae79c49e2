-- Rows that the first commands of a wave leave.
use Rattle.std.proofs.lemmas.Bool.{or_parts}
use Rattle.std.proofs.Common.{◌≡◌, ℕ, zero, suc, ◌+◌, ◌-◌, ◌<◌, ◌≤◌, Bool, true, false, ◌&&◌, ◌||◌}
use Rattle.std.proofs.Common.{cond, ltb, List, [], ◌∷◌, ◌++◌, map, length, take, Option, Some, None}
use Rattle.std.proofs.Common.{refl, sym, ◌∙◌, ap, subst, inl, inr, arith}
use Rattle.std.specs.List.{AllByRecursion, list_any}
use Rattle.std.proofs.Math.Seq.{take-append-add}
use Rattle.std.proofs.lemmas.Bool.{cases_lt}
use Rattle.std.proofs.lemmas.Bool.Decides.{nat_tests}
use Rattle.std.proofs.lemmas.List.{take-append-le, take-map, take_all}
use Rattle.dram_model.specs.declared.address.Cell.TheVariants.{D}
use Rattle.dram_model.specs.declared.address.Command.{Command}
use Rattle.dram_model.specs.declared.geometry.Geometry.{Geometry}
use Rattle.dram_model.specs.Chip.{row_in}
use Rattle.dram_model.specs.Column.{Column, run}
use Rattle.dram_model.proofs.ColumnLaws.{run-append}
use Rattle.op_text.specs.declared.tree.Kind.{Kind}
use Rattle.uprog_code.specs.Bound.{bound_command}
use Rattle.uprog_code.specs.Fits.{IsInSome, IsTouched, ranges}
use Rattle.uprog_code.specs.Implements.{Keeps}
use Rattle.uprog_code.specs.Issued.{AreGood}
use Rattle.uprog_code.specs.Machine.{Issue, issues_of, trace}
use Rattle.uprog_code.specs.Programs.{IsEntry, IsProgram}
use Rattle.uprog_code.specs.Shape.{Shape, need, results}
use Rattle.uprog_code.proofs.Kept.{run_keeps, trace_good}
use Rattle.object_alloc.specs.Free.{has_row}
use Rattle.object_alloc.specs.Listed.{IsTable, Named, limit_of}
use Rattle.bbop_isa.specs.declared.instr.Place.{Place}
use Rattle.bbop_isa.specs.Forms.{Instruction, Init, Bbop, Load, Fill, Print, Free, Order}
use Rattle.machine_model.specs.declared.Why.{Why}
use Rattle.machine_model.specs.Columns.{segments}
use Rattle.machine_model.specs.Pieces.{AreBbops, wave_queues}
use Rattle.machine_model.specs.Refusals.{bbop_refusal, dsts_in, rows_of}
use Rattle.machine_model.specs.Routines.{Program, Routine, Routines, routine_of, routines_in}
use Rattle.machine_model.specs.Script.{is_touched_by, table_at_end, banks_at_end}
use Rattle.machine_model.specs.Steps.{Held, base_for, binding, bound_at, dsts_of, is_among}
use Rattle.machine_model.specs.Steps.{is_beside, is_touched, table_after, table_of, touches}
use Rattle.machine_model.proofs.Bbops.{binding_fits}
use Rattle.machine_model.proofs.Kept.{not_touched}
use Rattle.machine_model.proofs.Facts.{good}
use Rattle.machine_model.proofs.InOrder.{bbop_table}
use Rattle.machine_model.proofs.KeptAll.{entry_holds, untouched_stays}
use Rattle.machine_model.proofs.Places.{still, still_table}
use Rattle.machine_model.proofs.Tables.{table_stays}
use Rattle.safety_laws.specs.Stopped.{FirstPartsKeep, StoppedWavesAreSafe}

-- The first commands of one operation

first_good : (shape : Shape) (n : ℕ) (issues : List Issue) (k : ℕ) → AreGood shape n issues
    → AreGood shape n (take k issues)
first_good shape n [] zero all = tt
first_good shape n [] (suc k) all = tt
first_good shape n (c ∷ issues) zero all = tt
first_good shape n (c ∷ issues) (suc k) all = (all.0, first_good shape n issues k all.1)

pub first_parts_keep : FirstPartsKeep
first_parts_keep shape code legal n k = record {
  row = λ rows b s fits r outside. run_keeps rows shape n b fits r outside
      (take k (issues_of (trace shape code n))) s
      (first_good shape n (issues_of (trace shape code n)) k (trace_good shape n code legal));
}

-- what is issued first for an operation leaves all rows that are not its own
abbrev FirstKeeps : Routine → Type 0
FirstKeeps o = (n k : ℕ) → Keeps o.shape n (take k (issues_of (o.trace n)))

abbrev FirstKeepAll : Routines → Type 0
FirstKeepAll operations = (name : List ℕ) (o : Routine) → operations name ≡ Some o → FirstKeeps o

entries_keep : (p : Program) → AllByRecursion IsEntry p
    → AllByRecursion (λ e. FirstKeeps (routine_of e)) p
entries_keep [] all = tt
entries_keep (e ∷ p) all =
    (λ n k. first_parts_keep e.shape e.code all.0.code n k, entries_keep p all.1)

program_keeps : (p : Program) → IsProgram p → FirstKeepAll (routines_in p)
program_keeps p is name o e = entry_holds FirstKeeps p name o (entries_keep p is.entries) e

-- The first commands of a queue

nothing_taken : (k : ℕ) → ◌≡◌ {A = List Command} (take k []) []
nothing_taken zero = refl
nothing_taken (suc k) = refl

abbrev LeaveRow : ℕ → List Command → Type 0
LeaveRow row commands = (k : ℕ) (s : Column) → run (take k commands) s (D row) ≡ s (D row)

none_leave : (row : ℕ) → LeaveRow row []
none_leave row k s = ap (λ (cs : List Command). run cs s (D row)) (nothing_taken k)

both_leave : (row : ℕ) (xs ys : List Command) → LeaveRow row xs → LeaveRow row ys
    → LeaveRow row (xs ++ ys)
both_leave row xs ys first second k s = elim (cases_lt k (length xs)) [
  | inl lt ↦
      ap (λ (cs : List Command). run cs s (D row)) (take-append-le k xs ys (omega (arith, lt)))
      ∙ first k s
  | inr ge ↦
      let m = k - length xs in
      let is : k ≡ length xs + m = omega (arith, ge) in
      let all : take (length xs) xs ≡ xs = take_all (length xs) xs (omega arith) in
      let whole : run xs s (D row) ≡ s (D row) =
      ap (λ (cs : List Command). run cs s (D row)) (sym all) ∙ first (length xs) s in
      ap (λ (i : ℕ). run (take i (xs ++ ys)) s (D row)) is
      ∙ ap (λ (cs : List Command). run cs s (D row)) (take-append-add xs ys m)
      ∙ ap (λ (t : Column). t (D row)) (run-append xs (take m ys) s)
      ∙ second m (run xs s) ∙ whole
]

-- the commands of one bbop in one bank
abbrev own : Geometry → List Named → Option Routine → List Place → ℕ → ℕ → ℕ → List Command
own g table found places n bank banks = cond (ltb bank banks) (bound_at g table found places n) []

bbop_leaves : (g : Geometry) (operations : Routines) (op : List ℕ) (dst : Place) (srcs : List Place)
    (count n : ℕ) (found : Option Routine) → operations op ≡ found → FirstKeepAll operations
    → (state : List Held) (bank row : ℕ) → IsTable (limit_of g) (table_of state)
    → bbop_refusal g (table_of state) found (dst ∷ srcs) count n ≡ None
    → (ltb bank (segments g (rows_of (table_of state) dst))
    && (list_any (λ p. has_row (rows_of (table_of state) p) row)
    (dsts_of found (dst ∷ srcs)) || is_beside g (table_of state) found n row)) ≡ false
    → LeaveRow row (own g (table_of state) found (dst ∷ srcs) n bank
    (segments g (rows_of (table_of state) dst)))
bbop_leaves g operations op dst srcs count n None e keeps state bank row t h out = cc
bbop_leaves g operations op dst srcs count n (Some o) e keeps state bank row t h out =
    by_bank (ltb bank (segments g (rows_of (table_of state) dst))) out
  where
    by_bank : (b : Bool) → (b && (list_any (λ p. has_row (rows_of (table_of state) p)
        row) (dsts_in o.shape (dst ∷ srcs)) || is_beside g (table_of state) (Some o) n row)) ≡ false
        → LeaveRow row (cond b (bound_at g (table_of state) (Some o) (dst ∷ srcs) n) [])
    by_bank false past = none_leave row
    by_bank true beside = λ k s.
        let facts = good g (table_of state) o (dst ∷ srcs) count n h in
        let at = binding g (table_of state) o.shape (dst ∷ srcs) n in
        ap (λ (cs : List Command). run cs s (D row))
        (take-map (bound_command g.rows o.shape n at) k (issues_of (o.trace n)))
        ∙ (keeps op o e n k).row g.rows at s
        (binding_fits g state o (dst ∷ srcs) count n t facts) row
        (not_touched g state o (dst ∷ srcs) count n row facts beside)

own_leaves : (g : Geometry) (operations : Routines) (op : List ℕ) (dst : Place) (srcs : List Place)
    (count n : ℕ) → FirstKeepAll operations → (table : List Named) (bank row : ℕ)
    → IsTable (limit_of g) table
    → bbop_refusal g table (operations op) (dst ∷ srcs) count n ≡ None
    → touches g operations table (Bbop op dst srcs count n) bank row ≡ false
    → LeaveRow row (own g table (operations op) (dst ∷ srcs) n bank
    (segments g (rows_of table dst)))
own_leaves g operations op dst srcs count n keeps table bank row t h out =
    subst (λ (x : List Named). bbop_refusal g x (operations op) (dst ∷ srcs) count n ≡ None
    → touches g operations x (Bbop op dst srcs count n) bank row ≡ false
    → LeaveRow row (own g x (operations op) (dst ∷ srcs) n bank (segments g (rows_of x dst))))
    (still_table table)
    (λ allowed beside. bbop_leaves g operations op dst srcs count n (operations op) refl keeps
    (still table) bank row (subst (IsTable (limit_of g)) (sym (still_table table)) t) allowed
    beside) h out

-- with those of the bbops after it
one_leaves : (g : Geometry) (operations : Routines) (op : List ℕ) (dst : Place) (srcs : List Place)
    (count n : ℕ) → FirstKeepAll operations → (wave : List Instruction) (table : List Named)
    (bank row : ℕ) → IsTable (limit_of g) table
    → is_touched g operations table (Bbop op dst srcs count n) bank row ≡ false
    → LeaveRow row (wave_queues g operations table wave bank)
    → (r : Option Why) → bbop_refusal g table (operations op) (dst ∷ srcs) count n ≡ r
    → LeaveRow row (wave_queues g operations table (Bbop op dst srcs count n ∷ wave) bank)
one_leaves g operations op dst srcs count n keeps wave table bank row t out rest (Some why) e =
    rw e rest
one_leaves g operations op dst srcs count n keeps wave table bank row t out rest None e =
    let beside : touches g operations table (Bbop op dst srcs count n) bank row ≡ false =
    rw e at out in
    rw e (both_leave row (own g table (operations op) (dst ∷ srcs) n bank
    (segments g (rows_of table dst))) (wave_queues g operations table wave bank)
    (own_leaves g operations op dst srcs count n keeps table bank row t e beside) rest)

wave_leaves : (g : Geometry) (operations : Routines) → FirstKeepAll operations
    → (wave : List Instruction) → AreBbops wave → (table : List Named) (bank row : ℕ)
    → IsTable (limit_of g) table → is_touched_by g operations table wave bank row ≡ false
    → LeaveRow row (wave_queues g operations table wave bank)
wave_leaves g operations keeps [] bbops table bank row t out = none_leave row
wave_leaves g operations keeps (Bbop op dst srcs count n ∷ wave) bbops table bank row t out =
    let instr : Instruction = Bbop op dst srcs count n in
    let parts = or_parts (is_touched g operations table instr bank row)
    (is_touched_by g operations (table_after g operations table instr) wave bank row) out in
    let others = subst (λ (x : List Named). is_touched_by g operations x wave bank row ≡ false)
    (bbop_table g operations table instr bbops.0) parts.1 in
    one_leaves g operations op dst srcs count n keeps wave table bank row t parts.0
    (wave_leaves g operations keeps wave bbops.1 table bank row t others)
    (bbop_refusal g table (operations op) (dst ∷ srcs) count n) refl
wave_leaves g operations keeps (Init name count n ∷ wave) bbops table bank row t out =
    absurd (cc (bbops.0))
wave_leaves g operations keeps (Load name values ∷ wave) bbops table bank row t out =
    absurd (cc (bbops.0))
wave_leaves g operations keeps (Fill name value ∷ wave) bbops table bank row t out =
    absurd (cc (bbops.0))
wave_leaves g operations keeps (Print name ∷ wave) bbops table bank row t out =
    absurd (cc (bbops.0))
wave_leaves g operations keeps (Free name ∷ wave) bbops table bank row t out =
    absurd (cc (bbops.0))
wave_leaves g operations keeps (Order order ∷ wave) bbops table bank row t out =
    absurd (cc (bbops.0))

pub rows_stay : (row : ℕ) (h : Column → Column) (columns : List Column)
    → ((s : Column) → h s (D row) ≡ s (D row)) → row_in row (map h columns) ≡ row_in row columns
rows_stay row h [] e = refl
rows_stay row h (s ∷ columns) e =
    rw (e s) (ap (λ rest. s (D row) ∷ rest) (rows_stay row h columns e))

pub stopped_waves_are_safe : StoppedWavesAreSafe
stopped_waves_are_safe g p turn table script wave banks left bank row is fits plain bbops stop
    within apart before beside =
    let o = routines_in p in
    let at = table_at_end g o table script in
    let now = banks_at_end g o table banks script in
    let stood = stop.alone bank apart within in
    let listed = (table_stays g o table script plain fits).listed in
    ap (row_in row) stood.1
    ∙ rows_stay row (run (take stood.0 (wave_queues g o at wave bank))) (now bank)
    (λ s. wave_leaves g o (program_keeps p is) wave bbops at bank row listed beside stood.0 s)
    ∙ untouched_stays g p table script banks bank row is fits.listed plain before
