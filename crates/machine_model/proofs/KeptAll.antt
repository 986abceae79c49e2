-- Rows that no done instruction of a script touches stay.
use Rattle.machine_model.proofs.Common.{or_parts, ◌≡◌, ℕ, zero, suc, ◌+◌, ◌<◌, ◌≤◌, Bool, true}
use Rattle.machine_model.proofs.Common.{false, ◌&&◌, ltb, List, [], ◌∷◌, map, Some, refl, sym, ◌∙◌}
use Rattle.machine_model.proofs.Common.{ap, subst, arith, inl, inr, cond, option_map, bytes_eq}
use Rattle.machine_model.proofs.Common.{AllByRecursion, cases_lt, ne_eqb, nat_tests, Geometry, D}
use Rattle.machine_model.proofs.Common.{bit_at, Column, run, Banks, row_in, with_row, after}
use Rattle.machine_model.proofs.Common.{on_bank_all, Object, has_row, Named, IsTable, Instruction}
use Rattle.machine_model.proofs.Common.{Init, Bbop, Load, Fill, Print, Free, Order, column_count}
use Rattle.machine_model.proofs.Common.{padded_to, limit_of, issues_of, Keeps, WIDTH_MAX, writes}
use Rattle.machine_model.proofs.Common.{each_inside, each_after, all_writes, all_own, part}
use Rattle.uprog_code.specs.Programs.{IsEntry, IsProgram}
use Rattle.uprog_code.proofs.Kept.{legal_keeps}
use Rattle.machine_model.specs.Columns.{object_size, segments}
use Rattle.machine_model.specs.Routines.{Program, Routine, Routines, routine_of}
use Rattle.machine_model.specs.Routines.{entry_named, routines_in}
use Rattle.machine_model.specs.Refusals.{rows_of, refusal}
use Rattle.machine_model.specs.Steps.{Held, table_of, new_object, through, is_touched, banks_after}
use Rattle.machine_model.specs.Steps.{table_after, fill_events, load_events}
use Rattle.machine_model.specs.Agrees.{DoesAll, IsPlain}
use Rattle.machine_model.specs.Laws.{UntouchedStays}
use Rattle.machine_model.specs.Script.{is_touched_by, banks_at_end}
use Rattle.machine_model.proofs.Kept.{KeepsAll, stay_case, done_kept, bbop_rows_kept}
use Rattle.machine_model.proofs.Steps.{idle}
use Rattle.machine_model.proofs.Fills.{fill_commands, fill_keeps}
use Rattle.machine_model.proofs.Makes.{filled}
use Rattle.machine_model.proofs.Places.{still, still_table}
use Rattle.machine_model.proofs.Tables.{listed_after}

filled_kept : (g : Geometry) (o : Object) (v : ℕ) (banks : Banks) (bank row : ℕ)
    → (ltb bank (segments g o) && has_row o row) ≡ false
    → row_in row (after (fill_events g o v) (through (record { commands = []; banks = 0 }) banks)
    bank) ≡ row_in row (banks bank)
filled_kept g o v banks bank row out =
    ap (λ (x : Banks). row_in row (x bank)) (filled g o v banks)
    ∙ stay_case row (run (fill_commands o.base v 0 o.width)) (ltb bank (segments g o))
    (has_row o row) (banks bank) out (λ b s. fill_keeps o o v row s b)

with_row_other : (row at : ℕ) (bits : List Bool) (columns : List Column) → (at ≡ row → ⊥)
    → row_in row (with_row at bits columns) ≡ row_in row columns
with_row_other row at [] columns ne = refl
with_row_other row at (b ∷ bits) [] ne = refl
with_row_other row at (b ∷ bits) (s ∷ columns) ne =
    rw (ne_eqb at row ne) (ap (λ rest. s (D row) ∷ rest) (with_row_other row at bits columns ne))

writes_other_rows : (bank base : ℕ) (vs : List ℕ) (a n row : ℕ) (columns : List Column)
    → (base + a ≤ row → row < base + a + n → ⊥)
    → row_in row (on_bank_all (writes bank base vs a n) columns) ≡ row_in row columns
writes_other_rows bank base vs a zero row columns out = refl
writes_other_rows bank base vs a (suc n) row columns out =
    writes_other_rows bank base vs (a + 1) n row
    (with_row (base + a) (map (λ v. bit_at v a) vs) columns) (λ l m.
    out (omega arith) (omega arith))
    ∙ with_row_other row (base + a) (map (λ v. bit_at v a) vs) columns (λ e.
    out (omega arith) (omega arith))

loaded_kept : (g : Geometry) (o : Object) (vs : List ℕ) (banks : Banks) (bank row : ℕ)
    → (ltb bank (segments g o) && has_row o row) ≡ false
    → row_in row (after (load_events g o vs) (through (record { commands = []; banks = 0 }) banks)
    bank) ≡ row_in row (banks bank)
loaded_kept g o vs banks bank row out =
    let nums = padded_to (object_size g o) vs in
    let w = column_count g in
    ap (λ (x : Banks). row_in row (after (load_events g o vs) x bank)) (idle [] banks)
    ∙ elim (cases_lt bank (segments g o)) [
      | inl lt ↦
          ap (row_in row) (each_inside (all_writes w o.base o.width nums) 0 (segments g o) banks
          bank (all_own w o.base o.width nums) (omega arith) (omega arith))
          ∙ writes_other_rows bank o.base (part w nums bank) 0 o.width row (banks bank) (λ l m.
          let has : (ltb bank (segments g o) && has_row o row) ≡ true =
          grind (arith, nat_tests) in cc)
      | inr ge ↦ ap (row_in row) (each_after (all_writes w o.base o.width nums) 0 (segments g o)
          banks bank (all_own w o.base o.width nums) (omega arith))
    ]

state_kept : (g : Geometry) (operations : Routines) (instr : Instruction)
    → KeepsAll operations → IsPlain instr
    → (banks : Banks) (state : List Held) (bank row : ℕ) → IsTable (limit_of g) (table_of state)
    → is_touched g operations (table_of state) instr bank row ≡ false
    → row_in row (banks_after g operations (table_of state) banks instr bank)
    ≡ row_in row (banks bank)
state_kept g operations (Bbop op dst srcs count n) keeps plain banks state bank row t out =
    bbop_rows_kept g operations op dst srcs count n plain.0 plain.1 keeps banks state bank
    row t out
state_kept g operations (Init name count n) keeps plain banks state bank row t out =
    done_kept (refusal g operations (table_of state) (Init name count n)) _ banks _ bank row
    (λ h touched. filled_kept g (new_object g (table_of state) count n) 0 banks bank row
    touched) out
state_kept g operations (Fill place v) keeps plain banks state bank row t out =
    done_kept (refusal g operations (table_of state) (Fill place v)) _ banks _ bank row
    (λ h touched. filled_kept g (rows_of (table_of state) place) v banks bank row touched)
    out
state_kept g operations (Load place vs) keeps plain banks state bank row t out =
    done_kept (refusal g operations (table_of state) (Load place vs)) _ banks _ bank row
    (λ h touched. loaded_kept g (rows_of (table_of state) place) vs banks bank row touched)
    out
state_kept g operations (Print name) keeps plain banks state bank row t out =
    done_kept (refusal g operations (table_of state) (Print name)) _ banks _ bank row
    (λ h touched. ap (λ (x : Banks). row_in row (x bank)) (idle [] banks)) out
state_kept g operations (Free name) keeps plain banks state bank row t out =
    done_kept (refusal g operations (table_of state) (Free name)) _ banks _ bank row
    (λ h touched. ap (λ (x : Banks). row_in row (x bank)) (idle [] banks)) out
state_kept g operations (Order o) keeps plain banks state bank row t out =
    ap (λ (x : Banks). row_in row (x bank)) (idle [] banks)

-- A row that a done instruction does not touch stays
pub step_kept : (g : Geometry) (operations : Routines) (instr : Instruction)
    → KeepsAll operations → IsPlain instr → (table : List Named) → IsTable (limit_of g) table
    → (banks : Banks) (bank row : ℕ) → is_touched g operations table instr bank row ≡ false
    → row_in row (banks_after g operations table banks instr bank) ≡ row_in row (banks bank)
step_kept g operations instr keeps plain table t banks bank row out =
    subst (λ (x : List Named). is_touched g operations x instr bank row ≡ false
    → row_in row (banks_after g operations x banks instr bank) ≡ row_in row (banks bank))
    (still_table table)
    (state_kept g operations instr keeps plain banks (still table) bank row
    (subst (IsTable (limit_of g)) (sym (still_table table)) t)) out

-- and so does one that no done instruction of a script touches
pub script_kept : (g : Geometry) (operations : Routines) (script : List Instruction)
    → KeepsAll operations → AllByRecursion IsPlain script → (table : List Named)
    → IsTable (limit_of g) table → (banks : Banks) (bank row : ℕ)
    → is_touched_by g operations table script bank row ≡ false
    → row_in row (banks_at_end g operations table banks script bank) ≡ row_in row (banks bank)
script_kept g operations [] keeps plain table t banks bank row out = refl
script_kept g operations (instr ∷ script) keeps plain table t banks bank row out =
    let table' = table_after g operations table instr in
    let both = or_parts (is_touched g operations table instr bank row)
    (is_touched_by g operations table' script bank row) out in
    script_kept g operations script keeps plain.1 table'
    (listed_after g operations table instr plain.0 t) (banks_after g operations table banks instr)
    bank row both.1
    ∙ step_kept g operations instr keeps plain.0 table t banks bank row both.0

-- what does what it means keeps the other rows
pub does_keep : (operations : Routines) (meaning : List ℕ → ℕ → List ℕ → List ℕ)
    → DoesAll operations meaning → KeepsAll operations
does_keep operations meaning does name o e n some few = (does name o e n some few).keeps

abbrev pub KeepsRows : Routine → Type 0
KeepsRows o = (n : ℕ) → 0 < n → n ≤ WIDTH_MAX → Keeps o.shape n (issues_of (o.trace n))

-- what holds of each entry holds of the operation of a name
pub entry_holds : (P : Routine → Type 0) (p : Program) (name : List ℕ) (o : Routine)
    → AllByRecursion (λ e. P (routine_of e)) p → routines_in p name ≡ Some o → P o
entry_holds P [] name o all is = cc
entry_holds P (e ∷ p) name o all is =
    named (bytes_eq e.name name) is (entry_holds P p name o all.1) where
      named : (t : Bool)
          → option_map routine_of (cond t (Some e) (entry_named p name)) ≡ Some o
          → (option_map routine_of (entry_named p name) ≡ Some o → P o) → P o
      named true is rest = let same : routine_of e ≡ o = cc in subst P same all.0
      named false is rest = rest is

entries_keep : (p : Program) → AllByRecursion IsEntry p
    → AllByRecursion (λ e. KeepsRows (routine_of e)) p
entries_keep [] all = tt
entries_keep (e ∷ p) all =
    (λ n some few. legal_keeps e.shape e.code all.0.code n, entries_keep p all.1)

-- and so does every accepted program
pub program_keeps : (p : Program) → IsProgram p → KeepsAll (routines_in p)
program_keeps p good name o is =
    entry_holds KeepsRows p name o (entries_keep p good.entries) is

-- a row that no done instruction touches is as it was, whatever the program does
pub untouched_stays : UntouchedStays
untouched_stays g p table script banks bank row good t plain out =
    script_kept g (routines_in p) script (program_keeps p good) plain table t banks bank row out
