-- A row that a done instruction does not touch stays.
use Rattle.machine_model.proofs.Common.{or_parts, ◌≡◌, ℕ, ◌+◌, ◌<◌, ◌≤◌, Bool, true, false, ◌&&◌}
use Rattle.machine_model.proofs.Common.{cond, ltb, List, [], ◌∷◌, map, Option, Some, None, refl}
use Rattle.machine_model.proofs.Common.{◌∙◌, ap, arith, inl, inr, nat_tests, Geometry, D, Column}
use Rattle.machine_model.proofs.Common.{run, Banks, row_in, WIDTH_MAX, bound, need, results}
use Rattle.machine_model.proofs.Common.{list_any, IsTouched, Keeps, issues_of, has_row, IsTable}
use Rattle.machine_model.proofs.Common.{Bbop, Place, limit_of}
use Rattle.std.proofs.Common.{◌||◌}
use Rattle.machine_model.specs.declared.Why.{Why}
use Rattle.machine_model.specs.Columns.{segments}
use Rattle.machine_model.specs.Routines.{Routine, Routines}
use Rattle.machine_model.specs.Refusals.{rows_of, bbop_refusal, dsts_in}
use Rattle.machine_model.specs.Steps.{Held, table_of, base_for, binding, through, job_of, if_done}
use Rattle.machine_model.specs.Steps.{is_touched, banks_after, is_among, is_beside, dsts_of}
use Rattle.machine_model.proofs.Facts.{IsGood, good}
use Rattle.machine_model.proofs.Bbops.{binding_fits, no_result}
use Rattle.machine_model.proofs.Steps.{job_is}

-- what is issued for each operation leaves all rows that are not its own
abbrev pub KeepsAll : Routines → Type 0
KeepsAll operations = (name : List ℕ) (o : Routine) → operations name ≡ Some o → (n : ℕ)
    → 0 < n → n ≤ WIDTH_MAX → Keeps o.shape n (issues_of (o.trace n))

among_from : (base size row : ℕ) → base ≤ row → row < base + size → is_among base size row ≡ true
among_from base size row a b = grind (arith, nat_tests)

rows_stay : (row : ℕ) (h : Column → Column) (columns : List Column)
    → ((s : Column) → h s (D row) ≡ s (D row)) → row_in row (map h columns) ≡ row_in row columns
rows_stay row h [] e = refl
rows_stay row h (s ∷ columns) e =
    rw (e s) (ap (λ rest. s (D row) ∷ rest) (rows_stay row h columns e))

pub stay_case : (row : ℕ) (h : Column → Column) (t b : Bool) (columns : List Column)
    → (t && b) ≡ false → (b ≡ false → (s : Column) → h s (D row) ≡ s (D row))
    → row_in row (cond t (map h columns) columns) ≡ row_in row columns
stay_case row h true b columns e keeps = rows_stay row h columns (keeps e)
stay_case row h false b columns e keeps = refl

-- a row that a bbop does not touch is none that its operation may change
pub not_touched : (g : Geometry) (state : List Held) (o : Routine) (places : List Place)
    (count n row : ℕ) → IsGood g (table_of state) o places count n
    → (list_any (λ p. has_row (rows_of (table_of state) p) row) (dsts_in o.shape places)
    || is_beside g (table_of state) (Some o) n row) ≡ false
    → IsTouched g.rows o.shape n (binding g (table_of state) o.shape places n) row → ⊥
not_touched g state o places count n row good h is =
    let parts = or_parts (list_any (λ p. has_row (rows_of (table_of state) p) row)
    (dsts_in o.shape places)) (is_beside g (table_of state) (Some o) n row) h in
    let base = base_for g (table_of state) (need o.shape n) in
    let beside = or_parts (is_among base (need o.shape n) row) (is_among (limit_of g) 32 row)
    parts.1 in
    elim is [
      | inl result ↦ no_result state count n row (results o.shape) (dsts_in o.shape places)
          good.destinations parts.0 result
      | inr (inl scratch) ↦ let among = among_from base (need o.shape n) row scratch.0 scratch.1 in
          let not = beside.0 in cc
      | inr (inr spill) ↦ let among = among_from (limit_of g) 32 row spill.0 spill.1 in
          let not = beside.1 in cc
    ]

bbop_kept : (g : Geometry) (operations : Routines) (op : List ℕ) (dst : Place) (srcs : List Place)
    (count n : ℕ) (found : Option Routine)
    → operations op ≡ found → 0 < n → n ≤ WIDTH_MAX → KeepsAll operations
    → (banks : Banks) (state : List Held) (bank row : ℕ) → IsTable (limit_of g) (table_of state)
    → bbop_refusal g (table_of state) found (dst ∷ srcs) count n ≡ None
    → (ltb bank (segments g (rows_of (table_of state) dst))
    && (list_any (λ p. has_row (rows_of (table_of state) p) row)
    (dsts_of found (dst ∷ srcs)) || is_beside g (table_of state) found n row)) ≡ false
    → row_in row (through (job_of g operations (table_of state) (Bbop op dst srcs count n)) banks
    bank) ≡ row_in row (banks bank)
bbop_kept g operations op dst srcs count n None e some few keeps banks state bank row t h
    out = cc
bbop_kept g operations op dst srcs count n (Some o) e some few keeps banks state bank row t h
    out =
    let places = dst ∷ srcs in
    let facts = good g (table_of state) o places count n h in
    let cs = bound g.rows o.shape n (binding g (table_of state) o.shape places n)
    (issues_of (o.trace n)) in
    ap (λ j. row_in row (through j banks bank)) (job_is g operations op dst srcs count n o e state)
    ∙ stay_case row (run cs) (ltb bank (segments g (rows_of (table_of state) dst)))
    (list_any (λ p. has_row (rows_of (table_of state) p) row) (dsts_in o.shape places)
    || is_beside g (table_of state) (Some o) n row) (banks bank) out
    (λ b s. (keeps op o e n some few).row g.rows (binding g (table_of state) o.shape places n) s
    (binding_fits g state o places count n t facts) row
    (not_touched g state o places count n row facts b))

pub done_kept : (r : Option Why) (new old : Banks) (touched : Bool) (bank row : ℕ)
    → (r ≡ None → touched ≡ false → row_in row (new bank) ≡ row_in row (old bank))
    → if_done r touched false ≡ false → row_in row (if_done r new old bank) ≡ row_in row (old bank)
done_kept None new old touched bank row kept out = kept refl out
done_kept (Some reason) new old touched bank row kept out = refl

-- A row that a bbop does not touch is as it was
pub bbop_rows_kept : (g : Geometry) (operations : Routines) (op : List ℕ) (dst : Place)
    (srcs : List Place) (count n : ℕ) → 0 < n → n ≤ WIDTH_MAX
    → KeepsAll operations → (banks : Banks) (state : List Held) (bank row : ℕ)
    → IsTable (limit_of g) (table_of state)
    → is_touched g operations (table_of state) (Bbop op dst srcs count n) bank row ≡ false
    → row_in row (banks_after g operations (table_of state) banks (Bbop op dst srcs count n) bank)
    ≡ row_in row (banks bank)
bbop_rows_kept g operations op dst srcs count n some few keeps banks state bank row t out =
    done_kept (bbop_refusal g (table_of state) (operations op) (dst ∷ srcs) count n)
    (through (job_of g operations (table_of state) (Bbop op dst srcs count n)) banks) banks _
    bank row
    (λ h touched. bbop_kept g operations op dst srcs count n (operations op) refl some few
    keeps banks state bank row t h touched) out
