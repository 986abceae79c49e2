-- A bbop leaves the numbers of the operands that have no row of a destination.
use Rattle.machine_model.proofs.Common.{or_parts, ◌≡◌, ℕ, ◌<◌, ◌≤◌, true, false, List, [], ◌∷◌}
use Rattle.machine_model.proofs.Common.{Option, Some, None, refl, sym, subst, AllByRecursion}
use Rattle.machine_model.proofs.Common.{Geometry, Banks, WIDTH_MAX, Kind, Object, Named, IsTable}
use Rattle.machine_model.proofs.Common.{limit_of, has_name, Bbop, Place, results, AreApart}
use Rattle.machine_model.specs.declared.Why.{Why}
use Rattle.machine_model.specs.Columns.{columns}
use Rattle.machine_model.specs.Routines.{Routine, Routines, routines_in}
use Rattle.machine_model.specs.Refusals.{bbop_refusal, rows_of, goes_past, meets_one, dsts_in}
use Rattle.machine_model.specs.Refusals.{srcs_in}
use Rattle.machine_model.specs.Steps.{Held, table_of, banks_after, if_done, job_of, through}
use Rattle.machine_model.specs.Steps.{dsts_of, srcs_of}
use Rattle.machine_model.proofs.Kept.{KeepsAll}
use Rattle.machine_model.specs.Laws.{OthersStay}
use Rattle.machine_model.proofs.Bbops.{bbop_others, bits_apart, in_common}
use Rattle.machine_model.proofs.Facts.{IsOperand, AreOperands, none, more, AreOthers, good}
use Rattle.machine_model.proofs.KeptAll.{program_keeps}
use Rattle.machine_model.proofs.Places.{still, still_table}
use Rattle.machine_model.proofs.Steps.{job_is}

if_columns : (r : Option Why) (g : Geometry) (new old : Banks) (o : Object)
    → (r ≡ None → columns g new o ≡ columns g old o)
    → columns g (if_done r new old) o ≡ columns g old o
if_columns None g new old o h = h refl
if_columns (Some reason) g new old o h = refl

-- an operand with no row of a destination, where the bbop is done
place_stays : (g : Geometry) (operations : Routines) (op : List ℕ) (dst : Place) (srcs : List Place)
    (count n : ℕ) (o : Option Routine) → operations op ≡ o → 0 < n → n ≤ WIDTH_MAX
    → KeepsAll operations → (banks : Banks) (state : List Held) (p : Place)
    → IsTable (limit_of g) (table_of state) → has_name (table_of state) p.name ≡ true
    → goes_past (table_of state) p ≡ false
    → AllByRecursion (λ d. AreApart (rows_of (table_of state) p) (rows_of (table_of state) d))
    (dsts_of o (dst ∷ srcs))
    → bbop_refusal g (table_of state) o (dst ∷ srcs) count n ≡ None
    → columns g (through (job_of g operations (table_of state) (Bbop op dst srcs count n)) banks)
    (rows_of (table_of state) p) ≡ columns g banks (rows_of (table_of state) p)
place_stays g operations op dst srcs count n None e some few keeps banks state p t there inside
    apart h = cc
place_stays g operations op dst srcs count n (Some o) e some few keeps banks state p t there inside
    apart h =
    bbop_others g banks state o (dst ∷ srcs) (rows_of (table_of state) dst) count n
    (job_of g operations (table_of state) (Bbop op dst srcs count n)) t
    (good g (table_of state) o (dst ∷ srcs) count n h) (keeps op o e n some few)
    (job_is g operations op dst srcs count n o e state) p there inside apart

-- an operand with no row of a destination keeps its numbers
pub others_stay : (g : Geometry) (operations : Routines) (table : List Named) (op : List ℕ)
    (dst : Place) (srcs : List Place) (count n : ℕ) (banks : Banks) (p : Place)
    → KeepsAll operations → IsTable (limit_of g) table → 0 < n → n ≤ WIDTH_MAX
    → has_name table p.name ≡ true → goes_past table p ≡ false
    → AllByRecursion (λ d. AreApart (rows_of table p) (rows_of table d))
    (dsts_of (operations op) (dst ∷ srcs))
    → columns g (banks_after g operations table banks (Bbop op dst srcs count n)) (rows_of table p)
    ≡ columns g banks (rows_of table p)
others_stay g operations table op dst srcs count n banks p keeps t some few =
    subst (λ (x : List Named). has_name x p.name ≡ true → goes_past x p ≡ false
    → AllByRecursion (λ d. AreApart (rows_of x p) (rows_of x d))
    (dsts_of (operations op) (dst ∷ srcs))
    → columns g (banks_after g operations x banks (Bbop op dst srcs count n)) (rows_of x p)
    ≡ columns g banks (rows_of x p)) (still_table table)
    (λ there inside apart. if_columns (bbop_refusal g (table_of (still table)) (operations op)
    (dst ∷ srcs) count n) g
    (through (job_of g operations (table_of (still table)) (Bbop op dst srcs count n)) banks) banks
    (rows_of (table_of (still table)) p) (λ h.
    place_stays g operations op dst srcs count n (operations op) refl some few keeps banks
    (still table) p (subst (IsTable (limit_of g)) (sym (still_table table)) t) there inside apart h))

-- operands that have no bit in common are apart
table_apart : (limit : ℕ) (table : List Named) (p q : Place) → IsTable limit table
    → has_name table p.name ≡ true → goes_past table p ≡ false
    → has_name table q.name ≡ true → goes_past table q ≡ false → in_common p q ≡ false
    → AreApart (rows_of table p) (rows_of table q)
table_apart limit table p q t =
    subst (λ (x : List Named). has_name x p.name ≡ true → goes_past x p ≡ false
    → has_name x q.name ≡ true → goes_past x q ≡ false → in_common p q ≡ false
    → AreApart (rows_of x p) (rows_of x q)) (still_table table)
    (bits_apart limit (still table) p q (subst (IsTable limit) (sym (still_table table)) t))

module _ (limit : ℕ) (table : List Named) (count n : ℕ) (t : IsTable limit table) where
  -- a source is apart from all destinations
  source_apart : (kind : Kind) (p : Place) → IsOperand table count n kind p
      → (kinds : List Kind) (dsts : List Place) → AreOperands table count n kinds dsts
      → meets_one dsts p ≡ false
      → AllByRecursion (λ d. AreApart (rows_of table p) (rows_of table d)) dsts
  source_apart kind p op [] [] none h = tt
  source_apart kind p op [] (d ∷ dsts) x h = elim x [ ]
  source_apart kind p op (k ∷ kinds) [] x h = elim x [ ]
  source_apart kind p op (k ∷ kinds) (d ∷ dsts) (more _ _ _ _ other rest) h =
      let both = or_parts (in_common p d) (meets_one dsts p) h in (
        table_apart limit table p d t op.present op.inside other.present other.inside both.0,
        source_apart kind p op kinds dsts rest both.1,
      )

  each_source : (P : Place → Type 0) (ks : List Kind) (dsts : List Place)
      → AreOperands table count n ks dsts → (kinds : List Kind) (places : List Place)
      → AreOperands table count n kinds places → AreOthers dsts places
      → ((p : Place) → has_name table p.name ≡ true → goes_past table p ≡ false
      → AllByRecursion (λ d. AreApart (rows_of table p) (rows_of table d)) dsts → P p)
      → AllByRecursion P places
  each_source P ks dsts all [] [] none others h = tt
  each_source P ks dsts all [] (p ∷ places) x others h = elim x [ ]
  each_source P ks dsts all (kind ∷ kinds) [] x others h = elim x [ ]
  each_source P ks dsts all (kind ∷ kinds) (p ∷ places) (more _ _ _ _ op rest) others h = (
    h p op.present op.inside (source_apart kind p op ks dsts all others.0),
    each_source P ks dsts all kinds places rest others.1 h,
  )

sources_of : (P : Place → Type 0) (g : Geometry) (table : List Named) (o : Option Routine)
    (places : List Place) (count n : ℕ) → IsTable (limit_of g) table
    → bbop_refusal g table o places count n ≡ None
    → ((p : Place) → has_name table p.name ≡ true → goes_past table p ≡ false
    → AllByRecursion (λ d. AreApart (rows_of table p) (rows_of table d)) (dsts_of o places) → P p)
    → AllByRecursion P (srcs_of o places)
sources_of P g table None places count n t h each = tt
sources_of P g table (Some o) places count n t h each =
    let facts = good g table o places count n h in
    each_source (limit_of g) table count n t P (results o.shape) (dsts_in o.shape places)
    facts.destinations o.shape.sources (srcs_in o.shape places) facts.sources facts.others each

pub bbops_leave_others : OthersStay
bbops_leave_others = record {
  others = λ g p table op dst srcs count n banks place program t wide there inside apart.
      others_stay g (routines_in p) table op dst srcs count n banks place
      (program_keeps p program) t wide.0 wide.1 there inside apart;
  sources = λ g p table op dst srcs count n banks program t wide done.
      sources_of (λ place. columns g (banks_after g (routines_in p) table banks
      (Bbop op dst srcs count n)) (rows_of table place) ≡ columns g banks (rows_of table place))
      g table (routines_in p op) (dst ∷ srcs) count n t done (λ place there inside apart.
      others_stay g (routines_in p) table op dst srcs count n banks place
      (program_keeps p program) t wide.0 wide.1 there inside apart);
}
