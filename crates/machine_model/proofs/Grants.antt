-- A bbop that is not refused may run.
use Rattle.machine_model.proofs.Common.{◌≡◌, ℕ, List, ◌∷◌, Option, Some, None, subst, Geometry}
use Rattle.machine_model.proofs.Common.{Trace, Ended, Stuck, Fits, Named, IsTable, limit_of, Bbop}
use Rattle.machine_model.proofs.Common.{Place}
use Rattle.uprog_code.specs.Machine.{HasEnded}
use Rattle.machine_model.specs.Routines.{Routine, Routines}
use Rattle.machine_model.specs.Refusals.{refusal, walks_badly, bbop_refusal}
use Rattle.machine_model.specs.Steps.{binding}
use Rattle.machine_model.specs.Laws.{GrantsFit}
use Rattle.machine_model.proofs.Facts.{IsGood, good}
use Rattle.machine_model.proofs.Places.{still, still_table}
use Rattle.machine_model.proofs.Bbops.{binding_fits}
use Rattle.machine_model.proofs.InOrder.{job_fits}
use Rattle.machine_model.proofs.Tables.{fits_banks}

-- what is known of the bbop
pub granted : (g : Geometry) (operations : Routines) (table : List Named) (o : Routine)
    (op : List ℕ) (dst : Place) (srcs : List Place) (count n : ℕ) → operations op ≡ Some o
    → refusal g operations table (Bbop op dst srcs count n) ≡ None
    → IsGood g table o (dst ∷ srcs) count n
granted g operations table o op dst srcs count n e h =
    good g table o (dst ∷ srcs) count n
    (subst (λ (f : Option Routine). bbop_refusal g table f (dst ∷ srcs) count n ≡ None) e h)

-- its binding fits in a bank
pub table_fits_binding : (g : Geometry) (table : List Named) (o : Routine)
    (names : List Place) (count n : ℕ) → IsTable (limit_of g) table
    → IsGood g table o names count n → Fits g.rows o.shape n (binding g table o.shape names n)
table_fits_binding g table o names count n t h =
    subst (λ (x : List Named). IsTable (limit_of g) x → IsGood g x o names count n
    → Fits g.rows o.shape n (binding g x o.shape names n)) (still_table table)
    (binding_fits g (still table) o names count n) t h

walk_ends : (t : Trace) → walks_badly t ≡ None → HasEnded t
walk_ends (Ended issues) h = tt
walk_ends (Stuck at reason) h = cc

-- a bbop that is not refused can be run
pub grants_fit : GrantsFit
grants_fit g operations table o op dst srcs count n some t e h =
    let facts = granted g operations table o op dst srcs count n e h in
    record {
      ends = walk_ends (o.trace n) facts.walks;
      fits = table_fits_binding g table o (dst ∷ srcs) count n t.listed facts;
      banks = job_fits g operations table (Bbop op dst srcs count n) some (fits_banks g table t);
    }
