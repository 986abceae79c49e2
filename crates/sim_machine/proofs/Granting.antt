-- A bbop that is granted.
use Rattle.sim_machine.proofs.Common.{◌≡◌, ℕ, Bool, true, false, cond, List, [], ◌∷◌, map, length}
use Rattle.sim_machine.proofs.Common.{refl, sym, ◌∙◌, ap, subst, arith, Some, None, All, Option, Ok}
use Rattle.sim_machine.proofs.Common.{◌||◌, find, option_map, bytes_eq, Geometry, Command, WaveJob}
use Rattle.sim_machine.proofs.Common.{Counts, walked, BoundJob, CanRun, wave_job, Microprogram}
use Rattle.sim_machine.proofs.Common.{issues_of, Object, Named, IsTable, limit_of, has_name}
use Rattle.sim_machine.proofs.Common.{IsObject, Routine, routine_of, first, bbop_conditions}
use Rattle.sim_machine.proofs.Common.{rows_of, srcs_in, Place, Kind, ◌<◌, ◌≤◌}
use Rattle.std.specs.Prelude.{unwrap_or}
use Rattle.std.proofs.lemmas.List.Elements.{All-head, All-tail}
use Rattle.bit_rows.specs.declared.TheConstants.{WIDTH_MAX}
use Rattle.uprog_code.specs.Legal.{IsLegalCode}
use Rattle.uprog_code.specs.declared.binding.Binding.{Binding}
use Rattle.uprog_code.specs.Shape.{need}
use Rattle.uprog_code.specs.Machine.{trace}
use Rattle.uprog_code.specs.Bound.{Bound, bound, bound_of}
use Rattle.uprog_code.specs.Fits.{Fits}
use Rattle.object_alloc.specs.Free.{free}
use Rattle.object_alloc.specs.Listed.{objects_of}
use Rattle.machine_model.specs.Columns.{segments}
use Rattle.machine_model.specs.Refusals.{nothing, object_named, dsts_in}
use Rattle.object_steps.specs.Objects.{FitsOn}
use Rattle.object_steps.proofs.Found.{part_fits}
use Rattle.machine_model.specs.Steps.{Held, table_of, base_for, binding}
use Rattle.machine_model.proofs.Facts.{AreOperands, none, more, good}
use Rattle.machine_model.proofs.Bbops.{binding_fits, first_operand}
use Rattle.sim_machine.specs.declared.refusal.Grant.{Grant}
use Rattle.sim_machine.specs.Granted.{IsGranted, granted_job}
use Rattle.sim_machine.proofs.Counting.{has_ended}

-- a state with this table
still_table : (table : List Named)
    → table_of (map (λ (p : Named). record { name = p.0; object = p.1; numbers = [] }) table)
    ≡ table
still_table [] = refl
still_table (p ∷ table) = ap (λ rest. p ∷ rest) (still_table table)

pub fits_at : (g : Geometry) (table : List Named) (o : Routine) (dst : Place)
    (srcs : List Place) (count n : ℕ) → IsTable (limit_of g) table
    → first (bbop_conditions (limit_of g) table o (dst ∷ srcs) count n) ≡ None
    → Fits g.rows o.shape n (binding g table o.shape (dst ∷ srcs) n)
fits_at g table o dst srcs count n listed allowed =
    let state = map (λ (p : Named). let h : Held = record {
      name = p.0;
      object = p.1;
      numbers = [];
    } in h) table in
    let is = still_table table in
    let whole = binding_fits g state o (dst ∷ srcs) count n
    (subst (IsTable (limit_of g)) (sym is) listed)
    (good g (table_of state) o (dst ∷ srcs) count n
    (subst (λ t. first (bbop_conditions (limit_of g) t o (dst ∷ srcs) count n)
    ≡ None) (sym is) allowed)) in
    subst (λ t. Fits g.rows o.shape n (binding g t o.shape (dst ∷ srcs) n)) is whole

found_case : (P : Object → Type 0) (p : Named) (rest : Option Named) (b r : Bool) → (b || r) ≡ true
    → P p.1 → (r ≡ true → P (unwrap_or (option_map (λ q. q.1) rest) nothing))
    → P (unwrap_or (option_map (λ q. q.1) (cond b (Some p) rest)) nothing)
found_case P p rest true r h here there = here
found_case P p rest false r h here there = there h

found_object : (P : Object → Type 0) (table : List Named) (name : List ℕ)
    → has_name table name ≡ true → All (λ named. P named.1) table → P (object_named table name)
found_object P [] name h all = absurd (cc)
found_object P (p ∷ table) name h all =
    found_case P p (find (λ q. bytes_eq q.0 name) table) (bytes_eq p.0 name) (has_name table name) h
    (All-head (λ (named : Named). P named.1) p table all) (λ e.
    found_object P table name e (All-tail (λ (named : Named). P named.1) p table all))

pub object_fits : (g : Geometry) (table : List Named) (o : Routine) (dst : Place)
    (srcs : List Place) (count n : ℕ) → All (λ named. IsObject g named.1) table
    → first (bbop_conditions (limit_of g) table o (dst ∷ srcs) count n) ≡ None
    → FitsOn g (rows_of table dst)
object_fits g table o dst srcs count n all allowed =
    let op = first_operand table count n _ _ dst _
    (good g table o (dst ∷ srcs) count n allowed).destinations in
    part_fits g (object_named table dst.name) dst.part op.inside
    (found_object (IsObject g) table dst.name op.present all)

same_bound : (b : Bound) (result : List ℕ) (sources : List ℕ) (scratch : ℕ) → b.results ≡ result
    → b.sources ≡ sources → b.scratch ≡ scratch
    → b ≡ record { results = result; sources = sources; scratch = scratch }
same_bound b result sources scratch e f h = rw (← e, ← f, ← h) refl

pub bound_is : (g : Geometry) (limit : ℕ) (table : List Named) (m : Microprogram) (dst : Place)
    (srcs : List Place) (n : ℕ) (b : Binding) (grant : Grant) → limit ≡ limit_of g
    → (bound_of b).results ≡ map (λ p. (rows_of table p).base)
    (dsts_in m.shape (dst ∷ srcs)) → (bound_of b).sources
    ≡ map (λ p. (rows_of table p).base) (srcs_in m.shape (dst ∷ srcs))
    → (bound_of b).scratch ≡ grant.scratch
    → IsGranted limit table m n grant → bound_of b ≡ binding g table m.shape (dst ∷ srcs) n
bound_is g limit table m dst srcs n b grant l e f h i =
    same_bound (bound_of b) _ _ _ e f (h ∙ based) where
      at_limit : free (limit_of g) (objects_of table) (need m.shape n) ≡ Some grant.scratch
      at_limit = ap (λ k. free k (objects_of table) (need m.shape n)) (sym l) ∙ i.rows

      based : grant.scratch ≡ base_for g table (need m.shape n)
      based = ap (λ o. unwrap_or o 0) (sym at_limit)

pub binding_is_fit : (g : Geometry) (table : List Named) (m : Microprogram) (dst : Place)
    (srcs : List Place) (count n rows width : ℕ) (b : Bound) → IsTable (limit_of g) table
    → first (bbop_conditions (limit_of g) table (routine_of m) (dst ∷ srcs) count n) ≡ None
    → b ≡ binding g table m.shape (dst ∷ srcs) n → rows ≡ g.rows → width ≡ n
    → Fits rows m.shape width b
binding_is_fit g table m dst srcs count n rows width b listed allowed e f h =
    rw (e, f, h) (fits_at g table (routine_of m) dst srcs count n listed allowed)

abbrev bound_job_of : Microprogram → Binding → ℕ → BoundJob
bound_job_of m b banks = record {
  shape = m.shape;
  code = m.code;
  binding = b;
  banks = banks;
}

pub can_run : (g : Geometry) (table : List Named) (m : Microprogram) (dst : Place)
    (srcs : List Place) (count n banks : ℕ) (b : Binding) (counts : Counts)
    → IsLegalCode m.shape m.code → 0 < n → n ≤ WIDTH_MAX → IsTable (limit_of g) table
    → first (bbop_conditions (limit_of g) table (routine_of m) (dst ∷ srcs) count n) ≡ None
    → b.n ≡ n → bound_of b ≡ binding g table m.shape (dst ∷ srcs) n
    → walked (trace m.shape m.code n) ≡ Ok counts → banks ≤ g.banks
    → CanRun g (bound_job_of m b banks)
can_run g table m dst srcs count n banks b counts legal some narrow listed all e f w l = record {
  legal = legal;
  some = rw e some;
  narrow = rw e narrow;
  fits = binding_is_fit g table m dst srcs count n g.rows b.n (bound_of b) listed all f refl e;
  ends = has_ended (trace m.shape m.code b.n) counts
      (ap (λ k. walked (trace m.shape m.code k)) e ∙ w);
  banks = l;
}

abbrev job_with : List Command → ℕ → WaveJob
job_with commands banks = record { commands = commands; banks = banks }

same_job : (a b : List Command) (k l : ℕ) → a ≡ b → k ≡ l
    → job_with a k ≡ job_with b l
same_job a b k l e f = rw (e, f) refl

abbrev with_width : ℕ → Microprogram → ℕ → Bound → List Command
with_width rows m w at = bound rows m.shape w at (issues_of (trace m.shape m.code w))

pub job_is : (g : Geometry) (table : List Named) (m : Microprogram) (dst : Place)
    (srcs : List Place) (n banks : ℕ) (b : Binding) → b.n ≡ n
    → bound_of b ≡ binding g table m.shape (dst ∷ srcs) n
    → banks ≡ segments g (rows_of table dst)
    → wave_job g.rows (bound_job_of m b banks) ≡ granted_job g table m dst srcs n
job_is g table m dst srcs n banks b e f h = same_job _ _ _ _
    (ap (λ w. with_width g.rows m w (bound_of b)) e ∙ ap (with_width g.rows m n) f) h

-- as many sources as the operation has
pub few_sources : (g : Geometry) (table : List Named) (o : Routine) (dst : Place)
    (srcs : List Place) (count n : ℕ)
    → first (bbop_conditions (limit_of g) table o (dst ∷ srcs) count n) ≡ None
    → length (srcs_in o.shape (dst ∷ srcs)) ≡ length o.shape.sources
few_sources g table o dst srcs count n allowed =
    same_length table count n o.shape.sources (srcs_in o.shape (dst ∷ srcs))
    (good g table o (dst ∷ srcs) count n allowed).sources
  where
    same_length : (table : List Named) (count n : ℕ) (ks : List Kind) (xs : List Place)
        → AreOperands table count n ks xs → length xs ≡ length ks
    same_length table count n [] [] none = refl
    same_length table count n [] (x ∷ xs) h = elim h [ ]
    same_length table count n (k ∷ ks) [] h = elim h [ ]
    same_length table count n (k ∷ ks) (x ∷ xs) (more _ _ _ _ op rest) = let e =
        same_length table count n ks xs rest in omega (arith, e)
