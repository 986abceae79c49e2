-- The step of the rows gives the word machine's step.
use Rattle.machine_model.proofs.Common.{◌≡◌, ℕ, zero, suc, ◌<◌, ◌≤◌, Bool, true, false, not, cond}
use Rattle.machine_model.proofs.Common.{ltb, List, [], ◌∷◌, length, get_or, map, Option, Some, None}
use Rattle.machine_model.proofs.Common.{refl, sym, ◌∙◌, ap, subst, arith, filter, slice_index}
use Rattle.machine_model.proofs.Common.{issues_of, bytes_eq, length-map, nat_tests, fun_ext}
use Rattle.machine_model.proofs.Common.{Command, All-map, All-filter, Geometry, Column, run, Banks}
use Rattle.machine_model.proofs.Common.{Object, Named, IsTable, has_name, IsTable-without}
use Rattle.machine_model.proofs.Common.{Instruction, Bbop, Print, Free, Order, Place, column_count}
use Rattle.machine_model.proofs.Common.{segments_of, limit_of, WaveJob}
use Rattle.object_alloc.specs.Listed.{without}
use Rattle.bbop_isa.specs.declared.instr.Order.{Order as Orders}
use Rattle.machine_model.specs.declared.Why.{Why}
use Rattle.machine_model.specs.Columns.{object_size, segments, columns}
use Rattle.machine_model.specs.Routines.{Performs, Routine, Routines}
use Rattle.machine_model.specs.Refusals.{object_named, rows_of, refusal, bbop_refusal, dsts_in, srcs_in}
use Rattle.machine_model.specs.Steps.{Held, table_of, numbers_at, with_results}
use Rattle.machine_model.specs.Steps.{new_numbers, dsts_of, srcs_of, computed, through, job_of}
use Rattle.machine_model.specs.Steps.{worded, rowed, if_done, banks_after, words_after}
use Rattle.machine_model.specs.Agrees.{Agrees}
use Rattle.machine_model.proofs.Facts.{good}
use Rattle.machine_model.proofs.Places.{no_one, entry_of, found}
use Rattle.machine_model.proofs.Bbops.{bbop_job, bbop_object, first_operand, part_count}

-- The step of the rows gives the word machine's step
abbrev pub StepAgrees : Geometry → Routines → (List ℕ → ℕ → List ℕ → List ℕ) → Instruction
    → Type 0
StepAgrees g operations meaning instr =
    (banks : Banks) (state : List Held) → Agrees g banks state
    → Agrees g (banks_after g operations (table_of state) banks instr)
    (words_after g operations meaning state instr)

-- within a list the default is not read
pub any_default : {X : Type 0} (xs : List X) (k : ℕ) (d e : X) → k < length xs
    → get_or xs k d ≡ get_or xs k e
any_default [] k d e h = absurd (omega arith)
any_default (x ∷ xs) zero d e h = refl
any_default (x ∷ xs) (suc k) d e h = any_default xs k d e (omega arith)

-- results leave the table
pub table_with : (state : List Held) (result : ℕ → List ℕ) (dsts : List Place)
    → table_of (with_results state result dsts) ≡ table_of state
table_with [] result dsts = refl
table_with (h ∷ state) result dsts = ap (λ rest. entry_of h ∷ rest) (table_with state result dsts)

-- where each object's columns hold its new numbers, the banks hold the new state
pub with_results_agrees : (g : Geometry) (old new : Banks) (state : List Held) (result : ℕ → List ℕ)
    (dsts : List Place) → Agrees g old state
    → ((bank : ℕ) → bank < g.banks → length (new bank) ≡ column_count g)
    → ((k : ℕ) → k < length state → columns g new (get_or state k no_one).object
    ≡ new_numbers result 0 dsts (get_or state k no_one).name (get_or state k no_one).numbers)
    → Agrees g new (with_results state result dsts)
with_results_agrees g old new state result dsts a shaped each = record {
  shaped = shaped;
  table = subst (λ (t : List Named). IsTable (limit_of g) t) (sym (table_with state result dsts))
      a.table;
  within = All-map (λ (h : Held). segments g h.object ≤ g.banks) (λ (h : Held). with_new h) state
      (λ k d l. a.within k d l);
  numbers = All-map (λ (h : Held). columns g new h.object ≡ h.numbers) (λ (h : Held). with_new h)
      state (λ k d l. subst (λ (h : Held). columns g new h.object
      ≡ new_numbers result 0 dsts h.name h.numbers) (sym (any_default state k d no_one l)) (each k l));
}
  where
    with_new : Held → Held
    with_new h = record {
      name = h.name;
      object = h.object;
      numbers = new_numbers result 0 dsts h.name h.numbers;
    }

length_case : (t : Bool) (f : Column → Column) (columns : List Column)
    → length (cond t (map f columns) columns) ≡ length columns
length_case true f columns = simp length-map
length_case false f columns = refl

-- commands leave as many columns as there were
pub through_length : (job : WaveJob) (banks : Banks) (bank : ℕ)
    → length (through job banks bank) ≡ length (banks bank)
through_length job banks bank = length_case (ltb bank job.banks) (run job.commands) (banks bank)

-- the job of a bbop whose operation there is
pub job_is : (g : Geometry) (operations : Routines) (op : List ℕ) (dst : Place) (srcs : List Place)
    (count n : ℕ) (o : Routine) → operations op ≡ Some o → (state : List Held)
    → job_of g operations (table_of state) (Bbop op dst srcs count n)
    ≡ bbop_job g state o (dst ∷ srcs) n (rows_of (table_of state) dst)
job_is g operations op dst srcs count n o e state = rw e refl

-- an operand lies in the banks that there are
pub operand_within : (g : Geometry) (banks : Banks) (state : List Held) (place : Place)
    → Agrees g banks state → has_name (table_of state) place.name ≡ true
    → segments g (rows_of (table_of state) place) ≤ g.banks
operand_within g banks state place a h =
    let f = found (limit_of g) state place.name a.table h in
    subst (λ (c : ℕ). segments_of g c ≤ g.banks)
    (sym (part_count (object_named (table_of state) place.name) place.part
    ∙ ap (λ (o : Object). o.count) f.object)) (a.within f.place no_one f.within)

-- what is issued for the operation of this name does what it means at this width
abbrev pub DoesOne : Routines → (List ℕ → ℕ → List ℕ → List ℕ) → List ℕ → ℕ → Type 0
DoesOne operations meaning op n = (o : Routine) → operations op ≡ Some o
    → Performs o.shape n (issues_of (o.trace n)) (meaning op n)

-- A bbop that is done
bbop_done : (g : Geometry) (operations : Routines) (meaning : List ℕ → ℕ → List ℕ
    → List ℕ) (op : List ℕ) (dst : Place) (srcs : List Place) (count n : ℕ) (found : Option Routine)
    → operations op ≡ found → DoesOne operations meaning op n
    → (banks : Banks) (state : List Held) → Agrees g banks state
    → bbop_refusal g (table_of state) found (dst ∷ srcs) count n ≡ None
    → Agrees g (rowed g operations (table_of state) banks (Bbop op dst srcs count n))
    (worded g operations meaning state (Bbop op dst srcs count n))
bbop_done g operations meaning op dst srcs count n None e does banks state a h = cc
bbop_done g operations meaning op dst srcs count n (Some o) e does banks state a h =
    let places = dst ∷ srcs in
    let facts = good g (table_of state) o places count n h in
    let job = job_of g operations (table_of state) (Bbop op dst srcs count n) in
    let first = rows_of (table_of state) dst in
    let op_first = first_operand (table_of state) count n _ _ dst _ facts.destinations in
    let result : ℕ → List ℕ = λ k. computed (λ vs. slice_index (meaning op n vs) k)
    (map (numbers_at state) (srcs_in o.shape places)) (object_size g first) in
    subst (λ (f : Option Routine). Agrees g (through job banks)
    (with_results state (λ k. computed (λ vs. slice_index (meaning op n vs) k)
    (map (numbers_at state) (srcs_of f places)) (object_size g first)) (dsts_of f places))) (sym e)
    (with_results_agrees g banks (through job banks) state result (dsts_in o.shape places) a
    (λ bank l. through_length job banks bank ∙ a.shaped bank l)
    (λ i l. bbop_object g banks state o places first count n (meaning op n) job a facts
    op_first.counted (operand_within g banks state dst a op_first.present)
    (does o e) (job_is g operations op dst srcs count n o e state) i l))

pub done_or_not : (g : Geometry) (r : Option Why) (new old : Banks) (s t : List Held)
    → (r ≡ None → Agrees g new s) → Agrees g old t → Agrees g (if_done r new old) (if_done r s t)
done_or_not g None new old s t done kept = done refl
done_or_not g (Some reason) new old s t done kept = kept

-- The step of the rows is the word machine's at a bbop
pub bbop_agrees : (g : Geometry) (operations : Routines) (meaning : List ℕ → ℕ → List ℕ
    → List ℕ) (op : List ℕ) (dst : Place) (srcs : List Place) (count n : ℕ)
    → DoesOne operations meaning op n → StepAgrees g operations meaning (Bbop op dst srcs count n)
bbop_agrees g operations meaning op dst srcs count n does banks state a =
    done_or_not g (bbop_refusal g (table_of state) (operations op) (dst ∷ srcs) count n) _ banks _
    state
    (bbop_done g operations meaning op dst srcs count n (operations op) refl does banks state a) a

below_none : (b : ℕ) → ltb b 0 ≡ false
below_none b = grind (arith, nat_tests)

-- a job of no bank leaves the banks
pub idle : (cs : List Command) (banks : Banks) → through (record { commands = cs; banks = 0 }) banks
    ≡ banks
idle cs banks = fun_ext (λ b. rw (below_none b) refl)

pub print_agrees : (g : Geometry) (operations : Routines) (meaning : List ℕ → ℕ → List ℕ
    → List ℕ) (name : Place) → StepAgrees g operations meaning (Print name)
print_agrees g operations meaning name banks state a =
    done_or_not g (refusal g operations (table_of state) (Print name)) _ banks state state (λ e.
    subst (λ (b : Banks). Agrees g b state) (sym (idle [] banks)) a) a

pub order_agrees : (g : Geometry) (operations : Routines) (meaning : List ℕ → ℕ → List ℕ
    → List ℕ) (o : Orders) → StepAgrees g operations meaning (Order o)
order_agrees g operations meaning o banks state a =
    subst (λ (b : Banks). Agrees g b state) (sym (idle [] banks)) a

filter_case : (b : Bool) (h : Held) (hs : List Held) (ps : List Named) → table_of hs ≡ ps
    → table_of (cond b (h ∷ hs) hs) ≡ cond b (entry_of h ∷ ps) ps
filter_case true h hs ps e = ap (λ rest. entry_of h ∷ rest) e
filter_case false h hs ps e = e

pub table_without : (state : List Held) (name : List ℕ)
    → table_of (filter (λ h. not (bytes_eq h.name name)) state) ≡ without (table_of state) name
table_without [] name = refl
table_without (h ∷ state) name = filter_case (not (bytes_eq h.name name)) h _ _
    (table_without state name)

pub free_agrees : (g : Geometry) (operations : Routines) (meaning : List ℕ → ℕ → List ℕ
    → List ℕ) (name : List ℕ) → StepAgrees g operations meaning (Free name)
free_agrees g operations meaning name banks state a =
    done_or_not g (refusal g operations (table_of state) (Free name)) _ banks _ state (λ e.
    subst (λ (b : Banks). Agrees g b (filter (λ h. not (bytes_eq h.name name)) state))
    (sym (idle [] banks)) (record {
      shaped = a.shaped;
      table = subst (λ (t : List Named). IsTable (limit_of g) t) (sym (table_without state name))
          (IsTable-without (limit_of g) (table_of state) name a.table);
      within = All-filter (λ (h : Held). not (bytes_eq h.name name))
          (λ (h : Held). segments g h.object ≤ g.banks) state a.within;
      numbers = All-filter (λ (h : Held). not (bytes_eq h.name name))
          (λ (h : Held). columns g banks h.object ≡ h.numbers) state a.numbers;
    })) a
