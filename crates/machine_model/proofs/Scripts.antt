-- A whole script: the banks hold what the word machine holds, and a wave is its bbops one after
-- another.
use Rattle.machine_model.proofs.Common.{◌≡◌, ℕ, List, [], ◌∷◌, map, Option, Some, None, refl, subst}
use Rattle.machine_model.proofs.Common.{slice_index, AllByRecursion, map-append, Geometry, Banks}
use Rattle.machine_model.proofs.Common.{Named, Instruction, Init, Bbop, Load, Fill, Print, Free}
use Rattle.machine_model.proofs.Common.{Order, replicate, padded_to}
use Rattle.machine_model.specs.declared.Why.{Why}
use Rattle.machine_model.specs.Routines.{Routines}
use Rattle.machine_model.specs.Refusals.{refusal, rows_of}
use Rattle.machine_model.specs.Columns.{object_size}
use Rattle.machine_model.specs.Steps.{Held, table_of, computed, numbers_at, srcs_of}
use Rattle.machine_model.specs.Steps.{dsts_of, words_after, banks_after, table_after, tabled}
use Rattle.machine_model.specs.Steps.{worded, if_done}
use Rattle.machine_model.specs.Agrees.{Agrees}
use Rattle.machine_model.specs.Script.{words_at_end, banks_at_end}
use Rattle.machine_model.proofs.Places.{entry_of}
use Rattle.machine_model.proofs.Steps.{StepAgrees, table_with, table_without}

tabled_is : (g : Geometry) (operations : Routines) (meaning : List ℕ → ℕ → List ℕ
    → List ℕ) (state : List Held) (instr : Instruction)
    → table_of (worded g operations meaning state instr) ≡ tabled g (table_of state) instr
tabled_is g operations meaning state (Init name count n) = map-append entry_of state _
tabled_is g operations meaning state (Bbop op dst srcs count n) =
    table_with state (λ k. computed (λ vs. slice_index (meaning op n vs) k)
    (map (numbers_at state) (srcs_of (operations op) (dst ∷ srcs)))
    (object_size g (rows_of (table_of state) dst))) (dsts_of (operations op) (dst ∷ srcs))
tabled_is g operations meaning state (Load place values) = table_with state
    (λ k. padded_to (object_size g (rows_of (table_of state) place)) values) (place ∷ [])
tabled_is g operations meaning state (Fill place value) = table_with state
    (λ k. replicate (object_size g (rows_of (table_of state) place)) value) (place ∷ [])
tabled_is g operations meaning state (Print name) = refl
tabled_is g operations meaning state (Free name) = table_without state name
tabled_is g operations meaning state (Order o) = refl

done_table : (r : Option Why) (new old : List Held) (t : List Named) → table_of new ≡ t
    → table_of (if_done r new old) ≡ if_done r t (table_of old)
done_table None new old t e = e
done_table (Some reason) new old t e = refl

-- the word machine's table goes its own way
pub table_step : (g : Geometry) (operations : Routines) (meaning : List ℕ → ℕ → List ℕ
    → List ℕ) (state : List Held) (instr : Instruction)
    → table_of (words_after g operations meaning state instr)
    ≡ table_after g operations (table_of state) instr
table_step g operations meaning state instr =
    done_table (refusal g operations (table_of state) instr)
    (worded g operations meaning state instr) state (tabled g (table_of state) instr)
    (tabled_is g operations meaning state instr)

-- The banks after a script hold what the word machine holds
pub script_agrees : (g : Geometry) (operations : Routines) (meaning : List ℕ → ℕ → List ℕ
    → List ℕ) (script : List Instruction) → AllByRecursion (StepAgrees g operations meaning) script
    → (banks : Banks) (state : List Held) → Agrees g banks state
    → Agrees g (banks_at_end g operations (table_of state) banks script)
    (words_at_end g operations meaning state script)
script_agrees g operations meaning [] steps banks state a = a
script_agrees g operations meaning (instr ∷ script) steps banks state a =
    subst (λ (t : List Named). Agrees g (banks_at_end g operations t
    (banks_after g operations (table_of state) banks instr) script)
    (words_at_end g operations meaning (words_after g operations meaning state instr) script))
    (table_step g operations meaning state instr)
    (script_agrees g operations meaning script steps.1
    (banks_after g operations (table_of state) banks instr)
    (words_after g operations meaning state instr) (steps.0 banks state a))
