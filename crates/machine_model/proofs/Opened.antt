-- An image that is opened, and what is said of its objects.
use Rattle.machine_model.proofs.Common.{◌≡◌, ℕ, ◌*◌, ◌<◌, ◌≤◌, Bool, true, false, cond, List, []}
use Rattle.machine_model.proofs.Common.{◌∷◌, length, get_or, map, take, Option, Some, None, refl}
use Rattle.machine_model.proofs.Common.{sym, ◌∙◌, ap, subst, arith, lt-ltb, length-map}
use Rattle.machine_model.proofs.Common.{length-replicate, All-map, Geometry, Column, blank, Banks}
use Rattle.machine_model.proofs.Common.{Event, after, with_row, blank_banks, Row, Write, Counts}
use Rattle.machine_model.proofs.Common.{Named, IsTable, Place, Instruction, Init, Bbop, Load, Fill}
use Rattle.machine_model.proofs.Common.{Print, Free, Order, column_count, limit_of, AllByRecursion}
use Rattle.machine_model.proofs.Common.{IsImage}
use Rattle.dram_model.specs.Chip.{on_bank, happens}
use Rattle.machine_model.specs.declared.Why.{Why}
use Rattle.machine_model.specs.Columns.{segments, columns}
use Rattle.machine_model.specs.Routines.{Routines}
use Rattle.machine_model.specs.Refusals.{refusal, rows_of, goes_past, is_absent}
use Rattle.machine_model.specs.Steps.{Held, table_of, numbers_at, reply_by, reply_to}
use Rattle.machine_model.specs.Steps.{words_after, banks_after}
use Rattle.machine_model.specs.Agrees.{Agrees}
use Rattle.machine_model.specs.Report.{Said, place_text, said_of, said_in_words, said_in_rows}
use Rattle.machine_model.specs.Opened.{Image, opened, objects_held, row_writes}
use Rattle.machine_model.proofs.Bbops.{operand_columns}
use Rattle.machine_model.proofs.Facts.{not_false, operand_is}
use Rattle.machine_model.proofs.Makes.{few_banks}
use Rattle.machine_model.proofs.Steps.{StepAgrees}
use Rattle.machine_model.proofs.Scripts.{table_step}

with_row_length : (row : ℕ) (bits : List Bool) (columns : List Column)
    → length (with_row row bits columns) ≡ length columns
with_row_length row [] columns = refl
with_row_length row (b ∷ bits) [] = refl
with_row_length row (b ∷ bits) (s ∷ columns) = let r = with_row_length row bits columns in
    omega (arith, r)

on_bank_length : (event : Event) (columns : List Column)
    → length (on_bank event columns) ≡ length columns
on_bank_length (Row bank command) columns = simp length-map
on_bank_length (Write bank row bits) columns = with_row_length row bits columns

happens_case : (event : Event) (t : Bool) (columns : List Column)
    → length (cond t (on_bank event columns) columns) ≡ length columns
happens_case event true columns = on_bank_length event columns
happens_case event false columns = refl

-- no event changes how many columns a bank has
pub after_length : (events : List Event) (banks : Banks) (bank : ℕ)
    → length (after events banks bank) ≡ length (banks bank)
after_length [] banks bank = refl
after_length (event ∷ events) banks bank = after_length events (happens event banks) bank
    ∙ happens_case event _ (banks bank)

tables : (g : Geometry) (banks : Banks) (table : List Named)
    → table_of (map (λ (p : Named). record {
      name = p.0;
      object = p.1;
      numbers = columns g banks p.1;
    }) table) ≡ table
tables g banks [] = refl
tables g banks (p ∷ table) = ap (λ rest. p ∷ rest) (tables g banks table)

-- An image that is opened holds its objects' numbers
pub opened_agrees : (i : Image) → 0 < i.geometry.words → IsImage i.geometry i.table i.rows
    → Agrees i.geometry (opened i) (objects_held i)
opened_agrees i words good = record {
  shaped = λ bank l. after_length (row_writes i) (blank_banks i.geometry) bank
      ∙ rw (lt-ltb bank i.geometry.banks l) (length-replicate {A = Column} (64 * i.geometry.words)
      blank);
  table = subst (λ (t : List Named). IsTable (limit_of i.geometry) t)
      (sym (tables i.geometry (opened i) i.table)) good.listed;
  within = All-map (λ (h : Held). segments i.geometry h.object
      ≤ i.geometry.banks) (λ (p : Named). record {
        name = p.0;
        object = p.1;
        numbers = columns i.geometry (opened i) p.1;
      }) i.table
      (λ k d l. few_banks (get_or i.table k d).1.count (column_count i.geometry) i.geometry.banks
      (omega arith) (good.objects k d l).fits);
  numbers = All-map (λ (h : Held). columns i.geometry (opened i) h.object
      ≡ h.numbers) (λ (p : Named). record {
        name = p.0;
        object = p.1;
        numbers = columns i.geometry (opened i) p.1;
      }) i.table (λ k d l. refl);
}

print_case : (r : Option Why) (counts : Counts) (place : Place) (xs ys : Place → List ℕ)
    → (r ≡ None → xs place ≡ ys place)
    → said_of (reply_by r counts) (Print place) xs ≡ said_of (reply_by r counts) (Print place) ys
print_case None counts place xs ys e = ap (λ v. Said.Printed (place_text place) v) (e refl)
print_case (Some reason) counts place xs ys e = refl

other_case : (r : Option Why) (counts : Counts) (instr : Instruction) (xs ys : Place → List ℕ)
    → ((c : Counts) → said_of (reply_by None c) instr xs ≡ said_of (reply_by None c) instr ys)
    → said_of (reply_by r counts) instr xs ≡ said_of (reply_by r counts) instr ys
other_case None counts instr xs ys e = e counts
other_case (Some reason) counts instr xs ys e = refl

-- what is said of an instruction is the same by the numbers and by the columns
said_same : (g : Geometry) (operations : Routines) (banks : Banks) (state : List Held)
    (instr : Instruction) → Agrees g banks state
    → said_of (reply_to g operations (table_of state) instr) instr
    (λ place. take (rows_of (table_of state) place).count
    (columns g banks (rows_of (table_of state) place)))
    ≡ said_of (reply_to g operations (table_of state) instr) instr
    (λ place. take (rows_of (table_of state) place).count (numbers_at state place))
said_same g operations banks state (Print place) a =
    let table = table_of state in
    print_case (refusal g operations table (Print place)) _ place _ _ (λ h.
    let is = operand_is (is_absent table place.name) (goes_past table place) [] h in
    ap (take (rows_of table place).count)
    (sym (operand_columns g banks state place a (not_false _ is.0) is.1)))
said_same g operations banks state (Init name count n) a =
    other_case (refusal g operations (table_of state) (Init name count n)) _ _ _ _ (λ c. refl)
said_same g operations banks state (Bbop op dst srcs count n) a =
    other_case (refusal g operations (table_of state) (Bbop op dst srcs count n)) _ _ _ _ (λ c.
    refl)
said_same g operations banks state (Load name values) a =
    other_case (refusal g operations (table_of state) (Load name values)) _ _ _ _ (λ c. refl)
said_same g operations banks state (Fill name value) a =
    other_case (refusal g operations (table_of state) (Fill name value)) _ _ _ _ (λ c. refl)
said_same g operations banks state (Free name) a =
    other_case (refusal g operations (table_of state) (Free name)) _ _ _ _ (λ c. refl)
said_same g operations banks state (Order o) a = refl

-- The report by the rows is the report by the words
pub report_same : (g : Geometry) (operations : Routines) (meaning : List ℕ → ℕ → List ℕ
    → List ℕ) (script : List Instruction) → AllByRecursion (StepAgrees g operations meaning) script
    → (banks : Banks) (state : List Held) → Agrees g banks state
    → said_in_rows g operations (table_of state) banks script
    ≡ said_in_words g operations meaning state script
report_same g operations meaning [] steps banks state a = refl
report_same g operations meaning (instr ∷ script) steps banks state a =
    rw (said_same g operations banks state instr a)
    (ap (λ rest. said_of (reply_to g operations (table_of state) instr) instr
    (λ place. take (rows_of (table_of state) place).count (numbers_at state place)) ∷ rest)
    (ap (λ t. said_in_rows g operations t (banks_after g operations (table_of state) banks instr)
    script) (sym (table_step g operations meaning state instr))
    ∙ report_same g operations meaning script steps.1
    (banks_after g operations (table_of state) banks instr)
    (words_after g operations meaning state instr) (steps.0 banks state a)))
