-- Rows that the first events of an instruction by itself leave.
use Rattle.std.proofs.Common.{◌≡◌, ℕ, zero, suc, ◌+◌, ◌<◌, ◌≤◌, ◌==◌, Bool, true, false, ◌&&◌, cond}
use Rattle.std.proofs.Common.{ltb, List, [], ◌∷◌, ◌++◌, map, Option, Some, None, refl, sym, ◌∙◌, ap}
use Rattle.std.proofs.Common.{subst, arith}
use Rattle.std.specs.Prelude.{flat_map}
use Rattle.std.specs.List.{AllByRecursion, range_with_len}
use Rattle.std.proofs.lemmas.Bool.{eqb-true, lt-ltb, ne_eqb}
use Rattle.dram_model.specs.declared.address.Addr.TheVariants as addr
use Rattle.dram_model.specs.declared.address.Cell.TheVariants.{D}
use Rattle.dram_model.specs.declared.address.Command.{Command}
use Rattle.dram_model.specs.declared.address.Command.TheVariants.{Aap}
use Rattle.dram_model.specs.declared.geometry.Geometry.{Geometry}
use Rattle.dram_model.specs.Chip.{Banks, Event, after, happens, row_in, with_row}
use Rattle.dram_model.specs.Chip.Event.{Row, Write}
use Rattle.dram_model.specs.Column.{Column, step}
use Rattle.uprog_code.proofs.Kept.{IsElsewhere, step_keeps}
use Rattle.object_alloc.specs.declared.table.Object.{Object}
use Rattle.object_alloc.specs.Free.{has_row}
use Rattle.object_alloc.specs.Listed.{Named}
use Rattle.bbop_isa.specs.Forms.{Instruction, Init, Bbop, Load, Fill, Print, Free, Order}
use Rattle.machine_model.specs.declared.Why.{Why}
use Rattle.machine_model.specs.Columns.{each_row, segments}
use Rattle.machine_model.specs.Refusals.{rows_of, refusal}
use Rattle.machine_model.specs.Routines.{Routines, routines_in}
use Rattle.machine_model.specs.Script.{banks_at_end, table_at_end}
use Rattle.machine_model.specs.Steps.{if_done, new_object, own_events, touches}
use Rattle.machine_model.proofs.Sliced.{has_from}
use Rattle.machine_model.proofs.KeptAll.{untouched_stays}
use Rattle.safety_laws.specs.Stopped.{StoppedUsesAreSafe}
use Rattle.safety_laws.proofs.Safe.{rows_stay}

-- An event that leaves a row of a bank

abbrev Elsewhere : ℕ → ℕ → Event → Type 0
Elsewhere bank row (Row b command) = b ≡ bank → IsElsewhere row command
Elsewhere bank row (Write b r bits) = b ≡ bank → r ≡ row → ⊥

other_row : (row at : ℕ) (bits : List Bool) (columns : List Column) → (at ≡ row → ⊥)
    → row_in row (with_row at bits columns) ≡ row_in row columns
other_row row at [] columns ne = refl
other_row row at (b ∷ bits) [] ne = refl
other_row row at (b ∷ bits) (s ∷ columns) ne =
    rw (ne_eqb at row ne) (ap (λ rest. s (D row) ∷ rest) (other_row row at bits columns ne))

command_leaves : (bank row b : ℕ) (command : Command) (columns : List Column) (t : Bool)
    → (b == bank) ≡ t → (b ≡ bank → IsElsewhere row command)
    → row_in row (cond t (map (step command) columns) columns) ≡ row_in row columns
command_leaves bank row b command columns true e out =
    rows_stay row (step command) columns (λ s. step_keeps command s row (out (eqb-true b bank e)))
command_leaves bank row b command columns false e out = refl

write_leaves : (bank row b r : ℕ) (bits : List Bool) (columns : List Column) (t : Bool)
    → (b == bank) ≡ t → (b ≡ bank → r ≡ row → ⊥)
    → row_in row (cond t (with_row r bits columns) columns) ≡ row_in row columns
write_leaves bank row b r bits columns true e out =
    other_row row r bits columns (out (eqb-true b bank e))
write_leaves bank row b r bits columns false e out = refl

event_leaves : (event : Event) (banks : Banks) (bank row : ℕ) → Elsewhere bank row event
    → row_in row (happens event banks bank) ≡ row_in row (banks bank)
event_leaves (Row b command) banks bank row out =
    command_leaves bank row b command (banks bank) (b == bank) refl out
event_leaves (Write b r bits) banks bank row out =
    write_leaves bank row b r bits (banks bank) (b == bank) refl out

events_leave : (events : List Event) (banks : Banks) (bank row : ℕ)
    → AllByRecursion (Elsewhere bank row) events
    → row_in row (after events banks bank) ≡ row_in row (banks bank)
events_leave [] banks bank row all = refl
events_leave (event ∷ events) banks bank row all =
    events_leave events (happens event banks) bank row all.1
    ∙ event_leaves event banks bank row all.0

first_part : (P : Event → Type 0) (xs ys : List Event) → AllByRecursion P (xs ++ ys)
    → AllByRecursion P xs
first_part P [] ys all = tt
first_part P (x ∷ xs) ys all = (all.0, first_part P xs ys all.1)

all_parts : (P : Event → Type 0) (xs ys : List Event) → AllByRecursion P xs
    → AllByRecursion P ys → AllByRecursion P (xs ++ ys)
all_parts P [] ys all more = more
all_parts P (x ∷ xs) ys all more = (all.0, all_parts P xs ys all.1 more)

-- The events of an object's rows

all_rows : (P : Event → Type 0) (f : ℕ → Event) (a n : ℕ)
    → ((k : ℕ) → a ≤ k → k < a + n → P (f k)) → AllByRecursion P (map f (range_with_len a n))
all_rows P f a zero each = tt
all_rows P f a (suc n) each = (
  each a (omega arith) (omega arith),
  all_rows P f (a + 1) n (λ k l m. each k (omega (arith, l)) (omega (arith, m))),
)

all_banks : (P : Event → Type 0) (F : ℕ → List Event) (a n : ℕ)
    → ((b : ℕ) → a ≤ b → b < a + n → AllByRecursion P (F b))
    → AllByRecursion P (flat_map F (range_with_len a n))
all_banks P F a zero each = tt
all_banks P F a (suc n) each = all_parts P (F a) (flat_map F (range_with_len (a + 1) n))
    (each a (omega arith) (omega arith))
    (all_banks P F (a + 1) n (λ b l m. each b (omega (arith, l)) (omega (arith, m))))

-- in its banks its rows are no others
own_row : (g : Geometry) (o : Object) (bank row b k : ℕ)
    → (ltb bank (segments g o) && has_row o row) ≡ false → b < segments g o → k < o.width
    → b ≡ bank → o.base + k ≡ row → ⊥
own_row g o bank row b k out l m e f =
    let has : has_row o row ≡ true =
    has_from o row (omega (arith, f)) (omega (arith, f, m)) in
    let there : ltb bank (segments g o) ≡ true =
    lt-ltb bank (segments g o) (omega (arith, e, l)) in
    let all : (ltb bank (segments g o) && has_row o row) ≡ true = rw (there, has) refl in
    absurd (cc (out, all))

same_row : (m n : ℕ) → addr.D m ≡ addr.D n → m ≡ n
same_row m n e = cc

rows_elsewhere : (g : Geometry) (o : Object) (bank row : ℕ) (event : ℕ → ℕ → Event)
    → (ltb bank (segments g o) && has_row o row) ≡ false
    → ((b k : ℕ) → (b ≡ bank → o.base + k ≡ row → ⊥) → Elsewhere bank row (event b k))
    → AllByRecursion (Elsewhere bank row) (each_row g o event)
rows_elsewhere g o bank row event out each =
    all_banks (Elsewhere bank row) (λ b. map (event b) (range_with_len 0 o.width)) 0 (segments g o)
    (λ b l m. all_rows (Elsewhere bank row) (event b) 0 o.width (λ k i j.
    each b k (own_row g o bank row b k out (omega (arith, m)) (omega (arith, j)))))

fill_elsewhere : (g : Geometry) (o : Object) (bank row : ℕ) (x : ℕ → ℕ)
    → (ltb bank (segments g o) && has_row o row) ≡ false
    → AllByRecursion (Elsewhere bank row)
    (each_row g o (λ b k. Row b (Aap (addr.C (x k)) (addr.D (o.base + k)))))
fill_elsewhere g o bank row x out = rows_elsewhere g o bank row
    (λ b k. Row b (Aap (addr.C (x k)) (addr.D (o.base + k)))) out
    (λ b k ne. λ e f. ne e (same_row (o.base + k) row f))

load_elsewhere : (g : Geometry) (o : Object) (bank row : ℕ) (bits : ℕ → ℕ → List Bool)
    → (ltb bank (segments g o) && has_row o row) ≡ false
    → AllByRecursion (Elsewhere bank row) (each_row g o (λ b k. Write b (o.base + k) (bits b k)))
load_elsewhere g o bank row bits out = rows_elsewhere g o bank row
    (λ b k. Write b (o.base + k) (bits b k)) out (λ b k ne. ne)

own_elsewhere : (g : Geometry) (operations : Routines) (table : List Named) (instr : Instruction)
    (bank row : ℕ) → touches g operations table instr bank row ≡ false
    → AllByRecursion (Elsewhere bank row) (own_events g table instr)
own_elsewhere g operations table (Init name count n) bank row out =
    fill_elsewhere g (new_object g table count n) bank row _ out
own_elsewhere g operations table (Load place values) bank row out =
    load_elsewhere g (rows_of table place) bank row _ out
own_elsewhere g operations table (Fill place value) bank row out =
    fill_elsewhere g (rows_of table place) bank row _ out
own_elsewhere g operations table (Bbop op dst srcs count n) bank row out = tt
own_elsewhere g operations table (Print name) bank row out = tt
own_elsewhere g operations table (Free name) bank row out = tt
own_elsewhere g operations table (Order order) bank row out = tt

done_elsewhere : (g : Geometry) (operations : Routines) (table : List Named) (instr : Instruction)
    (bank row : ℕ) (r : Option Why) → if_done r (touches g operations table instr bank row) false
    ≡ false
    → AllByRecursion (Elsewhere bank row) (if_done r (own_events g table instr) [])
done_elsewhere g operations table instr bank row None out =
    own_elsewhere g operations table instr bank row out
done_elsewhere g operations table instr bank row (Some why) out = tt

pub stopped_uses_are_safe : StoppedUsesAreSafe
stopped_uses_are_safe g p turn table script instr banks left bank row is fits plain stop apart
    before beside =
    let o = routines_in p in
    let at = table_at_end g o table script in
    let now = banks_at_end g o table banks script in
    let all = done_elsewhere g o at instr bank row (refusal g o at instr) beside in
    let first = first_part (Elsewhere bank row) stop.done stop.left
    (subst (λ (es : List Event). AllByRecursion (Elsewhere bank row) es) (sym stop.all) all) in
    ap (row_in row) (stop.others bank apart) ∙ events_leave stop.done now bank row first
    ∙ untouched_stays g p table script banks bank row is fits.listed plain before
