-- An accepted script makes of an accepted image another one.
use Rattle.machine_model.proofs.Common.{◌≡◌, ℕ, ◌<◌, ◌*◌, true, not, List, [], ◌∷◌, length, sym}
use Rattle.machine_model.proofs.Common.{◌∙◌, ap, All, AllByRecursion, bytes_eq, lt-ltb, length-map}
use Rattle.machine_model.proofs.Common.{length-replicate, All-push, All-filter, Geometry, Column}
use Rattle.machine_model.proofs.Common.{blank, Banks, blank_banks, column_count, Named, IsImage}
use Rattle.machine_model.proofs.Common.{Instruction, Init, Bbop, Load, Fill, Print, Free, Order}
use Rattle.machine_model.proofs.Common.{IsRight}
use Rattle.text_lex.specs.Spelled.{fits_name}
use Rattle.object_alloc.specs.Spelling.{Rows}
use Rattle.machine_model.specs.Routines.{Routines}
use Rattle.machine_model.specs.Refusals.{refusal}
use Rattle.machine_model.specs.Steps.{new_object, tabled, table_after}
use Rattle.machine_model.specs.Script.{table_at_end, banks_at_end, events_in_order}
use Rattle.machine_model.specs.Opened.{Image, opened, rows_in_banks, row_writes}
use Rattle.machine_model.specs.Laws.{TableFits, ImageStays}
use Rattle.machine_model.proofs.Events.{in_order_steps}
use Rattle.machine_model.proofs.Opened.{after_length}
use Rattle.machine_model.proofs.Tables.{kept_done, table_stays}
use Rattle.machine_model.proofs.Accepted.{accepted_is_right, accepted_is_plain}

-- the table of an image that is accepted
pub image_fits : (g : Geometry) (table : List Named) (rows : Rows) → IsImage g table rows
    → TableFits g table
image_fits g table rows good = record { listed = good.listed; objects = good.objects }

-- each name fits the field of a file
abbrev pub HasNames : List Named → Type 0
HasNames table = All (λ named. fits_name named.0 ≡ true) table

names_tabled : (g : Geometry) (table : List Named) (instr : Instruction) → IsRight instr
    → HasNames table → HasNames (tabled g table instr)
names_tabled g table (Init name count n) right all =
    All-push (λ (named : Named). fits_name named.0 ≡ true) table
    (name, new_object g table count n) all right.0
names_tabled g table (Free name) right all =
    All-filter (λ (p : Named). not (bytes_eq p.0 name))
    (λ (named : Named). fits_name named.0 ≡ true) table all
names_tabled g table (Bbop op dst srcs count n) right all = all
names_tabled g table (Load name values) right all = all
names_tabled g table (Fill name value) right all = all
names_tabled g table (Print name) right all = all
names_tabled g table (Order o) right all = all

-- after a script each object still has a name that a file has room for
pub names_stay : (g : Geometry) (operations : Routines) (table : List Named)
    (script : List Instruction) → AllByRecursion IsRight script → HasNames table
    → HasNames (table_at_end g operations table script)
names_stay g operations table [] right all = all
names_stay g operations table (instr ∷ script) right all =
    names_stay g operations (table_after g operations table instr) script right.1
    (kept_done HasNames (refusal g operations table instr) (tabled g table instr) table
    (λ e. names_tabled g table instr right.0 all) all)

-- no instruction changes how many columns a bank has
pub end_length : (g : Geometry) (operations : Routines) (table : List Named)
    (script : List Instruction) (banks : Banks) (bank : ℕ)
    → length (banks_at_end g operations table banks script bank) ≡ length (banks bank)
end_length g operations table script banks bank =
    ap (λ (b : Banks). length (b bank)) (sym (in_order_steps g operations table script banks))
    ∙ after_length (events_in_order g operations table script) banks bank

opened_length : (i : Image) (bank : ℕ) → bank < i.geometry.banks
    → length (opened i bank) ≡ column_count i.geometry
opened_length i bank l = after_length (row_writes i) (blank_banks i.geometry) bank
    ∙ rw (lt-ltb bank i.geometry.banks l) (length-replicate {A = Column} (64 * i.geometry.words)
    blank)

row_length : (banks : Banks) (bank row : ℕ) → length (rows_in_banks banks bank row) ≡ length (banks bank)
row_length banks bank row = simp length-map

pub image_stays : ImageStays
image_stays i operations text script said good =
    let g = i.geometry in
    let t = table_stays g operations i.table script (accepted_is_plain text script said)
    (image_fits g i.table i.rows good) in
    let banks = banks_at_end g operations i.table (opened i) script in
    record {
      geometry = good.geometry;
      listed = t.listed;
      names = names_stay g operations i.table script (accepted_is_right text script said)
          good.names;
      objects = t.objects;
      shaped = λ bank row l m. row_length banks bank row
          ∙ end_length g operations i.table script (opened i) bank ∙ opened_length i bank l;
    }
