-- The table stays a table of objects that the geometry can hold.
use Rattle.machine_model.proofs.Common.{◌≡◌, ℕ, ◌*◌, ◌<◌, ◌≤◌, Bool, true, false, not, ltb, leb}
use Rattle.machine_model.proofs.Common.{List, [], ◌∷◌, length, Option, Some, None, refl, arith, All}
use Rattle.machine_model.proofs.Common.{is_none, find, AllByRecursion, option_map, unwrap_or}
use Rattle.machine_model.proofs.Common.{bytes_eq, nat_tests, All-push, All-filter, Geometry}
use Rattle.machine_model.proofs.Common.{column_count, Object, free, Named, IsTable, objects_of}
use Rattle.machine_model.proofs.Common.{has_name, limit_of, IsTable-add, IsTable-without}
use Rattle.machine_model.proofs.Common.{Instruction, Init, Bbop, Load, Fill, Print, Free, Order}
use Rattle.std.specs.Prelude.{cond}
use Rattle.object_alloc.specs.Spelling.{IsObject}
use Rattle.machine_model.specs.declared.Why.{Why}
use Rattle.machine_model.specs.declared.Why.TheVariants as why
use Rattle.machine_model.specs.Routines.{Routines}
use Rattle.machine_model.specs.Refusals.{refusal, when, object_named, nothing}
use Rattle.machine_model.specs.Steps.{new_object, tabled, table_after, if_done}
use Rattle.machine_model.specs.Agrees.{IsPlain}
use Rattle.machine_model.specs.Laws.{TableFits, TableStays, FitsBanks}
use Rattle.machine_model.proofs.Facts.{first_none, when_none}
use Rattle.machine_model.proofs.Below.{base_free}

-- what is known of an object that is made
pub record IsMade (g : Geometry) (table : List Named) (name : List ℕ) (count n : ℕ) : Type 0 where
  pub new : has_name table name ≡ false
  pub few : length table < 256
  pub fits : count ≤ column_count g * g.banks
  pub room : is_none (free (limit_of g) (objects_of table) n) ≡ false

-- an object that is made has a new name and free rows
pub made : (g : Geometry) (operations : Routines) (table : List Named) (name : List ℕ)
    (count n : ℕ) → refusal g operations table (Init name count n) ≡ None
    → IsMade g table name count n
made g operations table name count n h =
    let c4 = when (is_none (free (limit_of g) (objects_of table) n)) why.NoRows ∷ [] in
    let c3 = when (ltb (column_count g * g.banks) count) why.TooLarge ∷ c4 in
    let c2 = when (leb 256 (length table)) why.TableFull ∷ c3 in
    let new = first_none (when (has_name table name) why.Exists) c2 h in
    let full = first_none (when (leb 256 (length table)) why.TableFull) c3 new.1 in
    let large = first_none (when (ltb (column_count g * g.banks) count) why.TooLarge) c4 full.1 in
    let room = first_none (when (is_none (free (limit_of g) (objects_of table) n)) why.NoRows) []
    large.1 in
    let not_full : leb 256 (length table) ≡ false = when_none _ _ full.0 in
    let not_large : ltb (column_count g * g.banks) count ≡ false = when_none _ _ large.0 in
    record {
      new = when_none _ _ new.0;
      few = grind (arith, nat_tests);
      fits = grind (arith, nat_tests);
      room = when_none _ _ room.0;
    }

listed_tabled : (g : Geometry) (operations : Routines) (table : List Named)
    (instr : Instruction) → IsPlain instr → IsTable (limit_of g) table
    → refusal g operations table instr ≡ None → IsTable (limit_of g) (tabled g table instr)
listed_tabled g operations table (Init name count n) plain t h =
    let m = made g operations table name count n h in
    let base = (base_free (limit_of g) (objects_of table) n m.room).1 in
    IsTable-add (limit_of g) table name (new_object g table count n) t m.few m.new plain.1.0 base
listed_tabled g operations table (Free name) plain t h =
    IsTable-without (limit_of g) table name t
listed_tabled g operations table (Bbop op dst srcs count n) plain t h = t
listed_tabled g operations table (Load name values) plain t h = t
listed_tabled g operations table (Fill name value) plain t h = t
listed_tabled g operations table (Print name) plain t h = t
listed_tabled g operations table (Order o) plain t h = t

-- what an image of the geometry may say of each object
abbrev pub AreObjects : Geometry → List Named → Type 0
AreObjects g table = All (λ named. IsObject g named.1) table

objects_tabled : (g : Geometry) (operations : Routines) (table : List Named)
    (instr : Instruction) → IsPlain instr → AreObjects g table
    → refusal g operations table instr ≡ None → AreObjects g (tabled g table instr)
objects_tabled g operations table (Init name count n) plain all h =
    All-push (λ (named : Named). IsObject g named.1) table (name, new_object g table count n) all
    (record {
      wide = plain.1.0;
      narrow = plain.1.1;
      some = plain.0;
      fits = (made g operations table name count n h).fits;
    })
objects_tabled g operations table (Free name) plain all h =
    All-filter (λ (p : Named). not (bytes_eq p.0 name)) (λ (p : Named). IsObject g p.1) table all
objects_tabled g operations table (Bbop op dst srcs count n) plain all h = all
objects_tabled g operations table (Load name values) plain all h = all
objects_tabled g operations table (Fill name value) plain all h = all
objects_tabled g operations table (Print name) plain all h = all
objects_tabled g operations table (Order o) plain all h = all

-- what holds of the table either way
pub kept_done : (P : List Named → Type 0) (r : Option Why) (new old : List Named)
    → (r ≡ None → P new) → P old → P (if_done r new old)
kept_done P None new old h t = h refl
kept_done P (Some reason) new old h t = t

-- after one instruction
pub listed_after : (g : Geometry) (operations : Routines) (table : List Named)
    (instr : Instruction) → IsPlain instr → IsTable (limit_of g) table
    → IsTable (limit_of g) (table_after g operations table instr)
listed_after g operations table instr plain t =
    kept_done (IsTable (limit_of g)) (refusal g operations table instr) (tabled g table instr)
    table (listed_tabled g operations table instr plain t) t

pub objects_after : (g : Geometry) (operations : Routines) (table : List Named)
    (instr : Instruction) → IsPlain instr → AreObjects g table
    → AreObjects g (table_after g operations table instr)
objects_after g operations table instr plain all =
    kept_done (AreObjects g) (refusal g operations table instr) (tabled g table instr) table
    (objects_tabled g operations table instr plain all) all

-- after an instruction the table is still one that a machine may have
pub table_fits_after : (g : Geometry) (operations : Routines) (table : List Named)
    (instr : Instruction) → IsPlain instr → TableFits g table
    → TableFits g (table_after g operations table instr)
table_fits_after g operations table instr plain t = record {
  listed = listed_after g operations table instr plain t.listed;
  objects = objects_after g operations table instr plain t.objects;
}

-- and after a script
pub table_stays : TableStays
table_stays g operations table [] plain t = t
table_stays g operations table (instr ∷ script) plain t =
    table_stays g operations (table_after g operations table instr) script plain.1
    (table_fits_after g operations table instr plain.0 t)

-- a table that a machine may have lies in its banks
pub fits_banks : (g : Geometry) (table : List Named) → TableFits g table → FitsBanks g table
fits_banks g table t k d l = (t.objects k d l).fits

-- what holds of each object holds of that of a name
pub object_holds : (P : Object → Type 0) (table : List Named) (name : List ℕ) → P nothing
    → AllByRecursion (λ named. P named.1) table → P (object_named table name)
object_holds P [] name none all = none
object_holds P (p ∷ table) name none all =
    named (bytes_eq p.0 name) (object_holds P table name none all.1) where
      named : (t : Bool) → P (object_named table name)
          → P (unwrap_or (option_map (λ (q : Named). q.1) (cond t (Some p)
          (find (λ q. bytes_eq q.0 name) table))) nothing)
      named true rest = all.0
      named false rest = rest
