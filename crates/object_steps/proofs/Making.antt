-- When an object may be made, and where.
use Rattle.object_steps.proofs.Common.{◌≡◌, ℕ, ◌*◌, ◌<◌, ◌≤◌, Bool, true, false, List, Option, Some}
use Rattle.object_steps.proofs.Common.{None, length, refl, sym, ◌∙◌, ap, arith, nat_le, is_some}
use Rattle.object_steps.proofs.Common.{nat_lt, nat_tests, Geometry, column_count, Object, free}
use Rattle.object_steps.proofs.Common.{Named, has_name, limit_of, look_up, objects_of, Init}
use Rattle.object_steps.proofs.Common.{Routines, refusal, look_up-some}
use Rattle.machine_model.specs.declared.Why.TheVariants as why

pub tells : (pairs : List Named) (name : List ℕ) (found : Option Object) (known : Bool) (is : Bool)
    → found ≡ look_up pairs name → known ≡ is_some found → known ≡ is → has_name pairs name ≡ is
tells pairs name found known is e f h =
    sym (look_up-some pairs name) ∙ ap is_some (sym e) ∙ sym f ∙ h

pub exists : (g : Geometry) (operations : Routines) (table : List Named) (name : List ℕ)
    (count n : ℕ) → has_name table name ≡ true
    → refusal g operations table (Init name count n) ≡ Some why.Exists
exists g operations table name count n old = rw old refl

pub is_full : (g : Geometry) (operations : Routines) (table : List Named) (name : List ℕ)
    (count n : ℕ) → has_name table name ≡ false → 256 ≤ length table
    → refusal g operations table (Init name count n) ≡ Some why.TableFull
is_full g operations table name count n new many =
    let full : nat_le 256 (length table) ≡ true = grind (arith, nat_tests) in
    rw (new, full) refl

pub too_large : (g : Geometry) (operations : Routines) (table : List Named) (name : List ℕ)
    (count n : ℕ) → has_name table name ≡ false → length table < 256
    → column_count g * g.banks < count
    → refusal g operations table (Init name count n) ≡ Some why.TooLarge
too_large g operations table name count n new few more =
    let room : nat_le 256 (length table) ≡ false = grind (arith, nat_tests) in
    let large : nat_lt (column_count g * g.banks) count ≡ true = grind (arith, nat_tests) in
    rw (new, room, large) refl

pub no_rows : (g : Geometry) (operations : Routines) (table : List Named) (name : List ℕ)
    (count n : ℕ) → has_name table name ≡ false → length table < 256
    → count ≤ column_count g * g.banks → free (limit_of g) (objects_of table) n ≡ None
    → refusal g operations table (Init name count n) ≡ Some why.NoRows
no_rows g operations table name count n new few fits none =
    let room : nat_le 256 (length table) ≡ false = grind (arith, nat_tests) in
    let small : nat_lt (column_count g * g.banks) count ≡ false = grind (arith, nat_tests) in
    rw (new, room, small, none) refl

pub may_be_made : (g : Geometry) (operations : Routines) (table : List Named) (name : List ℕ)
    (count n base : ℕ) → has_name table name ≡ false → length table < 256
    → count ≤ column_count g * g.banks → free (limit_of g) (objects_of table) n ≡ Some base
    → refusal g operations table (Init name count n) ≡ None
may_be_made g operations table name count n base new few fits found =
    let room : nat_le 256 (length table) ≡ false = grind (arith, nat_tests) in
    let small : nat_lt (column_count g * g.banks) count ≡ false = grind (arith, nat_tests) in
    rw (new, room, small, found) refl

pub at_limit : (g : Geometry) (limit : ℕ) (objects : List Object) (n k : ℕ) (found : Option ℕ)
    → limit ≡ limit_of g → k ≡ n → found ≡ free limit objects k
    → free (limit_of g) objects n ≡ found
at_limit g limit objects n k found l e h =
    ap (λ m. free (limit_of g) objects m) (sym e) ∙ ap (λ m. free m objects k) (sym l) ∙ sym h
