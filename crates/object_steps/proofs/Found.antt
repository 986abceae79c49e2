-- The object that a name finds.
use Rattle.object_steps.proofs.Common.{◌≡◌, ℕ, Bool, true, false, cond, List, [], ◌∷◌, Option, Some}
use Rattle.object_steps.proofs.Common.{None, refl, sym, ◌∙◌, ap, subst, arith, All, is_some}
use Rattle.object_steps.proofs.Common.{unwrap_or, ◌^◌, option_map, bytes_eq, Object, end_of, Named}
use Rattle.object_steps.proofs.Common.{has_name, look_up, without, Geometry, IsObject, Why, first}
use Rattle.object_steps.proofs.Common.{is_absent, object_named, when, look_up-some, not, ◌<◌, ◌≤◌}
use Rattle.std.specs.Prelude.{◌||◌}
use Rattle.std.specs.List.{find}
use Rattle.std.proofs.lemmas.List.Elements.{All-head, All-tail, recursion_from_All}
use Rattle.object_alloc.specs.Listed.{IsTable}
use Rattle.bbop_isa.specs.declared.instr.Part.{Part}
use Rattle.machine_model.specs.Places.{cut, is_past}
use Rattle.machine_model.specs.Refusals.{nothing}
use Rattle.machine_model.proofs.Bbops.{part_end}
use Rattle.machine_model.proofs.Sliced.{within}
use Rattle.machine_model.proofs.Tables.{object_holds}
use Rattle.object_steps.specs.Objects.{FitsOn}
use Rattle.machine_model.specs.declared.Why.TheVariants as why

-- an object that is found has its name in the table
pub has_found : (pairs : List Named) (name : List ℕ) (o : Object) → Some o ≡ look_up pairs name
    → has_name pairs name ≡ true
has_found pairs name o e = sym (look_up-some pairs name) ∙ ap is_some (sym e)

-- a name that no object is found by is not in the table
pub has_none : (pairs : List Named) (name : List ℕ) → None ≡ look_up pairs name
    → has_name pairs name ≡ false
has_none pairs name e = sym (look_up-some pairs name) ∙ ap is_some (sym e)

pub there : (pairs : List Named) (name : List ℕ) (o : Object) → Some o ≡ look_up pairs name
    → is_absent pairs name ≡ false
there pairs name o e = ap not (has_found pairs name o e)

pub absent : (pairs : List Named) (name : List ℕ) → None ≡ look_up pairs name
    → is_absent pairs name ≡ true
absent pairs name e = ap not (has_none pairs name e)

pub named_is : (pairs : List Named) (name : List ℕ) (o : Object) → Some o ≡ look_up pairs name
    → o ≡ object_named pairs name
named_is pairs name o e = ap (λ found. unwrap_or found nothing) e

found_case : (P : Object → Type 0) (p : Named) (rest : Option Named) (o : Object) (b : Bool)
    → Some o ≡ option_map (λ q. q.1) (cond b (Some p) rest) → P p.1
    → (Some o ≡ option_map (λ q. q.1) rest → P o) → P o
found_case P p rest o true e here more = subst P same here where
  same : p.1 ≡ o
  same = cc
found_case P p rest o false e here more = more e

-- what holds of every object holds of the one that is found
pub found_holds : (P : Object → Type 0) (pairs : List Named) (name : List ℕ) (o : Object)
    → Some o ≡ look_up pairs name → All (λ named. P named.1) pairs → P o
found_holds P [] name o e all = absurd (cc)
found_holds P (p ∷ pairs) name o e all =
    found_case P p (find (λ q. bytes_eq q.0 name) pairs) o (bytes_eq p.0 name) e
    (All-head (λ (named : Named). P named.1) p pairs all) (λ f.
    found_holds P pairs name o f (All-tail (λ (named : Named). P named.1) p pairs all))

without_case : (p : Named) (rest pairs : List Named) (b r : Bool) → (b || r) ≡ false
    → (r ≡ false → rest ≡ pairs) → cond (not b) (p ∷ rest) rest ≡ p ∷ pairs
without_case p rest pairs true r h same = cc
without_case p rest pairs false r h same = ap (λ (xs : List Named). p ∷ xs) (same h)

-- a name that no object has takes none away
pub without_absent : (pairs : List Named) (name : List ℕ) → has_name pairs name ≡ false
    → without pairs name ≡ pairs
without_absent [] name h = refl
without_absent (p ∷ pairs) name h = without_case p (without pairs name) pairs (bytes_eq p.0 name)
    (has_name pairs name) h (without_absent pairs name)

-- an object fits on the chip, and so does a part of it
pub fits_on : (g : Geometry) (o : Object) → IsObject g o → FitsOn g o
fits_on g o is = record { narrow = is.narrow; some = is.some; fits = is.fits }

pub part_fits : (g : Geometry) (o : Object) (part : Option Part) → is_past part o ≡ false
    → IsObject g o → FitsOn g (cut part o)
part_fits g o None h is = fits_on g o is
part_fits g o (Some p) h is = record {
  narrow = omega (arith, is.narrow, within o p h);
  some = is.some;
  fits = is.fits;
}

-- and ends where the object may
pub part_low : (limit : ℕ) (o : Object) (part : Option Part) → is_past part o ≡ false
    → end_of o ≤ limit → end_of (cut part o) ≤ limit
part_low limit o part h l = omega (arith, l, part_end o part h)

-- why an operand is refused, whatever is asked after it
pub absent_refused : (absent past : Bool) (rest : List (Option Why)) → absent ≡ true
    → first (when absent (why.NoObject 0) ∷ when past (why.Slice 0) ∷ rest) ≡ Some (why.NoObject 0)
absent_refused absent past rest e = rw e refl

pub past_refused : (absent past : Bool) (rest : List (Option Why)) → absent ≡ false → past ≡ true
    → first (when absent (why.NoObject 0) ∷ when past (why.Slice 0) ∷ rest) ≡ Some (why.Slice 0)
past_refused absent past rest e f = rw (e, f) refl

-- the object of a name that there is
pub named_holds : (P : Object → Type 0) (pairs : List Named) (name : List ℕ) (o : Object)
    → Some o ≡ look_up pairs name → All (λ named. P named.1) pairs → P (object_named pairs name)
named_holds P pairs name o e all =
    subst P (named_is pairs name o e) (found_holds P pairs name o e all)

-- objects lie low, and so does what is read of a name that none has
pub named_low : (limit : ℕ) (pairs : List Named) (name : List ℕ) → limit ≤ 974
    → IsTable limit pairs → (object_named pairs name).base < 2 ^ 15
named_low limit pairs name l t = object_holds (λ (o : Object). o.base < 2 ^ 15) pairs name
    (omega arith) (recursion_from_All (λ (p : Named). p.1.base < 2 ^ 15) pairs (λ k d m.
    let ends = t.within k d m in omega (arith, ends, l)))
