-- An instruction of a scan is refused only for want of room.
use Rattle.scan_model.proofs.Common.{◌≡◌, ◌≢◌, ℕ, ◌*◌, ◌^◌, ◌<◌, ◌≤◌, Bool, true, false, not, eqb}
use Rattle.scan_model.proofs.Common.{ltb, leb, List, [], ◌∷◌, length, Option, Some, None, refl, ◌∙◌}
use Rattle.scan_model.proofs.Common.{ap, inl, inr, arith, is_none, nat_tests, WIDTH_MAX, Kind, Bit}
use Rattle.scan_model.proofs.Common.{Geometry, column_count, need, free, objects_of, has_name}
use Rattle.scan_model.proofs.Common.{limit_of, Place, Init, Bbop, Fill, Free, whole, Why, Routines}
use Rattle.scan_model.proofs.Common.{cut, is_past, first, when, object_named, rows_of, goes_past}
use Rattle.scan_model.proofs.Common.{walks_badly, refusal, Held, table_of, bytes_differ}
use Rattle.uprog_code.specs.Shape.{width}
use Rattle.machine_model.specs.Refusals.{is_absent, is_misfit}
use Rattle.machine_model.specs.declared.Why.TheVariants as why
use Rattle.scan_model.specs.Laws.{Offers}
use Rattle.scan_model.proofs.Goes.{Allowed, done, full}
use Rattle.scan_model.proofs.States.{lookup, at_has, at_object, absent_has}

when_full : (b c : Bool) → Allowed (first (when b why.TableFull ∷ when c why.NoRows ∷ []))
when_full true c = full why.TableFull (inl refl)
when_full false true = full why.NoRows (inr refl)
when_full false false = done

new_case : (a b c d : Bool) → a ≡ false → c ≡ false
    → Allowed (first (when a why.Exists ∷ when b why.TableFull ∷ when c why.TooLarge
    ∷ when d why.NoRows ∷ []))
new_case true b c d e f = cc
new_case false b true d e f = cc
new_case false true false d e f = full why.TableFull (inl refl)
new_case false false false d e f = when_full false d

few : (a b : ℕ) → b ≤ a → ltb a b ≡ false
few a b h = grind (arith, nat_tests)

-- a new object of a name that no object has
pub init_allowed : (g : Geometry) (operations : Routines) (s : List Held) (name : List ℕ)
    (count n : ℕ) → lookup s name ≡ None → count ≤ column_count g * g.banks
    → Allowed (refusal g operations (table_of s) (Init name count n))
init_allowed g operations s name count n e l =
    new_case (has_name (table_of s) name) (leb 256 (length (table_of s)))
    (ltb (column_count g * g.banks) count) (is_none
    (free (limit_of g) (objects_of (table_of s)) n)) (absent_has s name e)
    (few (column_count g * g.banks) count l)

fill_case : (a b : Bool) → a ≡ false → b ≡ false
    → Allowed (first (when a (why.NoObject 0) ∷ None ∷ when b (why.Range 1) ∷ []))
fill_case true b e f = cc
fill_case false true e f = cc
fill_case false false e f = done

present : (s : List Held) (name : List ℕ) (h : Held) → lookup s name ≡ Some h
    → is_absent (table_of s) name ≡ false
present s name h e = ap not (at_has s name h e)

below : (a b : ℕ) → b < a → leb a b ≡ false
below a b h = grind (arith, nat_tests)

pub fill_allowed : (g : Geometry) (operations : Routines) (s : List Held) (name : List ℕ)
    (v : ℕ) (h : Held) → lookup s name ≡ Some h → v < 2 ^ h.object.width
    → Allowed (refusal g operations (table_of s) (Fill (whole name) v))
fill_allowed g operations s name v h e l =
    fill_case (is_absent (table_of s) name) (leb (2 ^ (object_named (table_of s) name).width) v)
    (present s name h e)
    (ap (λ o. leb (2 ^ o.width) v) (at_object s name h e) ∙ below (2 ^ h.object.width) v l)

free_case : (a : Bool) → a ≡ false → Allowed (when a (why.NoObject 0))
free_case true e = cc
free_case false e = done

pub free_allowed : (g : Geometry) (operations : Routines) (s : List Held) (name : List ℕ)
    (h : Held) → lookup s name ≡ Some h → Allowed (refusal g operations (table_of s) (Free name))
free_allowed g operations s name h e = free_case (is_absent (table_of s) name)
    (present s name h e)

granted : (r : Option Why) (b : Bool) → r ≡ None → Allowed (first (r ∷ when b why.NoRows ∷ []))
granted None true e = full why.NoRows (inr refl)
granted None false e = done
granted (Some w) b e = cc

-- the operand is within an object, as wide as its kind, and of the count
pub record IsUsed (s : List Held) (kind : Kind) (count n : ℕ) (p : Place) : Type 0 where
  pub held : Held
  pub at : lookup s p.name ≡ Some held
  pub inside : is_past p.part held.object ≡ false
  pub wide : (cut p.part held.object).width ≡ width kind n
  pub counted : (cut p.part held.object).count ≡ count

same_number : (a b : ℕ) → a ≡ b → eqb a b ≡ true
same_number a b e = grind (arith, nat_tests)

used_fits : (s : List Held) (kind : Kind) (count n : ℕ) (p : Place)
    → IsUsed s kind count n p → is_misfit n (kind, rows_of (table_of s) p) ≡ false
used_fits s kind count n p u = ap (λ o. not (eqb (cut p.part o).width (width kind n)))
    (at_object s p.name u.held u.at) ∙ ap not (same_number _ _ u.wide)

used_counts : (s : List Held) (kind : Kind) (count n : ℕ) (p : Place)
    → IsUsed s kind count n p → not (eqb (rows_of (table_of s) p).count count) ≡ false
used_counts s kind count n p u = ap (λ o. not (eqb (cut p.part o).count count))
    (at_object s p.name u.held u.at) ∙ ap not (same_number _ _ u.counted)

used_present : (s : List Held) (kind : Kind) (count n : ℕ) (p : Place)
    → IsUsed s kind count n p → is_absent (table_of s) p.name ≡ false
used_present s kind count n p u = present s p.name u.held u.at

used_inside : (s : List Held) (kind : Kind) (count n : ℕ) (p : Place)
    → IsUsed s kind count n p → goes_past (table_of s) p ≡ false
used_inside s kind count n p u = ap (is_past p.part) (at_object s p.name u.held u.at) ∙ u.inside

-- a bbop of two sources
pub two_allowed : (g : Geometry) (operations : Routines) (s : List Held) (op : List ℕ)
    (dst a b : Place) (j k : Kind) (count n : ℕ)
    → (o : Offers operations op (j ∷ k ∷ [])) → 0 < n → n ≤ WIDTH_MAX
    → IsUsed s Bit count n dst → IsUsed s j count n a → IsUsed s k count n b
    → a.name ≢ dst.name → b.name ≢ dst.name
    → Allowed (refusal g operations (table_of s) (Bbop op dst (a ∷ b ∷ []) count n))
two_allowed g operations s op dst a b j k count n o some few u v w ne mf =
    rw (
      o.there,
      o.sources,
      o.result,
      o.one_result,
      used_present s Bit count n dst u,
      used_present s j count n a v,
      used_present s k count n b w,
      used_inside s Bit count n dst u,
      used_inside s j count n a v,
      used_inside s k count n b w,
      used_fits s Bit count n dst u,
      used_fits s j count n a v,
      used_fits s k count n b w,
      used_counts s Bit count n dst u,
      used_counts s j count n a v,
      used_counts s k count n b w,
      bytes_differ a.name dst.name ne,
      bytes_differ b.name dst.name mf,
    )
    (granted (walks_badly (o.operation.trace n))
    (is_none (free (limit_of g) (objects_of (table_of s)) (need o.operation.shape n)))
    (o.walks n some few))

-- a bbop of one source
pub one_allowed : (g : Geometry) (operations : Routines) (s : List Held) (op : List ℕ)
    (dst a : Place) (j : Kind) (count n : ℕ)
    → (o : Offers operations op (j ∷ [])) → 0 < n → n ≤ WIDTH_MAX
    → IsUsed s Bit count n dst → IsUsed s j count n a → a.name ≢ dst.name
    → Allowed (refusal g operations (table_of s) (Bbop op dst (a ∷ []) count n))
one_allowed g operations s op dst a j count n o some few u v ne =
    rw (
      o.there,
      o.sources,
      o.result,
      o.one_result,
      used_present s Bit count n dst u,
      used_present s j count n a v,
      used_inside s Bit count n dst u,
      used_inside s j count n a v,
      used_fits s Bit count n dst u,
      used_fits s j count n a v,
      used_counts s Bit count n dst u,
      used_counts s j count n a v,
      bytes_differ a.name dst.name ne,
    )
    (granted (walks_badly (o.operation.trace n))
    (is_none (free (limit_of g) (objects_of (table_of s)) (need o.operation.shape n)))
    (o.walks n some few))
