-- The record of an object is its spelling, and its spelling is read.
use Rattle.object_alloc.proofs.Common.{◌≡◌, ℕ, ◌+◌, ◌*◌, ◌^◌, ◌<◌, ◌≤◌, true, false, leb, List, []}
use Rattle.object_alloc.proofs.Common.{◌∷◌, ◌++◌, length, Ok, refl, subst, arith, w16, w32}
use Rattle.object_alloc.proofs.Common.{to_le_bytes, nat_tests, Geometry, is_between, column_count}
use Rattle.object_alloc.proofs.Common.{fits_name, IsBytes, name_bytes, ◌>>=◌, rule, Holds}
use Rattle.object_alloc.proofs.Common.{Holds-then, Holds-front, Holds-back, bind_ok, ok_is, rule_ok}
use Rattle.object_alloc.proofs.Common.{wide16, field_takes, field_again, between_is, name_size}
use Rattle.std.specs.Int.{w8}
use Rattle.bit_rows.specs.declared.TheConstants.{WIDTH_MAX}
use Rattle.file_fields.proofs.Held.{wide8, wide32}
use Rattle.file_fields.proofs.NameField.{name_takes, name_again}
use Rattle.file_fields.proofs.Padded.{is-between}
use Rattle.object_alloc.specs.declared.fault.ImageKind.TheVariants as kinds
use Rattle.object_alloc.specs.Free.{are_free, end_of}
use Rattle.object_alloc.specs.Listed.{Named, objects_of, has_name, limit_of}
use Rattle.object_alloc.specs.Spelling.{object_bytes, IsObject}
use Rattle.object_alloc.specs.Reading.{field_at, name_at, place_at, count_at, object_at}

-- ---- the place

pub record IsPlace (g : Geometry) (earlier : List Named) (width base : ℕ) : Type 0 where
  pub some : 0 < width
  pub narrow : width ≤ WIDTH_MAX
  pub within : base + width ≤ limit_of g
  pub free : are_free (limit_of g) (objects_of earlier) width base ≡ true

pub le_is : (a b : ℕ) → leb a b ≡ true → a ≤ b
le_is a b h = grind (arith, nat_tests)

pub is-le : (a b : ℕ) → a ≤ b → leb a b ≡ true
is-le a b h = grind (arith, nat_tests)

pub place_takes : (g : Geometry) (earlier : List Named) (at : ℕ) (bytes : List ℕ) (x : ℕ × ℕ)
    → IsBytes bytes → place_at g earlier at bytes ≡ Ok x
    → Holds bytes at (x.0 ∷ to_le_bytes w16 x.1) (at + 3) × IsPlace g earlier x.0 x.1
unfolding place_at
place_takes g earlier at bytes x fits e =
    let a = bind_ok (field_at w8 (is_between 1 WIDTH_MAX) kinds.Object at bytes)
    (λ width. field_at w16 (λ base. leb (base + width) (limit_of g)) kinds.Object (at + 1) bytes
    >>= λ base. rule (are_free (limit_of g) (objects_of earlier) width base) (at + 1)
    kinds.Overlap >>= λ _. Ok (width, base)) x e in
    let b = bind_ok (field_at w16 (λ base. leb (base + a.0) (limit_of g)) kinds.Object (at + 1)
    bytes) (λ base. rule (are_free (limit_of g) (objects_of earlier) a.0 base) (at + 1)
    kinds.Overlap >>= λ _. Ok (a.0, base)) x a.2 in
    let c = bind_ok (rule (are_free (limit_of g) (objects_of earlier) a.0 b.0) (at + 1)
    kinds.Overlap) (λ _. Ok (a.0, b.0)) x b.2 in
    let width = field_takes kinds.Short w8 256 (λ n. n ∷ []) wide8 (is_between 1 WIDTH_MAX)
    kinds.Object at (at
    + 1) bytes a.0 fits a.1 refl in
    let base = field_takes kinds.Short w16 (2 ^ 16) (to_le_bytes w16) wide16
    (λ base. leb (base + a.0) (limit_of g)) kinds.Object (at + 1) (at + 3) bytes b.0 fits b.1
    (omega arith) in
    let wide = between_is 1 WIDTH_MAX a.0 width.2 in
    let held : Holds bytes at (a.0 ∷ to_le_bytes w16 b.0) (at + 3) =
    Holds-then bytes at (a.0 ∷ []) (at + 1) (to_le_bytes w16 b.0) (at + 3) width.0 base.0 in
    let is : IsPlace g earlier a.0 b.0 = record {
      some = wide.0;
      narrow = wide.1;
      within = le_is (b.0 + a.0) (limit_of g) base.2;
      free = rule_ok (are_free (limit_of g) (objects_of earlier) a.0 b.0) (at + 1) kinds.Overlap c.0
          c.1;
    } in
    subst (λ (y : ℕ × ℕ). Holds bytes at (y.0 ∷ to_le_bytes w16 y.1) (at + 3)
    × IsPlace g earlier y.0 y.1) (ok_is (a.0, b.0) x c.2) (held, is)

pub place_again : (g : Geometry) (earlier : List Named) (at : ℕ) (bytes : List ℕ) (width base : ℕ)
    → limit_of g < 2 ^ 16 → Holds bytes at (width ∷ to_le_bytes w16 base) (at + 3)
    → IsPlace g earlier width base → place_at g earlier at bytes ≡ Ok (width, base)
unfolding place_at
place_again g earlier at bytes width base small h p =
    let front = Holds-front bytes at (width ∷ []) (at + 1) (to_le_bytes w16 base) (at + 3) h refl in
    let back = Holds-back bytes at (width ∷ []) (at + 1) (to_le_bytes w16 base) (at + 3) h refl in
    let first = field_again kinds.Short w8 256 (λ n. n ∷ []) wide8 (is_between 1 WIDTH_MAX)
    kinds.Object at (at
    + 1) bytes width front (omega (arith, p.narrow))
    (is-between 1 WIDTH_MAX width p.some p.narrow) in
    let second = field_again kinds.Short w16 (2 ^ 16) (to_le_bytes w16) wide16 (λ b.
    leb (b + width) (limit_of g)) kinds.Object (at + 1) (at + 3) bytes base back
    (omega (arith, p.within)) (is-le (base + width) (limit_of g) p.within) in
    rw (first, second, p.free) refl

-- ---- the whole record

-- an object that may stand after these
pub record Follows (g : Geometry) (earlier : List Named) (named : Named) : Type 0 where
  pub name : fits_name named.0 ≡ true
  pub new : has_name earlier named.0 ≡ false
  pub object : IsObject g named.1
  pub within : end_of named.1 ≤ limit_of g
  pub free : are_free (limit_of g) (objects_of earlier) named.1.width named.1.base ≡ true

pub object_takes : (g : Geometry) (earlier : List Named) (at : ℕ) (bytes : List ℕ) (named : Named)
    → IsBytes bytes → object_at g earlier at bytes ≡ Ok named
    → Holds bytes at (object_bytes named) (at + 24) × Follows g earlier named
unfolding object_at count_at
object_takes g earlier at bytes named fits e =
    let a = bind_ok (name_at earlier at bytes)
    (λ name. place_at g earlier (at + 17) bytes >>= λ place. count_at g (at + 20) bytes >>=
    λ count. Ok (name, record { base = place.1; width = place.0; count = count })) named e in
    let b = bind_ok (place_at g earlier (at + 17) bytes)
    (λ place. count_at g (at + 20) bytes >>= λ count. Ok (
      a.0,
      record { base = place.1; width = place.0; count = count },
    )) named a.2 in
    let c = bind_ok (count_at g (at + 20) bytes)
    (λ count. Ok (a.0, record { base = b.0.1; width = b.0.0; count = count })) named b.2 in
    let name = name_takes kinds.Short kinds.Object (has_name earlier) at bytes a.0 fits a.1 in
    let place = place_takes g earlier (at + 17) bytes b.0 fits b.1 in
    let count = field_takes kinds.Short w32 (2 ^ 32) (to_le_bytes w32) wide32
    (is_between 1 (column_count g * g.banks)) kinds.Object (at + 20) (at + 24) bytes c.0 fits
    c.1 (omega arith) in
    let some = between_is 1 (column_count g * g.banks) c.0 count.2 in
    let to : at + 17 + 3 ≡ at + 20 = omega arith in
    let second : Holds bytes (at + 17) (b.0.0 ∷ to_le_bytes w16 b.0.1) (at + 20) =
    subst (λ (k : ℕ). Holds bytes (at + 17) (b.0.0 ∷ to_le_bytes w16 b.0.1) k) to place.0 in
    let rest : Holds bytes (at + 17) (b.0.0 ∷ to_le_bytes w16 b.0.1 ++ to_le_bytes w32 c.0) (at
    + 24) = Holds-then bytes (at + 17) (b.0.0 ∷ to_le_bytes w16 b.0.1) (at + 20)
    (to_le_bytes w32 c.0) (at + 24) second count.0 in
    let made : Named = (a.0, record { base = b.0.1; width = b.0.0; count = c.0 }) in
    let held : Holds bytes at (object_bytes made) (at + 24) =
    Holds-then bytes at (name_bytes a.0) (at + 17) (b.0.0 ∷ to_le_bytes w16 b.0.1
    ++ to_le_bytes w32 c.0) (at + 24) name.0 rest in
    let is : Follows g earlier made = record {
      name = name.1;
      new = name.2;
      object = record {
        wide = place.1.some;
        narrow = place.1.narrow;
        some = some.0;
        fits = some.1;
      };
      within = place.1.within;
      free = place.1.free;
    } in
    subst (λ (y : Named). Holds bytes at (object_bytes y) (at + 24)
    × Follows g earlier y) (ok_is made named c.2) (held, is)

pub object_again : (g : Geometry) (earlier : List Named) (at : ℕ) (bytes : List ℕ) (named : Named)
    → limit_of g < 2 ^ 16 → column_count g * g.banks < 2 ^ 32
    → Holds bytes at (object_bytes named) (at + 24) → Follows g earlier named
    → object_at g earlier at bytes ≡ Ok named
unfolding object_at count_at
object_again g earlier at bytes named small few h f =
    let o = named.1 in
    let name_len : length (name_bytes named.0) ≡ 17 =
    name_size named.0 f.name in
    let front = Holds-front bytes at (name_bytes named.0) (at + 17) (o.width
    ∷ to_le_bytes w16 o.base ++ to_le_bytes w32 o.count) (at + 24) h (omega (arith, name_len))
    in
    let back = Holds-back bytes at (name_bytes named.0) (at + 17) (o.width ∷ to_le_bytes w16 o.base
    ++ to_le_bytes w32 o.count) (at + 24) h (omega (arith, name_len)) in
    let place = Holds-front bytes (at + 17) (o.width ∷ to_le_bytes w16 o.base) (at + 17 + 3)
    (to_le_bytes w32 o.count) (at + 24) back refl in
    let count = Holds-back bytes (at + 17) (o.width ∷ to_le_bytes w16 o.base) (at + 20)
    (to_le_bytes w32 o.count) (at + 24) back (omega arith) in
    let is : IsPlace g earlier o.width o.base =
    record {
      some = f.object.wide;
      narrow = f.object.narrow;
      within = f.within;
      free = f.free;
    } in
    let first = name_again kinds.Short kinds.Object (has_name earlier) at bytes named.0 front f.name
    f.new in
    let second = place_again g earlier (at + 17) bytes o.width o.base small place is in
    let third = field_again kinds.Short w32 (2 ^ 32) (to_le_bytes w32) wide32
    (is_between 1 (column_count g * g.banks)) kinds.Object (at + 20) (at + 24) bytes o.count
    count (omega (arith, f.object.fits)) (is-between 1 (column_count g * g.banks) o.count
    f.object.some f.object.fits) in
    rw (first, second, third) refl
