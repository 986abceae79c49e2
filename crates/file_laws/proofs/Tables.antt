-- The geometry and the table of an image file, and of a trace file.
use Rattle.std.proofs.Common.{◌≡◌, ℕ, zero, suc, ◌+◌, ◌*◌, List, [], ◌∷◌, ◌++◌, length, Ok, refl, sym}
use Rattle.std.proofs.Common.{subst, arith}
use Rattle.std.proofs.lemmas.List.{length-append}
use Rattle.std.specs.Prelude.{nat_le, ◌&&◌}
use Rattle.std.specs.Int.{w8, w16, w32}
use Rattle.bit_rows.specs.declared.TheConstants.{WIDTH_MAX}
use Rattle.dram_model.specs.declared.geometry.Geometry.{Geometry}
use Rattle.dram_model.specs.Geometry.{is_between, fits_size}
use Rattle.dram_model.specs.Elements.{column_count}
use Rattle.file_fields.specs.Fields.{◌>>=◌, rule}
use Rattle.object_alloc.specs.declared.fault.ImageKind.TheVariants as kinds
use Rattle.file_laws.specs.Images.{IsField, IsObjectField, ends}
use Rattle.file_laws.specs.Images.IsObjectField.{NameLength, Name, Width as WidthField, Base, Count}
use Rattle.object_alloc.specs.Free.{are_free}
use Rattle.object_alloc.specs.Listed.{Named, objects_of, has_name, limit_of}
use Rattle.object_alloc.specs.Reading.{count_at, field_at, geometry_at, name_at, object_at}
use Rattle.object_alloc.specs.Reading.{objects_at, place_at, rows_start, table_at}
use Rattle.file_laws.specs.Images.IsField.{Banks, Rows, Words, Objects, InObject}
use Rattle.file_laws.proofs.Steady.{IsRule, Steady, ends_at, field_steady, name_steady}
use Rattle.file_laws.proofs.Steady.{pure_steady, test_steady, then_steady}

object_rule : IsRule ends kinds.Object
object_rule = ((λ e. cc), (λ e. cc))

overlap_rule : IsRule ends kinds.Overlap
overlap_rule = ((λ e. cc), (λ e. cc))

-- a field of object k's record
field_of : (k at from to a b : ℕ) → IsObjectField from to → at ≡ 14 + 24 * k → a ≡ at + from
    → b ≡ at + to → IsField a b
field_of k at from to a b f e g h =
    let p : 14 + 24 * k + from ≡ a = omega (arith, e, g) in
    let q : 14 + 24 * k + to ≡ b = omega (arith, e, h) in
    subst (λ (x : ℕ). IsField x b) p
    (subst (λ (y : ℕ). IsField (14 + 24 * k + from) y) q (InObject k f))

place_steady : (g : Geometry) (earlier : List Named) (k at : ℕ) → at ≡ 14 + 24 * k
    → Steady ends IsField (at + 17) (λ (place : ℕ × ℕ). at + 20)
    (λ b. place_at g earlier (at + 17) b)
unfolding place_at
place_steady g earlier k at e =
    then_steady ends IsField (at + 17) (λ width. at + 17 + 1) (λ place. at + 20)
    (field_at w8 (is_between 1 WIDTH_MAX) kinds.Object (at + 17))
    (λ width b. field_at w16 (λ base. nat_le (base + width) (limit_of g)) kinds.Object
    (at + 17 + 1) b >>= λ base. rule (are_free (limit_of g) (objects_of earlier) width base)
    (at + 17 + 1) kinds.Overlap >>= λ apart. Ok (width, base))
    (λ width. test_steady ends IsField (at + 17 + 1) (at + 17 + 1) (at + 20)
    (λ place. at + 20)
    (field_at w16 (λ base. nat_le (base + width) (limit_of g)) kinds.Object (at + 17 + 1))
    (λ base. are_free (limit_of g) (objects_of earlier) width base) kinds.Overlap
    (λ base b. Ok (width, base))
    (field_of k at 18 20 (at + 17 + 1) (at + 20) Base e (omega arith) refl) (omega arith)
    (omega arith) overlap_rule
    (λ base. pure_steady ends IsField (at + 20) (width, base) (λ place. at + 20) refl)
    (ends_at ends IsField
    (field_at w16 (λ base. nat_le (base + width) (limit_of g)) kinds.Object (at + 17 + 1))
    (at + 17 + 1) (at + 17 + 1 + 2) (at + 20) (omega arith)
    (field_steady ends IsField w16 (λ base. nat_le (base + width) (limit_of g)) kinds.Object
    (at + 17 + 1) (field_of k at 18 20 (at + 17 + 1) (at + 17 + 1 + 2) Base e (omega arith)
    (omega arith)) (omega arith) object_rule)))
    (field_steady ends IsField w8 (is_between 1 WIDTH_MAX) kinds.Object (at + 17)
    (field_of k at 17 18 (at + 17) (at + 17 + 1) WidthField e refl (omega arith)) (omega arith)
    object_rule)

count_steady : (g : Geometry) (k at : ℕ) → at ≡ 14 + 24 * k
    → Steady ends IsField (at + 20) (λ (count : ℕ). at + 24) (λ b. count_at g (at + 20) b)
unfolding count_at
count_steady g k at e =
    ends_at ends IsField
    (field_at w32 (is_between 1 (column_count g * g.banks)) kinds.Object (at + 20)) (at + 20)
    (at + 20 + 4) (at + 24) (omega arith)
    (field_steady ends IsField w32 (is_between 1 (column_count g * g.banks)) kinds.Object
    (at + 20) (field_of k at 20 24 (at + 20) (at + 20 + 4) Count e refl (omega arith)) (omega arith)
    object_rule)

object_steady : (g : Geometry) (earlier : List Named) (k at : ℕ) → at ≡ 14 + 24 * k
    → Steady ends IsField at (λ (named : Named). at + 24) (λ b. object_at g earlier at b)
unfolding object_at
object_steady g earlier k at e =
    then_steady ends IsField at (λ name. at + 17) (λ named. at + 24)
    (λ b. name_at earlier at b)
    (λ name b. place_at g earlier (at + 17) b >>= λ place. count_at g (at + 20) b >>= λ count.
    Ok (name, record { base = place.1; width = place.0; count = count }))
    (λ name. then_steady ends IsField (at + 17) (λ place. at + 20) (λ named. at + 24)
    (λ b. place_at g earlier (at + 17) b)
    (λ place b. count_at g (at + 20) b >>= λ count.
    Ok (name, record { base = place.1; width = place.0; count = count }))
    (λ place. then_steady ends IsField (at + 20) (λ count. at + 24) (λ named. at + 24)
    (λ b. count_at g (at + 20) b)
    (λ count b. Ok (name, record { base = place.1; width = place.0; count = count }))
    (λ count. pure_steady ends IsField (at + 24) (
      name,
      record {
        base = place.1;
        width = place.0;
        count = count;
      },
    ) (λ named. at + 24) refl) (count_steady g k at e)) (place_steady g earlier k at e))
    (name_steady ends IsField kinds.Object (has_name earlier) at
    (field_of k at 0 1 at (at + 1) NameLength e (omega arith) refl)
    (field_of k at 1 17 (at + 1) (at + 17) Name e refl refl) object_rule)

objects_steady : (n : ℕ) (g : Geometry) (earlier : List Named) (at : ℕ)
    → at ≡ 14 + 24 * length earlier
    → Steady ends IsField at (λ (table : List Named). rows_start table)
    (λ b. objects_at n g earlier at b)
unfolding objects_at
objects_steady zero g earlier at e =
    pure_steady ends IsField at earlier (λ table. rows_start table) (sym e)
objects_steady (suc n) g earlier at e =
    then_steady ends IsField at (λ named. at + 24) (λ table. rows_start table)
    (λ b. object_at g earlier at b)
    (λ named b. objects_at n g (earlier ++ named ∷ []) (at + 24) b)
    (λ named. objects_steady n g (earlier ++ named ∷ []) (at + 24)
    (omega (arith, e, length-append earlier (named ∷ []))))
    (object_steady g earlier (length earlier) at e)

pub table_steady : (g : Geometry)
    → Steady ends IsField 12 (λ (table : List Named). rows_start table) (λ b. table_at g 12 b)
unfolding table_at
table_steady g =
    then_steady ends IsField 12 (λ count. 14) (λ table. rows_start table)
    (field_at w16 (λ count. nat_le count 256) kinds.Object 12)
    (λ count b. objects_at count g [] 14 b) (λ count. objects_steady count g [] 14 refl)
    (field_steady ends IsField w16 (λ count. nat_le count 256) kinds.Object 12 Objects
    (omega arith) object_rule)

pub geometry_steady : Steady ends IsField 6 (λ (g : Geometry). 12) (λ b. geometry_at 6 b)
unfolding geometry_at
geometry_steady =
    let broken : IsRule ends kinds.Geometry = ((λ e. cc), (λ e. cc)) in
    then_steady ends IsField 6 (λ banks. 8) (λ g. 12)
    (field_at w16 (is_between 1 16) kinds.Geometry 6)
    (λ banks b. field_at w16 (is_between 64 1006) kinds.Geometry 8 b >>= λ rows.
    field_at w16 (λ words. is_between 1 1024 words
    && fits_size (record { banks = banks; rows = rows; words = words })) kinds.Geometry 10 b
    >>= λ words. Ok (record { banks = banks; rows = rows; words = words }))
    (λ banks. then_steady ends IsField 8 (λ rows. 10) (λ g. 12)
    (field_at w16 (is_between 64 1006) kinds.Geometry 8)
    (λ rows b. field_at w16 (λ words. is_between 1 1024 words
    && fits_size (record { banks = banks; rows = rows; words = words })) kinds.Geometry 10 b
    >>= λ words. Ok (record { banks = banks; rows = rows; words = words }))
    (λ rows. then_steady ends IsField 10 (λ words. 12) (λ g. 12)
    (field_at w16 (λ words. is_between 1 1024 words
    && fits_size (record { banks = banks; rows = rows; words = words })) kinds.Geometry 10)
    (λ words b. Ok (record { banks = banks; rows = rows; words = words }))
    (λ words. pure_steady ends IsField 12
    (record { banks = banks; rows = rows; words = words }) (λ g. 12) refl)
    (field_steady ends IsField w16 (λ words. is_between 1 1024 words
    && fits_size (record { banks = banks; rows = rows; words = words })) kinds.Geometry 10 Words
    (omega arith) broken))
    (field_steady ends IsField w16 (is_between 64 1006) kinds.Geometry 8 Rows (omega arith)
    broken))
    (field_steady ends IsField w16 (is_between 1 16) kinds.Geometry 6 Banks (omega arith)
    broken)
