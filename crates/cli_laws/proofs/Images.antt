-- An accepted image is never too long, and its objects are ones that an image may have.
use Rattle.cli_laws.proofs.Common.{◌≡◌, ℕ, ◌+◌, ◌≤◌, true, List, [], ◌∷◌, ◌++◌, length, ap, refl}
use Rattle.cli_laws.proofs.Common.{subst, arith, Option, Some, None, Result, Ok, Err, result_ok}
use Rattle.cli_laws.proofs.Common.{WIDTH_MAX, Geometry, Named, IsObject, Found, ImageFault}
use Rattle.cli_laws.proofs.Common.{image_in, Image, IMAGE_MAX, read_as, image_found, image_of}
use Rattle.cli_laws.proofs.Common.{image_or_refusal}
use Rattle.std.proofs.Common.{zero, suc, ◌*◌, length-append}
use Rattle.std.specs.Prelude.{All, ◌&&◌, nat_le}
use Rattle.std.specs.Int.{w8, w16, w32}
use Rattle.std.proofs.lemmas.List.Elements.{All-push}
use Rattle.std.proofs.lemmas.Bool.{leb-true}
use Rattle.file_fields.specs.Fields.{◌>>=◌, rule}
use Rattle.file_fields.proofs.Held.{bind_ok, field_passes, ok_is}
use Rattle.file_fields.proofs.Padded.{between_is, both}
use Rattle.dram_model.specs.Geometry.{fits_size, is_between}
use Rattle.dram_model.specs.Elements.{column_count}
use Rattle.object_alloc.specs.declared.fault.ImageKind.{ImageKind}
use Rattle.object_alloc.specs.Free.{are_free}
use Rattle.object_alloc.specs.Listed.{limit_of, objects_of}
use Rattle.object_alloc.specs.Reading.{count_at, field_at, geometry_at, name_at, object_at}
use Rattle.object_alloc.specs.Reading.{objects_at, opening_in, place_at, rows_at, rows_start}
use Rattle.object_alloc.specs.Reading.{table_at}
use Rattle.object_alloc.proofs.Images.{rows_take}
use Rattle.object_alloc.specs.declared.fault.ImageKind.TheVariants as kinds

-- so many objects are read
objects_counted : (n : ℕ) (g : Geometry) (earlier : List Named) (at : ℕ) (bytes : List ℕ)
    (all : List Named) → objects_at n g earlier at bytes ≡ Ok all
    → length all ≡ n + length earlier
unfolding objects_at
objects_counted zero g earlier at bytes all e =
    let same = ap length (ok_is {K = ImageKind} earlier all e) in omega (arith, same)
objects_counted (suc n) g earlier at bytes all e =
    let a = bind_ok (object_at g earlier at bytes) (λ named.
    objects_at n g (earlier ++ named ∷ []) (at + 24) bytes) all e in
    let rest = objects_counted n g (earlier ++ a.0 ∷ []) (at + 24) bytes all a.2 in
    let more = length-append earlier (a.0 ∷ []) in
    omega (arith, rest, more)

table_small : (g : Geometry) (at : ℕ) (bytes : List ℕ) (table : List Named)
    → table_at g at bytes ≡ Ok table → length table ≤ 256
unfolding table_at
table_small g at bytes table e =
    let a = bind_ok (field_at w16 (λ count. nat_le count 256) kinds.Object at bytes) (λ count.
    objects_at count g [] (at + 2) bytes) table e in
    let passes = field_passes kinds.Short w16 (λ count. nat_le count 256) kinds.Object at bytes a.0
    a.1 in
    let few = leb-true a.0 256 passes in
    let counted = objects_counted a.0 g [] (at + 2) bytes table a.2 in
    omega (arith, few, counted)

geometry_small : (at : ℕ) (bytes : List ℕ) (g : Geometry) → geometry_at at bytes ≡ Ok g
    → fits_size g ≡ true
unfolding geometry_at
geometry_small at bytes g e =
    let third : ℕ → ℕ → Result ℕ _ = λ banks rows. field_at w16 (λ words. is_between 1 1024 words
    && fits_size (record { banks = banks; rows = rows; words = words })) kinds.Geometry (at + 4)
    bytes in
    let a = bind_ok (field_at w16 (is_between 1 16) kinds.Geometry at bytes)
    (λ banks. field_at w16 (is_between 64 1006) kinds.Geometry (at + 2) bytes >>= λ rows. third
    banks rows >>= λ words. Ok (record { banks = banks; rows = rows; words = words })) g e in
    let b = bind_ok (field_at w16 (is_between 64 1006) kinds.Geometry (at + 2) bytes)
    (λ rows. third a.0 rows >>= λ words. Ok (record {
      banks = a.0;
      rows = rows;
      words = words;
    })) g a.2 in
    let c = bind_ok (third a.0 b.0) (λ words. Ok
    (record { banks = a.0; rows = b.0; words = words })) g b.2 in
    let made : Geometry = record { banks = a.0; rows = b.0; words = c.0 } in
    let passes = field_passes kinds.Short w16 (λ words. is_between 1 1024 words
    && fits_size (record { banks = a.0; rows = b.0; words = words })) kinds.Geometry (at + 4) bytes
    c.0 c.1 in
    let fits = both (is_between 1 1024 c.0) (fits_size made) passes in
    subst (λ (x : Geometry). fits_size x ≡ true) (ok_is {K = ImageKind} made g c.2) fits.1

pub image_within : (bytes : List ℕ) (found : Found) → image_in bytes ≡ Ok found
    → length bytes ≤ IMAGE_MAX
unfolding image_in
image_within bytes found e =
    let a = bind_ok (opening_in bytes) (λ _. geometry_at 6 bytes >>= λ g.
    table_at g 12 bytes >>= λ table. rows_at g (rows_start table) bytes >>= λ rows. Ok
    (record { geometry = g; table = table; rows = rows })) found e in
    let b = bind_ok (geometry_at 6 bytes) (λ g.
    table_at g 12 bytes >>= λ table. rows_at g (rows_start table) bytes >>= λ rows. Ok
    (record { geometry = g; table = table; rows = rows })) found a.2 in
    let c = bind_ok (table_at b.0 12 bytes) (λ table. rows_at b.0 (rows_start table) bytes >>=
    λ rows. Ok (record { geometry = b.0; table = table; rows = rows })) found b.2 in
    let d = bind_ok (rows_at b.0 (rows_start c.0) bytes)
    (λ rows. Ok (record { geometry = b.0; table = c.0; rows = rows })) found c.2 in
    let size = leb-true (b.0.banks * b.0.rows * b.0.words) 8388608 (geometry_small 6 bytes b.0 b.1)
    in
    let few = table_small b.0 12 bytes c.0 c.1 in
    let rows = rows_take b.0 (rows_start c.0) bytes d.0 d.1 in
    let ends = rows.0.ends in
    let long = rows.1 in
    omega (arith, size, few, ends, long)

-- the objects

wide_at : (g : Geometry) (earlier : List Named) (at : ℕ) (bytes : List ℕ) (x : ℕ × ℕ)
    → place_at g earlier at bytes ≡ Ok x → is_between 1 WIDTH_MAX x.0 ≡ true
unfolding place_at
wide_at g earlier at bytes x e =
    let apart : ℕ → ℕ → Result (ℕ × ℕ) ImageFault = λ width base.
    rule (are_free (limit_of g) (objects_of earlier) width base) (at + 1) kinds.Overlap >>=
    λ _. Ok (width, base) in
    let a = bind_ok (field_at w8 (is_between 1 WIDTH_MAX) kinds.Object at bytes) (λ width.
    field_at w16 (λ base. nat_le (base + width) (limit_of g)) kinds.Object (at + 1) bytes
    >>= λ base. apart width base) x e in
    let b = bind_ok (field_at w16 (λ base. nat_le (base + a.0) (limit_of g)) kinds.Object (at + 1)
    bytes) (λ base. apart a.0 base) x a.2 in
    let c = bind_ok (rule (are_free (limit_of g) (objects_of earlier) a.0 b.0) (at + 1)
    kinds.Overlap) (λ _. Ok (a.0, b.0)) x b.2 in
    subst (λ (y : ℕ × ℕ). is_between 1 WIDTH_MAX y.0 ≡ true)
    (ok_is {K = ImageKind} (a.0, b.0) x c.2)
    (field_passes kinds.Short w8 (is_between 1 WIDTH_MAX) kinds.Object at bytes a.0 a.1)

object_is : (g : Geometry) (earlier : List Named) (at : ℕ) (bytes : List ℕ) (named : Named)
    → object_at g earlier at bytes ≡ Ok named → IsObject g named.1
unfolding object_at count_at
object_is g earlier at bytes named e =
    let made : List ℕ → ℕ × ℕ → ℕ → Named = λ name place count. (
      name,
      record { base = place.1; width = place.0; count = count },
    ) in
    let a = bind_ok (name_at earlier at bytes) (λ name. place_at g earlier (at + 17) bytes >>=
    λ place. count_at g (at + 20) bytes >>= λ count. Ok (made name place count)) named e in
    let b = bind_ok (place_at g earlier (at + 17) bytes) (λ place.
    count_at g (at + 20) bytes >>= λ count. Ok (made a.0 place count)) named a.2 in
    let c = bind_ok (count_at g (at + 20) bytes) (λ count. Ok (made a.0 b.0 count)) named b.2 in
    let wide = between_is 1 WIDTH_MAX b.0.0 (wide_at g earlier (at + 17) bytes b.0 b.1) in
    let most = column_count g * g.banks in
    let some = between_is 1 most c.0
    (field_passes kinds.Short w32 (is_between 1 most) kinds.Object (at + 20) bytes c.0 c.1) in
    subst (λ (y : Named). IsObject g y.1) (ok_is {K = ImageKind} (made a.0 b.0 c.0) named c.2)
    (record { wide = wide.0; narrow = wide.1; some = some.0; fits = some.1 })

abbrev AreObjects : Geometry → List Named → Type 0
AreObjects g table = All (λ named. IsObject g named.1) table

objects_are : (n : ℕ) (g : Geometry) (earlier : List Named) (at : ℕ) (bytes : List ℕ)
    (all : List Named) → AreObjects g earlier → objects_at n g earlier at bytes ≡ Ok all
    → AreObjects g all
unfolding objects_at
objects_are zero g earlier at bytes all h e =
    subst (AreObjects g) (ok_is {K = ImageKind} earlier all e) h
objects_are (suc n) g earlier at bytes all h e =
    let a = bind_ok (object_at g earlier at bytes) (λ named.
    objects_at n g (earlier ++ named ∷ []) (at + 24) bytes) all e in
    objects_are n g (earlier ++ a.0 ∷ []) (at + 24) bytes all
    (All-push (λ named. IsObject g named.1) earlier a.0 h
    (object_is g earlier at bytes a.0 a.1)) a.2

table_is : (g : Geometry) (at : ℕ) (bytes : List ℕ) (table : List Named)
    → table_at g at bytes ≡ Ok table → AreObjects g table
unfolding table_at
table_is g at bytes table e =
    let a = bind_ok (field_at w16 (λ count. nat_le count 256) kinds.Object at bytes) (λ count.
    objects_at count g [] (at + 2) bytes) table e in
    objects_are a.0 g [] (at + 2) bytes table (λ k d l. absurd (omega arith)) a.2

found_objects : (bytes : List ℕ) (found : Found) → image_in bytes ≡ Ok found
    → AreObjects found.geometry found.table
unfolding image_in
found_objects bytes found e =
    let a = bind_ok (opening_in bytes) (λ _. geometry_at 6 bytes >>= λ g.
    table_at g 12 bytes >>= λ table. rows_at g (rows_start table) bytes >>= λ rows. Ok
    (record { geometry = g; table = table; rows = rows })) found e in
    let b = bind_ok (geometry_at 6 bytes) (λ g.
    table_at g 12 bytes >>= λ table. rows_at g (rows_start table) bytes >>= λ rows. Ok
    (record { geometry = g; table = table; rows = rows })) found a.2 in
    let c = bind_ok (table_at b.0 12 bytes) (λ table. rows_at b.0 (rows_start table) bytes >>=
    λ rows. Ok (record { geometry = b.0; table = table; rows = rows })) found b.2 in
    let d = bind_ok (rows_at b.0 (rows_start c.0) bytes)
    (λ rows. Ok (record { geometry = b.0; table = c.0; rows = rows })) found c.2 in
    let made : Found = record { geometry = b.0; table = c.0; rows = d.0 } in
    subst (λ (f : Found). AreObjects f.geometry f.table) (ok_is {K = ImageKind} made found d.2)
    (table_is b.0 12 bytes c.0 c.1)

read_objects : (read : Result Found ImageFault) (i : Image)
    → ((found : Found) → read ≡ Ok found → AreObjects found.geometry found.table)
    → result_ok (image_or_refusal read) ≡ Some i → AreObjects i.geometry i.table
read_objects (Ok found) i h e =
    let same : image_found found ≡ i = cc in
    subst (λ (x : Image). AreObjects x.geometry x.table) same (h found refl)
read_objects (Err fault) i h e = absurd (cc)

-- the objects of an image that a file is read as
pub image_objects : (file : Option (List ℕ)) (i : Image) → read_as image_of file ≡ Some i
    → All (λ named. IsObject i.geometry named.1) i.table
image_objects None i e = absurd (cc)
image_objects (Some bytes) i e = read_objects (image_in bytes) i (found_objects bytes) e
