-- An image file is read exactly.
use Rattle.object_alloc.proofs.Common.{◌≡◌, ℕ, suc, ◌+◌, ◌*◌, true, List, [], ◌∷◌, ◌++◌, length, Ok}
use Rattle.object_alloc.proofs.Common.{refl, sym, ap, subst, ◌∙◌, arith, All, w16, w32, to_le_bytes}
use Rattle.object_alloc.proofs.Common.{flat_map, append-nil, length-append, flat_map-cons, Geometry}
use Rattle.object_alloc.proofs.Common.{fits_name, IsBytes, name_bytes, ◌>>=◌, Holds, Holds-then}
use Rattle.object_alloc.proofs.Common.{Holds-front, Holds-back, bind_ok, ok_is, name_size}
use Rattle.std.proofs.lemmas.List.{drop_all}
use Rattle.file_fields.proofs.Held.{Holds-fits}
use Rattle.object_alloc.specs.Listed.{Named}
use Rattle.object_alloc.specs.Spelling.{Rows, object_bytes, table_bytes, geometry_bytes}
use Rattle.object_alloc.specs.Spelling.{opening_bytes, head_bytes, rows_bytes, rows_in, image_bytes}
use Rattle.object_alloc.specs.Spelling.{IsImage}
use Rattle.object_alloc.specs.Reading.{opening_in, geometry_at, table_at, rows_start, rows_at}
use Rattle.object_alloc.specs.Reading.{Found, image_in}
use Rattle.object_alloc.specs.Exact.{ReadsExactly}
use Rattle.object_alloc.proofs.Images.{opening_takes, opening_again, geometry_takes, geometry_again}
use Rattle.object_alloc.proofs.Images.{IsListed, table_takes, table_again, rows_take, rows_again}
use Rattle.object_alloc.proofs.Rows.{rows-in, rows-shaped, rows-again, length-rows_bytes}

pub image_spelled : (bytes : List ℕ) (found : Found) → IsBytes bytes → image_in bytes ≡ Ok found
    → IsImage found.geometry found.table (rows_in found.geometry found.rows)
    × (bytes ≡ image_bytes found.geometry found.table (rows_in found.geometry found.rows))
unfolding image_in image_bytes
image_spelled bytes found fits e =
    let a = bind_ok (opening_in bytes) (λ _. geometry_at 6 bytes >>= λ g.
    table_at g 12 bytes >>= λ table. rows_at g (rows_start table) bytes >>= λ rows. Ok
    (record { geometry = g; table = table; rows = rows })) found e in
    let b = bind_ok (geometry_at 6 bytes) (λ g.
    table_at g 12 bytes >>= λ table. rows_at g (rows_start table) bytes >>= λ rows. Ok
    (record { geometry = g; table = table; rows = rows })) found a.2 in
    let c = bind_ok (table_at b.0 12 bytes) (λ table. rows_at b.0 (rows_start table) bytes >>=
    λ rows. Ok (record { geometry = b.0; table = table; rows = rows })) found b.2 in
    let d = bind_ok (rows_at b.0 (rows_start c.0) bytes)
    (λ rows. Ok (record { geometry = b.0; table = c.0; rows = rows })) found c.2 in
    let opening = opening_takes bytes a.0 fits a.1 in
    let geometry = geometry_takes 6 bytes b.0 fits b.1 in
    let table = table_takes b.0 12 bytes c.0 fits c.1 in
    let rows = rows_take b.0 (rows_start c.0) bytes d.0 d.1 in
    let start : Holds bytes 0 (head_bytes b.0 c.0) (rows_start c.0) =
    Holds-then bytes 0 opening_bytes 6 (geometry_bytes b.0 ++ table_bytes c.0) (rows_start c.0)
    opening (Holds-then bytes 6 (geometry_bytes b.0) 12 (table_bytes c.0) (rows_start c.0)
    geometry.0 table.0) in
    let whole = Holds-then bytes 0 (head_bytes b.0 c.0) (rows_start c.0) d.0 (length bytes) start
    rows.0 in
    let text : bytes ≡ head_bytes b.0 c.0 ++ d.0 =
    whole.parts ∙ ap (λ (rest : List ℕ). (head_bytes b.0 c.0 ++ d.0)
    ++ rest) (drop_all (length bytes) bytes (omega arith))
    ∙ append-nil (head_bytes b.0 c.0 ++ d.0) in
    let part = Holds-fits bytes (rows_start c.0) d.0 (length bytes) rows.0 fits in
    let again : rows_bytes b.0 (rows_in b.0 d.0) ≡ d.0 = rows-in b.0 d.0 part rows.1 in
    let is : IsImage b.0 c.0 (rows_in b.0 d.0) = record {
      geometry = geometry.1;
      listed = table.1.listed;
      names = table.1.names;
      objects = table.1.objects;
      shaped = λ bank row l m. rows-shaped b.0 d.0 bank row l m rows.1;
    } in
    let made : Found = record { geometry = b.0; table = c.0; rows = d.0 } in
    subst (λ (f : Found). IsImage f.geometry f.table (rows_in f.geometry f.rows)
    × (bytes ≡ image_bytes f.geometry f.table (rows_in f.geometry f.rows)))
    (ok_is made found d.2)
    (is, text ∙ ap (λ (r : List ℕ). head_bytes b.0 c.0 ++ r) (sym again))

-- the table of an image takes 24 bytes for each object
pub objects_size : (table : List Named) → All (λ named. fits_name named.0 ≡ true) table
    → length (flat_map object_bytes table) ≡ 24 * length table
objects_size [] h = refl
objects_size (named ∷ table) h =
    let one : length (object_bytes named) ≡ 24 =
    omega (
      arith,
      length-append (name_bytes named.0) (named.1.width
          ∷ to_le_bytes w16 named.1.base ++ to_le_bytes w32 named.1.count),
      name_size named.0 (h 0 named (omega arith)),
    ) in
    let rest = objects_size table (λ k d l. h (suc k) d (omega arith)) in
    let split : length (flat_map object_bytes (named ∷ table))
    ≡ length (object_bytes named) + length (flat_map object_bytes table) =
    ap length (flat_map-cons object_bytes named table)
    ∙ length-append (object_bytes named) (flat_map object_bytes table) in
    omega arith

pub image_read : (g : Geometry) (table : List Named) (rows : Rows) → IsImage g table rows
    → image_in (image_bytes g table rows) ≡ Ok (record {
      geometry = g;
      table = table;
      rows = rows_bytes g rows;
    })
unfolding image_in image_bytes
image_read g table rows is =
    let all : List ℕ = rows_bytes g rows in
    let bytes : List ℕ = head_bytes g table ++ rows_bytes g rows in
    let end : ℕ = length (head_bytes g table ++ rows_bytes g rows) in
    let table_len : length (table_bytes table) ≡ 2 + 24 * length table =
    length-append (to_le_bytes w16 (length table)) (flat_map object_bytes table)
    ∙ omega (arith, objects_size table is.names) in
    let rest_len : length (geometry_bytes g ++ table_bytes table) ≡ 8 + 24 * length table =
    length-append (geometry_bytes g) (table_bytes table) ∙ omega (arith, table_len) in
    let head_len : length (head_bytes g table) ≡ 14 + 24 * length table =
    length-append opening_bytes (geometry_bytes g ++ table_bytes table)
    ∙ omega (arith, rest_len) in
    let whole : Holds bytes 0 (head_bytes g table ++ all) end = record {
      parts = sym (ap (λ (rest : List ℕ). bytes ++ rest) (drop_all end bytes (omega arith))
          ∙ append-nil bytes);
      ends = omega arith;
      within = omega arith;
    } in
    let head = Holds-front bytes 0 (head_bytes g table) (rows_start table) all end whole
    (omega (arith, head_len)) in
    let last = Holds-back bytes 0 (head_bytes g table) (rows_start table) all end whole
    (omega (arith, head_len)) in
    let opening = Holds-front bytes 0 opening_bytes 6 (geometry_bytes g ++ table_bytes table)
    (rows_start table) head refl in
    let following = Holds-back bytes 0 opening_bytes 6 (geometry_bytes g ++ table_bytes table)
    (rows_start table) head refl in
    let geometry = Holds-front bytes 6 (geometry_bytes g) 12 (table_bytes table) (rows_start table)
    following refl in
    let listed = Holds-back bytes 6 (geometry_bytes g) 12 (table_bytes table) (rows_start table)
    following refl in
    let t : IsListed g table = record {
      listed = is.listed;
      names = is.names;
      objects = is.objects;
    } in
    rw (
      opening_again bytes opening,
      geometry_again 6 bytes g geometry is.geometry,
      table_again g 12 bytes table is.geometry t listed,
      rows_again g (rows_start table) bytes all last (length-rows_bytes g rows),
    ) refl

pub reads_exactly : ReadsExactly
reads_exactly = record {
  spelled = image_spelled;
  read = image_read;
  rows = λ g table rows bank row is l m. rows-again g rows bank row l m (is.shaped bank row l m);
}
