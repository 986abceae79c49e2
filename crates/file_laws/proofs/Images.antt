-- The fault that is told of an image file is one of the file.
use Rattle.std.proofs.Common.{ℕ, ◌+◌, List, ◌++◌, length, Result, Ok, Err, refl}
use Rattle.std.proofs.Common.{ap, inl, inr, arith}
use Rattle.std.specs.Prelude.{◌==◌, codes}
use Rattle.std.specs.Int.{w16}
use Rattle.std.specs.Str.{bytes_eq}
use Rattle.dram_model.specs.declared.geometry.Geometry.{Geometry}
use Rattle.file_fields.specs.Fields.{◌>>=◌, rule}
use Rattle.object_alloc.specs.declared.fault.ImageKind.TheVariants as kinds
use Rattle.object_alloc.specs.Reading.{ImageFault, bytes_at, field_at, geometry_at, image_in}
use Rattle.object_alloc.specs.Reading.{opening_in, rows_at, rows_size, rows_start, table_at}
use Rattle.file_laws.specs.Images.{ImageFaultsStand, IsField, ends}
use Rattle.file_laws.specs.Images.IsField.{Magic, Version}
use Rattle.file_laws.proofs.Steady.{IsWhole, Steady, bytes_steady, field_steady, pure_steady}
use Rattle.file_laws.proofs.Steady.{test_steady, then_steady}
use Rattle.file_laws.proofs.Closing.{Closes, Closing, closing_after, closing_stands, ended_at}
use Rattle.file_laws.proofs.Tables.{geometry_steady, table_steady}

opening_steady : Steady ends IsField 0 (λ (u : Unit {0}). 6) (λ b. opening_in b)
unfolding opening_in
opening_steady =
    test_steady ends IsField 0 0 4 (λ u. 6) (bytes_at 4 0)
    (λ magic. bytes_eq magic (codes "SDMI")) kinds.Magic
    (λ magic b. field_at w16 (λ version. version == 1) kinds.Version 4 b >>= λ version. Ok tt)
    Magic (omega arith) (omega arith) ((λ e. cc), (λ e. cc))
    (λ magic. then_steady ends IsField 4 (λ version. 6) (λ u. 6)
    (field_at w16 (λ version. version == 1) kinds.Version 4)
    (λ version b. Ok tt) (λ version. pure_steady ends IsField 6 tt (λ u. 6) refl)
    (field_steady ends IsField w16 (λ version. version == 1) kinds.Version 4 Version (omega arith)
    ((λ e. cc), (λ e. cc))))
    (bytes_steady ends IsField 4 0)

rows_closing : (g : Geometry) (at : ℕ) → Closing ends IsField at (λ b. rows_at g at b)
unfolding rows_at
rows_closing g at =
    closing_after ends IsField at (λ rows. at + rows_size g) (bytes_at (rows_size g) at)
    (λ rows b. rule (length b == at + rows_size g) (at + rows_size g) kinds.Rest >>= λ ended.
    Ok rows) (λ rows. ended_at ends IsField (at + rows_size g) rows (λ e. cc))
    (bytes_steady ends IsField (rows_size g) at)

-- a value made of what a reader that goes to the end gives
module _ {A B : Type 0} (s : ℕ) (r : List ℕ → Result A ImageFault) (h : A → B)
  where
    abbrev made : List ℕ → Result B ImageFault
    made b = r b >>= λ x. Ok (h x)

    abbrev made_of : Result A ImageFault → Result B ImageFault
    made_of v = v >>= λ x. Ok (h x)

    closes_made : (bytes : List ℕ) (v : Result A ImageFault) → Closes ends IsField s r bytes v
        → Closes ends IsField s made bytes (made_of v)
    closes_made bytes (Ok x) closes = λ other same lt. ap made_of (closes other same lt)
    closes_made bytes (Err e) (inl short) = inl short
    closes_made bytes (Err e) (inr (inl (p, broken, last, field, lt, q, again, short))) = inr (inl (
      p,
      broken,
      last,
      field,
      lt,
      q,
      λ other k. ap made_of (again other k),
      λ n a b. ap made_of (short n a b),
    ))
    closes_made bytes (Err e) (inr (inr (kind, p, lt, x, is))) =
        inr (inr (kind, p, lt, h x, ap made_of is))

    whole_made : (v : Result A ImageFault) → IsWhole ends v → IsWhole ends (made_of v)
    whole_made (Ok x) whole = tt
    whole_made (Err f) whole = whole

    mapped : Closing ends IsField s r → Closing ends IsField s (λ b. r b >>= λ x. Ok (h x))
    mapped closing = record {
      closes = λ bytes l. closes_made bytes (r bytes) (closing.closes bytes l);
      fills = λ bytes l. let on = closing.fills bytes l in
          (on.0, whole_made (r (bytes ++ on.0)) on.1);
    }

image_closing : Closing ends IsField 0 (λ b. image_in b)
unfolding image_in
image_closing =
    closing_after ends IsField 0 (λ u. 6) (λ b. opening_in b)
    (λ u b. geometry_at 6 b >>= λ g. table_at g 12 b >>= λ table. rows_at g (rows_start table) b
    >>= λ rows. Ok (record { geometry = g; table = table; rows = rows }))
    (λ u. closing_after ends IsField 6 (λ g. 12) (λ b. geometry_at 6 b)
    (λ g b. table_at g 12 b >>= λ table. rows_at g (rows_start table) b >>= λ rows.
    Ok (record { geometry = g; table = table; rows = rows }))
    (λ g. closing_after ends IsField 12 (λ table. rows_start table) (λ b. table_at g 12 b)
    (λ table b. rows_at g (rows_start table) b >>= λ rows.
    Ok (record { geometry = g; table = table; rows = rows }))
    (λ table. mapped (rows_start table) (λ b. rows_at g (rows_start table) b) (λ rows. record {
      geometry = g;
      table = table;
      rows = rows;
    }) (rows_closing g (rows_start table))) (table_steady g)) geometry_steady) opening_steady

pub faults_stand : ImageFaultsStand
faults_stand = closing_stands ends IsField image_in (λ e. cc) image_closing
