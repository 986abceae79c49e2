-- A machine's table is read again from the bytes that spell it.
use Rattle.sim_machine.proofs.Common.{◌≡◌, ℕ, ◌+◌, ◌*◌, true, List, ◌++◌, length, sym, ap, ◌∙◌}
use Rattle.sim_machine.proofs.Common.{arith, All, flat_map, Geometry, LiesOn, Ok, append-nil}
use Rattle.std.specs.Int.{w16, to_le_bytes}
use Rattle.std.proofs.lemmas.List.{length-append, drop_all}
use Rattle.text_lex.specs.Spelled.{fits_name}
use Rattle.object_alloc.specs.Listed.{Listing}
use Rattle.object_alloc.specs.Reading.{table_at}
use Rattle.object_alloc.specs.Spelling.{object_bytes, table_bytes}
use Rattle.object_alloc.proofs.Exact.{objects_size}
use Rattle.object_alloc.proofs.Images.{table_again}

pub table_read : (g : Geometry) (table : Listing) → LiesOn g table
    → All (λ named. fits_name named.0 ≡ true) table.pairs
    → table_at g 0 (table_bytes table.pairs) ≡ Ok table.pairs
table_read g table lies names =
    let pairs = table.pairs in
    let bytes = table_bytes pairs in
    let long : length bytes ≡ 2 + 24 * length pairs =
    length-append (to_le_bytes w16 (length pairs)) (flat_map object_bytes pairs)
    ∙ omega (arith, objects_size pairs names) in
    table_again g 0 bytes pairs lies.geometry
    (record { listed = lies.listed; names = names; objects = lies.objects })
    (record {
      parts = sym (ap (λ (rest : List ℕ). bytes ++ rest)
          (drop_all (0 + 2 + 24 * length pairs) bytes (omega (arith, long))) ∙ append-nil bytes);
      ends = omega (arith, long);
      within = omega (arith, long);
    })
