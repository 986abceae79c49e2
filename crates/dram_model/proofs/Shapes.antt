-- What is known of a shape that a chip may have.
use Rattle.std.proofs.Common.{◌≡◌, ◌<◌, ◌≤◌, true, arith}
use Rattle.std.proofs.lemmas.Bool.Decides.{nat_tests}
use Rattle.dram_model.specs.declared.geometry.Geometry.{Geometry}
use Rattle.dram_model.specs.Geometry.{is_geometry}

-- a shape that a chip may have has some word, and 1 to 16 banks
pub geometry_parts : (g : Geometry) → is_geometry g ≡ true → (0 < g.words) × (0 < g.banks)
    × (g.banks ≤ 16)
geometry_parts g h = (grind (arith, nat_tests), grind (arith, nat_tests), grind (arith, nat_tests))
