-- Operands and the objects that they are in.
use Rattle.machine_model.proofs.Common.{bytes_eq, Geometry, Banks, Object, AreApart, Place}
use Rattle.std.specs.Prelude.{◌≡◌, ℕ, ◌+◌, true, false, List, [], ◌∷◌}
use Rattle.machine_model.specs.Columns.{columns}
use Rattle.machine_model.specs.Places.{cut, is_past}

-- an operand whose name is this object's is a part of it, and any other is apart from it
pub record IsPlaced (table_rows : Place → Object) (name : List ℕ) (o : Object) (count : ℕ)
    (d : Place) : Type 0 where
  pub own : bytes_eq name d.name ≡ true → (table_rows d ≡ cut d.part o)
      × (is_past d.part o ≡ false) × (o.count ≡ count)
  pub other : bytes_eq name d.name ≡ false → AreApart o (table_rows d)

-- the destinations' rows spell the results, from this one on
abbrev pub AreResults : Geometry → Banks → (Place → Object) → (ℕ → List ℕ) → ℕ → List Place → Type 0
AreResults g banks rows result k [] = Unit {0}
AreResults g banks rows result k (d ∷ dsts) = (columns g banks (rows d) ≡ result k)
    × AreResults g banks rows result (k + 1) dsts
