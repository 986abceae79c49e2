-- What a body's places keep where the test on owners and subscripts passes.
use Rattle.loop_laws.proofs.Common.{ℕ, zero, suc, ◌<◌, Bool, true, false, List, [], ◌∷◌, length}
use Rattle.loop_ir.specs.declared.ir.Sub.TheVariants as sub
use Rattle.loop_laws.specs.Rooms.{Room, Owner, InRoom, InCells, Mark}

-- a place of a body, by its number
abbrev pub mark_at : List Mark → ℕ → Mark
mark_at [] k = record { owner = InRoom 0; sub = sub.Zero }
mark_at (m ∷ ms) zero = m
mark_at (m ∷ ms) (suc k) = mark_at ms k

-- there is such an owner
abbrev pub IsThere : List Room → Owner → Type 0
IsThere rooms (InRoom k) = k < length rooms
IsThere rooms (InCells w) = Unit {0}

-- the index is one of the loop's, where the body stands in one
abbrev pub IndexOk : ℕ → ℕ → Bool → Type 0
IndexOk n i true = i < n
IndexOk n i false = Unit {0}
