-- Bytes that are put piece by piece.
use Rattle.std.specs.Prelude.{◌≡◌, ℕ, List, ◌++◌}

-- the front of all was appended, and the rest was not
abbrev pub AppendsUpTo : List ℕ → List ℕ → List ℕ → List ℕ → Type 0
AppendsUpTo rest all old new = (front : List ℕ) × ((front ++ rest ≡ all) × (new ≡ old ++ front))
