-- Bytes that are put in place of others.
use Rattle.std.specs.Prelude.{◌≡◌, ℕ, ◌+◌, List, ◌++◌, length, take, drop}

-- these bytes stand at a place, and all others are as they were
abbrev pub IsPut : ℕ → List ℕ → List ℕ → List ℕ → Type 0
IsPut at bytes old new = new ≡ take at old ++ (bytes ++ drop (at + length bytes) old)
