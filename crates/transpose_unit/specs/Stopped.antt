-- The banks of a chip that failed among several calls.
use Rattle.std.specs.Prelude.{◌≡◌, ℕ, ◌<◌, List, [], ◌∷◌, ◌++◌}
use Rattle.dram_model.specs.Chip.{Banks, Event, after, bank_of, SameBut}

-- the next call is on this bank: that of the next event or, after the last, a read of a row in one
-- of the first so many banks
abbrev pub IsNext : (reads : ℕ) → List Event → ℕ → Type 0
IsNext reads [] bank = bank < reads
IsNext reads (event ∷ left) bank = bank ≡ bank_of event

-- A call failed among these events, or among the reads after them: those before it are done, its
-- bank is unspecified, and every other bank stands where they leave it
pub record StoppedWithin (reads : ℕ) (events : List Event) (old new : Banks) : Type 0 where
  pub done : List Event
  pub left : List Event
  pub all : done ++ left ≡ events
  pub bank : ℕ
  pub failed : IsNext reads left bank
  pub others : SameBut bank (after done old) new
