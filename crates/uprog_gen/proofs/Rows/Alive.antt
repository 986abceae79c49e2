-- Which states stand in cells between rounds.
use Rattle.uprog_gen.proofs.Common.{ℕ, List, AllByRecursion, Column, StandsIn, Cells, Spot, Spots}

abbrev pub state_spot : ℕ → Spot
state_spot w = record { space = Cells; which = w; index = 0 }

-- each of these states stands in its cells
abbrev pub AreStanding : Spots → Column → List ℕ → Type 0
AreStanding bits s states = AllByRecursion (λ w. StandsIn s w (bits (state_spot w))) states
