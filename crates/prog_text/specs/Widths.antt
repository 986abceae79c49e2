-- The widths that a call asks for.
use Rattle.std.specs.Prelude.{ℕ, ◌<◌, ◌≤◌, ◌==◌, Bool, List, All, length}
use Rattle.bit_rows.specs.declared.TheConstants.{WIDTH_MAX}

-- each of the numbers is a width
abbrev pub AreWidths : List ℕ → Type 0
AreWidths widths = All (λ n. (0 < n) × (n ≤ WIDTH_MAX)) widths

-- it is one width alone
abbrev pub is_single : List ℕ → Bool
is_single widths = length widths == 1
