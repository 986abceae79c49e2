-- When an event of a flow is fine: a body's rows are in range, no register leaves its range, and no
-- loop has more iterations than the width.
use Rattle.loop_laws.proofs.Common.{◌≡◌, ℕ, ◌+◌, ◌≤◌, true, List, refl, slice_index, Move, SetI}
use Rattle.loop_laws.proofs.Common.{SetN, SetT, Mov, AddI, SubI, Add, EventOf, Done, Moved, Counted}
use Rattle.loop_laws.proofs.Common.{is_safe}
use Rattle.std.proofs.lemmas.Bool.{le-leb}

-- no register leaves its range
abbrev pub IsSafe : Move → List ℕ → Type 0
IsSafe (SetI r k) g = Unit {0}
IsSafe (SetN r) g = Unit {0}
IsSafe (SetT r) g = Unit {0}
IsSafe (Mov r s) g = Unit {0}
IsSafe (AddI r k) g = slice_index g r + k ≤ 1023
IsSafe (SubI r k) g = k ≤ slice_index g r
IsSafe (Add r s) g = slice_index g r + slice_index g s ≤ 1023

pub safe_is : (m : Move) (g : List ℕ) → IsSafe m g → is_safe m g ≡ true
safe_is (AddI r k) g h = le-leb (slice_index g r + k) 1023 h
safe_is (SubI r k) g h = le-leb k (slice_index g r) h
safe_is (Add r s) g h = le-leb (slice_index g r + slice_index g s) 1023 h
safe_is m g h = refl

module _ (A S : Type 0) (n : ℕ) (InRange : A → List ℕ → S → Type 0) where
  abbrev pub Fine : EventOf A → S → Type 0
  Fine (Done b g) s = InRange b g s
  Fine (Moved m g) s = IsSafe m g
  Fine (Counted r g) s = slice_index g r ≤ n
