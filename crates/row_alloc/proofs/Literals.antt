-- The symbolic run's answer, as a test
use Rattle.row_alloc.proofs.Common.{◌≡◌, Bool, true, false, ap, Some, None, Lit}
use Rattle.std.proofs.Common.{Option}
use Rattle.row_alloc.specs.Symbolic.{lit_eq}
use Rattle.row_alloc.proofs.Sound.{lit-eq-true}

-- the answer is this literal
abbrev pub is_literal : Option Lit → Lit → Bool
is_literal None l = false
is_literal (Some m) l = lit_eq m l

pub is-literal : (o : Option Lit) (l : Lit) → is_literal o l ≡ true → o ≡ Some l
is-literal None l h = absurd cc
is-literal (Some m) l h = ap Some (lit-eq-true m l h)
