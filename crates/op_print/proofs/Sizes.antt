-- The size of a value.
use Rattle.std.proofs.Common.{ℕ, ◌+◌}
use Rattle.op_text.specs.Language.{Term, Nought, Unity, Named, Negation, Conjunction, Disjunction}
use Rattle.op_text.specs.Language.{Parity, Majority}

-- how many parts it has
abbrev pub parts : Term → ℕ
parts Nought = 1
parts Unity = 1
parts (Named name) = 1
parts (Negation a) = parts a + 1
parts (Conjunction a b) = parts a + parts b + 1
parts (Disjunction a b) = parts a + parts b + 1
parts (Parity a b) = parts a + parts b + 1
parts (Majority a b c) = parts a + parts b + parts c + 1
