-- Rounds that do the same at the same rows.
use Rattle.std.specs.Prelude.{◌≡◌, ℕ, List, [], ◌∷◌}
use Rattle.loop_ir.specs.declared.ir.Place.{Place}
use Rattle.loop_ir.specs.Plain.{Block}
use Rattle.loop_ir.specs.Loops.{RoundOf, sub_value}

-- the place is a row of the same value, at the same index, in the second round as that one in the
-- first
pub record IsSameRow (n : ℕ) (r s : RoundOf Block) (p q : Place) : Type 0 where
  pub space : q.space ≡ p.space
  pub which : q.which ≡ p.which
  pub index : sub_value n s.i s.regs q.sub ≡ sub_value n r.i r.regs p.sub

-- so is each place of the second list, as the one in the first
abbrev pub AreSameRows : ℕ → RoundOf Block → RoundOf Block → List Place → List Place → Type 0
AreSameRows n r s [] [] = Unit {0}
AreSameRows n r s [] (q ∷ qs) = ⊥
AreSameRows n r s (p ∷ ps) [] = ⊥
AreSameRows n r s (p ∷ ps) (q ∷ qs) = IsSameRow n r s p q × AreSameRows n r s ps qs

-- the second round does what the first does, at the same rows
pub record IsLike (n : ℕ) (r s : RoundOf Block) : Type 0 where
  pub graph : s.part.graph ≡ r.part.graph
  pub outs : s.part.outs ≡ r.part.outs
  pub found : s.part.found ≡ r.part.found
  pub reads : AreSameRows n r s r.part.reads s.part.reads
  pub writes : AreSameRows n r s r.part.writes s.part.writes

-- so does each round of the second list, as the one in the first
abbrev pub AreLike : ℕ → List (RoundOf Block) → List (RoundOf Block) → Type 0
AreLike n [] [] = Unit {0}
AreLike n [] (s ∷ ss) = ⊥
AreLike n (r ∷ rs) [] = ⊥
AreLike n (r ∷ rs) (s ∷ ss) = IsLike n r s × AreLike n rs ss
