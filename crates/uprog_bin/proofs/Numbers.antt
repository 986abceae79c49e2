-- The numbers of versions.
use Rattle.uprog_bin.proofs.Common.{◌≡◌, ℕ, ◌^◌, ◌<◌, Bool, true, false, ◌||◌, eqb, refl, arith}
use Rattle.uprog_bin.proofs.Common.{◌⊎◌, inl, inr, eqb-true}
use Rattle.uprog_bin.specs.Reading.{is_version}

one_or_two : (v : ℕ) (a b : Bool) → (a ≡ true → v ≡ 1) → (b ≡ true → v ≡ 2) → (a || b) ≡ true
    → (v ≡ 1) ⊎ (v ≡ 2)
one_or_two v true b p q h = inl (p refl)
one_or_two v false b p q h = inr (q h)

pub is_one_or_two : (v : ℕ) → is_version v ≡ true → (v ≡ 1) ⊎ (v ≡ 2)
is_one_or_two v h = one_or_two v (eqb v 1) (eqb v 2) (eqb-true v 1) (eqb-true v 2) h

pub version_small : (v : ℕ) → is_version v ≡ true → v < 2 ^ 16
version_small v h = elim (is_one_or_two v h) [
  | inl one ↦ omega arith
  | inr two ↦ omega arith
]
