-- The byte of kinds.
use Rattle.uprog_bin.proofs.Common.{ℕ, zero, suc, ◌*◌, ◌<◌, ◌≤◌, List, [], ◌∷◌, length, arith, Kind}
use Rattle.uprog_bin.proofs.Common.{Word, Bit}
use Rattle.uprog_bin.specs.Spelling.{kind_bits}

abbrev limit : ℕ → ℕ
limit zero = 1
limit (suc n) = 2 * limit n

below : (ks : List Kind) → kind_bits ks < limit (length ks)
below [] = omega arith
below (Word ∷ ks) = let h = below ks in omega arith
below (Bit ∷ ks) = let h = below ks in omega arith

limit_small : (n : ℕ) → n ≤ 4 → limit n ≤ 16
limit_small zero h = omega arith
limit_small (suc zero) h = omega arith
limit_small (suc (suc zero)) h = omega arith
limit_small (suc (suc (suc zero))) h = omega arith
limit_small (suc (suc (suc (suc zero)))) h = omega arith
limit_small (suc (suc (suc (suc (suc n))))) h = absurd (omega arith)

pub kind_bits_small : (ks : List Kind) → length ks ≤ 4 → kind_bits ks ≤ 15
kind_bits_small ks h = omega (arith, below ks, limit_small (length ks) h)
