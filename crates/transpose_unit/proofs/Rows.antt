-- How many rows a stage has.
use Rattle.transpose_unit.proofs.Common.{◌≡◌, ℕ, ◌≤◌, ◌<◌, Bool, true, false, if◌then◌else◌, refl}
use Rattle.transpose_unit.proofs.Common.{arith, ◌+◌, ◌-◌, ◌*◌, ◌^◌, ◌/◌, nat_tests, mul-add-lt}
use Rattle.transpose_unit.proofs.Common.{bool_byte, WIDTH_MAX}
use Rattle.std.proofs.Common.{nat_le}
use Rattle.std.proofs.Math.Pow.{pow_mono}
use Rattle.transpose_unit.specs.Stage.{stage_rows}

pub rows-enough : (n : ℕ) → n ≤ WIDTH_MAX → n ≤ stage_rows n
rows-enough n l = at (nat_le n 64) refl
  where
    at : (b : Bool) → nat_le n 64 ≡ b → n ≤ (if b then 64 else 128)
    at true e = grind (arith, nat_tests, e)
    at false e = omega (arith, l)

-- a number of fewer bits than the greatest has room for one more
pub one-more : (n k v : ℕ) → 0 < k → k ≤ n → n ≤ WIDTH_MAX → v < 2 ^ (n - k)
    → 2 * v + 1 < 2 ^ WIDTH_MAX
one-more n k v some l narrow small =
    let less : n - k ≤ WIDTH_MAX - 1 = omega arith in
    let most : 2 ^ (n - k) ≤ 2 ^ (WIDTH_MAX - 1) = pow_mono less in
    omega (arith, most, small)

pub byte-small : (b : Bool) → bool_byte b ≤ 1
byte-small true = omega arith
byte-small false = omega arith

pub rows-low : (n : ℕ) → n ≤ 64 → stage_rows n ≡ 64
rows-low n l = let e : nat_le n 64 ≡ true = grind (arith, nat_tests, l) in rw e refl

pub rows-high : (n : ℕ) → 64 < n → stage_rows n ≡ 128
rows-high n l = let e : nat_le n 64 ≡ false = grind (arith, nat_tests, l) in rw e refl

-- a word of a row of the stage lies in the stage
pub placed : (rows n k j words column len : ℕ) → n ≤ rows → 0 < k → k ≤ n → j ≡ k - 1
    → rows * words ≡ len → column < 64 * words → j * words + column / 64 < len
placed rows n k j words column len many some l e whole inside =
    let word : column / 64 < words = omega arith in
    let row : j < rows = omega arith in
    omega (arith, mul-add-lt j words (column / 64) rows row word, whole)
