-- Values of few bits.
use Rattle.object_steps.proofs.Common.{◌≡◌, ℕ, ◌/◌, ◌<◌, ◌≤◌, true, false, not, refl, arith, nat_le}
use Rattle.object_steps.proofs.Common.{inl, inr, cases_lt, nat_tests, ◌^◌, nat_lt}
use Rattle.std.proofs.Common.{nat_eq}
use Rattle.std.proofs.Math.Nat.{div-eq_of_lt}
use Rattle.std.proofs.Math.Pow.{pow_mono}
use Rattle.std.proofs.lemmas.Nat.{le-div}

divides : (v m : ℕ) → 0 < m → not (nat_eq (v / m) 0) ≡ nat_le m v
divides v m some = elim (cases_lt v m) [
  | inl lt ↦ (let none : v / m ≡ 0 = div-eq_of_lt lt in
      let less : nat_le m v ≡ false = grind (arith, nat_tests) in
      rw (none, less) refl)
  | inr ge ↦ (let one : 1 ≤ v / m = le-div 1 v m some (omega arith) in
      let more : nat_le m v ≡ true = grind (arith, nat_tests) in
      let differs : nat_eq (v / m) 0 ≡ false = grind (arith, nat_tests) in
      rw (differs, more) refl)
]

-- a value has a bit at or above bit n where it is not less than 2 ^ n
pub has_more : (v n : ℕ) → not (nat_eq (v / 2 ^ n) 0) ≡ nat_le (2 ^ n) v
has_more v n =
    let less : 0 ≤ n = omega arith in
    let one : 2 ^ 0 ≤ 2 ^ n = pow_mono less in
    divides v (2 ^ n) (omega arith)

pub has_no_more : (v n : ℕ) → 128 ≤ n → v < 2 ^ 128 → nat_lt n 128 ≡ nat_le (2 ^ n) v
has_no_more v n wide small =
    let most : 2 ^ 128 ≤ 2 ^ n = pow_mono wide in
    let less : v < 2 ^ n = omega (arith, most, small) in
    let no : nat_le (2 ^ n) v ≡ false = grind (arith, nat_tests) in
    let past : nat_lt n 128 ≡ false = grind (arith, nat_tests) in
    rw (no, past) refl
