-- One row or one number more
use Rattle.verify_core.proofs.Common.{ℕ, zero, suc, ◌-◌, ◌*◌, ◌<◌, ◌≤◌, ◌^◌, Bool, List, [], ◌∷◌}
use Rattle.verify_core.proofs.Common.{◌++◌, map, slice_get, length, refl, range_with_len, sym, ◌∙◌}
use Rattle.verify_core.proofs.Common.{ap, arith, Some, bit_number, Column, number, Kind, width}
use Rattle.verify_core.proofs.Common.{numbers, bases, ◌≡◌, ◌+◌, take}
use Rattle.std.specs.Prelude.{slice_index_or}
use Rattle.std.proofs.Math.Pow.{pow_mono}
use Rattle.std.proofs.lemmas.List.{length-map}
use Rattle.std.proofs.lemmas.List.FromFn.{length-range_with_len}
use Rattle.bit_rows.specs.Bits.{value}
use Rattle.bit_rows.proofs.Words.{value-below}

-- the number of one row more, below the others
pub number-more : (s : ℕ → Bool) (base n k : ℕ) → 0 < k → k ≤ n
    → value (map s (range_with_len (base + (k - 1)) (n - (k - 1))))
    ≡ bit_number (s (base + (k - 1))) + 2 * value (map s (range_with_len (base + k) (n - k)))
number-more s base n k some within =
    let e : n - (k - 1) ≡ suc (n - k) = omega arith in
    let f : base + k ≡ base + (k - 1) + 1 = omega arith in
    rw (e, f) refl

pub number-small : (s : ℕ → Bool) (a w m : ℕ) → w ≤ m → value (map s (range_with_len a w)) < 2 ^ m
number-small s a w m l =
    let long : length (map s (range_with_len a w)) ≡ w =
    length-map (range_with_len a w) s ∙ length-range_with_len a w in
    let below : value (map s (range_with_len a w)) < 2 ^ w =
    rw long at (value-below (map s (range_with_len a w))) in
    let more : 2 ^ w ≤ 2 ^ m = pow_mono l in
    omega (arith, below, more)

-- one value more
pub numbers-more : (n s i : ℕ) (ks : List Kind) (k : Kind) (c : Column) → slice_get ks i ≡ Some k
    → numbers n (take (i + 1) ks) (bases n s (take (i + 1) ks)) c
    ≡ numbers n (take i ks) (bases n s (take i ks)) c ++ number (s + n * i) (width k n) c ∷ []
numbers-more n s i [] k c h = absurd (cc)
numbers-more n s zero (x ∷ ks) k c h =
    let e : s + n * 0 ≡ s = omega arith in
    let same : x ≡ k = cc in
    rw (e, same) refl
numbers-more n s (suc i) (x ∷ ks) k c h =
    let e : suc i + 1 ≡ suc (i + 1) = omega arith in
    let f : s + n + n * i ≡ s + n * suc i = omega arith in
    rw (e, ← f) (ap (λ xs. number s (width x n) c ∷ xs) (numbers-more n (s + n) i ks k c h))

pub numbers-next : (n s i next w v : ℕ) (ks : List Kind) (d : Kind) (c : Column) (xs : List ℕ)
    → i < length ks → xs ≡ numbers n (take i ks) (bases n s (take i ks)) c → next ≡ s + n * i
    → w ≡ width (slice_index_or ks i d) n → v ≡ number next w c
    → xs ++ v ∷ [] ≡ numbers n (take (i + 1) ks) (bases n s (take (i + 1) ks)) c
numbers-next n s i next w v ks d c xs l all from is value =
    rw (all, value, from, is) (sym (numbers-more n s i ks (slice_index_or ks i d) c (at ks i l)))
  where
    at : (ks : List Kind) (i : ℕ) → i < length ks → slice_get ks i ≡ Some (slice_index_or ks i d)
    at [] i l = absurd (omega arith)
    at (k ∷ ks) zero l = refl
    at (k ∷ ks) (suc i) l = at ks i (omega arith)
