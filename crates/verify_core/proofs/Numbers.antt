-- Numbers that are equal have equal bits
use Rattle.verify_core.proofs.Common.{ℕ, zero, suc, ◌*◌, ◌<◌, Bool, true, false, List, [], ◌∷◌, map}
use Rattle.verify_core.proofs.Common.{slice_get, slice_index, refl, range_with_len, ap, arith}
use Rattle.verify_core.proofs.Common.{bit_number, D, Column, number, Kind, width, in_kind, numbers}
use Rattle.verify_core.proofs.Common.{kind_width, ◌≡◌, ◌+◌}
use Rattle.std.specs.Prelude.{drop}
use Rattle.bit_rows.specs.Bits.{value}
use Rattle.uprog_code.specs.Fits.{AreBelow}

-- a lowest bit and the rest
lowest : (x y : Bool) (p q : ℕ) → bit_number x + 2 * p ≡ bit_number y + 2 * q → (x ≡ y) × (p ≡ q)
lowest true true p q h = (refl, omega (arith, h))
lowest true false p q h = absurd (omega (arith, h))
lowest false true p q h = absurd (omega (arith, h))
lowest false false p q h = (refl, omega (arith, h))

range-bits : (f g : ℕ → Bool) (a w i : ℕ)
    → value (map f (range_with_len a w)) ≡ value (map g (range_with_len a w)) → i < w
    → f (a + i) ≡ g (a + i)
range-bits f g a zero i h l = absurd (omega arith)
range-bits f g a (suc w) zero h l =
    let e : a + 0 ≡ a = omega arith in
    rw e ((lowest (f a) (g a) (value (map f (range_with_len (a + 1) w)))
    (value (map g (range_with_len (a + 1) w))) h).0)
range-bits f g a (suc w) (suc i) h l =
    let e : a + suc i ≡ a + 1 + i = omega arith in
    rw e (range-bits f g (a + 1) w i ((lowest (f a) (g a)
    (value (map f (range_with_len (a + 1) w)))
    (value (map g (range_with_len (a + 1) w))) h).1) (omega arith))

pub numbers-bits : (p n : ℕ) (ks : List Kind) (bs : List ℕ) (s t : Column) (w i : ℕ)
    → AreBelow p n ks bs → numbers n ks bs s ≡ numbers n ks bs t
    → in_kind (slice_get ks w) n i ≡ true
    → s (D (slice_index bs w + i)) ≡ t (D (slice_index bs w + i))
numbers-bits p n [] bs s t w i f e h = absurd (cc)
numbers-bits p n (k ∷ ks) [] s t w i f e h = absurd f
numbers-bits p n (k ∷ ks) (b ∷ bs) s t zero i f e h =
    let l : i < width k n = kind_width k n i h in
    let first : number b (width k n) s ≡ number b (width k n) t =
    ap (λ (xs : List ℕ). slice_index xs 0) e in
    range-bits (λ r. s (D r)) (λ r. t (D r)) b (width k n) i first l
numbers-bits p n (k ∷ ks) (b ∷ bs) s t (suc w) i f e h =
    numbers-bits p n ks bs s t w i f.1 (ap (λ (xs : List ℕ). drop 1 xs) e) h
