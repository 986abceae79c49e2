-- A number and its parts.
use Rattle.machine_model.proofs.Common.{List, [], ◌∷◌, ◌≡◌, ℕ, zero, suc, ◌+◌, ◌-◌, ◌*◌, ◌/◌, ◌%◌}
use Rattle.machine_model.proofs.Common.{◌^◌, ◌<◌, ◌≤◌, Bool, true, false, eqb, map, Some, refl, sym}
use Rattle.machine_model.proofs.Common.{◌∙◌, ap, arith, range_with_len, nat_tests, pow_pos}
use Rattle.machine_model.proofs.Common.{mod-eq_of_lt, value, bit_at, bit_number, D, Column, number}
use Rattle.machine_model.proofs.Common.{Object, has_row, Part}
use Rattle.std.proofs.lemmas.Nat.{pow-add}
use Rattle.std.proofs.Math.Nat.{pow-suc, add-mul-mod_self_left, add-mul-div_left, div-eq_of_lt}
use Rattle.std.proofs.Math.Nat.{div-div-eq-div-mul, mod-add-div}
use Rattle.machine_model.specs.Places.{cut, is_past, seen, put}
use Rattle.machine_model.specs.Laws.{PartsAreBits}

spread : (b x p y : ℕ) → b + 2 * (x + p * y) ≡ b + 2 * x + p * 2 * y
spread b x p y = omega arith

-- the number of some rows and of those after them
pub number_split : (base m n : ℕ) (s : Column)
    → number base (m + n) s ≡ number base m s + 2 ^ m * number (base + m) n s
number_split base zero n s =
    let z : 0 + n ≡ n = omega arith in
    let e : base + 0 ≡ base = omega arith in
    let same : number base (0 + n) s ≡ number (base + 0) n s =
    ap (λ k. number base k s) z ∙ ap (λ b. number b n s) (sym e) in
    omega (arith, same)
number_split base (suc m) n s =
    let e : base + 1 + m ≡ base + suc m = omega arith in
    let f : suc m + n ≡ suc (m + n) = omega arith in
    ap (λ k. number base k s) f
    ∙ ap (λ x. bit_number (s (D base)) + 2 * x) (number_split (base + 1) m n s)
    ∙ spread (bit_number (s (D base))) (number (base + 1) m s) (2 ^ m) (number (base + 1 + m) n s)
    ∙ ap (λ p. number base (suc m) s + p * number (base + 1 + m) n s) (sym (pow-suc 2 m))
    ∙ ap (λ k. number base (suc m) s + 2 ^ suc m * number k n s) e

bit_small : (b : Bool) → bit_number b < 2
bit_small true = omega arith
bit_small false = omega arith

pub number_below : (base n : ℕ) (s : Column) → number base n s < 2 ^ n
number_below base zero s = omega arith
number_below base (suc n) s =
    omega (arith, pow-suc 2 n, bit_small (s (D base)), number_below (base + 1) n s)

low_of : (a p x : ℕ) → a < p → (a + p * x) % p ≡ a
low_of a p x h = add-mul-mod_self_left a p x ∙ mod-eq_of_lt h

high_of : (a p x : ℕ) → a < p → (a + p * x) / p ≡ x
high_of a p x h = add-mul-div_left a x (omega (arith, h)) ∙ ap (λ q. q + x) (div-eq_of_lt h)
    ∙ omega arith

-- a number of n rows in three parts
abbrev pub parted : ℕ → ℕ → ℕ → ℕ → Column → ℕ
parted base n low size s = number base low s + 2 ^ low * (number (base + low) size s
    + 2 ^ size * number (base + low + size) (n - (low + size)) s)

three : (base n low size : ℕ) (s : Column) → low + size ≤ n
    → number base n s ≡ parted base n low size s
three base n low size s h =
    let e : n ≡ low + (size + (n - (low + size))) = omega arith in
    ap (λ k. number base k s) e ∙ number_split base low (size + (n - (low + size))) s
    ∙ ap (λ x. number base low s + 2 ^ low * x)
    (number_split (base + low) size (n - (low + size)) s)

pub within : (o : Object) (p : Part) → is_past (Some p) o ≡ false → p.low + p.size ≤ o.width
within o p h = grind (arith, nat_tests)

-- the rows of a part spell the part of the number
pub reads : (o : Object) (p : Part) (s : Column) → is_past (Some p) o ≡ false
    → number (cut (Some p) o).base (cut (Some p) o).width s
    ≡ seen (Some p) (number o.base o.width s)
reads o p s h =
    let low = number o.base p.low s in
    let mid = number (o.base + p.low) p.size s in
    let top = number (o.base + p.low + p.size) (o.width - (p.low + p.size)) s in
    sym (ap (λ v. v / 2 ^ p.low % 2 ^ p.size) (three o.base o.width p.low p.size s (within o p h))
    ∙ ap (λ v. v % 2 ^ p.size) (high_of low (2 ^ p.low) (mid + 2 ^ p.size * top)
    (number_below o.base p.low s))
    ∙ low_of mid (2 ^ p.size) top (number_below (o.base + p.low) p.size s))

rows_same : (s t : Column) (a n : ℕ) → ((row : ℕ) → a ≤ row → row < a + n → t (D row) ≡ s (D row))
    → map (λ row. t (D row)) (range_with_len a n) ≡ map (λ row. s (D row)) (range_with_len a n)
rows_same s t a zero e = refl
rows_same s t a (suc n) e = rw (
  e a (omega arith) (omega arith),
  rows_same s t (a + 1) n (λ row l m. e row (omega arith) (omega arith)),
) refl

-- the same rows spell the same number
pub number_same : (base n : ℕ) (s t : Column)
    → ((row : ℕ) → base ≤ row → row < base + n → t (D row) ≡ s (D row))
    → number base n t ≡ number base n s
number_same base n s t e = ap value (rows_same s t base n e)

-- a row from the base on, within the width, is the object's, and no other
pub has_from : (o : Object) (row : ℕ) → o.base ≤ row → row < o.base + o.width → has_row o row ≡ true
has_from o row a b = grind (arith, nat_tests)

pub has_before : (o : Object) (row : ℕ) → row < o.base → has_row o row ≡ false
has_before o row a = grind (arith, nat_tests)

pub has_past : (o : Object) (row : ℕ) → o.base + o.width ≤ row → has_row o row ≡ false
has_past o row a = grind (arith, nat_tests)

-- what is past a part of a number
past_of : (base n low size : ℕ) (s : Column) → low + size ≤ n
    → number base n s / 2 ^ (low + size)
    ≡ number (base + low + size) (n - (low + size)) s
past_of base n low size s h =
    let below = number base low s in
    let mid = number (base + low) size s in
    let top = number (base + low + size) (n - (low + size)) s in
    ap (λ d. number base n s / d) (pow-add 2 low size)
    ∙ sym (div-div-eq-div-mul (number base n s) (2 ^ low) (2 ^ size))
    ∙ ap (λ v. v / 2 ^ low / 2 ^ size) (three base n low size s h)
    ∙ ap (λ v. v / 2 ^ size) (high_of below (2 ^ low) (mid + 2 ^ size * top)
    (number_below base low s))
    ∙ high_of mid (2 ^ size) top (number_below (base + low) size s)

-- where the rows outside a part stay, the number has this part replaced
pub replaces : (o : Object) (p : Part) (s t : Column) → is_past (Some p) o ≡ false
    → ((row : ℕ) → has_row o row ≡ true → has_row (cut (Some p) o) row ≡ false
    → t (D row) ≡ s (D row))
    → number o.base o.width t ≡ put (Some p) (number o.base o.width s)
    (number (cut (Some p) o).base (cut (Some p) o).width t)
replaces o p s t h kept =
    let w = within o p h in
    let rest = o.width - (p.low + p.size) in
    let mid = number (o.base + p.low) p.size t in
    let low_same : number o.base p.low t ≡ number o.base p.low s =
    number_same o.base p.low s t (λ row a b. kept row (has_from o row a (omega (arith, b, w)))
    (has_before (cut (Some p) o) row b)) in
    let top_same : number (o.base + p.low + p.size) rest t
    ≡ number (o.base + p.low + p.size) rest s =
    number_same (o.base + p.low + p.size) rest s t (λ row a b.
    kept row (has_from o row (omega (arith, a)) (omega (arith, b, w)))
    (has_past (cut (Some p) o) row a)) in
    let low_is : number o.base o.width s % 2 ^ p.low ≡ number o.base p.low s =
    ap (λ v. v % 2 ^ p.low) (three o.base o.width p.low p.size s w)
    ∙ low_of (number o.base p.low s) (2 ^ p.low) (number (o.base + p.low) p.size s
    + 2 ^ p.size * number (o.base + p.low + p.size) rest s) (number_below o.base p.low s) in
    three o.base o.width p.low p.size t w
    ∙ ap (λ a. a + 2 ^ p.low * (mid + 2 ^ p.size * number (o.base + p.low + p.size) rest t))
    (low_same ∙ sym low_is)
    ∙ ap (λ x. number o.base o.width s % 2 ^ p.low + 2 ^ p.low * (mid + 2 ^ p.size * x))
    (top_same ∙ sym (past_of o.base o.width p.low p.size s w))

-- bits below what is added are the number's
bit_low : (a x k r : ℕ) → bit_at (a + 2 ^ (k + 1 + r) * x) k ≡ bit_at a k
bit_low a x k r =
    let e : 2 ^ (k + 1 + r) * x ≡ 2 ^ k * (2 * (2 ^ r * x)) =
    ap (λ q. q * x) (pow-add 2 (k + 1) r ∙ ap (λ q. q * 2 ^ r) (pow-add 2 k 1)) ∙ omega arith in
    ap (λ v. eqb ((a + v) / 2 ^ k % 2) 1) e
    ∙ ap (λ v. eqb (v % 2) 1) (add-mul-div_left a (2 * (2 ^ r * x)) (pow_pos k))
    ∙ ap (λ v. eqb v 1) (add-mul-mod_self_left (a / 2 ^ k) 2 (2 ^ r * x))

bit_below : (a x low k : ℕ) → k < low → bit_at (a + 2 ^ low * x) k ≡ bit_at a k
bit_below a x low k h =
    let e : low ≡ k + 1 + (low - (k + 1)) = omega arith in
    ap (λ l. bit_at (a + 2 ^ l * x) k) e ∙ bit_low a x k (low - (k + 1))

-- bits from some bit on are those of the quotient
bit_above : (v m k : ℕ) → bit_at v (m + k) ≡ bit_at (v / 2 ^ m) k
bit_above v m k = ap (λ q. eqb (v / q % 2) 1) (pow-add 2 m k)
    ∙ ap (λ q. eqb (q % 2) 1) (sym (div-div-eq-div-mul v (2 ^ m) (2 ^ k)))

mod_small : (v k : ℕ) → v % 2 ^ k < 2 ^ k
mod_small v k = omega (arith, pow_pos k)

seen_bit : (p : Part) (v k : ℕ) → k < p.size
    → bit_at (seen (Some p) v) k ≡ bit_at v (p.low + k)
seen_bit p v k h =
    let x = v / 2 ^ p.low in
    sym (bit_below (x % 2 ^ p.size) (x / 2 ^ p.size) p.size k h)
    ∙ ap (λ y. bit_at y k) (mod-add-div x (2 ^ p.size)) ∙ sym (bit_above v p.low k)

put_below : (p : Part) (old new k : ℕ) → k < p.low
    → bit_at (put (Some p) old new) k ≡ bit_at old k
put_below p old new k h =
    bit_below (old % 2 ^ p.low) (new + 2 ^ p.size * (old / 2 ^ (p.low + p.size))) p.low k h
    ∙ sym (bit_below (old % 2 ^ p.low) (old / 2 ^ p.low) p.low k h)
    ∙ ap (λ v. bit_at v k) (mod-add-div old (2 ^ p.low))

put_high : (p : Part) (old new : ℕ) → put (Some p) old new / 2 ^ p.low
    ≡ new + 2 ^ p.size * (old / 2 ^ (p.low + p.size))
put_high p old new = high_of (old % 2 ^ p.low) (2 ^ p.low)
    (new + 2 ^ p.size * (old / 2 ^ (p.low + p.size))) (mod_small old p.low)

put_inside : (p : Part) (old new k : ℕ) → k < p.size
    → bit_at (put (Some p) old new) (p.low + k) ≡ bit_at new k
put_inside p old new k h = bit_above (put (Some p) old new) p.low k
    ∙ ap (λ v. bit_at v k) (put_high p old new)
    ∙ bit_below new (old / 2 ^ (p.low + p.size)) p.size k h

put_past : (p : Part) (old new k : ℕ) → new < 2 ^ p.size → p.low + p.size ≤ k
    → bit_at (put (Some p) old new) k ≡ bit_at old k
put_past p old new k small h =
    let r = k - (p.low + p.size) in
    let e : k ≡ p.low + p.size + r = omega arith in
    let top : put (Some p) old new / 2 ^ (p.low + p.size) ≡ old / 2 ^ (p.low + p.size) =
    ap (λ d. put (Some p) old new / d) (pow-add 2 p.low p.size)
    ∙ sym (div-div-eq-div-mul (put (Some p) old new) (2 ^ p.low) (2 ^ p.size))
    ∙ ap (λ v. v / 2 ^ p.size) (put_high p old new)
    ∙ high_of new (2 ^ p.size) (old / 2 ^ (p.low + p.size)) small in
    ap (bit_at (put (Some p) old new)) e ∙ bit_above (put (Some p) old new) (p.low + p.size) r
    ∙ ap (λ v. bit_at v r) top ∙ sym (bit_above old (p.low + p.size) r) ∙ ap (bit_at old) (sym e)

-- a part of a number is its bits
pub parts_are_bits : PartsAreBits
parts_are_bits = record {
  read = seen_bit;
  small = λ p v. mod_small (v / 2 ^ p.low) p.size;
  inside = put_inside;
  below = put_below;
  past = put_past;
}

pub map_cong : {X Y : Type 0} (f h : X → Y) (xs : List X) → ((x : X) → f x ≡ h x)
    → map f xs ≡ map h xs
map_cong f h [] e = refl
map_cong f h (x ∷ xs) e = rw (e x, map_cong f h xs e) refl

pub map_map : {X Y Z : Type 0} (f : Y → Z) (h : X → Y) (xs : List X)
    → map f (map h xs) ≡ map (λ x. f (h x)) xs
map_map f h [] = refl
map_map f h (x ∷ xs) = ap (λ zs. f (h x) ∷ zs) (map_map f h xs)
