-- Ones, counted word by word and bank by bank.
use Rattle.scan_query.proofs.Common.{◌≡◌, ℕ, zero, suc, ◌+◌, ◌-◌, ◌*◌, ◌/◌, ◌^◌, ◌<◌, ◌≤◌, ◌==◌}
use Rattle.scan_query.proofs.Common.{Bool, true, false, cond, List, [], ◌∷◌, ◌++◌, map, length}
use Rattle.scan_query.proofs.Common.{length-append, get_or, take, drop, refl, sym, ◌∙◌, ap, arith}
use Rattle.scan_query.proofs.Common.{append-nil, count_by, flat_map, range_with_len}
use Rattle.scan_query.proofs.Common.{pow-le-pow_right, pow_pos, map-append, length-map}
use Rattle.scan_query.proofs.Common.{take-append-drop, bits_of_words, Banks, number, below}
use Rattle.std.proofs.Common.{◌%◌, min}
use Rattle.std.specs.Prelude.{count_ones}
use Rattle.std.specs.Int.Count.{ones}
use lib.Count.{ones_step, ones-le}
use Rattle.std.proofs.Math.Nat.{pow-succ', mod-eq_of_lt, mod-lt}
use Rattle.std.proofs.Math.Seq.{take-suc}
use Rattle.std.proofs.lemmas.List.Sums.{sum_by-cons, sum_by-append}
use Rattle.std.proofs.lemmas.Grind.{flat_map-append}
use Rattle.bit_rows.specs.Bits.{bits, bit_number, value}
use Rattle.bit_rows.proofs.Words.{length-bits, value-bits, bits-value, length-words}
use Rattle.dram_model.specs.declared.address.Cell.TheVariants.{D}
use Rattle.dram_model.specs.Column.{Column}
use Rattle.dram_model.specs.Chip.{row_in}
use Rattle.machine_model.proofs.Below.{below_length}
use Rattle.scan_query.proofs.Naming.{range_more}

digit_one : (r : ℕ) → r < 2 → r ≡ cond (r == 1) 1 0
digit_one zero l = refl
digit_one (suc zero) l = refl
digit_one (suc (suc r)) l = absurd (omega (arith, l))

none_set : (v : ℕ) → v < 2 ^ 0 → count_ones v ≡ 0
none_set v l = let f = ones-le 0 v l in omega (arith, f)

-- the ones of a number are those among its bits
pub ones_bits : (n v : ℕ) → v < 2 ^ n → count_ones v ≡ count_by (λ (b : Bool). b) (bits v n)
unfolding bits
ones_bits zero v l = none_set v l
ones_bits (suc n) v l =
    let half : v / 2 < 2 ^ n = omega (arith, l, pow-succ' 2 n) in
    ones_step v ∙ ap (λ k. k + ones (v / 2)) (digit_one (v % 2) (omega arith))
    ∙ ap (λ k. cond (v % 2 == 1) 1 0 + k) (ones_bits n (v / 2) half)
    ∙ sym (sum_by-cons (λ (b : Bool). cond b 1 0) (v % 2 == 1) (bits (v / 2) n))

pub low_bits : (v n : ℕ) → bits (v % 2 ^ n) n ≡ bits v n
low_bits v n =
    ap (λ m. bits m n) (sym (value-bits v n))
    ∙ ap (bits (value (bits v n))) (sym (length-bits v n)) ∙ bits-value (bits v n)

take_nothing : {X : Type 0} (n : ℕ) (ys : List X) → take n ys ≡ take (n - 0) ys
take_nothing n ys = let same : n ≡ n - 0 = omega arith in ap (λ k. take k ys) same

take_plus : {X : Type 0} (n : ℕ) (xs ys : List X)
    → take n (xs ++ ys) ≡ take n xs ++ take (n - length xs) ys
take_plus zero [] ys = refl
take_plus (suc n) [] ys = take_nothing (suc n) ys
take_plus zero (x ∷ xs) ys = let same : 0 ≡ 0 - length (x ∷ xs) = omega arith in
    ap (λ k. take k ys) same
take_plus (suc n) (x ∷ xs) ys =
    let same : n - length xs ≡ suc n - length (x ∷ xs) = omega arith in
    ap (λ rest. x ∷ rest) (take_plus n xs ys ∙ ap (λ k. take n xs ++ take k ys) same)

take_bits : (m n v : ℕ) → take m (bits v n) ≡ bits v (min n m)
unfolding bits
take_bits zero zero v = let same : 0 ≡ min 0 0 = omega arith in ap (bits v) same
take_bits zero (suc n) v = let same : 0 ≡ min (suc n) 0 = omega arith in ap (bits v) same
take_bits (suc m) zero v = let same : 0 ≡ min 0 (suc m) = omega arith in ap (bits v) same
take_bits (suc m) (suc n) v =
    let same : suc (min n m) ≡ min (suc n) (suc m) = omega arith in
    ap (λ rest. (v % 2 == 1) ∷ rest) (take_bits m n (v / 2)) ∙ ap (bits v) same

-- one word more
pub words_more : (columns k : ℕ) (words : List ℕ) → k < length words
    → count_by (λ (b : Bool). b) (take columns (bits_of_words (take k words)))
    + count_by (λ (b : Bool). b) (bits (get_or words k 0) (min 64 (columns - 64 * k)))
    ≡ count_by (λ (b : Bool). b) (take columns (bits_of_words (take (k + 1) words)))
words_more columns k words l =
    let xs = bits_of_words (take k words) in
    let w = get_or words k 0 in
    let next : k + 1 ≡ suc k = omega arith in
    let size : length xs ≡ 64 * k = length-words (take k words)
    ∙ ap (λ n. 64 * n) (taken k words l) in
    sym (ap (λ (ws : List ℕ). count_by (λ (b : Bool). b) (take columns (bits_of_words ws)))
    (ap (λ n. take n words) next ∙ take-suc words k 0 l)
    ∙ ap (λ (bs : List Bool). count_by (λ (b : Bool). b) (take columns bs))
    (flat_map-append (λ w. bits w 64) (take k words) (w ∷ [])
    ∙ ap (λ (bs : List Bool). xs ++ bs) (append-nil (bits w 64)))
    ∙ ap (λ (bs : List Bool). count_by (λ (b : Bool). b) bs) (take_plus columns xs (bits w 64))
    ∙ sum_by-append (λ (b : Bool). cond b 1 0) (take columns xs)
    (take (columns - length xs) (bits w 64))
    ∙ ap (λ (bs : List Bool). count_by (λ (b : Bool). b) (take columns xs)
    + count_by (λ (b : Bool). b) bs) (take_bits (columns - length xs) 64 w
    ∙ ap (λ n. bits w (min 64 (columns - n))) size)) where
      taken : (k : ℕ) (words : List ℕ) → k < length words → length (take k words) ≡ k
      taken zero words l = refl
      taken (suc k) [] l = absurd (omega (arith, l))
      taken (suc k) (w ∷ words) l = let r = taken k words (omega (arith, l)) in omega (arith, r)

one_of_bit : (b : Bool) → (bit_number b + 2 * 0) == 1 ≡ b
one_of_bit true = refl
one_of_bit false = refl

-- the numbers of one bit among columns are their row's bits
bank_ones : (base m : ℕ) (columns : List Column)
    → count_by (λ v. v == 1) (take m (map (number base 1) columns))
    ≡ count_by (λ (b : Bool). b) (take m (row_in base columns))
bank_ones base zero columns = refl
bank_ones base (suc m) [] = refl
bank_ones base (suc m) (s ∷ columns) =
    sum_by-cons (λ (v : ℕ). cond (v == 1) 1 0) (number base 1 s)
    (take m (map (number base 1) columns))
    ∙ ap (λ (b : Bool). cond b 1 0 + count_by (λ v. v == 1)
    (take m (map (number base 1) columns))) (one_of_bit (s (D base)))
    ∙ ap (λ k. cond (s (D base)) 1 0 + k) (bank_ones base m columns)
    ∙ sym (sum_by-cons (λ (b : Bool). cond b 1 0) (s (D base)) (take m (row_in base columns)))

below_more : (k : ℕ) (banks : Banks) → below (k + 1) banks ≡ below k banks ++ banks k
below_more k banks =
    let next : k + 1 ≡ suc k = omega arith in
    let same : 0 + k ≡ k = omega arith in
    ap (λ n. below n banks) next ∙ ap (flat_map banks) (range_more 0 k)
    ∙ flat_map-append banks (range_with_len 0 k) ((0 + k) ∷ [])
    ∙ ap (λ (cs : List Column). below k banks ++ cs) (append-nil (banks (0 + k)) ∙ ap banks same)

-- one bank more
pub banks_more : (base columns count k : ℕ) (banks : Banks)
    → ((b : ℕ) → b < k → length (banks b) ≡ columns)
    → count_by (λ v. v == 1) (take count (map (number base 1) (below k banks)))
    + count_by (λ (b : Bool). b) (take (count - k * columns) (row_in base (banks k)))
    ≡ count_by (λ v. v == 1) (take count (map (number base 1) (below (k + 1) banks)))
banks_more base columns count k banks h =
    let xs = map (number base 1) (below k banks) in
    let ys = map (number base 1) (banks k) in
    let long = below_length columns k banks h in
    let size : length xs ≡ k * columns = length-map (below k banks) (number base 1)
    ∙ omega (arith, long) in
    sym (ap (λ (cs : List Column). count_by (λ v. v == 1) (take count (map (number base 1) cs)))
    (below_more k banks)
    ∙ ap (λ (vs : List ℕ). count_by (λ v. v == 1) (take count vs))
    (map-append (number base 1) (below k banks) (banks k))
    ∙ ap (λ (vs : List ℕ). count_by (λ v. v == 1) vs) (take_plus count xs ys)
    ∙ sum_by-append (λ (v : ℕ). cond (v == 1) 1 0) (take count xs) (take (count - length xs) ys)
    ∙ ap (λ n. count_by (λ v. v == 1) (take count xs)
    + count_by (λ v. v == 1) (take (count - n) ys)) size
    ∙ ap (λ n. count_by (λ v. v == 1) (take count xs) + n)
    (bank_ones base (count - k * columns) (banks k)))

pub ones_whole : (v n : ℕ) → v < 2 ^ 64 → n ≡ 64
    → count_ones v ≡ count_by (λ (b : Bool). b) (bits v n)
ones_whole v n l e = ones_bits 64 v l ∙ ap (λ m. count_by (λ (b : Bool). b) (bits v m)) (sym e)

pub ones_low : (v n : ℕ) → n < 64 → count_ones (v % (1 * 2 ^ n % 18446744073709551616))
    ≡ count_by (λ (b : Bool). b) (bits v n)
ones_low v n l =
    let some : 0 < 2 ^ n = pow_pos n in
    let more : 2 ^ suc n ≤ 2 ^ 64 = pow-le-pow_right {n = 2} (omega arith) l in
    let twice = pow-succ' 2 n in
    let less : 2 ^ n < 2 ^ 64 = omega (arith, more, twice, some) in
    let same : 1 * 2 ^ n % 18446744073709551616 ≡ 2 ^ n =
    ap (λ k. k % 18446744073709551616) (one_times (2 ^ n)) ∙ mod-eq_of_lt less in
    let low : v % 2 ^ n < 2 ^ n = mod-lt v some in
    ap (λ p. count_ones (v % p)) same ∙ ones_bits n (v % 2 ^ n) low
    ∙ ap (λ (bs : List Bool). count_by (λ (b : Bool). b) bs) (low_bits v n) where
      one_times : (p : ℕ) → 1 * p ≡ p
      one_times p = omega arith

pub words_counted : (columns k : ℕ) (words : List ℕ) (found more n : ℕ) → k < length words
    → found ≡ count_by (λ (b : Bool). b) (take columns (bits_of_words (take k words)))
    → n ≡ min 64 (columns - 64 * k) → more ≡ count_by (λ (b : Bool). b)
    (bits (get_or words k 0) n)
    → found + more ≡ count_by (λ (b : Bool). b)
    (take columns (bits_of_words (take (k + 1) words)))
words_counted columns k words found more n l e f h =
    ap (λ x. x + more) e
    ∙ ap (λ y. count_by (λ (b : Bool). b) (take columns (bits_of_words (take k words))) + y) (h
    ∙ ap (λ m. count_by (λ (b : Bool). b) (bits (get_or words k 0) m)) f)
    ∙ words_more columns k words l

pub banks_counted : (base columns count k : ℕ) (banks now : Banks) (found more left : ℕ)
    → now ≡ banks
    → ((b : ℕ) → b < k → length (banks b) ≡ columns)
    → found ≡ count_by (λ v. v == 1) (take count (map (number base 1) (below k banks)))
    → left ≡ count - k * columns → more ≡ count_by (λ (b : Bool). b)
    (take left (row_in base (now k)))
    → found + more ≡ count_by (λ v. v == 1) (take count
    (map (number base 1) (below (k + 1) banks)))
banks_counted base columns count k banks now found more left same h e f m =
    ap (λ x. x + more) e
    ∙ ap (λ y. count_by (λ v. v == 1) (take count (map (number base 1) (below k banks))) + y)
    (m ∙ ap (λ n. count_by (λ (b : Bool). b) (take n (row_in base (now k)))) f
    ∙ ap (λ (bs : Banks). count_by (λ (b : Bool). b)
    (take (count - k * columns) (row_in base (bs k)))) same)
    ∙ banks_more base columns count k banks h

-- the front of a list gives way to as many items
pub length_put_back : (k : ℕ) (new old : List ℕ) → length new ≡ length (take k old)
    → length (new ++ drop k old) ≡ length old
length_put_back k new old h = length-append new (drop k old)
    ∙ ap (λ n. n + length (drop k old)) h ∙ sym (length-append (take k old) (drop k old))
    ∙ ap length (take-append-drop k old)
