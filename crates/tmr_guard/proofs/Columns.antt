-- A row's words, with one bit inverted.
use Rattle.tmr_guard.proofs.Common.{◌≡◌, ℕ, zero, suc, ◌+◌, ◌*◌, ◌%◌, ◌^◌, ◌<◌, Bool, false, not}
use Rattle.tmr_guard.proofs.Common.{List, [], ◌∷◌, ◌++◌, length, get_or, refl, sym, ◌∙◌, ap, arith}
use Rattle.tmr_guard.proofs.Common.{inl, inr, bit_xor, bits, with_bit_inverted}
use Rattle.std.proofs.Common.{◌≢◌, set}
use Rattle.std.specs.Prelude.{◌==◌}
use Rattle.std.specs.Int.{bit_at as digit_at}
use Rattle.std.proofs.lemmas.List.{ext_get_or}
use Rattle.std.proofs.lemmas.Bool.Decides.{eqb_tells}
use Rattle.std.proofs.lemmas.Nat.Bits.{bit_at_xor, bit_at-pow_same, bit_at-pow_other, bit_at-lt}
use Rattle.bit_rows.specs.Bits.{bits_of_words}
use Rattle.bit_rows.proofs.Words.{length-bits, bits-at}

inverted_length : (k : ℕ) (bs : List Bool) → length (with_bit_inverted k bs) ≡ length bs
inverted_length k [] = refl
inverted_length zero (b ∷ bs) = refl
inverted_length (suc k) (b ∷ bs) = ap suc (inverted_length k bs)

inverted_here : (k : ℕ) (bs : List Bool) → k < length bs
    → get_or (with_bit_inverted k bs) k false ≡ not (get_or bs k false)
inverted_here k [] l = absurd (omega arith)
inverted_here zero (b ∷ bs) l = refl
inverted_here (suc k) (b ∷ bs) l = inverted_here k bs (omega arith)

inverted_there : (k i : ℕ) (bs : List Bool) → i ≢ k
    → get_or (with_bit_inverted k bs) i false ≡ get_or bs i false
inverted_there k i [] ne = refl
inverted_there zero zero (b ∷ bs) ne = absurd (ne refl)
inverted_there zero (suc i) (b ∷ bs) ne = refl
inverted_there (suc k) zero (b ∷ bs) ne = refl
inverted_there (suc k) (suc i) (b ∷ bs) ne = inverted_there k i bs (λ e. ne (ap suc e))

inverted_left : (k : ℕ) (xs ys : List Bool) → k < length xs
    → with_bit_inverted k (xs ++ ys) ≡ with_bit_inverted k xs ++ ys
inverted_left k [] ys l = absurd (omega arith)
inverted_left zero (x ∷ xs) ys l = refl
inverted_left (suc k) (x ∷ xs) ys l = ap (λ r. x ∷ r) (inverted_left k xs ys (omega arith))

inverted_right : (k n : ℕ) (xs ys : List Bool) → n ≡ length xs + k
    → with_bit_inverted n (xs ++ ys) ≡ xs ++ with_bit_inverted k ys
inverted_right k n [] ys e = ap (λ m. with_bit_inverted m ys) (omega (arith, e))
inverted_right k zero (x ∷ xs) ys e = absurd (omega arith)
inverted_right k (suc n) (x ∷ xs) ys e = ap (λ r. x ∷ r) (inverted_right k n xs ys (omega arith))

plus_one : (a : ℕ) → a < 2 → ((a + 1) % 2 == 1) ≡ not (a == 1)
plus_one zero l = refl
plus_one (suc zero) l = refl
plus_one (suc (suc a)) l = absurd (omega arith)

same_digit : (a : ℕ) → a < 2 → (a + 0) % 2 ≡ a
same_digit a l = omega arith

-- a word with one bit inverted
pub word_inverted : (v k : ℕ) → k < 64 → bits (bit_xor v (2 ^ k)) 64
    ≡ with_bit_inverted k (bits v 64)
word_inverted v k l = ext_get_or false (bits (bit_xor v (2 ^ k)) 64)
    (with_bit_inverted k (bits v 64)) (length-bits (bit_xor v (2 ^ k)) 64
    ∙ sym (inverted_length k (bits v 64) ∙ length-bits v 64)) (λ i m.
    let n : i < 64 = omega (arith, length-bits (bit_xor v (2 ^ k)) 64) in
    bits-at (bit_xor v (2 ^ k)) 64 i n ∙ ap (λ d. d == 1) (bit_at_xor v (2 ^ k) i)
    ∙ elim (eqb_tells i k) [
      | inl t ↦
          let one : digit_at (2 ^ k) i ≡ 1 = ap (digit_at (2 ^ k)) t.1 ∙ bit_at-pow_same k in
          ap (λ d. (digit_at v i + d) % 2 == 1) one ∙ plus_one (digit_at v i) (bit_at-lt v i)
          ∙ sym (ap (λ j. get_or (with_bit_inverted j (bits v 64)) i false) (sym t.1)
          ∙ inverted_here i (bits v 64) (omega (arith, length-bits v 64))
          ∙ ap not (bits-at v 64 i n))
      | inr t ↦
          ap (λ d. (digit_at v i + d) % 2 == 1) (bit_at-pow_other k i t.1)
          ∙ ap (λ d. d == 1) (same_digit (digit_at v i) (bit_at-lt v i))
          ∙ sym (inverted_there k i (bits v 64) t.1 ∙ bits-at v 64 i n)
    ])

-- a row with one column inverted
pub row_inverted : (words : List ℕ) (q r column w : ℕ) → q < length words → r < 64
    → column ≡ 64 * q + r → bits w 64 ≡ with_bit_inverted r (bits (get_or words q 0) 64)
    → bits_of_words (set words q w) ≡ with_bit_inverted column (bits_of_words words)
row_inverted [] q r column w l m e is = absurd (omega arith)
row_inverted (v ∷ words) zero r column w l m e is =
    let at : column ≡ r = omega (arith, e) in
    ap (λ bs. bs ++ bits_of_words words) is ∙ sym
    (inverted_left r (bits v 64) (bits_of_words words) (omega (arith, length-bits v 64)))
    ∙ ap (λ n. with_bit_inverted n (bits v 64 ++ bits_of_words words)) (sym at)
row_inverted (v ∷ words) (suc q) r column w l m e is =
    ap (λ bs. bits v 64 ++ bs) (row_inverted words q r (64 * q + r) w (omega arith) m refl is)
    ∙ sym (inverted_right (64 * q + r) column (bits v 64) (bits_of_words words)
    (omega (arith, e, length-bits v 64)))
