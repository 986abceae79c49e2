-- The columns of a row that is kept as words
use Rattle.std.proofs.Common.{◌≡◌, ℕ, ◌+◌, ◌*◌, ◌/◌, ◌%◌, ◌<◌, ◌==◌, Bool, false, List}
use Rattle.std.proofs.Common.{length, get_or, sym, ap, ◌∙◌, arith, replicate, inl, inr, get_or-take}
use Rattle.std.proofs.Common.{set, ◌≢◌, length-set}
use Rattle.std.proofs.lemmas.List.{ext_get_or, get_or-replicate, length-replicate}
use Rattle.std.proofs.lemmas.List.{get_or-set_same, get_or-set_other, get_or_default}
use Rattle.std.proofs.lemmas.Bool.Decides.{eqb_tells}
use Rattle.std.proofs.lemmas.Nat.Bits.{bit_at-zero}
use Rattle.std.proofs.lemmas.Grind.{common_steps}
use Rattle.bit_rows.specs.Bits.{bit_at, bit_in, bits_of_words, word_bit, row_of_words}
use Rattle.bit_rows.proofs.Words.{words-at, length-words}

pub seen-length : (n : ℕ) (words : List ℕ) → length words ≡ (n + 63) / 64
    → length (row_of_words n words) ≡ n
seen-length n words e = let all : length (bits_of_words words) ≡ 64 * length words =
    length-words words in grind (arith, common_steps)

pub seen-bit : (n c : ℕ) (words : List ℕ) → length words ≡ (n + 63) / 64 → c < n
    → bit_in (row_of_words n words) c ≡ word_bit words (c / 64) (c % 64)
seen-bit n c words e l =
    let at : 64 * (c / 64) + c % 64 ≡ c = omega arith in
    get_or-take n (bits_of_words words) c false l ∙ sym (ap (bit_in (bits_of_words words)) at)
    ∙ words-at words (c / 64) (c % 64) (omega arith) (omega arith)

-- a row that has these bits
pub seen-is : (n : ℕ) (words : List ℕ) (bits : List Bool) → length words ≡ (n + 63) / 64
    → length bits ≡ n → ((c : ℕ) → c < n → word_bit words (c / 64) (c % 64) ≡ bit_in bits c)
    → row_of_words n words ≡ bits
seen-is n words bits e m h = ext_get_or false (row_of_words n words) bits (seen-length n words e
    ∙ sym m) (λ c l.
    let below : c < n = omega (arith, seen-length n words e) in seen-bit n c words e below
    ∙ h c below)

-- the fields of a row with this value
pub record Shown (n : ℕ) (words : List ℕ) (value : List Bool) : Type 0 where
  pub is : row_of_words n words ≡ value
  pub size : length words ≡ (n + 63) / 64

pub shown-length : (n : ℕ) (words : List ℕ) (value : List Bool) → Shown n words value
    → length value ≡ n
shown-length n words value s = ap length (sym s.is) ∙ seen-length n words s.size

pub shown-bit : (n c : ℕ) (words : List ℕ) (value : List Bool) → Shown n words value
    → c < length value → bit_in value c ≡ word_bit words (c / 64) (c % 64)
shown-bit n c words value s l = ap (λ bits. bit_in bits c) (sym s.is)
    ∙ seen-bit n c words s.size (omega (arith, shown-length n words value s))

-- one word of the row
pub set-is : (n c : ℕ) (words : List ℕ) (a : List Bool) (w : ℕ) (b : Bool) → Shown n words a
    → c < length a → bit_at w (c % 64) ≡ b → ((r : ℕ) → r < 64 → r ≢ c % 64
    → bit_at w r ≡ bit_at (get_or words (c / 64) 0) r)
    → row_of_words n (set words (c / 64) w) ≡ set a c b
set-is n c words a w b s l bit others = seen-is n (set words (c / 64) w) (set a c b)
    (length-set words (c / 64) w ∙ s.size) (length-set a c b ∙ shown-length n words a s) (λ k h.
    elim (eqb_tells (k / 64) (c / 64)) [
      | inl e ↦ (elim (eqb_tells (k % 64) (c % 64)) [
        | inl f ↦ (let same : k ≡ c = omega (arith, e.1, f.1) in
            ap (λ m. bit_at m (k % 64)) (ap (λ q. get_or (set words (c / 64) w) q 0) e.1
            ∙ get_or-set_same words (c / 64) w 0 (in-row n c words a s l)) ∙ ap (bit_at w) f.1
            ∙ bit ∙ sym (ap (bit_in (set a c b)) same ∙ get_or-set_same a c b false l))
        | inr f ↦ (let other : k ≡ c → ⊥ = λ g. f.1 (ap (λ m. m % 64) g) in
            ap (λ m. bit_at m (k % 64)) (ap (λ q. get_or (set words (c / 64) w) q 0) e.1
            ∙ get_or-set_same words (c / 64) w 0 (in-row n c words a s l))
            ∙ others (k % 64) (omega arith) f.1
            ∙ ap (λ q. bit_at (get_or words q 0) (k % 64)) (sym e.1)
            ∙ sym (shown-bit n k words a s (omega (arith, shown-length n words a s)))
            ∙ sym (get_or-set_other a c k b false other))
      ])
      | inr e ↦ (let other : k ≡ c → ⊥ = λ g. e.1 (ap (λ m. m / 64) g) in
          ap (λ m. bit_at m (k % 64)) (get_or-set_other words (c / 64) (k / 64) w 0 e.1)
          ∙ sym (shown-bit n k words a s (omega (arith, shown-length n words a s)))
          ∙ sym (get_or-set_other a c k b false other))
    ])
  where
    in-row : (n c : ℕ) (words : List ℕ) (a : List Bool) → Shown n words a → c < length a
        → c / 64 < length words
    in-row n c words a s l = omega (arith, s.size, shown-length n words a s)

-- words that are all alike
pub alike-is : (n m w : ℕ) (words : List ℕ) (b : Bool) → words ≡ replicate ((n + 63) / 64) w → m ≡ n
    → ((r : ℕ) → r < 64 → bit_at w r ≡ b) → row_of_words n words ≡ replicate m b
alike-is n m w words b e f h = seen-is n words (replicate m b) (ap length e
    ∙ length-replicate ((n + 63) / 64) w) (length-replicate m b ∙ f) (λ c l.
    ap (λ ws. word_bit ws (c / 64) (c % 64)) e ∙ ap (λ v. bit_at v (c % 64))
    (get_or-replicate ((n + 63) / 64) (c / 64) w 0 (omega arith)) ∙ h (c % 64) (omega arith)
    ∙ sym (get_or-replicate m c b false (omega arith)))

pub zero-bit : (r : ℕ) → r < 64 → bit_at 0 r ≡ false
zero-bit r l = ap (λ n. n == 1) (bit_at-zero r)

-- a word that was looked up
pub indexed : (n c : ℕ) (words : List ℕ) (a : List Bool) (w : ℕ) → Shown n words a → c < length a
    → w ≡ get_or words (c / 64) w → w ≡ get_or words (c / 64) 0
indexed n c words a w s l e = e ∙ get_or_default words (c / 64) w 0
    (omega (arith, s.size, shown-length n words a s))
