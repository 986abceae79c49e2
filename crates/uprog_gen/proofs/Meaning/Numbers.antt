-- Numbers and their bits, as operations and rows have them.
use Rattle.uprog_gen.proofs.Common.{◌≡◌, ℕ, zero, suc, ◌+◌, ◌*◌, Bool, true, false, List, [], ◌∷◌}
use Rattle.uprog_gen.proofs.Common.{length, refl, ap, ◌∙◌, ◌==◌}
use Rattle.std.specs.Prelude.{◌%◌, ◌/◌}
use Rattle.bit_rows.specs.Bits.{bits as row_bits}
use Rattle.op_text.specs.Values.{bits as text_bits}
use Rattle.bit_rows.proofs.Words.{bits-value}
use Rattle.bit_rows.specs.Bits as row
use Rattle.op_text.specs.Values as text

bit_same : (b : Bool) → text.bit_number b ≡ row.bit_number b
bit_same true = refl
bit_same false = refl

pub value_same : (bs : List Bool) → text.value bs ≡ row.value bs
value_same [] = refl
value_same (b ∷ bs) = ap (λ n. text.bit_number b + 2 * n) (value_same bs)
    ∙ ap (λ n. n + 2 * row.value bs) (bit_same b)

pub bits_same : (v n : ℕ) → text_bits v n ≡ row_bits v n
unfolding text_bits row_bits
bits_same v zero = refl
bits_same v (suc n) = ap (λ (l : List Bool). (v % 2 == 1) ∷ l) (bits_same (v / 2) n)

pub bits_of_value : (bs : List Bool) → text.bits (row.value bs) (length bs) ≡ bs
bits_of_value bs = bits_same (row.value bs) (length bs) ∙ bits-value bs
