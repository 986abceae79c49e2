-- A step of a transpose: bits and words exchange one digit of their numbers.
use Rattle.std.specs.Prelude.{◌≡◌, ℕ, ◌+◌, ◌-◌, ◌*◌, ◌/◌, ◌%◌, ◌<◌, ◌==◌, Bool, ◌||◌, List}
use Rattle.std.specs.Prelude.{slice_index_or}
use Rattle.bit_rows.specs.Bits.{bit_at}

-- the weight of a binary digit of a number below 64
abbrev pub is_weight : ℕ → Bool
is_weight w = w == 32 || w == 16 || w == 8 || w == 4 || w == 2 || w == 1

-- the mask has the bits whose numbers lack the weight
abbrev pub IsMask : ℕ → ℕ → Type 0
IsMask w mask = (c : ℕ) → c < 64 → bit_at mask c ≡ (c / w % 2 == 0)

-- i, with the digit of this weight that j has
abbrev pub crossed : (w i j : ℕ) → ℕ
crossed w i j = i + j / w % 2 * w - i / w % 2 * w

-- bit c of word i is the one whose word and bit have exchanged the digit of this weight
abbrev pub IsExchanged : ℕ → List ℕ → List ℕ → Type 0
IsExchanged w old new = (i c : ℕ) → i < 64 → c < 64
    → bit_at (slice_index_or new i 0) c
    ≡ bit_at (slice_index_or old (crossed w i c) 0) (crossed w c i)
