-- A list of widths as a word: numbers and spans `A-B`, with commas between.
use Rattle.std.specs.Prelude.{ℕ, ◌+◌, ◌-◌, ◌==◌, nat_le, nat_lt, Bool, true, ◌&&◌}
use Rattle.std.specs.Prelude.{if◌then◌else◌, List, [], ◌∷◌, length, Option, Some, None}
use Rattle.std.specs.List.{after_first, before_first, flat_map, list_all, position_or_len}
use Rattle.std.specs.List.{range_with_len}
use Rattle.bit_rows.specs.declared.TheConstants.{WIDTH_MAX}
use Rattle.bbop_isa.specs.Lines.{begun}
use Rattle.simdram_cli.specs.Numbers.{is_number, value_of}

-- the parts of a word, which commas separate
abbrev pub parts_of : List ℕ → List (List ℕ)
parts_of [] = [] ∷ []
parts_of (b ∷ bs) = if b == 44 then [] ∷ parts_of bs else begun b (parts_of bs)

-- a dash
abbrev pub is_dash : ℕ → Bool
is_dash b = b == 45

-- the first number of a span, as a word: what stands before its dash, or all of it
abbrev pub first_of : List ℕ → List ℕ
first_of part = before_first is_dash part

-- and the last: what stands behind its dash, or all of it
abbrev pub last_of : List ℕ → List ℕ
last_of part = if nat_lt (position_or_len is_dash part) (length part)
    then after_first is_dash part else part

-- a number, or two with a dash between, the first of which is not above the second
abbrev pub is_span : List ℕ → Bool
is_span part = is_number (first_of part)
    && (is_number (last_of part) && nat_le (value_of (first_of part)) (value_of (last_of part)))

-- the numbers of a span, from its first to its last
abbrev pub span_numbers : List ℕ → List ℕ
span_numbers part = range_with_len (value_of (first_of part))
    (value_of (last_of part) + 1 - value_of (first_of part))

-- each number is above the one before, the first above this one, and none above the greatest width
abbrev pub rise_from : ℕ → List ℕ → Bool
rise_from low [] = true
rise_from low (n ∷ ns) = nat_lt low n && (nat_le n WIDTH_MAX && rise_from n ns)

-- the widths that a word lists: the numbers of its spans, which are widths and rise
abbrev pub widths_in : List ℕ → Option (List ℕ)
widths_in word =
    if list_all is_span (parts_of word) && rise_from 0 (flat_map span_numbers (parts_of word))
    then Some (flat_map span_numbers (parts_of word)) else None
