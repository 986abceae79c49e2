-- Faults by line.
use Rattle.std.specs.Prelude.{ℕ, ◌+◌, ◌-◌, ◌==◌, List, length, take, count_by, Option, Some, None}
use Rattle.std.specs.Prelude.{option_map, min}
use Rattle.text_lex.specs.Lexical.{items_of}
use Rattle.op_text.specs.Items.{Breach}
use Rattle.op_text.specs.declared.fault.OpsFault.{OpsFault}
use Rattle.op_text.specs.Rules.{first_breach}

-- the line of the byte at a place, or of the last byte where the place is past it, from 1
abbrev pub line_at : List ℕ → ℕ → ℕ
line_at text place = 1 + count_by (λ b. b == 10) (take (min place (length text - 1)) text)

-- the line that a fault is told by; a fault at the end of the text has its last line
abbrev pub line_of : List ℕ → Option ℕ → ℕ
line_of text (Some place) = line_at text place
line_of text None = line_at text (length text)

-- the first broken rule as it is printed: the kind of the fault with its line
abbrev pub fault_of : List ℕ → Breach → OpsFault
fault_of text b = record { line = line_of text b.at; kind = b.kind }

-- the fault of a text, or none where it is accepted
abbrev pub fault_in : List ℕ → Option OpsFault
fault_in text = option_map (fault_of text) (first_breach (items_of text))
