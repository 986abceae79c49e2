-- When a loop program does a statement.
use Rattle.std.specs.Prelude.{◌≡◌, ◌⊎◌, ℕ, ◌+◌, ◌*◌, ◌<◌, ◌≤◌, Bool, true, false, List, [], ◌∷◌}
use Rattle.std.specs.Prelude.{map, Option, Some, None}
use Rattle.std.specs.List.{range_with_len}
use Rattle.bit_rows.specs.declared.TheConstants.{WIDTH_MAX}
use Rattle.op_text.specs.declared.tree.Kind.{Kind}
use Rattle.op_text.specs.declared.tree.Kind.TheVariants.{Word}
use Rattle.op_text.specs.Language.{Statement, Compute, Visit}
use Rattle.op_text.specs.Rules.{is_among}
use Rattle.op_text.specs.Meaning.{NameValue, width, after_statement}
use Rattle.op_text.specs.Scratch.{bits_inside, words_inside, need_inside, block_ceiling}
use Rattle.op_text.specs.Costs.{op_ceiling}
use Rattle.loop_ir.specs.declared.ir.Space.TheVariants.{ScratchBit, ScratchWord}
use Rattle.loop_ir.specs.declared.names.Slot.{Slot}
use Rattle.loop_ir.specs.Plain.{StepOf, Block}
use Rattle.loop_ir.specs.Loops.{all_rounds}
use Rattle.loop_ir.specs.Spots.{Spot, Spots, spot_in, after_rounds, is_state}
use Rattle.loop_ir.specs.WellFormed.{AreWellFormed}
use Rattle.loop_ir.specs.Costs.{rounds_cost}
use Rattle.loop_ir.specs.Limits.{CanCompile}
use Rattle.loop_ir.specs.Statements.{Slots, read_names, written_names, statement_names}

-- row v of a place
abbrev pub slot_spot : ℕ → Slot → ℕ → Spot
slot_spot n x v = spot_in n x.space x.which v

-- the bits of a place's rows, the lowest first
abbrev pub slot_bits : ℕ → Spots → Slot → List Bool
slot_bits n bits x = map (λ v. bits (slot_spot n x v)) (range_with_len 0 (width n x.kind))

-- the rows at the place have the name's bits
abbrev pub HoldsAt : ℕ → Option Slot → NameValue → Spots → Type 0
HoldsAt n None held bits = ⊥
HoldsAt n (Some x) held bits = (held.kind ≡ x.kind) × (held.bits ≡ slot_bits n bits x)

-- the rows at the name's place have its bits
abbrev pub Holds : ℕ → Slots → (List ℕ → NameValue) → Spots → List ℕ → Type 0
Holds n slots held bits name = HoldsAt n (slots name) (held name) bits

-- the row is one of a name's
abbrev pub IsRowOf : ℕ → Slots → List (List ℕ) → Spot → Type 0
IsRowOf n slots names q = (name : List ℕ) × (x : Slot) × (v : ℕ) × (is_among names name ≡ true)
    × (slots name ≡ Some x) × (v < width n x.kind) × (q ≡ slot_spot n x v)

-- the row is one of the internal scratch of the statement
abbrev pub IsInside : ℕ → ℕ → ℕ → Statement → Spot → Type 0
IsInside n free_bit free_word s q =
    ((j : ℕ) × (j < need_inside bits_inside s) × (q ≡ spot_in n ScratchBit (free_bit + j) 0))
    ⊎ ((v : ℕ) × (v < n * need_inside words_inside s) × (q ≡ spot_in n ScratchWord free_word v))

-- the statement may change the row: one that it sets, or one of its internal scratch
abbrev pub IsChanged : ℕ → Slots → ℕ → ℕ → Statement → Spot → Type 0
IsChanged n slots free_bit free_word s q = IsRowOf n slots (written_names s) q
    ⊎ IsInside n free_bit free_word s q

-- the row is one of the statement's
abbrev pub IsStatementRow : Slots → ℕ → ℕ → Statement → ℕ → Spot → Type 0
IsStatementRow slots free_bit free_word s n q = IsRowOf n slots (statement_names s) q
    ⊎ IsInside n free_bit free_word s q

-- At width n, whatever rows and cells hold: where the rows of the names that it reads hold their
-- values, the rows of the names that it sets hold theirs after it; and no other row changes but the
-- internal scratch
pub record Does (slots : Slots) (free_bit free_word : ℕ) (s : Statement) (n : ℕ)
    (steps : List (StepOf Block)) : Type 0 where
  pub gives : (held : List ℕ → NameValue) (bits : Spots)
      → ((name : List ℕ) → is_among (read_names s) name ≡ true → Holds n slots held bits name)
      → (name : List ℕ) → is_among (written_names s) name ≡ true
      → Holds n slots (after_statement n held s) (after_rounds n (all_rounds n steps) bits) name
  pub keeps : (bits : Spots) (q : Spot) → is_state q.space ≡ false
      → (IsChanged n slots free_bit free_word s q → ⊥)
      → after_rounds n (all_rounds n steps) bits q ≡ bits q

-- the kind at a place, which is a word where there is none
abbrev pub kind_at : Option Slot → Kind
kind_at None = Word
kind_at (Some x) = x.kind

-- the width of a word statement's arguments
abbrev pub args_width : Slots → ℕ → List (List ℕ) → ℕ
args_width slots n [] = n
args_width slots n (name ∷ names) = width n (kind_at (slots name))

-- the greatest number of commands that the statement may take
abbrev pub ceiling_of : Slots → Statement → ℕ → ℕ
ceiling_of slots (Compute target second p args) n = op_ceiling p (args_width slots n args)
ceiling_of slots (Visit block) n = block_ceiling block n

-- A statement's loop program: well formed, such that code can be made of it over the statement's
-- rows alone, and at every width it does the statement within its ceiling
pub record IsLowered (slots : Slots) (free_bit free_word : ℕ) (s : Statement)
    (steps : List (StepOf Block)) : Type 0 where
  pub well : AreWellFormed steps
  pub can : CanCompile (IsStatementRow slots free_bit free_word s) steps
  pub does : (n : ℕ) → 0 < n → n ≤ WIDTH_MAX → Does slots free_bit free_word s n steps
  pub cheap : (n : ℕ) → 0 < n → n ≤ WIDTH_MAX
      → rounds_cost (all_rounds n steps) ≤ ceiling_of slots s n
