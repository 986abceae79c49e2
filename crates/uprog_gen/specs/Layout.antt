-- Where the names of an operation lie.
use Rattle.std.specs.Prelude.{◌≡◌, ℕ, suc, ◌+◌, Bool, not, ◌&&◌, if◌then◌else◌, List, [], ◌∷◌, ◌++◌}
use Rattle.std.specs.Prelude.{Option, Some, None, bytes_eq}
use Rattle.op_text.specs.declared.tree.Kind.{Kind}
use Rattle.op_text.specs.declared.tree.Kind.TheVariants.{Word, Bit}
use Rattle.op_text.specs.declared.tree.Param.{Param}
use Rattle.op_text.specs.Language.{Operation, result_names}
use Rattle.op_text.specs.Rules.{is_among}
use Rattle.op_text.specs.WordOps.{same_kind}
use Rattle.op_text.specs.Scratch.{body_defines, scratch_names}
use Rattle.loop_ir.specs.declared.ir.Space.{Space}
use Rattle.loop_ir.specs.declared.ir.Space.TheVariants.{Result, Source, ScratchBit, ScratchWord}
use Rattle.loop_ir.specs.declared.names.Slot.{Slot}
use Rattle.loop_ir.specs.declared.names.NameMap.{NameMap}
use Rattle.loop_ir.specs.Statements.{Slots, slots_of}

-- a name and its place
pub record Lay : Type 0 where
  pub name : List ℕ
  pub slot : Slot

-- the place of a value of this kind, by its space and its number there
abbrev pub slot : Space → ℕ → Kind → Slot
slot s w k = record { space = s; which = w; kind = k }

-- the sources from this one on
abbrev pub source_lays : ℕ → List Param → List Lay
source_lays k [] = []
source_lays k (p ∷ ps) = record { name = p.name; slot = slot Source k p.kind }
    ∷ source_lays (k + 1) ps

-- the place of a name among others: how many stand before it
abbrev pub place_in : List (List ℕ) → List ℕ → ℕ
place_in [] name = 0
place_in (r ∷ rs) name = if bytes_eq r name then 0 else suc (place_in rs name)

-- a name of this kind that stands in scratch
abbrev pub is_scratch : List (List ℕ) → Kind → Param → Bool
is_scratch results k p = same_kind p.kind k && not (is_among results p.name)

-- the next place in scratch of a kind, where so many bits and words have names
abbrev pub scratch_slot : ℕ → ℕ → Kind → Slot
scratch_slot b w Bit = slot ScratchBit b Bit
scratch_slot b w Word = slot ScratchWord w Word

-- the place of a name that the body defines, where so many bits and words of scratch have names
abbrev pub own_slot : List (List ℕ) → ℕ → ℕ → Param → Slot
own_slot results b w p = if is_among results p.name
    then slot Result (place_in results p.name) p.kind else scratch_slot b w p.kind

-- the names of a body, where so many bits and words of scratch have names before them
abbrev pub defined_lays : List (List ℕ) → ℕ → ℕ → List Param → List Lay
defined_lays results b w [] = []
defined_lays results b w (p ∷ ps) =
    record { name = p.name; slot = own_slot results b w p }
    ∷ defined_lays results (if is_scratch results Bit p then b + 1
    else b) (if is_scratch results Word p then w + 1 else w) ps

-- the parameters are the sources, each result stands in its own rows, and each other name takes the
-- next bit or word of scratch
abbrev pub lays : Operation → List Lay
lays op = source_lays 0 op.params ++ defined_lays (result_names op) 0 0
    (body_defines op.params op.body)

-- the place of a name among these
abbrev pub found : List Lay → List ℕ → Option Slot
found [] name = None
found (l ∷ ls) name = if bytes_eq l.name name then Some l.slot else found ls name

-- each name has its place, and the scratch after the names is free
pub record IsLayout (op : Operation) (slots : Slots) (free_bit free_word : ℕ) : Type 0 where
  pub at : (name : List ℕ) → slots name ≡ found (lays op) name
  pub bits : free_bit ≡ scratch_names Bit op
  pub words : free_word ≡ scratch_names Word op

-- and so in a map of names
abbrev pub IsLayoutMap : Operation → NameMap → Type 0
IsLayoutMap op m = IsLayout op (slots_of m) m.free_bit m.free_word
