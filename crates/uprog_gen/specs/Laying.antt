-- How the names of an operation come to their places, one after another.
-- Private contracts alone speak of this.
use Rattle.std.specs.Prelude.{◌≡◌, ℕ, ◌+◌, ◌≤◌, List, [], ◌∷◌, length, map, filter, not}
use Rattle.std.specs.Prelude.{Option, Some, None, count_by}
use Rattle.op_text.specs.declared.tree.Kind.{Kind}
use Rattle.op_text.specs.declared.tree.Kind.TheVariants.{Word, Bit}
use Rattle.op_text.specs.declared.tree.Param.{Param}
use Rattle.op_text.specs.declared.tree.State.{State}
use Rattle.op_text.specs.declared.tree.Assign.{Assign}
use Rattle.op_text.specs.Language.{Statement, Compute, Visit}
use Rattle.op_text.specs.Meaning.{changed}
use Rattle.op_text.specs.Rules.{is_among, kind_among, MAX_STATES, MAX_ASSIGNS}
use Rattle.op_text.specs.Scratch.{param}
use Rattle.loop_ir.specs.declared.names.Slot.{Slot}
use Rattle.loop_ir.specs.declared.names.NameMap.{NameMap}
use Rattle.loop_ir.specs.Statements.{Slots, slots_of}
use Rattle.uprog_gen.specs.Layout.{Lay, is_scratch, source_lays, defined_lays}

-- the places of names, where these are set one after another
abbrev pub placed : Slots → List Lay → Slots
placed slots [] = slots
placed slots (l ∷ ls) = placed (changed slots l.name (Some l.slot)) ls

-- these names have come to the next places
pub record Lays (results : List (List ℕ)) (ps : List Param) (old new : NameMap) : Type 0 where
  pub at : (name : List ℕ) → slots_of new name
      ≡ placed (slots_of old) (defined_lays results old.free_bit old.free_word ps) name
  pub bits : new.free_bit ≡ old.free_bit + count_by (is_scratch results Bit) ps
  pub words : new.free_word ≡ old.free_word + count_by (is_scratch results Word) ps

-- the sources have come to theirs
pub record LaysSources (k : ℕ) (ps : List Param) (old new : NameMap) : Type 0 where
  pub at : (name : List ℕ) → slots_of new name ≡ placed (slots_of old) (source_lays k ps) name
  pub bits : new.free_bit ≡ old.free_bit
  pub words : new.free_word ≡ old.free_word

-- the kind of the value at a place, where there is one
abbrev pub kind_in : Option Slot → Option Kind
kind_in None = None
kind_in (Some x) = Some x.kind

-- the map has the known names with their kinds
abbrev pub Knows : List Param → NameMap → Type 0
Knows known m = (name : List ℕ) → kind_in (slots_of m name) ≡ kind_among known name

-- the names that a block defines
abbrev pub states_defined : List State → List Param
states_defined states = map (λ (s : State). param s.name Bit) states

-- the new words of a block: its targets that are no states
abbrev pub words_defined : List State → List Assign → List Param
words_defined states assigns = map (λ n. param n Word)
    (filter (λ n. not (is_among (map (λ (s : State). s.name) states) n))
    (map (λ (a : Assign). a.name) assigns))

-- a statement that defines no more names than an operation's statement may
abbrev pub IsShort : Statement → Type 0
IsShort (Compute target second p args) = Unit {0}
IsShort (Visit b) = (length b.states ≤ MAX_STATES) × (length b.assigns ≤ MAX_ASSIGNS)
