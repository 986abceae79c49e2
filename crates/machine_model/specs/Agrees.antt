-- When the banks hold what the word machine holds.
use Rattle.std.specs.Prelude.{◌≡◌, ℕ, ◌<◌, ◌≤◌, List, All, length, Some}
use Rattle.dram_model.specs.declared.geometry.Geometry.{Geometry}
use Rattle.dram_model.specs.Chip.{Banks}
use Rattle.bit_rows.specs.declared.TheConstants.{WIDTH_MAX}
use Rattle.machine_model.specs.Routines.{Performs}
use Rattle.uprog_code.specs.Machine.{issues_of}
use Rattle.object_alloc.specs.Listed.{IsTable}
use Rattle.bbop_isa.specs.Forms.{Instruction}
use Rattle.bbop_isa.specs.Forms.{Init, Bbop, Load, Fill, Print, Free, Order}
use Rattle.dram_model.specs.Elements.{column_count}
use Rattle.machine_model.specs.Columns.{segments, columns}
use Rattle.machine_model.specs.Routines.{Routine, Routines}
use Rattle.object_alloc.specs.Listed.{limit_of}
use Rattle.machine_model.specs.Steps.{Held, table_of}

-- each object has exactly these numbers in the banks' columns
abbrev pub HoldsNumbers : Geometry → Banks → List Held → Type 0
HoldsNumbers g banks state = All (λ h. columns g banks h.object ≡ h.numbers) state

-- the banks of a geometry hold the objects of a state
pub record Agrees (g : Geometry) (banks : Banks) (state : List Held) : Type 0 where
  pub shaped : (bank : ℕ) → bank < g.banks → length (banks bank) ≡ column_count g
  pub table : IsTable (limit_of g) (table_of state)
  pub within : All (λ h. segments g h.object ≤ g.banks) state
  pub numbers : HoldsNumbers g banks state

-- what is issued for each operation does what it means
abbrev pub DoesAll : Routines → (List ℕ → ℕ → List ℕ → List ℕ) → Type 0
DoesAll operations meaning = (name : List ℕ) (o : Routine) → operations name ≡ Some o → (n : ℕ)
    → 0 < n → n ≤ WIDTH_MAX → Performs o.shape n (issues_of (o.trace n)) (meaning name n)

-- what every script has: an object has some element, and it and a bbop have a width from 1 to the
-- greatest
abbrev pub IsWidth : ℕ → Type 0
IsWidth n = (0 < n) × (n ≤ WIDTH_MAX)

-- an instruction whose sizes are such as every script has
abbrev pub IsPlain : Instruction → Type 0
IsPlain (Init name count n) = (0 < count) × IsWidth n
IsPlain (Bbop op dst srcs count n) = IsWidth n
IsPlain (Load name values) = Unit {0}
IsPlain (Fill name value) = Unit {0}
IsPlain (Print name) = Unit {0}
IsPlain (Free name) = Unit {0}
IsPlain (Order o) = Unit {0}
