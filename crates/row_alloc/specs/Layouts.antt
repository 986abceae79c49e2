-- The cells in which a state may stand from one body to the next, as the wordlines that read it
use Rattle.std.specs.Prelude.{◌≡◌, ℕ, nat_lt, Bool, List, [], ◌∷◌, slice_index_or}
use Rattle.std.specs.List.{AllByRecursion}
use Rattle.dram_model.specs.declared.address.Cell.TheVariants.{T, Dcc}
use Rattle.dram_model.specs.declared.address.Line.{Line}
use Rattle.dram_model.specs.Column.{Column, plain, negated, read}

-- one T cell; T3 and a DCC, straight or complemented; T0 and T1; T0 and the complement in DCC0; T3
-- and the complement in T2; DCC0; DCC1
abbrev pub layouts : List (List Line)
layouts =
    (plain (T 0) ∷ []) ∷ (plain (T 1) ∷ []) ∷ (plain (T 2) ∷ []) ∷ (plain (T 3) ∷ [])
    ∷ (plain (T 3) ∷ plain (Dcc 1) ∷ []) ∷ (negated (T 3) ∷ negated (Dcc 1) ∷ [])
    ∷ (plain (T 3) ∷ plain (Dcc 0) ∷ []) ∷ (negated (T 3) ∷ negated (Dcc 0) ∷ [])
    ∷ (plain (T 0) ∷ plain (T 1) ∷ []) ∷ (plain (T 0) ∷ negated (Dcc 0) ∷ [])
    ∷ (plain (T 3) ∷ negated (T 2) ∷ []) ∷ (plain (Dcc 0) ∷ []) ∷ (plain (Dcc 1) ∷ [])
    ∷ []

-- the wordlines of the layout of this number
abbrev pub layout : ℕ → List Line
layout k = slice_index_or layouts k []

-- there is a layout of this number
abbrev pub is_layout : ℕ → Bool
is_layout k = nat_lt k 13

-- each wordline of the layout reads this
abbrev pub StandsIn : Column → ℕ → Bool → Type 0
StandsIn s k v = AllByRecursion (λ (line : Line). read s line ≡ v) (layout k)
