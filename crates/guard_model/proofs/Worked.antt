-- A worked row of the definitions: a guarded object of four elements and width 2 is made, loaded
-- and printed.
use Rattle.guard_model.proofs.Common.{◌≡◌, ℕ, Bool, true, false, List, [], ◌∷◌, None, refl}
use Rattle.guard_model.proofs.Common.{Geometry, Counters, free, Instruction, Init, Load, Print}
use Rattle.guard_model.proofs.Common.{Routines, majority}
use Rattle.bbop_isa.specs.Forms.{whole}
use Rattle.dram_model.specs.Chip.{blank_banks}
use Rattle.machine_model.specs.declared.Reply.TheVariants.{Done}
use Rattle.machine_model.specs.Report.{Said}
use Rattle.guard_model.specs.declared.Flip.{Flip}
use Rattle.guard_model.specs.Guarded.{votes_at_end, guarded_tally, guarded_said_in_rows}
use Rattle.guard_model.specs.Survival.{Spot, whole_at_end}

abbrev small : Geometry
small = record { banks = 1; rows = 64; words = 1 }

abbrev none : Routines
none name = None

abbrev script : List Instruction
script = Init (97 ∷ []) 4 2 ∷ Load (whole (97 ∷ [])) (0 ∷ 1 ∷ 2 ∷ 3 ∷ [])
    ∷ Print (whole (97 ∷ [])) ∷ []

abbrev flip : Flip
flip = record { before = 3; bank = 0; row = 0; column = 1 }

-- the chip's counters once the image's rows are written
abbrev opened : Counters
opened = record { aap = 0; ap = 0; writes = 64; reads = 0 }

votes_row : votes_at_end small none [] script ≡ 36
unfolding free
votes_row = refl

tally_row : guarded_tally small none [] script (flip ∷ []) opened
    ≡ record { aap = 42; ap = 0; writes = 71; reads = 3 }
unfolding free
tally_row = refl

abbrev counted : ℕ → Said
counted aap = Said.Answered (Done (record { aap = aap; ap = 0 }))

-- one copy is hit, and then two
mended_row : guarded_said_in_rows small none (flip ∷ []) 1 [] (blank_banks small) script ≡ counted 6
    ∷ counted 0 ∷ Said.Printed (97 ∷ []) (0 ∷ 1 ∷ 2 ∷ 3 ∷ []) ∷ []
unfolding free majority
mended_row = refl

lost_row : guarded_said_in_rows small none (flip ∷ record flip { row = 2 } ∷ []) 1 []
    (blank_banks small) script ≡ counted 6 ∷ counted 0 ∷ Said.Printed (97 ∷ []) (0 ∷ 0 ∷ 2 ∷ 3 ∷ [])
    ∷ []
unfolding free majority
lost_row = refl

-- which elements of the object are whole at the end
abbrev element : ℕ → Spot
element column = record { bank = 0; column = column }

abbrev is_whole : List Flip → ℕ → Bool
is_whole flips column =
    whole_at_end small none flips 1 (element column) [] (λ name. true) script (97 ∷ [])

-- one cell of it is hit in two copies; the element beside it is whole
lost_element : is_whole (flip ∷ record flip { row = 2 } ∷ []) 1 ≡ false
unfolding free majority
lost_element = refl

beside_row : is_whole (flip ∷ record flip { row = 2 } ∷ []) 2 ≡ true
unfolding free majority
beside_row = refl

-- two cells of it are hit, each in another copy
rows_differ : is_whole (flip ∷ record flip { row = 3 } ∷ []) 1 ≡ true
unfolding free majority
rows_differ = refl

mended_rows : guarded_said_in_rows small none (flip ∷ record flip { row = 3 } ∷ []) 1 []
    (blank_banks small) script ≡ counted 6 ∷ counted 0
    ∷ Said.Printed (97 ∷ []) (0 ∷ 1 ∷ 2 ∷ 3 ∷ []) ∷ []
unfolding free majority
mended_rows = refl

-- a column past the object's four elements is hit in two copies
past_count : is_whole (record flip { column = 4 } ∷ record flip { row = 2; column = 4 } ∷ []) 1
    ≡ true
unfolding free majority
past_count = refl
