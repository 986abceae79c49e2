-- Worked values: the bytes of events, and events that are refused.
use Rattle.std.proofs.Common.{◌≡◌, true, false, [], ◌∷◌, refl}
use Rattle.std.specs.Prelude.{Ok, Err, replicate}
use Rattle.dram_model.specs.declared.address.Addr.TheVariants.{B, D}
use Rattle.dram_model.specs.declared.address.Command.TheVariants.{Ap, Aap}
use Rattle.dram_model.specs.declared.geometry.Geometry.{Geometry}
use Rattle.dram_model.specs.Chip.Event.{Row, Write}
use Rattle.trace_model.specs.declared.TraceKind.TheVariants as kinds
use Rattle.trace_model.specs.Spelling.{event_bytes}
use Rattle.file_fields.specs.Fields.{fault_at}
use Rattle.trace_model.specs.Reading.{head_at, event_at}

abbrev g : Geometry
g = record { banks = 1; rows = 64; words = 1 }

first : event_bytes g (Row 0 (Aap (D 0) (B 8))) ≡ 0 ∷ 0 ∷ 2 ∷ 0 ∷ 0 ∷ 0 ∷ 8 ∷ 0 ∷ []
first = refl

alone : event_bytes g (Row 0 (Ap (B 14))) ≡ 1 ∷ 0 ∷ 0 ∷ 14 ∷ 0 ∷ 0 ∷ 0 ∷ 0 ∷ []
alone = refl

write : event_bytes g (Write 0 3 (true ∷ false ∷ true ∷ replicate 61 false))
    ≡ 2 ∷ 0 ∷ 2 ∷ 3 ∷ 0 ∷ 0 ∷ 0 ∷ 0 ∷ 5 ∷ 0 ∷ 0 ∷ 0 ∷ 0 ∷ 0 ∷ 0 ∷ 0 ∷ []
write = refl

read_first : event_at g 0 (0 ∷ 0 ∷ 2 ∷ 0 ∷ 0 ∷ 0 ∷ 8 ∷ 0 ∷ []) ≡ Ok (Row 0 (Aap (D 0) (B 8)), 8)
unfolding event_at head_at
read_first = refl

-- C1 as second address
not_legal : event_at g 0 (0 ∷ 0 ∷ 1 ∷ 0 ∷ 0 ∷ 1 ∷ 1 ∷ 0 ∷ []) ≡ Err (fault_at 0 kinds.Legal)
unfolding event_at head_at
not_legal = refl

no_such_row : event_at g 0 (0 ∷ 0 ∷ 2 ∷ 64 ∷ 0 ∷ 0 ∷ 8 ∷ 0 ∷ []) ≡ Err (fault_at 0 kinds.Event)
unfolding event_at head_at
no_such_row = refl

short : event_at g 0 (2 ∷ 0 ∷ 2 ∷ 3 ∷ 0 ∷ 0 ∷ 0 ∷ 0 ∷ 5 ∷ []) ≡ Err (fault_at 9 kinds.Short)
unfolding event_at head_at
short = refl
