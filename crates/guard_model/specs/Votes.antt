-- Votes: the three copies take their majority, by three-row activation.
use Rattle.std.specs.Prelude.{ℕ, ◌+◌, ◌*◌, List, [], ◌∷◌, ◌++◌, flat_map}
use Rattle.std.specs.List.{range_with_len}
use Rattle.dram_model.specs.declared.geometry.Geometry.{Geometry}
use Rattle.dram_model.specs.declared.address.Addr.TheVariants.{B, D}
use Rattle.dram_model.specs.declared.address.Command.{Command}
use Rattle.dram_model.specs.declared.address.Command.TheVariants.{Aap}
use Rattle.dram_model.specs.Chip.{Banks, Event}
use Rattle.object_alloc.specs.declared.table.Object.{Object}
use Rattle.object_alloc.specs.Listed.{Named}
use Rattle.machine_model.specs.Columns.{segments}
use Rattle.machine_model.specs.Steps.{job_events, through}
use Rattle.wave_model.specs.Schedule.{WaveJob}

-- the vote of three rows
abbrev pub row_vote : ℕ → ℕ → ℕ → List Command
row_vote x y z = Aap (D x) (B 0) ∷ Aap (D y) (B 1) ∷ Aap (D z) (B 2) ∷ Aap (B 12) (D x) ∷ Aap (B 0)
    (D y) ∷ Aap (B 0) (D z) ∷ []

-- of so many rows from three bases on, upwards
abbrev pub votes : ℕ → ℕ → ℕ → ℕ → ℕ → List Command
votes x y z from n = flat_map (λ k. row_vote (x + k) (y + k) (z + k)) (range_with_len from n)

-- the vote of three copies, in each bank of their segments
abbrev pub vote_job : Geometry → Object → Object → Object → WaveJob
vote_job g x y z = record { commands = votes x.base y.base z.base 0 x.width; banks = segments g x }

-- every triple of a table is voted, in its order
abbrev pub voted : Geometry → List Named → Banks → Banks
voted g (x ∷ y ∷ z ∷ rest) banks = voted g rest (through (vote_job g x.1 y.1 z.1) banks)
voted g table banks = banks

-- the commands of that, in order
abbrev pub vote_events : Geometry → List Named → List Event
vote_events g (x ∷ y ∷ z ∷ rest) = job_events (vote_job g x.1 y.1 z.1) ++ vote_events g rest
vote_events g table = []

-- how many commands they are
abbrev pub vote_count : Geometry → List Named → ℕ
vote_count g (x ∷ y ∷ z ∷ rest) = 6 * (x.1.width * segments g x.1) + vote_count g rest
vote_count g table = 0
