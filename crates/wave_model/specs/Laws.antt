-- Laws of waves.
use Rattle.std.specs.Prelude.{◌≡◌, ℕ, ◌+◌, ◌*◌, ◌<◌, ◌≤◌, Bool, true, false, List, map, take, All}
use Rattle.std.specs.Prelude.{sum_by, count_by}
use Rattle.dram_model.specs.declared.address.Command.{Command}
use Rattle.dram_model.specs.declared.address.Command.TheVariants.{Ap, Aap}
use Rattle.dram_model.specs.declared.dram.Counters.{Counters}
use Rattle.dram_model.specs.Column.{run}
use Rattle.dram_model.specs.Chip.{Banks, after, all_counted}
use Rattle.wave_model.specs.Schedule.{WaveJob, Queues, queues, events_of_picks, IsWhole}
use Rattle.wave_model.specs.Schedule.{whole_picks}
use Rattle.wave_model.specs.Schedule.{Turn, in_turn}

-- The picks of every order in force are a whole list
abbrev pub PicksAreWhole : Type 0
PicksAreWhole =
    (turn : Turn) (banks : ℕ) (left : Queues)
    → IsWhole banks (whole_picks in_turn banks turn left) left

-- Each bank of a wave is left as its own queue alone leaves it, for every whole list of picks
abbrev pub FollowsQueue : Type 0
FollowsQueue =
    (banks : ℕ) (picks : List ℕ) (left : Queues) (chip : Banks) (bank : ℕ)
    → IsWhole banks picks left → bank < banks
    → after (events_of_picks banks picks left) chip bank ≡ map (run (left bank)) (chip bank)

-- After the first k events of a whole list of picks each bank stands where the first commands of
-- its own queue leave it
abbrev pub StopsInItsQueue : Type 0
StopsInItsQueue =
    (banks : ℕ) (picks : List ℕ) (left : Queues) (chip : Banks) (bank k : ℕ)
    → IsWhole banks picks left → bank < banks
    → (m : ℕ) × (after (take k (events_of_picks banks picks left)) chip bank
    ≡ map (run (take m (left bank))) (chip bank))

-- the command copies a row, and counts as an AAP
abbrev pub is_aap : Command → Bool
is_aap (Ap x) = false
is_aap (Aap x y) = true

-- the command activates a triple alone, and counts as an AP
abbrev pub is_ap : Command → Bool
is_ap (Ap x) = true
is_ap (Aap x y) = false

-- so many more of each kind
abbrev pub with_commands : ℕ → ℕ → Counters → Counters
with_commands aap ap c = record c { aap = c.aap + aap; ap = c.ap + ap }

-- The counters rise by the commands of each job, as often as it has banks, for every whole list of
-- picks
abbrev pub CountsAreSums : Type 0
CountsAreSums =
    (banks : ℕ) (picks : List ℕ) (jobs : List WaveJob) (c : Counters)
    → IsWhole banks picks (queues jobs) → All (λ job. job.banks ≤ banks) jobs
    → all_counted (events_of_picks banks picks (queues jobs)) c
    ≡ with_commands (sum_by (λ job. job.banks * count_by is_aap job.commands) jobs)
    (sum_by (λ job. job.banks * count_by is_ap job.commands) jobs) c
