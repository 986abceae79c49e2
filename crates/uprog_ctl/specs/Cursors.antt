-- Where a bank stands in its queue.
use Rattle.std.specs.Prelude.{◌≡◌, ℕ, ◌<◌, ◌⊎◌, true, nat_lt, if◌then◌else◌, List, [], ◌∷◌, ◌++◌}
use Rattle.std.specs.Prelude.{length, map, drop, remove, slice_set, slice_index_or}
use Rattle.dram_model.specs.declared.address.Command.{Command}
use Rattle.dram_model.specs.Column.{is_legal}
use Rattle.uprog_code.specs.declared.commands.Walk.{Walk}
use Rattle.uprog_code.specs.Commands.{commands_from, StandsIn as StandsInCode}
use Rattle.uprog_ctl.specs.declared.cursor.Cursor.{Cursor}
use Rattle.uprog_ctl.specs.declared.cursor.JobHead.{JobHead}
use Rattle.uprog_code.specs.Shape.{Shape, shape_of}
use Rattle.uprog_ctl.specs.declared.waves.Job.{Job}
use Rattle.uprog_ctl.specs.Waves.{BoundJob, job_queues}
use Rattle.wave_model.specs.Schedule.{Queues, live as live_banks}

-- what a job still sends to this bank from a place on
abbrev pub bank_commands : ℕ → ℕ → BoundJob → Walk → List Command
bank_commands rows bank job w = if nat_lt bank job.banks
    then commands_from rows job.shape job.code job.binding w
    else []

-- the place lies in the job's code, and the trace from it on ends
abbrev pub StandsIn : BoundJob → Walk → Type 0
StandsIn job w = StandsInCode job.shape job.code job.binding.n w

-- the first command of what is left in a bank is this one, and the place after it that one
pub record Finds (rows bank : ℕ) (job : BoundJob) (w following : Walk) (next : Command) : Type 0
  where
    pub first : bank_commands rows bank job w ≡ next ∷ bank_commands rows bank job following
    pub legal : is_legal rows next ≡ true
    pub stands : StandsIn job following

-- what a bank has still to do of these jobs, where it stands in the first of them
abbrev pub left_from : ℕ → ℕ → List BoundJob → Walk → List Command
left_from rows bank [] w = []
left_from rows bank (job ∷ jobs) w = bank_commands rows bank job w ++ job_queues rows jobs bank

-- the place lies in the first job, if there is any job left
abbrev pub StandsInFirst : List BoundJob → Walk → Type 0
StandsInFirst [] w = Unit {0}
StandsInFirst (job ∷ jobs) w = StandsIn job w

-- what a cursor has still to do: its next command, and what stands after it
abbrev pub left_after : ℕ → List BoundJob → Cursor → List Command
left_after rows jobs c = left_from rows c.bank (drop c.job jobs) c.walk

-- the cursor of a bank that has these commands still to do
pub record IsAt (rows : ℕ) (jobs : List BoundJob) (commands : List Command) (c : Cursor) : Type 0
  where
    pub left : commands ≡ c.next ∷ left_after rows jobs c
    pub job : c.job < length jobs
    pub legal : is_legal rows c.next ≡ true
    pub stands : StandsInFirst (drop c.job jobs) c.walk

-- the heads of the jobs' entries, in order
abbrev pub AreHeads : {F : Type 0} → (F → Shape) → List (Job F) → List JobHead → Type 0
AreHeads shape jobs heads = map (λ h. shape_of h.head) heads ≡ map (λ job. shape job.entry) jobs

-- one cursor for each bank that has commands left, upwards
pub record AreAt (banks rows : ℕ) (jobs : List BoundJob) (left : Queues) (cs : List Cursor) : Type 0
  where
    pub live : map (λ c. c.bank) cs ≡ live_banks banks left
    pub each : (i : ℕ) (d : Cursor) → i < length cs
        → IsAt rows jobs (left (slice_index_or cs i d).bank) (slice_index_or cs i d)

-- the bank of the k-th cursor goes on to its next command, or has none left
pub record GoesOn (rows : ℕ) (jobs : List BoundJob) (old : List Cursor) (k : ℕ) (c : Cursor)
    (new : List Cursor) : Type 0 where
  pub bank : c.bank ≡ (slice_index_or old k c).bank
  pub at : IsAt rows jobs (left_after rows jobs (slice_index_or old k c)) c
  pub cursors : new ≡ slice_set old k c

-- The bank of the k-th cursor goes on, or its cursor is gone because its queue is empty.
abbrev pub MovesOn : ℕ → List BoundJob → List Cursor → ℕ → List Cursor → Type 0
MovesOn rows jobs old k new =
    ((c : Cursor) × GoesOn rows jobs old k c new)
    ⊎ (((d : Cursor) → left_after rows jobs (slice_index_or old k d) ≡ [])
    × (new ≡ remove old k))
