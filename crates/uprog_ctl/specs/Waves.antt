-- Waves of microprograms on the banks of a chip.
use Rattle.std.specs.Prelude.{◌≡◌, ◌≢◌, ℕ, ◌*◌, ◌<◌, ◌≤◌, List}
use Rattle.std.specs.Prelude.{map, take, sum_by, slice_get, Some}
use Rattle.bit_rows.specs.declared.TheConstants.{WIDTH_MAX}
use Rattle.dram_model.specs.declared.address.Command.{Command}
use Rattle.dram_model.specs.declared.geometry.Geometry.{Geometry}
use Rattle.dram_model.specs.Column.{run}
use Rattle.dram_model.specs.Chip.{Event, after, Grew, SameBut}
use Rattle.faults.specs.Counts.{Rose}
use Rattle.dram_model.specs.Chip.Event.{Row}
use Rattle.dram_model.specs.View.{ChipView}
use Rattle.uprog_code.specs.declared.binding.Binding.{Binding}
use Rattle.uprog_code.specs.declared.code.Uop.{Uop}
use Rattle.uprog_code.specs.declared.walker.Counts.{Counts}
use Rattle.uprog_code.specs.Shape.{Shape}
use Rattle.uprog_code.specs.Machine.{Issue, trace, issues_of, HasEnded}
use Rattle.uprog_code.specs.Count.{counts_of}
use Rattle.uprog_code.specs.Legal.{IsLegalCode}
use Rattle.uprog_code.specs.Bound.{bound, bound_of}
use Rattle.uprog_code.specs.Fits.{Fits}
use Rattle.uprog_ctl.specs.declared.waves.Job.{Job}
use Rattle.wave_model.specs.Schedule.{WaveJob, Queues, queues, Picker, events_of_picks}
use Rattle.wave_model.specs.Schedule.{whole_picks}

-- a microprogram, the rows that it is bound to, and how many banks run it
pub record BoundJob : Type 0 where
  pub shape : Shape
  pub code : List Uop
  pub binding : Binding
  pub banks : ℕ

-- a job of a wave, by what its entry means
abbrev pub bound_job : {F : Type 0} → (F → Shape) → (F → List Uop) → Job F → BoundJob
bound_job shape code job = record {
  shape = shape job.entry;
  code = code job.entry;
  binding = job.binding;
  banks = job.banks;
}

-- the jobs of a wave, by what their entries mean
abbrev pub bound_jobs : {F : Type 0} → (F → Shape) → (F → List Uop) → List (Job F) → List BoundJob
bound_jobs shape code jobs = map (bound_job shape code) jobs

-- its row commands at the binding's width
abbrev pub issues_in : BoundJob → List Issue
issues_in job = issues_of (trace job.shape job.code job.binding.n)

-- the row commands of a job, with the rows of a bank that they activate
abbrev pub commands_of : ℕ → BoundJob → List Command
commands_of rows job = bound rows job.shape job.binding.n (bound_of job.binding) (issues_in job)

-- what each bank of a wave has to do, in a chip of so many data rows
abbrev pub wave_job : ℕ → BoundJob → WaveJob
wave_job rows job = record { commands = commands_of rows job; banks = job.banks }

-- what each bank has to do in the whole wave
abbrev pub job_queues : ℕ → List BoundJob → Queues
job_queues rows jobs = queues (map (wave_job rows) jobs)

-- a chip of this shape can run the job: its code is legal and its trace ends, its binding fits, and
-- it asks for no more banks than there are
pub record CanRun (g : Geometry) (job : BoundJob) : Type 0 where
  pub legal : IsLegalCode job.shape job.code
  pub some : 0 < job.binding.n
  pub narrow : job.binding.n ≤ WIDTH_MAX
  pub fits : Fits g.rows job.shape job.binding.n (bound_of job.binding)
  pub ends : HasEnded (trace job.shape job.code job.binding.n)
  pub banks : job.banks ≤ g.banks

-- the counts of all jobs, each as often as it has banks
abbrev pub wave_counts : List BoundJob → Counts
wave_counts jobs = record {
  aap = sum_by (λ job. job.banks * (counts_of (issues_in job)).aap) jobs;
  ap = sum_by (λ job. job.banks * (counts_of (issues_in job)).ap) jobs;
}

-- the events of the picks of a picker's state
abbrev pub wave_events : {S : Type 0} → Picker S → ℕ → S → Queues → List Event
wave_events picker banks state left =
    events_of_picks banks (whole_picks picker banks state left) left

-- The call for an event failed: those before it are done, its bank is unspecified, and each other
-- bank stands where the first commands of its own queue leave it
pub record StoppedAmong (events : List Event) (queue : Queues) (old new : ChipView) : Type 0 where
  pub done : ℕ
  pub bank : ℕ
  pub command : Command
  pub failed : slice_get events done ≡ Some (Row bank command)
  pub others : SameBut bank (after (take done events) old.banks) new.banks
  pub alone : (b : ℕ) → b ≢ bank → b < old.geometry.banks
      → (k : ℕ) × (new.banks b ≡ map (run (take k (queue b))) (old.banks b))
  pub known : Grew old.log new.log (take done events)
  pub rose : Rose old.faults new.faults
