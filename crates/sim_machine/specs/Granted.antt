-- What a bbop is granted: what the parts of a wave come to, for its proof.
use Rattle.std.specs.Prelude.{◌≡◌, ℕ, ◌+◌, ◌≤◌, List, ◌∷◌, Ok, Some}
use Rattle.uprog_bin.specs.Opened.{EntryBytes, code_of}
use Rattle.uprog_ctl.specs.declared.waves.Job.{Job as UprogJob}
use Rattle.uprog_ctl.specs.Waves.{BoundJob, bound_job}
use Rattle.uprog_code.specs.declared.TheConstants.{WALK_MAX}
use Rattle.uprog_code.specs.Shape.{Microprogram, need}
use Rattle.uprog_code.specs.Machine.{trace}
use Rattle.uprog_code.specs.Count.{walked}
use Rattle.object_alloc.specs.Free.{free}
use Rattle.object_alloc.specs.Listed.{Named, objects_of}
use Rattle.dram_model.specs.declared.geometry.Geometry.{Geometry}
use Rattle.machine_model.specs.Columns.{segments}
use Rattle.machine_model.specs.Routines.{routine_of}
use Rattle.machine_model.specs.Refusals.{rows_of}
use Rattle.wave_model.specs.Schedule.{WaveJob}
use Rattle.machine_model.specs.Steps.{bound_at}
use Rattle.bbop_isa.specs.declared.instr.Place.{Place}
use Rattle.bbop_isa.specs.Forms.{Instruction}
use Rattle.bbop_isa.specs.Forms as instruction
use Rattle.sim_machine.specs.declared.refusal.Bbop.{Bbop}
use Rattle.sim_machine.specs.declared.refusal.Grant.{Grant}

-- the counts of its walk, and the least base of its scratch
pub record IsGranted (limit : ℕ) (table : List Named) (program : Microprogram) (n : ℕ)
    (grant : Grant) : Type 0 where
  pub walks : walked (trace program.shape program.code n) ≡ Ok grant.counts
  pub few : grant.counts.aap + grant.counts.ap ≤ WALK_MAX
  pub rows : free limit (objects_of table) (need program.shape n) ≡ Some grant.scratch

-- the commands of a bbop that is granted, in each bank of its destination
abbrev pub granted_job : Geometry → List Named → Microprogram → Place → List Place → ℕ → WaveJob
granted_job g table m dst srcs n = record {
  commands = bound_at g table (Some (routine_of m)) (dst ∷ srcs) n;
  banks = segments g (rows_of table dst);
}

-- the bbop, as an instruction
abbrev pub said_bbop : List ℕ → Bbop → Instruction
said_bbop op b = instruction.Bbop op b.dst.now b.srcs.now b.count b.n

-- a job of the machine, by what its entry means
abbrev pub job_bound : UprogJob EntryBytes → BoundJob
job_bound job = bound_job (λ (e : EntryBytes). e.shape) code_of job
