-- A wave has no more commands than its jobs' walks may take.
use Rattle.uprog_ctl.proofs.Common.{ℕ, zero, suc, ◌+◌, ◌*◌, ◌≤◌, Bool, true, false, List, [], ◌∷◌}
use Rattle.uprog_ctl.proofs.Common.{length, Some, subst, arith, nat_lt, if◌then◌else◌, slice_get}
use Rattle.uprog_ctl.proofs.Common.{sum_by, length-map, sum_by-cons, WALK_MAX, Uop, Shape, Issue}
use Rattle.uprog_ctl.proofs.Common.{IssueAap, IssueAp, Trace, issues_of, bound_command, bound_of}
use Rattle.uprog_ctl.proofs.Common.{trace_is, Queues, total_left}
use Rattle.std.proofs.Common.{◌-◌, Option, None}
use Rattle.std.specs.Prelude.{◌==◌, nat_le, slice_index, slice_set}
use Rattle.std.specs.List.{range_with_len}
use Rattle.std.proofs.lemmas.List.{length-append}
use Rattle.uprog_code.specs.declared.code.Uop.TheVariants.{Done, SetI, SetN, SetT, Mov, Add, AddI}
use Rattle.uprog_code.specs.declared.code.Uop.TheVariants.{SubI, Bnez, Aap, Ap}
use Rattle.uprog_code.specs.declared.walker.Why3.TheVariants.{Index, Register}
use Rattle.uprog_code.specs.Machine.{Ended, Stuck, onto, Next, act, act_at, issue, issued, start}
use Rattle.uprog_code.specs.Machine.{command_at, all_in_range}
use Rattle.uprog_ctl.specs.Waves.{BoundJob, issues_in, commands_of, job_queues}

-- the trace has at most so many commands
abbrev IsShort : ℕ → Trace → Type 0
IsShort k t = length (issues_of t) ≤ k

module _ (shape : Shape) (n : ℕ) where
  issued_short : (c : Issue) (pc k : ℕ) (t : Trace) → IsShort k t
      → IsShort (suc k) (issued shape n c pc t)
  issued_short c pc k t h = decide (all_in_range shape n c)
    where
      on : (t : Trace) → IsShort k t → IsShort (suc k) (onto (c ∷ []) t)
      on (Ended cs) l = omega arith
      on (Stuck at why) l = omega arith

      decide : (b : Bool) → IsShort (suc k) (if b then onto (c ∷ []) t else Stuck pc Index)
      decide true = on t h
      decide false = omega arith

  more : (k : ℕ) (t : Trace) → IsShort k t → IsShort (suc k) t
  more k t h = omega arith

  either : (b : Bool) (t : Trace) (pc k : ℕ) → IsShort k t
      → IsShort (suc k) (if b then t else Stuck pc Register)
  either true t pc k h = more k t h
  either false t pc k h = omega arith

  jump : (b : Bool) (t u : Trace) (k : ℕ) → IsShort k t → IsShort k u
      → IsShort (suc k) (if b then t else u)
  jump true t u k h l = more k t h
  jump false t u k h l = more k u l

  act_short : (i : Uop) (next : Next) (k : ℕ) → ((q : ℕ) (r : List ℕ) → IsShort k (next q r))
      → (pc : ℕ) (regs : List ℕ) → IsShort (suc k) (act shape n i next pc regs)
  act_short Done next k h pc regs = omega arith
  act_short (SetI r i) next k h pc regs = more k (next (pc + 1) (slice_set regs r i)) (h _ _)
  act_short (SetN r) next k h pc regs = more k (next (pc + 1) (slice_set regs r n)) (h _ _)
  act_short (SetT r) next k h pc regs = more k (next (pc + 1) (slice_set regs r (n - 1))) (h _ _)
  act_short (Mov r s) next k h pc regs =
      more k (next (pc + 1) (slice_set regs r (slice_index regs s))) (h _ _)
  act_short (Add r s) next k h pc regs =
      either (nat_le (slice_index regs r + slice_index regs s) 1023)
      (next (pc + 1) (slice_set regs r (slice_index regs r + slice_index regs s))) pc k (h _ _)
  act_short (AddI r i) next k h pc regs =
      either (nat_le (slice_index regs r + i) 1023)
      (next (pc + 1) (slice_set regs r (slice_index regs r + i))) pc k (h _ _)
  act_short (SubI r i) next k h pc regs =
      either (nat_le i (slice_index regs r))
      (next (pc + 1) (slice_set regs r (slice_index regs r - i))) pc k (h _ _)
  act_short (Bnez r t) next k h pc regs =
      jump (slice_index regs r == 0) (next (pc + 1) regs) (next t regs) k (h _ _) (h _ _)
  act_short (Aap x y) next k h pc regs =
      issued_short (command_at regs (IssueAap x y)) pc k (next (pc + 1) regs) (h _ _)
  act_short (Ap x) next k h pc regs =
      issued_short (command_at regs (IssueAp x)) pc k (next (pc + 1) regs) (h _ _)

  at_short : (o : Option Uop) (next : Next) (k : ℕ) → ((q : ℕ) (r : List ℕ) → IsShort k (next q r))
      → (pc : ℕ) (regs : List ℕ) → IsShort (suc k) (act_at shape n o next pc regs)
  at_short None next k h pc regs = omega arith
  at_short (Some i) next k h pc regs = act_short i next k h pc regs

  issue_short : (code : List Uop) (left pc : ℕ) (regs : List ℕ)
      → IsShort left (issue shape code n left pc regs)
  unfolding issue
  issue_short code zero pc regs = omega arith
  issue_short code (suc left) pc regs = at_short (slice_get code pc) (issue shape code n left) left
      (issue_short code left) pc regs

job_short : (rows : ℕ) (job : BoundJob) → length (commands_of rows job) ≤ 67108864
job_short rows job =
    let one = issue_short job.shape job.binding.n job.code WALK_MAX 0 start in
    let all : length (issues_in job) ≤ 67108864 =
    subst (λ (t : Trace). length (issues_of t) ≤ 67108864)
    (trace_is job.shape job.code job.binding.n) one in
    omega (
      arith,
      all,
      length-map (issues_in job)
          (bound_command rows job.shape job.binding.n (bound_of job.binding)),
    )

queue_short : (rows bank : ℕ) (jobs : List BoundJob)
    → length (job_queues rows jobs bank) ≤ length jobs * 67108864
queue_short rows bank [] = omega arith
queue_short rows bank (job ∷ jobs) =
    let here : length (if nat_lt bank job.banks then commands_of rows job else []) ≤ 67108864 =
    own (nat_lt bank job.banks) in
    omega (
      arith,
      here,
      queue_short rows bank jobs,
      length-append (if nat_lt bank job.banks then commands_of rows job else [])
          (job_queues rows jobs bank),
    )
  where
    own : (t : Bool) → length (if t then commands_of rows job else []) ≤ 67108864
    own true = job_short rows job
    own false = omega arith

sum_short : (left : Queues) (a n : ℕ) → ((b : ℕ) → length (left b) ≤ 1073741824)
    → sum_by (λ b. length (left b)) (range_with_len a n) ≤ n * 1073741824
sum_short left a zero h = omega arith
sum_short left a (suc n) h = omega (
  arith,
  h a,
  sum_short left (a + 1) n h,
  sum_by-cons (λ b. length (left b)) a (range_with_len (a + 1) n),
)

-- 16 jobs on 16 banks
pub wave_short : (banks rows : ℕ) (jobs : List BoundJob) → banks ≤ 16 → length jobs ≤ 16
    → total_left banks (job_queues rows jobs) ≤ 17179869184
wave_short banks rows jobs h l =
    let all = sum_short (job_queues rows jobs) 0 banks
    (λ b. omega (arith, queue_short rows b jobs, l)) in
    omega (arith, all, h)
