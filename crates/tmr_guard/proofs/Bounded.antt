-- How many commands a plain instruction on copies has.
use Rattle.tmr_guard.proofs.Common.{◌≡◌, ℕ, ◌+◌, ◌*◌, ◌≤◌, [], ◌∷◌, subst, arith, sym, WALK_MAX}
use Rattle.tmr_guard.proofs.Common.{Instruction, Init, Bbop, Load, Fill, Print, Free, Order, Reply}
use Rattle.tmr_guard.proofs.Common.{Machine, geometry_of, program_of, reply_of, table_in, on_copy}
use Rattle.machine_model.specs.Agrees.{IsPlain}
use Rattle.machine_model.specs.Script.{counted_in}
use Rattle.machine_model.proofs.Bounds.{work_is_bounded}
use Rattle.sim_machine.specs.Machine.{IsLaidOut}

pub copy_plain : (c : ℕ) (instr : Instruction) → IsPlain instr → IsPlain (on_copy c instr)
copy_plain c (Init name count n) h = h
copy_plain c (Bbop op dst srcs count n) h = h
copy_plain c (Load name values) h = tt
copy_plain c (Fill name value) h = tt
copy_plain c (Print name) h = tt
copy_plain c (Free name) h = tt
copy_plain c (Order o) h = tt

pub few_commands : (m : Machine) (c : ℕ) (instr : Instruction) (reply : Reply) → IsLaidOut m
    → IsPlain instr → reply ≡ reply_of m (on_copy c instr)
    → (counted_in reply).aap + (counted_in reply).ap ≤ 16 * WALK_MAX
few_commands m c instr reply laid plain e =
    let i = on_copy c instr in
    let few = work_is_bounded (geometry_of m) (program_of m) (table_in m) (i ∷ []) laid.shape
    laid.table (copy_plain c instr plain, tt) in
    let one : (counted_in (reply_of m i)).aap + (counted_in (reply_of m i)).ap ≤ 16 * WALK_MAX =
    omega (arith, few.commands) in
    subst (λ (r : Reply). (counted_in r).aap + (counted_in r).ap ≤ 16 * WALK_MAX) (sym e) one
