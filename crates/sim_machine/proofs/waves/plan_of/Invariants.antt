use Rattle.sim_machine.proofs.Common.{◌≡◌, ◌≤◌, length, map, take, AllByRecursion, CanRun, wave_job}
use Rattle.sim_machine.proofs.Common.{view_of, routines_in, jobs_of, reply_to}
use Rattle.sim_machine.specs.Granted.{job_bound}
use Rattle.sim_machine.proofs.waves.plan_of.Given as goal

-- so it is with the bbops so far
abbrev pub invariant-loop-instr : goal.invariant-loop-instr
invariant-loop-instr l =
    let g = l.setting.geometry in
    let operations = routines_in l.setting.prog.now.programs in
    let table = l.setting.table.now.pairs in
    let done = map view_of (take l.instr-index l.instrs) in
    record {
      replies : l.plan.replies.items ≡ map (reply_to g operations table) done;
      jobs : map (wave_job g.rows) (map job_bound l.plan.jobs.items)
          ≡ jobs_of g operations table done;
      run : AllByRecursion (CanRun g) (map job_bound l.plan.jobs.items);
      few : length l.plan.jobs.items ≤ l.instr-index;
      many : length l.plan.replies.items ≡ l.instr-index;
    }
