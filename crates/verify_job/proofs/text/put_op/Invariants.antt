use Rattle.std.proofs.Common.{◌≡◌, ◌++◌, ◌≤◌, drop, flat_map}
use Rattle.std.specs.Prelude.{slice_range}
use Rattle.op_text.specs.Language.{operation}
use Rattle.verify_job.specs.Report.{op_lines, run_line, says_same}
use Rattle.verify_job.specs.Widths.{runs_of}
use Rattle.verify_job.proofs.Runs.{glue}
use Rattle.verify_job.proofs.text.put_op.Given as goal

-- what was written, with the lines of the runs from the k-th finding on, is all
abbrev pub invariant-loop-k : goal.invariant-loop-k
invariant-loop-k l = record {
  within : l.from ≤ l.k;
  text : l.out.items ++ flat_map (run_line l.single (operation l.op))
      (glue (slice_range l.found l.from l.k)
      (runs_of (says_same l.single (operation l.op).params) (drop l.k l.found)))
      ≡ l.initial.out.items ++ op_lines l.single (operation l.op) l.found;
}
