use Rattle.std.proofs.Common.{◌≡◌, ◌++◌, ◌≤◌, drop, map}
use Rattle.std.specs.Prelude.{◌==◌, slice_range}
use Rattle.verify_job.specs.Widths.{follows, runs_of, span_text, widths_text}
use Rattle.verify_job.proofs.Runs.{commas, glue}
use Rattle.verify_job.proofs.widths.put_widths.Given as goal

-- what was written, with the spans from the k-th width on, is all
abbrev pub invariant-loop-k : goal.invariant-loop-k
invariant-loop-k l = record {
  within : l.from ≤ l.k;
  text : l.out.items ++ commas (l.from == 0) (map span_text
      (glue (slice_range l.widths l.from l.k) (runs_of follows (drop l.k l.widths))))
      ≡ l.initial.out.items ++ widths_text l.widths;
}
