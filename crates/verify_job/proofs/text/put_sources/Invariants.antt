use Rattle.std.proofs.Common.{◌≡◌, ◌++◌, ℕ, map, flat_map}
use Rattle.op_text.specs.declared.tree.Param.{Param}
use Rattle.verify_job.specs.Report.{source_text}
use Rattle.verify_job.proofs.text.put_sources.Given as goal

-- the sources that were written
abbrev pub invariant-loop-param : goal.invariant-loop-param
invariant-loop-param l = l.out.items ≡ l.initial.out.items
    ++ flat_map {X = Param × ℕ} (λ p. source_text p.0 p.1)
    (map (λ p. (p.0.now, p.1.now)) l.yielded)
