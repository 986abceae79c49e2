use Rattle.std.proofs.Common.{◌≡◌, ◌++◌, map, flat_map}
use Rattle.op_text.specs.declared.tree.Op.{Op}
use Rattle.op_text.specs.Language.{operation}
use Rattle.verify_job.specs.declared.finding.OpFindings.{OpFindings}
use Rattle.verify_job.specs.Report.{op_lines}
use Rattle.verify_job.proofs.text.put_lines.Given as goal

-- the lines that were written
abbrev pub invariant-loop-op : goal.invariant-loop-op
invariant-loop-op l = l.out.items ≡ l.initial.out.items
    ++ flat_map {X = Op × OpFindings} (λ p. op_lines l.single (operation p.0) p.1.at.items)
    (map (λ p. (p.0.now, p.1.now)) l.yielded)
