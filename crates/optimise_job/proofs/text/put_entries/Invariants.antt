use Rattle.optimise_job.proofs.Common.{◌≡◌, ◌++◌, map, flat_map, EntryCode, microprogram_of}
use Rattle.optimise_job.specs.declared.offer.Outcome.{Outcome}
use Rattle.optimise_job.specs.Report.{entry_line}
use Rattle.optimise_job.proofs.text.put_entries.Given as goal

-- the lines that were written
abbrev pub invariant-loop-entry : goal.invariant-loop-entry
invariant-loop-entry l = l.out.items ≡ l.initial.out.items
    ++ flat_map {X = EntryCode × Outcome} (λ p. entry_line (microprogram_of p.0) p.1)
    (map (λ p. (p.0.now, p.1.now)) l.yielded)
