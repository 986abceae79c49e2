use Rattle.std.proofs.Common.{◌≡◌, map, take}
use Rattle.verify_job.proofs.text.widths_of.Given as goal

-- the widths of the first findings
abbrev pub invariant-loop-found : goal.invariant-loop-found
invariant-loop-found l = l.widths.items ≡ map (λ f. f.width) (take l.found-index l.run)
