use Rattle.std.proofs.Common.{◌≡◌, ◌++◌, drop}
use Rattle.prog_text.specs.Costs.{costs}
use Rattle.prog_text.proofs.costs.cost_text.Given as goal

-- what was written, with the entries that are left, is all
abbrev pub invariant-loop-k : goal.invariant-loop-k
invariant-loop-k l = l.out.items ++ costs l.widths (drop l.k l.prog.programs)
    ≡ costs l.widths l.prog.programs
