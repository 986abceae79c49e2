use Rattle.std.proofs.Common.{◌≡◌, ◌++◌, take, map, codes}
use Rattle.std.specs.List.{flat_map}
use Rattle.op_text.specs.Language.{equation}
use Rattle.op_print.specs.Canonical.{line, let_text}
use Rattle.op_print.proofs.statements.put_lets.Given as goal

abbrev pub invariant-loop-assign : goal.invariant-loop-assign
invariant-loop-assign l =
    l.out.items ≡ l.fn.out.items ++ flat_map (λ e. line (codes "    ") (let_text e))
    (map equation (take l.assign-index l.lets))
