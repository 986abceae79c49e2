use Rattle.std.proofs.Common.{◌≡◌, ◌++◌, take, map}
use Rattle.std.specs.List.{flat_map}
use Rattle.op_text.specs.Language.{statement}
use Rattle.op_print.specs.Canonical.{statement_lines}
use Rattle.op_print.proofs.statements.put_body.Given as goal

abbrev pub invariant-loop-stmt : goal.invariant-loop-stmt
invariant-loop-stmt l =
    l.out.items ≡ l.fn.out.items ++ flat_map statement_lines
    (map statement (take l.stmt-index l.body))
