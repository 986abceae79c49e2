use Rattle.row_alloc.proofs.Common.{◌≤◌, ◌*◌, Bool, true, false, List, [], ◌∷◌, length, arith}
use Rattle.row_alloc.proofs.Common.{sum_by, if◌then◌else◌, IfOk-weaker, is_complemented}
use Rattle.std.proofs.lemmas.List.Sums.{sum_by-cons}
use Rattle.row_alloc.specs.declared.body.OutRow.{OutRow}
use Rattle.row_alloc.specs.Length.{output_length}
use Rattle.row_alloc.proofs.plain.plain_body.Goals as goal

at-most-three : (b : Bool) → (if b then 3 else 2) ≤ 3
at-most-three true = omega arith
at-most-three false = omega arith

outputs-bound : (outs : List OutRow) → sum_by output_length outs ≤ 3 * length outs
outputs-bound [] = omega arith
outputs-bound (o ∷ outs) = omega (
  arith,
  sum_by-cons output_length o outs,
  at-most-three (is_complemented o.lit),
  outputs-bound outs,
)

pub stash_part-requires-clause-nodes : goal.stash_part-requires-clause-nodes
stash_part-requires-clause-nodes c = c.in_ok-cmds.ensures.prepares c.args.outs.now

pub returns-clause-count : goal.returns-clause-count
returns-clause-count c = IfOk-weaker c.write_part.result _ _ (λ cmds e.
    omega (
      arith,
      e,
      c.in_ok-cmds-2.ensures.count,
      c.in_ok-cmds.ensures.count,
      outputs-bound c.args.outs.now,
    )) c.write_part.ensures.count
