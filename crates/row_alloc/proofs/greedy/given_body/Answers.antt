use Rattle.row_alloc.proofs.Common.{arith, IfOk-weaker}
use Rattle.row_alloc.proofs.greedy.given_body.Goals as goal
use Rattle.row_alloc.proofs.greedy.given_body.Goals.{in_default-via-in-Some+else-first-len}
use Rattle.row_alloc.proofs.greedy.given_body.Goals.{in_default-via-in_default}

pub returns-in-Some-clause-least : goal.returns-in-Some-clause-least
returns-in-Some-clause-least c = IfOk-weaker c.copied.result _ _ (λ cmds e k l s.
    rw e (c.in-Some.ensures.least k l s)) c.copied.ensures

pub returns-in_default-clause-least : goal.returns-in_default-clause-least
returns-in_default-clause-least c = IfOk-weaker c.right_of.result _ _ (λ cmds short k l s.
    elim c.in_default.branch [
      | in_default-via-in-Some+else-first-len w ↦
          let least = w.in-Some.ensures.least k l s in omega arith
      | in_default-via-in_default w ↦ elim (w.in_default.ensures.none k l s) [ ]
    ]) c.right_of.ensures.few
