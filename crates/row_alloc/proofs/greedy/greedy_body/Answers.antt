use Rattle.row_alloc.proofs.Common.{◌≤◌, ◌∙◌, ap, arith, length, IfOk-weaker}
use Rattle.row_alloc.specs.Known.{known_at}
use Rattle.row_alloc.specs.Length.{plain_length}
use Rattle.row_alloc.proofs.greedy.greedy_body.Goals as goal
use Rattle.row_alloc.proofs.greedy.greedy_body.Goals.{in_default-via-in-Some+else-cmds-len}
use Rattle.row_alloc.proofs.greedy.greedy_body.Goals.{in_default-via-in_default}

pub returns-in-Some-clause-known : goal.returns-in-Some-clause-known
returns-in-Some-clause-known c = IfOk-weaker c.copied.result _ _ (λ cmds e k first few.
    e ∙ c.in-Some.ensures.first k first) c.copied.ensures

pub returns-in-Some-clause-least : goal.returns-in-Some-clause-least
returns-in-Some-clause-least c = IfOk-weaker c.copied.result _ _ (λ cmds e k l s.
    rw e (c.in-Some.ensures.least k l s)) c.copied.ensures

pub returns-in_default-clause-known : goal.returns-in_default-clause-known
returns-in_default-clause-known c = IfOk-weaker c.shorter.result _ _ (λ cmds _ k first few.
    elim c.in_default.branch [
      | in_default-via-in-Some+else-cmds-len w ↦
          let e = ap length (w.in-Some.ensures.first k first) in
          let fits : length (known_at k) ≤ plain_length c.args.m.now c.args.outs.now = few in
          let no : ⊥ = omega (arith, c.in_ok-plain.ensures.exact) in elim no [ ]
      | in_default-via-in_default w ↦ elim (w.in_default.ensures.none k first.within first.serves)
          [ ]
    ]) c.shorter.ensures.few

pub returns-in_default-clause-least : goal.returns-in_default-clause-least
returns-in_default-clause-least c = IfOk-weaker c.shorter.result _ _ (λ cmds short k l s.
    elim c.in_default.branch [
      | in_default-via-in-Some+else-cmds-len w ↦
          let least = w.in-Some.ensures.least k l s in omega arith
      | in_default-via-in_default w ↦ elim (w.in_default.ensures.none k l s) [ ]
    ]) c.shorter.ensures.few
