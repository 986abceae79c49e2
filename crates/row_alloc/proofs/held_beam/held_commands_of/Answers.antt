use Rattle.row_alloc.proofs.Common.{arith, Some, None, IfOk-weaker}
use Rattle.std.proofs.Common.{Option}
use Rattle.std.specs.Prelude.{IfNone}
use Rattle.std.proofs.lemmas.Option.{IfSome_then}
use Rattle.row_alloc.proofs.held_beam.held_commands_of.Goals as goal
use Rattle.row_alloc.proofs.held_beam.held_commands_of.Goals.{in_default-via-in_default}
use Rattle.row_alloc.proofs.held_beam.held_commands_of.Goals.{in_default-via-in-Some+else-cmds-most}

pub returns-in_ok-copied-in-Some-clause-least : goal.returns-in_ok-copied-in-Some-clause-least
returns-in_ok-copied-in-Some-clause-least c = λ k l s.
    rw c.in_ok-copied-in-Some.ensures (c.in-Some.ensures.least k l s)

none : {A P : Type 0} (o : Option A) → P → IfNone o P
none None p = p
none (Some x) p = tt

pub returns-in_default-clause-none : goal.returns-in_default-clause-none
returns-in_default-clause-none c = IfOk-weaker c.search_held.result _ _ (λ o few. none o (λ may k l s.
    elim c.in_default.branch [
      | in_default-via-in-Some+else-cmds-most w ↦
          let least = w.in-Some.ensures.least k l s in omega (arith, w.if-cmds-most.false, least)
      | in_default-via-in_default w ↦ elim (w.in_default.ensures.none k l s) [ ]
    ])) c.search_held.ensures

pub returns-in_default-clause-least : goal.returns-in_default-clause-least
returns-in_default-clause-least c = IfOk-weaker c.search_held.result _ _ (λ o few. IfSome_then o few
    (λ cmds found k l s. elim c.in_default.branch [
      | in_default-via-in-Some+else-cmds-most w ↦
          let least = w.in-Some.ensures.least k l s in
          let short = found.few in
          omega (arith, w.if-cmds-most.false, least, short)
      | in_default-via-in_default w ↦ elim (w.in_default.ensures.none k l s) [ ]
    ])) c.search_held.ensures
