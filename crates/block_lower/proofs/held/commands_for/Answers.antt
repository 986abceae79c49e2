use Rattle.block_lower.proofs.Common.{◌≡◌, sym, subst, ◌∙◌, ap, IfSome_then, IfOk-weaker, DoesHeld}
use Rattle.block_lower.proofs.Common.{AreRows, enters, leaves, one-rows}
use Rattle.block_lower.proofs.held.commands_for.Goals as goal

pub returns : goal.returns
returns c =
    let g = c.args.graph.now.mig in
    let lits = c.args.graph.now.outs.items in
    let rows = c.in_ok-rows.rows.items in
    let enter = c.deref-3.ensures.value ∙ c.in_ok-enter.ensures in
    let leave = c.deref-4.ensures.value ∙ c.in_ok-leave.ensures
    ∙ ap (leaves c.args.writes.now) c.deref.ensures.value in
    IfOk-weaker c.held_commands_of.result _ _ (λ o h. IfSome_then o h (λ cmds found. record {
      does = λ outs is.
          let e : outs ≡ rows = one-rows c.args.reads.now c.args.writes.now g.inputs lits
          c.row_count.result outs rows (subst (λ m. AreRows c.args.reads.now c.args.writes.now
          g.inputs lits m outs) (sym c.row_count.ensures.count) is) c.in_ok-rows.ensures in
          subst (λ os. DoesHeld g os (enters 0 c.args.reads.now) (leaves c.args.writes.now lits)
          cmds.items) (c.deref-2.ensures.value ∙ sym e)
          (subst (λ hs. DoesHeld g c.deref-2.result.now hs (leaves c.args.writes.now lits)
          cmds.items) enter
          (subst (λ hs. DoesHeld g c.deref-2.result.now c.deref-3.result.now hs cmds.items) leave
          found.does));
      few = found.few;
    })) c.held_commands_of.ensures.found
