use Rattle.sim_machine.proofs.Common.{refl, arith, ◌∙◌}
use Rattle.sim_machine.proofs.Lines.{on_err, known_more, known_part}
use Rattle.sim_machine.proofs.report.put_lines.Goals as goal

pub returns-in_err-put_line-clause-part : goal.returns-in_err-put_line-clause-part
returns-in_err-put_line-clause-part g c =
    let V = g.S.Sink.view in
    on_err c.from_residual.result (known_part c.args.number c.args.replies.now
    c.loop-reply.reply-index c.loop-reply.next _ _ (V c.args.out.now).sent
    (V c.loop-reply.out).sent (V c.put_line.new.out).sent (omega arith) refl
    c.loop-reply.invariant.next c.loop-reply.invariant.sent c.in_err-put_line.ensures.part)

pub loop-reply-preserved : goal.loop-reply-preserved
loop-reply-preserved g c =
    let V = g.S.Sink.view in
    record {
      next = omega arith;
      unfailed = c.in_ok-put_line.ensures.unfailed ∙ c.loop-reply.invariant.unfailed;
      sent = known_more c.args.number c.args.replies.now
          c.loop-reply.reply-index c.loop-reply.next _ _ (V c.args.out.now).sent
          (V c.loop-reply.out).sent (V c.put_line.new.out).sent (omega arith) refl
          c.loop-reply.invariant.next c.loop-reply.invariant.sent c.in_ok-put_line.ensures.sent;
    }
