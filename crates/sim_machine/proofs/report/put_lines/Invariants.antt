use Rattle.sim_machine.proofs.Common.{◌≡◌, ◌+◌, ◌++◌, take, Known}
use Rattle.sim_machine.proofs.Lines.{reply_lines}
use Rattle.sim_machine.proofs.report.put_lines.Given as goal

-- the lines so far were put
abbrev pub invariant-loop-reply : goal.invariant-loop-reply
invariant-loop-reply g l =
    let S = g.S.Sink in
    record {
      next : l.next ≡ l.fn.number + l.reply-index;
      unfailed : (S.view l.out).faults ≡ (S.view l.initial.out).faults;
      sent : Known (λ x y. y ≡ x ++ reply_lines l.fn.number (take l.reply-index l.replies))
          (S.view l.initial.out).sent (S.view l.out).sent;
    }
