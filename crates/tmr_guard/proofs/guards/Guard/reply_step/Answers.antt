use Rattle.tmr_guard.specs.Steps.{machine_in}
use Rattle.tmr_guard.proofs.Common.{view_of}
use Rattle.tmr_guard.proofs.Shown.{reply_broke, reply_guarded, silent_broke}
use Rattle.tmr_guard.proofs.guards.Guard.reply_step.Goals as goal

pub returns-in-Err-clause-came : goal.returns-in-Err-clause-came
returns-in-Err-clause-came g c =
    silent_broke (machine_in c.args.self.now) c.args.number (view_of c.args.instr.now)
    (g.D.Dram.view c.args.dram.now) (g.D.Dram.view c.reply_to.new.dram)
    (g.S.Sink.view c.args.out.now) c.in-Err.ensures.failed c.in-Err.ensures.left

pub returns-in-Ok-put_reply-clause-came : goal.returns-in-Ok-put_reply-clause-came
returns-in-Ok-put_reply-clause-came g c =
    reply_guarded (machine_in c.args.self.now) _ c.args.number (view_of c.args.instr.now)
    c.in-Ok.reply (g.D.Dram.view c.args.dram.now) _ (g.S.Sink.view c.args.out.now) _
    c.requires.silent c.in-Ok.ensures.replied.answer c.in-Ok.ensures.replied.ran
    c.in-Ok.ensures.rises c.in-Ok-put_reply.ensures.sent c.in-Ok-put_reply.ensures.unfailed

pub returns-in-Err-put_reply-clause-came : goal.returns-in-Err-put_reply-clause-came
returns-in-Err-put_reply-clause-came g c =
    reply_broke (machine_in c.args.self.now) c.args.number (view_of c.args.instr.now)
    c.in-Ok.reply (g.D.Dram.view c.args.dram.now) _ (g.S.Sink.view c.args.out.now) _
    c.requires.silent c.in-Ok.ensures.replied.answer c.in-Ok.ensures.replied.ran.did
    c.in-Err-put_reply.ensures.rose
    c.in-Err-put_reply.ensures.part
