use Rattle.sim_machine.proofs.Common.{ap, arith, refl, ◌∙◌, view_of}
use Rattle.sim_machine.specs.Machine.{table_in}
use Rattle.sim_machine.proofs.Keeping.{going}
use Rattle.sim_machine.proofs.Stepping.{done_alone, failed_alone, leaves, same_table, unsent_alone}
use Rattle.sim_machine.proofs.machine.Machine.reply_step.Goals as goal

pub returns-in-Err-clause-went : goal.returns-in-Err-clause-went
returns-in-Err-clause-went g c =
    let instr = view_of c.args.instr.now in
    let of = leaves instr c.requires.leaves in
    let goes = going c.args.self.now c.answer.new.self _ _ c.answer.ensures.same in
    record {
      kept = c.answer.ensures.kept;
      sink_faults = omega arith;
      comes = failed_alone _ _ _ _ _ _ _ _ goes of.0 of.1 (ap table_in c.answer.ensures.same)
          c.in-Err.ensures.same_turn c.in-Err.ensures.failed c.in-Err.ensures.left refl;
    }

pub returns-in-Ok-put_reply-clause-went : goal.returns-in-Ok-put_reply-clause-went
returns-in-Ok-put_reply-clause-went g c =
    let instr = view_of c.args.instr.now in
    let of = leaves instr c.requires.leaves in
    let goes = going c.args.self.now c.answer.new.self _ _ c.answer.ensures.same in
    record {
      kept = c.answer.ensures.kept;
      sink_faults = c.put_reply.ensures.faults;
      comes = done_alone _ _ _ _ _ _ _ _ goes of.0 of.1 c.in-Ok.reply c.in-Ok.ensures.reply
          ((ap table_in c.answer.ensures.same) ∙ same_table c.args.self.now instr c.requires.leaves)
          c.in-Ok.ensures.turn c.in-Ok.ensures.did c.in-Ok-put_reply.ensures.sent
          c.in-Ok-put_reply.ensures.unfailed;
    }

pub returns-in-Err-put_reply-clause-went : goal.returns-in-Err-put_reply-clause-went
returns-in-Err-put_reply-clause-went g c =
    let instr = view_of c.args.instr.now in
    let of = leaves instr c.requires.leaves in
    let goes = going c.args.self.now c.answer.new.self _ _ c.answer.ensures.same in
    record {
      kept = c.answer.ensures.kept;
      sink_faults = c.put_reply.ensures.faults;
      comes = unsent_alone _ _ _ _ _ _ _ _ goes of.0 of.1 c.in-Ok.reply c.in-Ok.ensures.reply
          (ap table_in c.answer.ensures.same) c.in-Ok.ensures.turn c.in-Ok.ensures.did
          c.in-Err-put_reply.ensures.rose
          c.in-Err-put_reply.ensures.part;
    }
