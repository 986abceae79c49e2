use Rattle.sim_machine.proofs.Common.{arith, subst, view_of, IsPlain}
use Rattle.bbop_isa.specs.declared.instr.Instr.{Instr}
use Rattle.sim_machine.proofs.Waving.{all_at}
use Rattle.sim_machine.proofs.walks.WalkedProgram.learn_all.Goals as goal

pub learn-requires-clause-some : goal.learn-requires-clause-some
learn-requires-clause-some c =
    let plain = all_at IsPlain view_of c.args.instrs.now c.loop-instr.instr-index
    c.instr-item.result (omega arith) c.instr-item.is c.requires.plain in
    (subst (λ (i : Instr). IsPlain (view_of i)) c.in-Bbop.is plain).0

pub learn-requires-clause-narrow : goal.learn-requires-clause-narrow
learn-requires-clause-narrow c =
    let plain = all_at IsPlain view_of c.args.instrs.now c.loop-instr.instr-index
    c.instr-item.result (omega arith) c.instr-item.is c.requires.plain in
    (subst (λ (i : Instr). IsPlain (view_of i)) c.in-Bbop.is plain).1
