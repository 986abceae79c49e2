use Rattle.sim_machine.proofs.Common.{◌≡◌, true, arith, view_of, IsPlain, is_bbop}
use Rattle.sim_machine.proofs.Waving.{all_at}
use Rattle.sim_machine.proofs.waves.plan_of.Goals as goal

pub add_bbop-requires-clause-bbop : goal.add_bbop-requires-clause-bbop
add_bbop-requires-clause-bbop c =
    all_at (λ i. is_bbop i ≡ true) view_of c.args.instrs.now c.loop-instr.instr-index
    c.instr-item.result (omega arith) c.instr-item.is c.requires.bbops

pub add_bbop-requires-clause-plain : goal.add_bbop-requires-clause-plain
add_bbop-requires-clause-plain c =
    all_at IsPlain view_of c.args.instrs.now c.loop-instr.instr-index
    c.instr-item.result (omega arith) c.instr-item.is c.requires.plain
