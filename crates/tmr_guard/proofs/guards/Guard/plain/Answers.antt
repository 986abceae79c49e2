use Rattle.tmr_guard.proofs.Common.{subst, Instruction, view_of, StoppedWithin, piece_of, is_print}
use Rattle.tmr_guard.proofs.Common.{◌≡◌, false}
use Rattle.sim_machine.specs.Machine.{events_by as plain_events}
use Rattle.tmr_guard.specs.Steps.{DidOne, machine_in}
use Rattle.tmr_guard.proofs.Bounded.{few_commands}
use Rattle.tmr_guard.proofs.guards.Guard.plain.Goals as goal

pub returns-in-Ok-done-clause-did : goal.returns-in-Ok-done-clause-did
returns-in-Ok-done-clause-did g c =
    let V = g.D.Dram.view in
    subst (λ (i : Instruction). DidOne (machine_in c.args.self.now) c.done.new.m i
    c.in-Ok-done.reply (V c.args.dram.now) (V c.done.new.dram)) c.copied.ensures
    c.in-Ok-done.ensures.did

pub returns-in-Ok-done-clause-few : goal.returns-in-Ok-done-clause-few
returns-in-Ok-done-clause-few g c =
    let m = machine_in c.args.self.now in
    let V = g.D.Dram.view in
    let one = subst (λ (i : Instruction). DidOne m c.done.new.m i
    c.in-Ok-done.reply (V c.args.dram.now) (V c.done.new.dram)) c.copied.ensures
    c.in-Ok-done.ensures.did in
    few_commands m c.args.letter (view_of c.args.instr.now) c.in-Ok-done.reply
    c.done.ensures.laid c.requires.plain one.answer

pub returns-clause-left : goal.returns-clause-left
returns-clause-left g c =
    let V = g.D.Dram.view in
    subst (λ (i : Instruction). is_print i ≡ false → StoppedWithin 0
    (plain_events (machine_in c.args.self.now) (piece_of i)) (V c.args.dram.now).banks
    (V c.done.new.dram).banks) c.copied.ensures
    c.in-Err-done.ensures.left
