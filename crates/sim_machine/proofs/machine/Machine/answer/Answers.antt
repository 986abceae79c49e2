use Rattle.sim_machine.specs.Shown.{state_of}
use Rattle.sim_machine.proofs.Common.{◌≡◌, ◌∙◌, ap, refl, subst, sym, Kept-same, IfOk, OnErr, OnOk}
use Rattle.sim_machine.proofs.Common.{StoppedWithin, Did, Instruction, Fill, Load, view_of}
use Rattle.sim_machine.proofs.Common.{events_alone}
use Rattle.sim_machine.specs.Machine.{geometry_of, operations_by, reply_of, table_in}
use Rattle.sim_machine.proofs.machine.Machine.answer.Goals as goal

pub returns-in-Load-clause-borrow : goal.returns-in-Load-clause-borrow
returns-in-Load-clause-borrow g c = c.load.ensures.borrow

pub returns-in-Load-clause-kept : goal.returns-in-Load-clause-kept
returns-in-Load-clause-kept g c = c.load.ensures.kept

pub returns-in-Fill-clause-borrow : goal.returns-in-Fill-clause-borrow
returns-in-Fill-clause-borrow g c = c.fill.ensures.borrow

pub returns-in-Fill-clause-kept : goal.returns-in-Fill-clause-kept
returns-in-Fill-clause-kept g c = c.fill.ensures.kept

pub returns-in-Order-clause-borrow : goal.returns-in-Order-clause-borrow
returns-in-Order-clause-borrow g c = refl

pub returns-in-Order-clause-kept : goal.returns-in-Order-clause-kept
returns-in-Order-clause-kept g c = Kept-same (g.D.Dram.view c.args.dram.now)

pub returns-in-Load-clause-reply : goal.returns-in-Load-clause-reply
returns-in-Load-clause-reply g c = rw (← c.self.view_is) (
    let m = (state_of c.self.inside) in
    let is : view_of c.args.instr.now ≡ Load c.in-Load.place c.as_slice.result.now =
    ap view_of c.in-Load.is ∙ ap (Load c.in-Load.place) (sym c.as_slice.ensures.value) in
    subst (λ (i : Instruction). IfOk c.load.result (λ reply. reply ≡ reply_of m i)) (sym is)
    (c.load.ensures.reply (operations_by m)))

pub returns-in-Load-clause-did : goal.returns-in-Load-clause-did
returns-in-Load-clause-did g c = rw (← c.self.view_is) (
    let m = (state_of c.self.inside) in
    let V = g.D.Dram.view in
    let is : view_of c.args.instr.now ≡ Load c.in-Load.place c.as_slice.result.now =
    ap view_of c.in-Load.is ∙ ap (Load c.in-Load.place) (sym c.as_slice.ensures.value) in
    subst (λ (i : Instruction). OnOk c.load.result (Did (events_alone (geometry_of m)
    (operations_by m) (table_in m) i) (V c.args.dram.now) (V c.load.new.dram))) (sym is)
    (c.load.ensures.did (operations_by m)))

pub returns-in-Fill-clause-reply : goal.returns-in-Fill-clause-reply
returns-in-Fill-clause-reply g c = rw (← c.self.view_is) (
    let m = (state_of c.self.inside) in
    let is : view_of c.args.instr.now ≡ Fill c.in-Fill.place c.in-Fill.value =
    ap view_of c.in-Fill.is in
    subst (λ (i : Instruction). IfOk c.fill.result (λ reply. reply ≡ reply_of m i)) (sym is)
    (c.fill.ensures.reply (operations_by m)))

pub returns-in-Fill-clause-did : goal.returns-in-Fill-clause-did
returns-in-Fill-clause-did g c = rw (← c.self.view_is) (
    let m = (state_of c.self.inside) in
    let V = g.D.Dram.view in
    let is : view_of c.args.instr.now ≡ Fill c.in-Fill.place c.in-Fill.value =
    ap view_of c.in-Fill.is in
    subst (λ (i : Instruction). OnOk c.fill.result (Did (events_alone (geometry_of m)
    (operations_by m) (table_in m) i) (V c.args.dram.now) (V c.fill.new.dram))) (sym is)
    (c.fill.ensures.did (operations_by m)))

pub returns-in-Load-clause-left : goal.returns-in-Load-clause-left
returns-in-Load-clause-left g c = rw (← c.self.view_is) (
    let m = (state_of c.self.inside) in
    let V = g.D.Dram.view in
    let is : view_of c.args.instr.now ≡ Load c.in-Load.place c.as_slice.result.now =
    ap view_of c.in-Load.is ∙ ap (Load c.in-Load.place) (sym c.as_slice.ensures.value) in
    subst (λ (i : Instruction). OnErr c.load.result (StoppedWithin 0 (events_alone (geometry_of m)
    (operations_by m) (table_in m) i) (V c.args.dram.now).banks (V c.load.new.dram).banks)) (sym is)
    (c.load.ensures.stopped (operations_by m)))

pub returns-in-Fill-clause-left : goal.returns-in-Fill-clause-left
returns-in-Fill-clause-left g c = rw (← c.self.view_is) (
    let m = (state_of c.self.inside) in
    let V = g.D.Dram.view in
    let is : view_of c.args.instr.now ≡ Fill c.in-Fill.place c.in-Fill.value =
    ap view_of c.in-Fill.is in
    subst (λ (i : Instruction). OnErr c.fill.result (StoppedWithin 0 (events_alone (geometry_of m)
    (operations_by m) (table_in m) i) (V c.args.dram.now).banks (V c.fill.new.dram).banks)) (sym is)
    (c.fill.ensures.stopped (operations_by m)))
