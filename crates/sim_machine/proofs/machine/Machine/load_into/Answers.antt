use Rattle.sim_machine.proofs.Common.{◌≡◌, subst, IfOk, OnOk, OnErr, StoppedWithin, Did}
use Rattle.sim_machine.proofs.Common.{FailedBelow, Load, Alone}
use Rattle.sim_machine.specs.State.{State}
use Rattle.sim_machine.specs.Machine.{banks_by, events_by, reply_of}
use Rattle.sim_machine.specs.Shown.{state_of}
use Rattle.sim_machine.specs.Machine.{operations_by}
use Rattle.sim_machine.proofs.machine.Machine.load_into.Goals as goal

pub returns-clause-borrow : goal.returns-clause-borrow
returns-clause-borrow g c = c.load.ensures.borrow

pub returns-clause-kept : goal.returns-clause-kept
returns-clause-kept g c = c.load.ensures.kept

pub returns-clause-rises : goal.returns-clause-rises
returns-clause-rises g c = c.load.ensures.rises

pub returns-clause-failed : goal.returns-clause-failed
returns-clause-failed g c =
    subst (λ (m : State). OnErr c.load.result (FailedBelow (banks_by m (Load c.args.place.now
    c.args.values.now)) (g.D.Dram.view c.args.dram.now) (g.D.Dram.view c.load.new.dram)))
    c.self.view_is c.load.ensures.failed

pub returns-clause-left : goal.returns-clause-left
returns-clause-left g c =
    subst (λ (m : State). OnErr c.load.result (StoppedWithin 0 (events_by m (Alone (Load
    c.args.place.now c.args.values.now))) (g.D.Dram.view c.args.dram.now).banks
    (g.D.Dram.view c.load.new.dram).banks)) c.self.view_is
    (c.load.ensures.stopped (operations_by (state_of c.self.inside)))

pub returns-clause-reply : goal.returns-clause-reply
returns-clause-reply g c =
    subst (λ (m : State). IfOk c.load.result (λ reply. reply ≡ reply_of m (Load c.args.place.now
    c.args.values.now))) c.self.view_is
    (c.load.ensures.reply (operations_by (state_of c.self.inside)))

pub returns-clause-did : goal.returns-clause-did
returns-clause-did g c =
    subst (λ (m : State). OnOk c.load.result (Did (events_by m (Alone (Load c.args.place.now
    c.args.values.now))) (g.D.Dram.view c.args.dram.now) (g.D.Dram.view c.load.new.dram)))
    c.self.view_is (c.load.ensures.did (operations_by (state_of c.self.inside)))
