use Rattle.sim_machine.specs.Shown.{state_of}
use Rattle.sim_machine.proofs.Common.{on_ok_weaker, rows_in_banks}
use Rattle.sim_machine.proofs.Rows.{image_is}
use Rattle.sim_machine.proofs.machine.Machine.image_with.Goals as goal

pub returns-clause-borrow : goal.returns-clause-borrow
returns-clause-borrow g c = c.read_image.ensures.borrow

pub returns-clause-kept : goal.returns-clause-kept
returns-clause-kept g c = c.read_image.ensures.kept

pub returns-clause-did : goal.returns-clause-did
returns-clause-did g c = rw (← c.self.view_is) c.read_image.ensures.did

pub returns-clause-no_event : goal.returns-clause-no_event
returns-clause-no_event g c = c.read_image.ensures.no_event

pub returns-clause-failed : goal.returns-clause-failed
returns-clause-failed g c = c.read_image.ensures.rose

pub returns-clause-left : goal.returns-clause-left
returns-clause-left g c = rw (← c.self.view_is) c.read_image.ensures.stopped

pub returns-clause-file : goal.returns-clause-file
returns-clause-file g c = rw (← c.self.view_is) (
    on_ok_weaker c.read_image.result
    (λ read. image_is (state_of c.self.inside).geometry c.args.table.now.pairs
    (rows_in_banks (g.D.Dram.view c.args.dram.now).banks) _ _ _ c.clear.ensures.items
    c.put_head.ensures.items read) c.read_image.ensures.file)
