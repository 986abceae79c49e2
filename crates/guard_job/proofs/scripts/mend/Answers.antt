use Rattle.guard_job.proofs.Common.{geometry_of, table_in, due, machine_in, on_err_always}
use Rattle.guard_job.proofs.Doing.{mended_by}
use Rattle.guard_job.proofs.Left.{flips_failed, votes_failed}
use Rattle.guard_job.proofs.scripts.mend.Goals as goal

pub returns-clause-done : goal.returns-clause-done
returns-clause-done g c =
    let m = machine_in c.args.guard.now in
    let V = g.D.Dram.view in
    let f = c.in_ok-flips.ensures in
    mended_by (geometry_of m) (due c.args.k c.args.flips.now) (table_in m) c.in_ok-flips.flips
    (V c.args.chip.now) (V c.flip_due.new.chip) (V c.vote.new.dram) f.banks f.counters f.faults
    f.log f.count c.in_ok-votes.ensures.did

pub returns-in_err-flips-clause-left : goal.returns-in_err-flips-clause-left
returns-in_err-flips-clause-left g c =
    let m = machine_in c.args.guard.now in
    let V = g.D.Dram.view in
    on_err_always _ (flips_failed (geometry_of m) (due c.args.k c.args.flips.now) (table_in m)
    (V c.args.chip.now).banks (V c.flip_due.new.chip).banks c.in_err-flips.ensures.left)

pub returns-in_err-votes-clause-left : goal.returns-in_err-votes-clause-left
returns-in_err-votes-clause-left g c =
    let m = machine_in c.args.guard.now in
    let V = g.D.Dram.view in
    on_err_always _ (votes_failed (geometry_of m) (due c.args.k c.args.flips.now) (table_in m)
    (V c.args.chip.now) (V c.flip_due.new.chip) (V c.vote.new.dram) c.in_ok-flips.ensures.banks
    c.in_err-votes.ensures.stopped)
