use Rattle.uprog_ctl.proofs.Common.{◌≡◌, Kept}
use Rattle.uprog_ctl.specs.Waves.{bound_jobs, job_queues}
use Rattle.uprog_ctl.specs.Cursors.{AreHeads}
use Rattle.uprog_ctl.proofs.Wave.{SoFar, work}
use Rattle.uprog_ctl.proofs.waves.run_wave.Given as goal

abbrev pub invariant-loop-g : goal.invariant-loop-g
invariant-loop-g g l =
    let dram = g.D.Dram in
    let first = dram.view l.fn.dram in
    let now = dram.view l.dram in
    let jobs = bound_jobs g.F.Fetch.shape g.F.Fetch.code l.jobs in
    let state = g.P.Picker.state in
    record {
      borrow : dram.borrow l.dram ≡ dram.borrow l.fn.dram;
      kept : Kept first now;
      shape : l.g ≡ first.geometry;
      heads : AreHeads g.F.Fetch.shape l.jobs l.heads.items;
      so : SoFar g.P.Picker.rule first.geometry.banks first.geometry.rows jobs (state l.fn.picker)
          (job_queues first.geometry.rows jobs) first (state l.picker) now l.cursors.items;
    }

abbrev pub decreases-loop-g : goal.decreases-loop-g
decreases-loop-g g l =
    work (g.D.Dram.view l.fn.dram).geometry.rows
    (bound_jobs g.F.Fetch.shape g.F.Fetch.code l.jobs) l.cursors.items
