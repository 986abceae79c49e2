use Rattle.uprog_ctl.proofs.Common.{◌≡◌, ◌<◌, ◌≤◌, List, [], ◌∷◌, length, refl, sym, ap, ◌∙◌, subst}
use Rattle.uprog_ctl.proofs.Common.{arith, length-map, Ap, B, Geometry, Banks, Row, Did, FailedIn}
use Rattle.uprog_ctl.proofs.Common.{Kept-same, Kept-more, total_left, whole_picks, picks_whole}
use Rattle.std.proofs.Common.{Result, Ok, Err, rules}
use Rattle.std.specs.Prelude.{OnErr, slice_index_or}
use Rattle.dram_model.proofs.Shapes.{geometry_parts}
use Rattle.wave_model.proofs.Waves.{wave_banks}
use Rattle.uprog_ctl.specs.declared.cursor.Cursor.{Cursor}
use Rattle.uprog_ctl.specs.Waves.{bound_job, bound_jobs, job_queues}
use Rattle.uprog_ctl.specs.Cursors.{AreAt, MovesOn}
use Rattle.uprog_ctl.proofs.Wave.{chosen_by, less_work, nothing_yet, bank_within, one_more, stopped}
use Rattle.uprog_ctl.proofs.Wave.{all_over}
use Rattle.uprog_ctl.proofs.Short.{wave_short}
use Rattle.uprog_ctl.proofs.WaveCounts.{wave_risen}
use Rattle.uprog_ctl.proofs.waves.run_wave.Goals as goal

abbrev blank : Cursor
blank = record {
  bank = 0;
  next = Ap (B 0);
  job = 0;
  walk = record { pc = 0; regs = []; left = 0 };
}

on_err : {T E : Type 0} (r : Result T E) {P : Type 0} → P → OnErr r P
on_err (Ok x) p = tt
on_err (Err e) p = p

pub do_command-requires-clause-begun : goal.do_command-requires-clause-begun
do_command-requires-clause-begun g c = c.loop-g.invariant.kept.begun ∙ c.requires.begun

pub returns-in_err-do_command-clause-borrow : goal.returns-in_err-do_command-clause-borrow
returns-in_err-do_command-clause-borrow g c =
    c.in_err-do_command.ensures.borrow ∙ c.loop-g.invariant.borrow

pub returns-in_err-do_command-clause-kept : goal.returns-in_err-do_command-clause-kept
returns-in_err-do_command-clause-kept g c =
    Kept-more _ _ _ c.loop-g.invariant.kept c.in_err-do_command.ensures.kept

pub returns-clause-borrow : goal.returns-clause-borrow
returns-clause-borrow g c = c.loop-g.invariant.borrow

pub returns-clause-kept : goal.returns-clause-kept
returns-clause-kept g c = c.loop-g.invariant.kept

pub loop-g-init : goal.loop-g-init
loop-g-init g c =
    let first = g.D.Dram.view c.args.dram.now in
    let jobs = bound_jobs g.F.Fetch.shape g.F.Fetch.code c.args.jobs.now in
    let at : AreAt first.geometry.banks first.geometry.rows jobs
    (job_queues first.geometry.rows jobs) c.first_cursors-cursors.result.items =
    subst (λ (x : Geometry). AreAt x.banks x.rows jobs (job_queues x.rows jobs)
    c.first_cursors-cursors.result.items) c.geometry-g.ensures c.first_cursors-cursors.ensures in
    record {
      borrow = refl;
      kept = Kept-same first;
      shape = c.geometry-g.ensures;
      heads = c.heads_of-heads.ensures;
      so = nothing_yet g.P.Picker.rule first.geometry.banks first.geometry.rows jobs
          (g.P.Picker.state c.args.picker.now) (job_queues first.geometry.rows jobs) first
          c.first_cursors-cursors.result.items at;
    }

pub do_command-requires-clause-bank : goal.do_command-requires-clause-bank
do_command-requires-clause-bank g c =
    let first = g.D.Dram.view c.args.dram.now in
    let rule = g.P.Picker.rule in
    let ok = g.met.P.Picker.picks_live in
    let jobs = bound_jobs g.F.Fetch.shape g.F.Fetch.code c.args.jobs.now in
    let s = g.P.Picker.state c.loop-g.picker in
    let s' = g.P.Picker.state c.pick.new.self in
    let cs = c.loop-g.cursors.items in
    let k = c.from-k.result in
    let some : 0 < length cs = search rules in
    let it = chosen_by rule s s' cs k c.pick.result c.len.result ok some c.from-k.ensures
    c.pick.ensures.choice c.pick.ensures.next c.len.ensures.value in
    let within = bank_within rule first.geometry.banks first.geometry.rows jobs
    (g.P.Picker.state c.args.picker.now) (job_queues first.geometry.rows jobs) first s s'
    (g.D.Dram.view c.loop-g.dram) cs k c.loop-g.invariant.so ok it blank in
    subst (λ (x : Geometry).
    (slice_index_or c.as_slice-in-loop-g.result.now k blank).bank < x.banks)
    (sym c.loop-g.invariant.kept.geometry)
    (subst (λ (xs : List Cursor). (slice_index_or xs k blank).bank < first.geometry.banks)
    (sym c.as_slice-in-loop-g.ensures.value) within)

pub do_command-requires-clause-aap_room : goal.do_command-requires-clause-aap_room
do_command-requires-clause-aap_room g c =
    let first = g.D.Dram.view c.args.dram.now in
    let jobs = bound_jobs g.F.Fetch.shape g.F.Fetch.code c.args.jobs.now in
    let few : length jobs ≤ 16 = omega (
      arith,
      c.requires.few_jobs,
      length-map c.args.jobs.now (bound_job g.F.Fetch.shape g.F.Fetch.code),
    ) in
    let shape = g.met.D.Dram.shape c.args.dram.now c.requires.begun in
    let short = wave_short first.geometry.banks first.geometry.rows jobs
    (geometry_parts first.geometry shape).2 few in
    omega (arith, c.loop-g.invariant.so.aap, c.requires.aap_room, short)

pub do_command-requires-clause-ap_room : goal.do_command-requires-clause-ap_room
do_command-requires-clause-ap_room g c =
    let first = g.D.Dram.view c.args.dram.now in
    let jobs = bound_jobs g.F.Fetch.shape g.F.Fetch.code c.args.jobs.now in
    let few : length jobs ≤ 16 = omega (
      arith,
      c.requires.few_jobs,
      length-map c.args.jobs.now (bound_job g.F.Fetch.shape g.F.Fetch.code),
    ) in
    let shape = g.met.D.Dram.shape c.args.dram.now c.requires.begun in
    let short = wave_short first.geometry.banks first.geometry.rows jobs
    (geometry_parts first.geometry shape).2 few in
    omega (arith, c.loop-g.invariant.so.ap, c.requires.ap_room, short)

pub returns-in_err-do_command-clause-stopped : goal.returns-in_err-do_command-clause-stopped
returns-in_err-do_command-clause-stopped g c =
    let first = g.D.Dram.view c.args.dram.now in
    let now = g.D.Dram.view c.loop-g.dram in
    let new = g.D.Dram.view c.do_command.new.dram in
    let rule = g.P.Picker.rule in
    let ok = g.met.P.Picker.picks_live in
    let jobs = bound_jobs g.F.Fetch.shape g.F.Fetch.code c.args.jobs.now in
    let s = g.P.Picker.state c.loop-g.picker in
    let s' = g.P.Picker.state c.pick.new.self in
    let cs = c.loop-g.cursors.items in
    let k = c.from-k.result in
    let some : 0 < length cs = search rules in
    let it = chosen_by rule s s' cs k c.pick.result c.len.result ok some c.from-k.ensures
    c.pick.ensures.choice c.pick.ensures.next c.len.ensures.value in
    let failed : FailedIn (slice_index_or cs k blank).bank now new =
    subst (λ (xs : List Cursor). FailedIn (slice_index_or xs k blank).bank now new)
    c.as_slice-in-loop-g.ensures.value c.in_err-do_command.ensures.failed in
    on_err c.from_residual.result
    (stopped rule first.geometry.banks first.geometry.rows jobs
    (g.P.Picker.state c.args.picker.now) (job_queues first.geometry.rows jobs) first s s' now cs k
    c.loop-g.invariant.so ok it blank new refl c.loop-g.invariant.kept.faults failed
    c.in_err-do_command.ensures.no_event)

pub returns-in_err-do_command-clause-whole : goal.returns-in_err-do_command-clause-whole
returns-in_err-do_command-clause-whole g c =
    let first = g.D.Dram.view c.args.dram.now in
    let banks = first.geometry.banks in
    let jobs = bound_jobs g.F.Fetch.shape g.F.Fetch.code c.args.jobs.now in
    let qs = job_queues first.geometry.rows jobs in
    picks_whole g.P.Picker.rule banks (total_left banks qs)
    (g.P.Picker.state c.args.picker.now) qs g.met.P.Picker.picks_live refl

pub loop-g-preserved : goal.loop-g-preserved
loop-g-preserved g c =
    let first = g.D.Dram.view c.args.dram.now in
    let now = g.D.Dram.view c.loop-g.dram in
    let new = g.D.Dram.view c.do_command.new.dram in
    let rule = g.P.Picker.rule in
    let ok = g.met.P.Picker.picks_live in
    let jobs = bound_jobs g.F.Fetch.shape g.F.Fetch.code c.args.jobs.now in
    let rows = first.geometry.rows in
    let s = g.P.Picker.state c.loop-g.picker in
    let s' = g.P.Picker.state c.pick.new.self in
    let cs = c.loop-g.cursors.items in
    let k = c.from-k.result in
    let kept = c.loop-g.invariant in
    let done = c.in_ok-do_command.ensures in
    let some : 0 < length cs = search rules in
    let it = chosen_by rule s s' cs k c.pick.result c.len.result ok some c.from-k.ensures
    c.pick.ensures.choice c.pick.ensures.next c.len.ensures.value in
    let did : Did (Row (slice_index_or cs k blank).bank (slice_index_or cs k blank).next ∷ [])
    now new = subst (λ (xs : List Cursor). Did (Row (slice_index_or xs k blank).bank
    (slice_index_or xs k blank).next ∷ []) now new) c.as_slice-in-loop-g.ensures.value done.did in
    let moves : MovesOn rows jobs cs k c.go_on.new.cursors.items =
    subst (λ (x : Geometry). MovesOn x.rows jobs cs k c.go_on.new.cursors.items) kept.shape
    c.go_on.ensures in
    record {
      borrow = done.borrow ∙ kept.borrow;
      kept = Kept-more first now new kept.kept done.kept;
      shape = kept.shape;
      heads = kept.heads;
      so = one_more rule first.geometry.banks rows jobs (g.P.Picker.state c.args.picker.now)
          (job_queues rows jobs) first s s' now cs k kept.so ok it blank new
          c.go_on.new.cursors.items did moves;
    }

pub loop-g-smaller : goal.loop-g-smaller
loop-g-smaller g c =
    let first = g.D.Dram.view c.args.dram.now in
    let rule = g.P.Picker.rule in
    let ok = g.met.P.Picker.picks_live in
    let jobs = bound_jobs g.F.Fetch.shape g.F.Fetch.code c.args.jobs.now in
    let rows = first.geometry.rows in
    let s = g.P.Picker.state c.loop-g.picker in
    let s' = g.P.Picker.state c.pick.new.self in
    let cs = c.loop-g.cursors.items in
    let k = c.from-k.result in
    let some : 0 < length cs = search rules in
    let it = chosen_by rule s s' cs k c.pick.result c.len.result ok some c.from-k.ensures
    c.pick.ensures.choice c.pick.ensures.next c.len.ensures.value in
    let moves : MovesOn rows jobs cs k c.go_on.new.cursors.items =
    subst (λ (x : Geometry). MovesOn x.rows jobs cs k c.go_on.new.cursors.items)
    c.loop-g.invariant.shape c.go_on.ensures in
    less_work rows jobs cs k blank c.go_on.new.cursors.items it.within moves

pub returns-clause-did : goal.returns-clause-did
returns-clause-did g c =
    let first = g.D.Dram.view c.args.dram.now in
    let jobs = bound_jobs g.F.Fetch.shape g.F.Fetch.code c.args.jobs.now in
    let none : length c.loop-g.cursors.items ≡ 0 = search rules in
    (all_over g.P.Picker.rule first.geometry.banks first.geometry.rows jobs
    (g.P.Picker.state c.args.picker.now) (job_queues first.geometry.rows jobs) first
    (g.P.Picker.state c.loop-g.picker) (g.D.Dram.view c.loop-g.dram) c.loop-g.cursors.items
    c.loop-g.invariant.so none).0

pub returns-clause-whole : goal.returns-clause-whole
returns-clause-whole g c =
    let first = g.D.Dram.view c.args.dram.now in
    let banks = first.geometry.banks in
    let jobs = bound_jobs g.F.Fetch.shape g.F.Fetch.code c.args.jobs.now in
    let qs = job_queues first.geometry.rows jobs in
    picks_whole g.P.Picker.rule banks (total_left banks qs)
    (g.P.Picker.state c.args.picker.now) qs g.met.P.Picker.picks_live refl

pub returns-clause-state : goal.returns-clause-state
returns-clause-state g c =
    let first = g.D.Dram.view c.args.dram.now in
    let jobs = bound_jobs g.F.Fetch.shape g.F.Fetch.code c.args.jobs.now in
    let none : length c.loop-g.cursors.items ≡ 0 = search rules in
    (all_over g.P.Picker.rule first.geometry.banks first.geometry.rows jobs
    (g.P.Picker.state c.args.picker.now) (job_queues first.geometry.rows jobs) first
    (g.P.Picker.state c.loop-g.picker) (g.D.Dram.view c.loop-g.dram) c.loop-g.cursors.items
    c.loop-g.invariant.so none).1

pub returns-clause-alone : goal.returns-clause-alone
returns-clause-alone g c =
    let first = g.D.Dram.view c.args.dram.now in
    let rule = g.P.Picker.rule in
    let banks = first.geometry.banks in
    let jobs = bound_jobs g.F.Fetch.shape g.F.Fetch.code c.args.jobs.now in
    let s0 = g.P.Picker.state c.args.picker.now in
    let qs = job_queues first.geometry.rows jobs in
    let none : length c.loop-g.cursors.items ≡ 0 = search rules in
    let did = (all_over rule banks first.geometry.rows jobs s0 qs first
    (g.P.Picker.state c.loop-g.picker) (g.D.Dram.view c.loop-g.dram) c.loop-g.cursors.items
    c.loop-g.invariant.so none).0 in
    let whole = picks_whole rule banks (total_left banks qs) s0 qs g.met.P.Picker.picks_live refl in
    λ bank lt. ap (λ (bs : Banks). bs bank) did.banks
    ∙ wave_banks banks (whole_picks rule banks s0 qs) qs first.banks bank whole lt

pub returns-clause-counters : goal.returns-clause-counters
returns-clause-counters g c =
    let first = g.D.Dram.view c.args.dram.now in
    let jobs = bound_jobs g.F.Fetch.shape g.F.Fetch.code c.args.jobs.now in
    let none : length c.loop-g.cursors.items ≡ 0 = search rules in
    let did = (all_over g.P.Picker.rule first.geometry.banks first.geometry.rows jobs
    (g.P.Picker.state c.args.picker.now) (job_queues first.geometry.rows jobs) first
    (g.P.Picker.state c.loop-g.picker) (g.D.Dram.view c.loop-g.dram) c.loop-g.cursors.items
    c.loop-g.invariant.so none).0 in
    did.counters ∙ wave_risen first.geometry.rows g.P.Picker.rule first.geometry
    (g.P.Picker.state c.args.picker.now) jobs first.counters g.met.P.Picker.picks_live
    c.requires.jobs
