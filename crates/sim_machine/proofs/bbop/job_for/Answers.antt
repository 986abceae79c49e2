use Rattle.sim_machine.proofs.Common.{program_of, routine_of}
use Rattle.sim_machine.proofs.Granting.{few_sources, object_fits, bound_is, can_run, job_is}
use Rattle.sim_machine.proofs.bbop.job_for.Goals as goal

pub bind-binding-requires : goal.bind-binding-requires
bind-binding-requires c =
    let s = c.args.setting.now in
    let m = program_of c.args.found in
    let b = c.args.bbop.now in
    few_sources s.geometry s.table.now.pairs (routine_of m) b.dst.now b.srcs.now b.count b.n
    (rw (← c.requires.lies.limit) c.requires.allowed)

pub segments-banks-requires-clause-object : goal.segments-banks-requires-clause-object
segments-banks-requires-clause-object c =
    let s = c.args.setting.now in
    let m = program_of c.args.found in
    let b = c.args.bbop.now in
    rw c.rows_of.ensures (object_fits s.geometry s.table.now.pairs (routine_of m) b.dst.now
    b.srcs.now b.count b.n c.requires.lies.objects
    (rw (← c.requires.lies.limit) c.requires.allowed))

pub returns-clause-runs : goal.returns-clause-runs
returns-clause-runs c =
    let s = c.args.setting.now in
    let m = program_of c.args.found in
    let b = c.args.bbop.now in
    can_run s.geometry s.table.now.pairs m b.dst.now b.srcs.now b.count b.n _ _ c.args.grant.counts
    c.requires.legal c.requires.some c.requires.narrow c.requires.lies.listed
    (rw (← c.requires.lies.limit) c.requires.allowed) c.bind-binding.ensures.width
    (bound_is s.geometry s.table.now.limit s.table.now.pairs m b.dst.now b.srcs.now b.n
    c.bind-binding.result c.args.grant c.requires.lies.limit c.bind-binding.ensures.results
    c.bind-binding.ensures.sources c.bind-binding.ensures.scratch c.requires.granted)
    c.requires.granted.walks c.segments-banks.ensures.fits

pub returns-clause-job : goal.returns-clause-job
returns-clause-job c =
    let s = c.args.setting.now in
    let m = program_of c.args.found in
    let b = c.args.bbop.now in
    let banks = rw c.rows_of.ensures at c.segments-banks.ensures.value in
    job_is s.geometry s.table.now.pairs m b.dst.now b.srcs.now b.n _ _
    c.bind-binding.ensures.width
    (bound_is s.geometry s.table.now.limit s.table.now.pairs m b.dst.now b.srcs.now b.n
    c.bind-binding.result c.args.grant c.requires.lies.limit c.bind-binding.ensures.results
    c.bind-binding.ensures.sources c.bind-binding.ensures.scratch c.requires.granted)
    banks
