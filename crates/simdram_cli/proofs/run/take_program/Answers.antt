use Rattle.simdram_cli.proofs.Common.{err_from_is_err_and, microprograms_of, operations}
use Rattle.simdram_cli.proofs.Running.{program_unread, taken_by, stopped_by}
use Rattle.simdram_cli.proofs.run.take_program.Goals as goal

pub returns-in_err-ops-clause-stopped : goal.returns-in_err-ops-clause-stopped
returns-in_err-ops-clause-stopped g c =
    let p = err_from_is_err_and c.from_residual.result c.from_residual.ensures.1 in
    rw (p.1, p.2) (program_unread c.args.ops.now c.args.prog.now _
    (g.F.Folder.view c.args.files.now) (g.F.Folder.view c.load_ops.new.files)
    c.in_err-ops.ensures.not_read)

pub returns-clause-taken : goal.returns-clause-taken
returns-clause-taken g c =
    taken_by c.args.ops.now c.args.prog.now (operations c.in_ok-ops.ops)
    (λ made. microprograms_of made.0)
    c.write_program.result
    (g.F.Folder.view c.args.files.now) (g.F.Folder.view c.load_ops.new.files)
    (g.F.Folder.view c.write_program.new.files)
    c.in_ok-ops.ensures.read c.write_program.ensures.program c.write_program.ensures.implements
    c.write_program.ensures.exact c.write_program.ensures.taken c.write_program.ensures.goes

pub returns-clause-stopped : goal.returns-clause-stopped
returns-clause-stopped g c =
    stopped_by c.args.ops.now c.args.prog.now (operations c.in_ok-ops.ops) c.write_program.result
    (g.F.Folder.view c.args.files.now) (g.F.Folder.view c.load_ops.new.files)
    (g.F.Folder.view c.write_program.new.files)
    c.in_ok-ops.ensures.read c.write_program.ensures.stops
