use Rattle.simdram_cli.proofs.Common.{err_from_is_err_and, parsed, unread, runs_made}
use Rattle.simdram_cli.specs.declared.words.TheConstants.{QUERY_MAX}
use Rattle.simdram_cli.specs.Queries.{query_in}
use Rattle.simdram_cli.proofs.scan.scan.Goals as goal

pub returns-in_err-query-clause-runs : goal.returns-in_err-query-clause-runs
returns-in_err-query-clause-runs g c =
    let p = err_from_is_err_and c.from_residual.result c.from_residual.ensures.1 in
    rw (p.1, p.2) (unread c.args.names.now.query.now QUERY_MAX query_in _ _
    (g.F.Folder.view c.args.files.now) (g.F.Folder.view c.load_query.new.files)
    (g.S.Sink.view c.args.out.now) (g.D.Dram.view c.args.chip.now)
    c.in_err-query.ensures.not_read)

pub scan_image-requires : goal.scan_image-requires
scan_image-requires g c =
    record { query = (c.in_ok-query.ensures.read.tree, c.in_ok-query.ensures.read.nodes_are) }

pub returns-clause-runs : goal.returns-clause-runs
returns-clause-runs g c =
    let r = c.in_ok-query.ensures.read in
    parsed c.args.names.now.query.now QUERY_MAX query_in _ r.text tt _
    (g.F.Folder.view c.args.files.now) (g.F.Folder.view c.load_query.new.files)
    (g.S.Sink.view c.args.out.now) (g.D.Dram.view c.args.chip.now) _ r.loaded r.accepted
    (runs_made _ _ r.tree _ _ _ r.asks (c.scan_image.ensures.runs r.tree r.nodes_are))
