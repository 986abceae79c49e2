use Rattle.simdram_cli.proofs.Common.{sym, ◌∙◌, map, err_from_is_err_and, found_in, view_of, world}
use Rattle.simdram_cli.specs.Inputs.{image_found}
use Rattle.simdram_cli.specs.Tracing.{OpensOn}
use Rattle.simdram_cli.proofs.Stores.{at_err, at_ok}
use Rattle.simdram_cli.proofs.Tracing.{not_opened, not_recorded, table_fits, total_sent}
use Rattle.simdram_cli.proofs.Tracing.{total_unsent}
use Rattle.simdram_cli.proofs.trace.trace_script.Goals as goal

pub returns-in_err-machine-clause-traced : goal.returns-in_err-machine-clause-traced
returns-in_err-machine-clause-traced g c =
    let p = err_from_is_err_and c.from_residual.result c.from_residual.ensures.1 in
    let files = g.F.Folder.view c.args.files.now in
    let out = g.S.Sink.view c.args.out.now in
    rw (p.1, p.2) (not_opened c.args.names.now c.args.prog.programs (map view_of c.args.script.now)
    (image_found (found_in c.args.image)) _ (world files out (g.D.Dram.view c.args.chip.now))
    (world files out (g.D.Dram.view c.open.new.chip)) (c.in_err-machine.ensures.goes files out))

pub returns-in_err-refused-clause-traced : goal.returns-in_err-refused-clause-traced
returns-in_err-refused-clause-traced g c =
    let p = err_from_is_err_and c.from_residual-in_err-refused.result
    c.from_residual-in_err-refused.ensures.1 in
    let program = c.args.prog.programs in
    let script = map view_of c.args.script.now in
    let i = image_found (found_in c.args.image) in
    let machine = c.in_ok-machine.machine in
    let opened = c.in_ok-machine.ensures in
    let files = g.F.Folder.view c.args.files.now in
    let out = g.S.Sink.view c.args.out.now in
    let old = g.D.Dram.view c.open.new.chip in
    let opens : OpensOn program i machine old = record {
      legal = c.requires.legal;
      shape = c.requires.lies.geometry;
      fits = table_fits c.args.image.geometry c.args.image.table c.requires.lies;
      machine_is = opened.machine;
      opened_on = opened.opened;
    } in
    rw (p.1, p.2) (not_recorded c.args.names.now program script i _
    (world files out (g.D.Dram.view c.args.chip.now)) (world files out old)
    (world (g.F.Folder.view c.record_script.new.files) (g.S.Sink.view c.record_script.new.out)
    (g.D.Dram.view c.record_script.new.chip)) (opened.goes files out)
    (c.in_err-refused.ensures.recorded program i opens))

pub returns-then-is_err-clause-traced : goal.returns-then-is_err-clause-traced
returns-then-is_err-clause-traced g c =
    let program = c.args.prog.programs in
    let script = map view_of c.args.script.now in
    let i = image_found (found_in c.args.image) in
    let machine = c.in_ok-machine.machine in
    let opened = c.in_ok-machine.ensures in
    let files = g.F.Folder.view c.args.files.now in
    let out = g.S.Sink.view c.args.out.now in
    let old = g.D.Dram.view c.open.new.chip in
    let opens : OpensOn program i machine old = record {
      legal = c.requires.legal;
      shape = c.requires.lies.geometry;
      fits = table_fits c.args.image.geometry c.args.image.table c.requires.lies;
      machine_is = opened.machine;
      opened_on = opened.opened;
    } in
    total_unsent c.args.names.now program script i c.in_ok-refused.refused
    (world files out (g.D.Dram.view c.args.chip.now)) (world files out old)
    (g.F.Folder.view c.record_script.new.files) (g.S.Sink.view c.record_script.new.out)
    (g.S.Sink.view c.put_total.new.out) (g.D.Dram.view c.record_script.new.chip)
    (opened.goes files out) (c.in_ok-refused.ensures.recorded program i opens)
    (at_err c.put_total.result (sym c.is_err.ensures.value
    ∙ c.if-is_err.true) c.put_total.ensures.part) c.put_total.ensures.faults
    (at_err c.put_total.result (sym c.is_err.ensures.value
    ∙ c.if-is_err.true) c.put_total.ensures.rose)

pub returns-clause-traced : goal.returns-clause-traced
returns-clause-traced g c =
    let program = c.args.prog.programs in
    let script = map view_of c.args.script.now in
    let i = image_found (found_in c.args.image) in
    let machine = c.in_ok-machine.machine in
    let opened = c.in_ok-machine.ensures in
    let files = g.F.Folder.view c.args.files.now in
    let out = g.S.Sink.view c.args.out.now in
    let old = g.D.Dram.view c.open.new.chip in
    let opens : OpensOn program i machine old = record {
      legal = c.requires.legal;
      shape = c.requires.lies.geometry;
      fits = table_fits c.args.image.geometry c.args.image.table c.requires.lies;
      machine_is = opened.machine;
      opened_on = opened.opened;
    } in
    total_sent c.args.names.now program script i c.in_ok-refused.refused
    (world files out (g.D.Dram.view c.args.chip.now)) (world files out old)
    (g.F.Folder.view c.record_script.new.files) (g.S.Sink.view c.record_script.new.out)
    (g.S.Sink.view c.put_total.new.out) (g.D.Dram.view c.record_script.new.chip)
    (opened.goes files out) (c.in_ok-refused.ensures.recorded program i opens)
    (at_ok c.put_total.result (sym c.is_err.ensures.value
    ∙ c.if-is_err.false) c.put_total.ensures.sent) (at_ok c.put_total.result (sym c.is_err.ensures.value ∙ c.if-is_err.false) c.put_total.ensures.unfailed)
