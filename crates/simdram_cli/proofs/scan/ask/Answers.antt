use Rattle.simdram_cli.proofs.Common.{◌∙◌, List, ap, sym, subst, err_from_is_err_and, Microprogram}
use Rattle.simdram_cli.proofs.Common.{ImplementsAll, found_in, geometry_of, program_of, table_in}
use Rattle.simdram_cli.proofs.Common.{turn_in, world}
use Rattle.scan_model.specs.Operations.{scan_text}
use Rattle.scan_query.specs.Queries.{nodes_in}
use Rattle.simdram_cli.specs.Inputs.{image_found}
use Rattle.simdram_cli.proofs.Scanning.{RanOn, asked_done, asked_failed, answer_moves, no_stage}
use Rattle.simdram_cli.proofs.Scanning.{checks_are, not_opened, query_done, query_left, query_used}
use Rattle.simdram_cli.proofs.Scanning.{room_opened}
use Rattle.simdram_cli.proofs.Stopping.{query_stopped, refused_moves}
use Rattle.simdram_cli.proofs.Progress.{Holds, holds_on}
use Rattle.simdram_cli.proofs.scan.ask.Goals as goal

pub run_query-requires-clause-program : goal.run_query-requires-clause-program
run_query-requires-clause-program g c =
    subst (λ (p : List Microprogram). ImplementsAll p scan_text)
    (sym (ap program_of c.in_ok-machine.ensures.machine)) c.requires.does.implements

pub run_query-requires-clause-room : goal.run_query-requires-clause-room
run_query-requires-clause-room g c =
    room_opened (image_found (found_in c.args.image)) (g.D.Dram.view c.open.new.chip)
    c.requires.lies.geometry c.in_ok-machine.ensures.opened

pub returns-in_default-clause-goes : goal.returns-in_default-clause-goes
returns-in_default-clause-goes g c files sink t h =
    no_stage c.args.prog.programs t (image_found (found_in c.args.image))
    (world files sink (g.D.Dram.view c.args.chip.now))

pub returns-in_err-machine-clause-goes : goal.returns-in_err-machine-clause-goes
returns-in_err-machine-clause-goes g c files sink t h =
    let p = err_from_is_err_and c.from_residual.result c.from_residual.ensures.1 in
    rw (p.1, p.2) (not_opened c.args.prog.programs t (image_found (found_in c.args.image)) _
    (world files sink (g.D.Dram.view c.args.chip.now))
    (world files sink (g.D.Dram.view c.open.new.chip)) (c.in_err-machine.ensures.goes files sink))

pub returns-in-Ok-run_query-clause-goes : goal.returns-in-Ok-run_query-clause-goes
returns-in-Ok-run_query-clause-goes g c files sink t h =
    let program = c.args.prog.programs in
    let i = image_found (found_in c.args.image) in
    let machine = c.in_ok-machine.machine in
    let nodes = nodes_in c.args.query.now in
    let before = g.D.Dram.view c.args.chip.now in
    let old = g.D.Dram.view c.open.new.chip in
    let new = g.D.Dram.view c.run_query.new.dram in
    let opened = c.in_ok-machine.ensures in
    let ran : RanOn program t i nodes (table_in machine) old new = record {
      table_is = ap table_in opened.machine;
      nodes_are = h;
      opened_on = opened.opened;
    } in
    let holds : Holds i.geometry i.table =
    holds_on c.args.image.geometry c.args.image.table c.requires.lies in
    let shape_is = ap geometry_of opened.machine in
    let program_is = ap program_of opened.machine in
    let turn_is = ap turn_in opened.machine in
    asked_done program t i nodes (table_in machine) files sink before old new c.run_query.result
    c.in-Ok-run_query.reply (geometry_of machine) ran (opened.goes files sink) c.in-Ok-run_query.is
    shape_is
    (answer_moves program (program_of machine) t i (geometry_of machine) old.banks
    (table_in machine) _ shape_is program_is opened.opened.banks
    (ap table_in opened.machine)
    (c.in-Ok-run_query.ensures.answer t h)) c.in-Ok-run_query.ensures.counted
    c.run_query.ensures.unused
    (λ none. query_used program t i nodes machine old new ran shape_is program_is turn_is
    (c.in-Ok-run_query.ensures.used none))
    (λ is. query_done program (program_of machine) t i nodes (geometry_of machine) (table_in
    machine)
    (turn_in machine) _ old new ran holds shape_is program_is turn_is
    (c.in-Ok-run_query.ensures.did is))
    c.run_query.ensures.kept c.in-Ok-run_query.ensures.faults
    (λ reason k none refused. query_stopped program t i nodes machine reason old new ran holds
    shape_is program_is turn_is (c.in-Ok-run_query.ensures.stopped reason k
    (sym (checks_are program t i nodes (table_in machine) old new ran) ∙ none)
    (refused_moves program t i nodes machine old new ran shape_is program_is ∙ refused)))

pub returns-clause-goes : goal.returns-clause-goes
returns-clause-goes g c files sink t h =
    let program = c.args.prog.programs in
    let i = image_found (found_in c.args.image) in
    let machine = c.in_ok-machine.machine in
    let nodes = nodes_in c.args.query.now in
    let before = g.D.Dram.view c.args.chip.now in
    let old = g.D.Dram.view c.open.new.chip in
    let new = g.D.Dram.view c.run_query.new.dram in
    let opened = c.in_ok-machine.ensures in
    let ran : RanOn program t i nodes (table_in machine) old new = record {
      table_is = ap table_in opened.machine;
      nodes_are = h;
      opened_on = opened.opened;
    } in
    asked_failed program t i nodes (table_in machine) files sink before old new c.run_query.result
    _ ran (opened.goes files sink) c.in-Err.is c.run_query.ensures.kept.faults
    c.in-Err.ensures.failed
    (query_left program t i nodes machine old new ran (ap geometry_of opened.machine)
    (ap program_of opened.machine) (ap turn_in opened.machine) c.in-Err.ensures.left)
    c.run_query.ensures.unused
