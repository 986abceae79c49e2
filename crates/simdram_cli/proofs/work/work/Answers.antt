use Rattle.simdram_cli.proofs.Common.{◌+◌, ◌<◌, ap, arith, length, ◌∙◌, map, drop}
use Rattle.simdram_cli.proofs.Common.{err_from_is_err_and, length-map, view_of, world, Kept-more}
use Rattle.simdram_cli.proofs.Common.{geometry_of, operations_by, program_of, table_in, turn_in}
use Rattle.std.proofs.lemmas.List.{drop_all, length-drop}
use Rattle.sim_machine.proofs.Keeping.{goes_more}
use Rattle.simdram_cli.specs.Works.{next_piece}
use Rattle.simdram_cli.proofs.Piecewise.{begins, did_none, stops_piece}
use Rattle.simdram_cli.proofs.Progress.{did_goes, goes_goes, holds_of, left_is, plain_left}
use Rattle.simdram_cli.proofs.Progress.{refused_goes, rises_more, step_of, table_goes}
use Rattle.simdram_cli.proofs.work.work.Goals as goal

pub pieces-preserved : goal.pieces-preserved
pieces-preserved g c =
    let script = c.args.script.now in
    let done = c.pieces.done in
    let taken = c.in_ok-taken.taken in
    let rest = map view_of (drop done script) in
    let others = map view_of (drop (done + taken.instrs) script) in
    let before = c.pieces.machine in
    let after = c.work_piece.new.machine in
    let shape = geometry_of c.args.machine.now in
    let program = program_of c.args.machine.now in
    let now = g.D.Dram.view c.pieces.chip in
    let next = g.D.Dram.view c.work_piece.new.chip in
    let start = g.D.Dram.view c.args.chip.now in
    let size = length-drop done script in
    let some : 0 < length rest = rw length-map (omega (arith, size)) in
    let front = rw c.split_at.ensures.back at c.in_ok-taken.ensures.done in
    let count = rw c.split_at.ensures.back at c.in_ok-taken.ensures.taken in
    let left = left_is script done taken.instrs count in
    let shape_is = ap geometry_of c.pieces.invariant.goes_on in
    let program_is = ap program_of c.pieces.invariant.goes_on in
    let step = step_of before after shape program (next_piece rest) now next taken.refused
    shape_is program_is front in
    let holds = rw shape_is at (holds_of (geometry_of before) (table_in before) front.laid.shape
    front.laid.table) in
    let within = rw c.split_at.ensures.back at c.in_ok-taken.ensures.within in
    record {
      within = omega (arith, within, size);
      few = omega (arith, c.in_ok-taken.ensures.few, c.pieces.invariant.few);
      goes_on = goes_more c.args.machine.now before after c.pieces.invariant.goes_on
          c.work_piece.ensures.goes_on;
      borrow = c.work_piece.ensures.borrow ∙ c.pieces.invariant.borrow;
      kept = Kept-more start now next c.pieces.invariant.kept c.work_piece.ensures.kept;
      rises = rises_more _ _ _ start.counters now.counters next.counters
          c.pieces.invariant.rises front.rises (omega (arith, c.in_ok-taken.ensures.some));
      plain = plain_left script done taken.instrs c.pieces.invariant.plain;
      table_end = table_goes shape program (turn_in before) (turn_in after) (table_in before)
          (table_in after) rest others now next taken.refused some left step _
          c.pieces.invariant.table_end;
      did = λ new more. c.pieces.invariant.did new (did_goes shape program (turn_in before)
          (turn_in after) (table_in before) (table_in after) rest others now next taken.refused some
          left step new more);
      refused_so_far = refused_goes shape program (turn_in before) (turn_in after)
          (table_in before) (table_in after) rest others now next taken.refused some left step
          c.pieces.refused _ c.pieces.invariant.refused_so_far;
      goes = λ files end w more. c.pieces.invariant.goes files end w (goes_goes shape program
          (turn_in before) (turn_in after) (table_in before) (table_in after) rest others now next
          taken.refused some left step done taken.instrs files (g.S.Sink.view c.pieces.out)
          (g.S.Sink.view c.work_piece.new.out) end w count holds
          (rw (
            c.split_at.ensures.back,
            shape_is,
            program_is,
          ) at (c.in_ok-taken.ensures.goes files)) more);
    }

pub returns-in_err-taken-clause-goes : goal.returns-in_err-taken-clause-goes
returns-in_err-taken-clause-goes g c files =
    let script = c.args.script.now in
    let done = c.pieces.done in
    let rest = map view_of (drop done script) in
    let shape = geometry_of c.args.machine.now in
    let size = length-drop done script in
    let some : 0 < length rest = rw length-map (omega (arith, size)) in
    let p = err_from_is_err_and c.from_residual.result c.from_residual.ensures.1 in
    rw (p.1, p.2) (c.pieces.invariant.goes files _
    (world files (g.S.Sink.view c.work_piece.new.out) (g.D.Dram.view c.work_piece.new.chip))
    (rw (begins rest some) (stops_piece shape (operations_by c.args.machine.now)
    (turn_in c.pieces.machine) (table_in c.pieces.machine)
    (g.D.Dram.view c.pieces.chip).banks (done + 1)
    (next_piece rest) _ _ (world files (g.S.Sink.view c.pieces.out) (g.D.Dram.view c.pieces.chip))
    (world files (g.S.Sink.view c.work_piece.new.out) (g.D.Dram.view c.work_piece.new.chip))
    (rw (
      c.split_at.ensures.back,
      ap geometry_of c.pieces.invariant.goes_on,
      ap program_of c.pieces.invariant.goes_on,
    ) at (c.in_err-taken.ensures.goes files)))))

pub returns-clause-did : goal.returns-clause-did
returns-clause-did g c =
    let none = drop_all c.pieces.done c.args.script.now (omega arith) in
    let now = g.D.Dram.view c.pieces.chip in
    (rw none at c.pieces.invariant.did) now (did_none now)
