use Rattle.simdram_cli.proofs.Common.{◌≡◌, ◌+◌, ◌*◌, ◌≤◌, ◌-◌, drop, map, length, count_by}
use Rattle.simdram_cli.proofs.Common.{AllByRecursion, FolderView, ChipView, Kept, view_of, IsPlain}
use Rattle.simdram_cli.proofs.Common.{events_of_pieces, pieces, is_refused, replies, rows_printed}
use Rattle.simdram_cli.proofs.Common.{sum_done, table_at_end, World, world, Goes, End, geometry_of}
use Rattle.simdram_cli.proofs.Common.{operations_by, table_in, turn_in, RisesAtMost, DidAndRead}
use Rattle.sim_machine.specs.Machine.{GoesOn}
use Rattle.uprog_code.specs.declared.TheConstants.{WALK_MAX}
use Rattle.simdram_cli.specs.Job.{pieces_steps}
use Rattle.simdram_cli.proofs.work.work.Given as goal

-- what goes on from here goes as the whole
abbrev pub invariant-pieces : goal.invariant-pieces
invariant-pieces g l =
    let script = map view_of l.script in
    let rest = map view_of (drop l.done l.script) in
    let shape = geometry_of l.initial.machine in
    let operations = operations_by l.initial.machine in
    let first = table_in l.initial.machine in
    let table = table_in l.machine in
    let start = g.D.Dram.view l.initial.chip in
    let now = g.D.Dram.view l.chip in
    record {
      within : l.done ≤ length l.script;
      few : l.refused ≤ l.done;
      goes_on : GoesOn l.initial.machine l.machine;
      borrow : g.D.Dram.borrow l.chip ≡ g.D.Dram.borrow l.initial.chip;
      kept : Kept start now;
      rises : RisesAtMost (256 * WALK_MAX * l.done) start.counters now.counters;
      plain : AllByRecursion IsPlain rest;
      table_end : table_at_end shape operations table rest
          ≡ table_at_end shape operations first script;
      did : (new : ChipView)
          → DidAndRead (events_of_pieces shape operations (turn_in l.machine) table (pieces rest))
          (sum_done rows_printed shape operations table rest) now new
          → DidAndRead (events_of_pieces shape operations (turn_in l.initial.machine) first
          (pieces script)) (sum_done rows_printed shape operations first script) start new;
      refused_so_far : l.refused + count_by is_refused (replies shape operations table rest)
          ≡ count_by is_refused (replies shape operations first script);
      goes : (files : FolderView) (end : End) (w : World)
          → Goes (pieces_steps shape operations (turn_in l.machine) table now.banks (l.done + 1)
          (pieces rest)) end
          (world files (g.S.Sink.view l.out) now) w
          → Goes (pieces_steps shape operations (turn_in l.initial.machine) first start.banks 1
          (pieces script)) end
          (world files (g.S.Sink.view l.initial.out) start) w;
    }

abbrev pub decreases-pieces : goal.decreases-pieces
decreases-pieces g l = length l.script - l.done
