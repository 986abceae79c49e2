use Rattle.guard_job.proofs.Common.{◌≡◌, ℕ, ◌+◌, ◌<◌, ◌≤◌, ◌-◌, drop, map, length, false, None}
use Rattle.guard_job.proofs.Common.{count_by, AllByRecursion, FolderView, Grew, ChipView, Kept}
use Rattle.guard_job.proofs.Common.{view_of, IsPlain, is_refused, RisesAtMost, World, world, Goes}
use Rattle.guard_job.proofs.Common.{End, geometry_of, operations_by, table_in, turn_in, due}
use Rattle.guard_job.proofs.Common.{AreSorted, IsFlip, has_long_name, guarded_replies}
use Rattle.guard_job.proofs.Common.{guarded_rows_at_end, guarded_table_at_end, guarded_tally}
use Rattle.guard_job.proofs.Common.{votes_at_end, machine_in}
use Rattle.std.proofs.Common.{◌*◌, ◌^◌}
use Rattle.sim_machine.specs.Machine.{GoesOn}
use Rattle.guard_model.specs.Triples.{first_stranger}
use Rattle.guard_job.specs.Events.{run_events}
use Rattle.guard_job.specs.Steps.{guarded_steps}
use Rattle.guard_job.proofs.scripts.guard_script.Given as goal

-- what goes on from here goes as the whole
abbrev pub invariant-instrs : goal.invariant-instrs
invariant-instrs g l =
    let D = g.D.Dram in
    let first = machine_in l.initial.guard in
    let machine = machine_in l.guard in
    let shape = geometry_of first in
    let operations = operations_by first in
    let script = map view_of l.script in
    let rest = map view_of (drop l.done l.script) in
    let left = drop l.flipped l.flips in
    let start = D.view l.initial.chip in
    let now = D.view l.chip in
    record {
      within : l.done ≤ length l.script;
      flipped : l.flipped ≤ length l.flips;
      stage : length l.stage ≡ length l.initial.stage;
      goes_on : GoesOn first machine;
      triples : first_stranger (table_in machine) ≡ None;
      borrow : D.borrow l.chip ≡ D.borrow l.initial.chip;
      kept : Kept start now;
      rises : RisesAtMost (2 ^ 33 * l.done + l.flipped) start.counters now.counters;
      few_votes : l.votes ≤ 2 ^ 30 * l.done;
      few_refused : l.refused ≤ l.done;
      plain : AllByRecursion IsPlain rest;
      short : AllByRecursion (λ instr. has_long_name instr ≡ false) rest;
      cells : AllByRecursion (IsFlip shape (length l.script)) left;
      sorted : AreSorted (l.done + 1) left;
      later : (j : ℕ) → l.done < j → due j left ≡ due j l.flips;
      table_end : guarded_table_at_end shape operations (table_in machine) rest
          ≡ guarded_table_at_end shape operations (table_in first) script;
      banks_end : guarded_rows_at_end shape operations l.flips (l.done + 1) (table_in machine)
          now.banks rest
          ≡ guarded_rows_at_end shape operations l.flips 1 (table_in first) start.banks script;
      tally_end : guarded_tally shape operations (table_in machine) rest left now.counters
          ≡ guarded_tally shape operations (table_in first) script l.flips start.counters;
      log : (new : ChipView)
          → Grew now.log new.log (run_events shape operations l.flips (l.done + 1)
          (turn_in machine) (table_in machine) now.banks rest)
          → Grew start.log new.log (run_events shape operations l.flips 1 (turn_in first)
          (table_in first) start.banks script);
      votes_end : l.votes + votes_at_end shape operations (table_in machine) rest
          ≡ votes_at_end shape operations (table_in first) script;
      refused_end : l.refused
          + count_by is_refused (guarded_replies shape operations (table_in machine) rest)
          ≡ count_by is_refused (guarded_replies shape operations (table_in first) script);
      goes : (files : FolderView) (end : End) (w : World)
          → Goes (guarded_steps shape operations l.flips (l.done + 1) (turn_in machine)
          (table_in machine) now.banks rest) end (world files (g.S.Sink.view l.out) now) w
          → Goes (guarded_steps shape operations l.flips 1 (turn_in first) (table_in first)
          start.banks script) end (world files (g.S.Sink.view l.initial.out) start) w;
    }

abbrev pub decreases-instrs : goal.decreases-instrs
decreases-instrs g l = length l.script - l.done
