use Rattle.guard_job.proofs.Common.{◌≡◌, ◌+◌, ◌≤◌, ◌-◌, drop, length, AllByRecursion, Banks, Grew}
use Rattle.guard_job.proofs.Common.{StoppedWithin, ChipView, Kept, all_flipped, due, AreSorted}
use Rattle.guard_job.specs.Events.{flip_events}
use Rattle.guard_job.specs.Parts.{IsCell, after_flips}
use Rattle.guard_job.proofs.flipping.flip_due.Given as goal

-- what is left gives the whole
abbrev pub invariant-flips : goal.invariant-flips
invariant-flips g l =
    let D = g.D.Dram in
    let start = D.view l.initial.chip in
    let now = D.view l.chip in
    let left = drop l.done l.flips in
    record {
      within : l.done ≤ length l.flips;
      stage : length l.stage ≡ length l.initial.stage;
      borrow : D.borrow l.chip ≡ D.borrow l.initial.chip;
      kept : Kept start now;
      faults : now.faults ≡ start.faults;
      counters : now.counters ≡ after_flips l.done start.counters;
      count : l.done + length (due l.k left) ≡ length (due l.k l.flips);
      banks : all_flipped (due l.k left) now.banks ≡ all_flipped (due l.k l.flips) start.banks;
      log : (new : ChipView) → Grew now.log new.log (flip_events (due l.k left) now.banks)
          → Grew start.log new.log (flip_events (due l.k l.flips) start.banks);
      stops : (last : Banks) → StoppedWithin 0 (flip_events (due l.k left) now.banks) now.banks last
          → StoppedWithin 0 (flip_events (due l.k l.flips) start.banks) start.banks last;
      sorted : AreSorted l.k left;
      cells : AllByRecursion (IsCell start.geometry) left;
    }

abbrev pub decreases-flips : goal.decreases-flips
decreases-flips g l = length l.flips - l.done
