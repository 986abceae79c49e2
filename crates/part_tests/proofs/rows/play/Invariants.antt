use Rattle.std.proofs.Common.{◌≡◌, ◌+◌, ◌≤◌}
use Rattle.dram_model.specs.View.{Kept}
use Rattle.part_tests.proofs.rows.play.Given as goal

abbrev pub invariant-loop-command : goal.invariant-loop-command
invariant-loop-command g l =
    let first = g.D.Dram.view l.initial.chip in
    let now = g.D.Dram.view l.chip in
    record {
      kept : Kept first now;
      aap : now.counters.aap ≤ first.counters.aap + l.command-index;
      ap : now.counters.ap ≤ first.counters.ap + l.command-index;
      reads : now.counters.reads ≡ first.counters.reads;
    }
