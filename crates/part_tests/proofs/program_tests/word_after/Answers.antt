use Rattle.std.proofs.Common.{arith}
use Rattle.std.proofs.lemmas.Grind.{common_steps}
use Rattle.uprog_code.specs.Shape.{shape_of}
use Rattle.part_tests.proofs.Runs.{run_reads}
use Rattle.part_tests.proofs.program_tests.word_after.Goals as goal

pub read_row-requires-clause-room : goal.read_row-requires-clause-room
read_row-requires-clause-room c =
    let entry = c.args.entry.now in
    let reads = run_reads 1 c.write_row-3.new.self.geometry.rows (shape_of entry.head)
    entry.code.items c.args.binding.now c.write_row-3.new.self.counters
    c.run.new.dram.counters c.in_ok-run.ensures.did.counters in
    rw reads (grind (arith, common_steps))
