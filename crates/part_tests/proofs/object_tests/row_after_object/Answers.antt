use Rattle.std.proofs.Common.{arith}
use Rattle.std.proofs.lemmas.Grind.{common_steps}
use Rattle.part_tests.specs.declared.object_tests.TheConstants.{SMALL}
use Rattle.part_tests.proofs.Runs.{write_reads}
use Rattle.part_tests.proofs.object_tests.row_after_object.Goals as goal

pub read_row-requires-clause-room : goal.read_row-requires-clause-room
read_row-requires-clause-room c =
    let reads = write_reads SMALL 7 5 c.args.values.now c.write_row.new.self.counters
    c.write_object.new.dram.counters c.in_ok-write_object.ensures.did.counters in
    rw reads (grind (arith, common_steps))
