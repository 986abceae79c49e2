use Rattle.std.proofs.Common.{arith, ap}
use Rattle.std.proofs.lemmas.Grind.{common_steps}
use Rattle.dram_model.specs.declared.dram.Counters.{Counters}
use Rattle.part_tests.specs.declared.object_tests.TheConstants.{SMALL, ELEMENTS}
use Rattle.part_tests.proofs.Runs.{write_reads}
use Rattle.part_tests.proofs.object_tests.an_object_is_read_back.Goals as goal

pub read_segment-requires-clause-room : goal.read_segment-requires-clause-room
read_segment-requires-clause-room g c =
    let reads = write_reads SMALL 7 5 ELEMENTS c.begin.new.self.counters
    c.write_object.new.dram.counters c.in_ok-write_object.ensures.did.counters in
    rw reads (grind (arith, common_steps))

pub read_segment-requires-2-clause-room : goal.read_segment-requires-2-clause-room
read_segment-requires-2-clause-room g c =
    let reads = write_reads SMALL 7 5 ELEMENTS c.begin.new.self.counters
    c.write_object.new.dram.counters c.in_ok-write_object.ensures.did.counters in
    let more = ap (λ (k : Counters). k.reads) c.in_ok-read_segment.ensures.did.counters in
    rw (more, reads) (grind (arith, common_steps))
