-- What a scan on a machine answers, and of which nodes it is asked.
use Rattle.std.specs.Prelude.{◌≡◌, ℕ, Bool, true, false, List}
use Rattle.dram_model.specs.declared.dram.Counters.{Counters}
use Rattle.dram_model.specs.View.{with_reads}
use Rattle.machine_model.specs.Script.{with_counts}
use Rattle.scan_model.specs.Queries as model
use Rattle.scan_model.specs.Answers.{Answer, Found, Refused}
use Rattle.scan_query.specs.declared.query.ScanReply.{ScanReply}
use Rattle.scan_query.specs.declared.query.ScanReply.TheVariants as reply
use Rattle.scan_query.specs.Queries.{IsNodesOf}

-- the nodes are those of a query
abbrev pub IsScan : List model.Node → Type 0
IsScan nodes = (t : model.Query) × IsNodesOf t nodes

-- the answer that a machine's reply to a scan is
abbrev pub answer_of : ScanReply → Answer
answer_of (reply.Done found of counts) = Found found of counts
answer_of (reply.Refused why k) = Refused why k

-- the scan was done, and not refused
abbrev pub is_done : ScanReply → Bool
is_done (reply.Done found of counts) = true
is_done (reply.Refused why k) = false

-- the chip's counters rose by the commands that are counted and by so many reads, where it is done
abbrev pub CountersRose : ScanReply → ℕ → Counters → Counters → Type 0
CountersRose (reply.Done found of counts) reads old new = new
    ≡ with_reads reads (with_counts old counts)
CountersRose (reply.Refused why k) reads old new = Unit {0}
