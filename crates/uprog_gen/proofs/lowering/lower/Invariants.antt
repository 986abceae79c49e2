use Rattle.uprog_gen.proofs.Common.{map, take, operation, flow_of, slots_of}
use Rattle.uprog_gen.specs.Entries.{AreFronts}
use Rattle.uprog_gen.proofs.lowering.lower.Given as goal

abbrev pub invariant-loop-s : goal.invariant-loop-s
invariant-loop-s l = AreFronts (slots_of l.names) l.names.free_bit l.names.free_word
    (take l.s-index (operation l.op).body) (map flow_of l.flows.items)
