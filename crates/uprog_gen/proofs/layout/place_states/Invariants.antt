use Rattle.uprog_gen.proofs.Common.{◌+◌, ◌≤◌, ◌≡◌, take, operation, result_names}
use Rattle.uprog_gen.specs.Laying.{Lays, states_defined}
use Rattle.uprog_gen.proofs.layout.place_states.Given as goal

abbrev pub invariant-loop-state : goal.invariant-loop-state
invariant-loop-state l = record {
  lays : Lays (result_names (operation l.owner)) (states_defined (take l.state-index l.states))
      l.initial.names l.names;
  bits : l.names.free_bit ≤ l.initial.names.free_bit + l.state-index;
  words : l.names.free_word ≡ l.initial.names.free_word;
}
