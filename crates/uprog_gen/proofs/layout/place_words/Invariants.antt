use Rattle.uprog_gen.proofs.Common.{◌+◌, ◌≤◌, ◌≡◌, take, operation, result_names}
use Rattle.uprog_gen.specs.Laying.{Lays, words_defined}
use Rattle.uprog_gen.proofs.layout.place_words.Given as goal

abbrev pub invariant-loop-assign : goal.invariant-loop-assign
invariant-loop-assign l = record {
  lays : Lays (result_names (operation l.owner)) (words_defined l.states (take l.assign-index
      l.assigns)) l.initial.names
      l.names;
  bits : l.names.free_bit ≡ l.initial.names.free_bit;
  words : l.names.free_word ≤ l.initial.names.free_word + l.assign-index;
}
