use Rattle.uprog_gen.proofs.Common.{[], ◌∷◌, take, sym, subst, arith, Word, operation, result_names}
use Rattle.uprog_gen.specs.Laying.{Lays, words_defined}
use Rattle.uprog_gen.proofs.Naming.Placed.{lays_then, words_more, one_word, words_no_bits}
use Rattle.uprog_gen.proofs.layout.place_words.Goals as goal

pub loop-assign-preserved : goal.loop-assign-preserved
loop-assign-preserved c =
    let old = c.loop-assign.invariant in
    let states = c.args.states.now in
    let assigns = c.args.assigns.now in
    let outcome = result_names (operation c.args.owner.now) in
    let k = c.loop-assign.assign-index in
    let a = c.assign-item.result in
    let step = c.in_ok-place_word.ensures in
    record {
      lays = subst (λ ps. Lays outcome ps c.args.names.now c.place_word.new.names)
          (sym (words_more states assigns k a c.loop-assign-test.true c.assign-item.is))
          (lays_then outcome (words_defined states (take k assigns)) (words_defined states (a ∷ []))
          c.args.names.now c.loop-assign.names c.place_word.new.names old.lays step);
      bits = omega (arith, old.bits, step.bits, words_no_bits outcome states (a ∷ []));
      words = omega (arith, old.words, step.words, one_word outcome Word states a);
    }
