use Rattle.uprog_gen.proofs.Common.{[], ◌∷◌, take, sym, subst, arith, Bit, Param, param, operation}
use Rattle.uprog_gen.proofs.Common.{result_names}
use Rattle.uprog_gen.specs.Laying.{Lays, states_defined}
use Rattle.uprog_gen.proofs.Naming.Placed.{lays_then, states_more, one_name, states_no_words}
use Rattle.uprog_gen.proofs.layout.place_states.Goals as goal

pub loop-state-preserved : goal.loop-state-preserved
loop-state-preserved c =
    let old = c.loop-state.invariant in
    let states = c.args.states.now in
    let outcome = result_names (operation c.args.owner.now) in
    let k = c.loop-state.state-index in
    let s = c.state-item.result in
    let step = c.in_ok-place.ensures in
    let p : Param = param s.name Bit in
    record {
      lays = subst (λ ps. Lays outcome ps c.args.names.now c.place.new.names)
          (sym (states_more states k s c.loop-state-test.true c.state-item.is))
          (lays_then outcome (states_defined (take k states)) (p ∷ []) c.args.names.now
          c.loop-state.names c.place.new.names old.lays step);
      bits = omega (arith, old.bits, step.bits, one_name outcome Bit p);
      words = omega (arith, old.words, step.words, states_no_words outcome (s ∷ []));
    }
