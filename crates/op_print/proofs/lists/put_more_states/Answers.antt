use Rattle.op_print.specs.Canonical.{after_comma, state_text}
use Rattle.op_print.proofs.Loops.{twice, written-more}
use Rattle.op_print.proofs.lists.put_more_states.Goals as goal

pub loop-state-preserved : goal.loop-state-preserved
loop-state-preserved c = written-more (after_comma state_text) c.args.states.now c.loop-state.state-index
    c.state-item.result _ _ _ c.loop-state-test.true c.state-item.is c.loop-state.invariant
    (twice _ _ _ _ _ c.in_ok-put_comma.ensures c.in_ok-put_state.ensures)
