use Rattle.std.proofs.Common.{[], ◌∷◌}
use Rattle.op_text.specs.declared.wanted.Wanted.TheVariants as w
use Rattle.op_lang.proofs.Taking.{exits}
use Rattle.op_lang.proofs.Single.{open_took}
use Rattle.op_lang.proofs.values.gate_open.Goals as goal

pub returns-in_err-take-clause-moves : goal.returns-in_err-take-clause-moves
returns-in_err-take-clause-moves c = exits (w.GateOpen ∷ []) _ _ _ (λ x.
    []) _ c.from_residual.ensures.1 c.in_err-take.ensures

pub returns-clause-moves : goal.returns-clause-moves
returns-clause-moves c = λ more. open_took _ _ _ _ c.in_ok-take.ensures more
