use Rattle.std.proofs.lemmas.Result.{IfOk-weaker}
use Rattle.std.proofs.Common.{sym, ◌∙◌}
use Rattle.aoi_graph.proofs.block.read.Goals as goal

pub returns-in-Some-copied-clause-held : goal.returns-in-Some-copied-clause-held
returns-in-Some-copied-clause-held c = IfOk-weaker c.gate.result _ _ (λ r h o.
    h c.args.inputs.now (
      c.args.name.now,
      sym (c.in-Some-copied.ensures
          ∙ c.get-in-None.ensures.value),
    ) o) c.gate.ensures.held

pub returns-in-None-copied-clause-held : goal.returns-in-None-copied-clause-held
returns-in-None-copied-clause-held c = IfOk-weaker c.gate-in-None-copied.result _ _ (λ r h o.
    h c.args.inputs.now tt o) c.gate-in-None-copied.ensures.held
