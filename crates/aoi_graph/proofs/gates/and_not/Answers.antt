use Rattle.std.proofs.Common.{◌≡◌, Bool, ◌&&◌, refl, ◌∙◌}
use Rattle.std.proofs.lemmas.Result.{IfOk-weaker}
use Rattle.aoi_graph.proofs.Growing.{grows-keeps}
use Rattle.aoi_graph.proofs.gates.and_not.Goals as goal

both : (a b x y : Bool) → a ≡ x → b ≡ y → (a && b) ≡ (x && y)
both a b x y e f = rw (e, f) refl

pub returns-clause-value : goal.returns-clause-value
returns-clause-value c = IfOk-weaker c.gate-2.result _ _ (λ r h bits. h bits ∙ both _ _ _ _
    (grows-keeps c.args.nodes.now.items c.gate.new.nodes.items _ _ bits c.args.a
    c.in_ok-other.ensures.grows c.requires.a)
    (c.in_ok-other.ensures.value bits)) c.gate-2.ensures.value

pub returns-clause-held : goal.returns-clause-held
returns-clause-held c = IfOk-weaker c.gate-2.result _ _ (λ r h inputs o.
    h inputs tt (c.in_ok-other.ensures.held inputs tt o)) c.gate-2.ensures.held
