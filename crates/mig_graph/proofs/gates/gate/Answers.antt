use Rattle.std.proofs.Common.{◌∙◌}
use Rattle.std.proofs.lemmas.Result.{IfOk-weaker}
use Rattle.mig_graph.proofs.Laws.{value-zero, value-input}
use Rattle.mig_graph.specs.Outputs.{lit_at}
use Rattle.mig_graph.proofs.GateValues.{and-gate, or-gate, one-majority}
use Rattle.mig_graph.proofs.gates.gate.Goals as goal

pub returns-in-Zero-clause-value : goal.returns-in-Zero-clause-value
returns-in-Zero-clause-value c = λ bits. rw c.in-Zero.is (value-zero c.args.mig.now bits)

pub returns-in-Input-clause-value : goal.returns-in-Input-clause-value
returns-in-Input-clause-value c = λ bits. rw c.in-Input.is
    (value-input c.args.mig.now bits c.in-Input.k (rw c.in-Input.is at c.requires.input))

pub returns-in-And-clause-value : goal.returns-in-And-clause-value
returns-in-And-clause-value c = rw c.in-And.is (IfOk-weaker c.maj.result _ _ (λ l h bits. h bits
    ∙ and-gate c.args.mig.now bits (lit_at c.args.lits.now c.in-And.a)
    (lit_at c.args.lits.now c.in-And.b)) c.maj.ensures.value)

pub returns-in-Or-clause-value : goal.returns-in-Or-clause-value
returns-in-Or-clause-value c = rw c.in-Or.is (IfOk-weaker c.maj-in-Or.result _ _ (λ l h bits. h bits
    ∙ or-gate c.args.mig.now bits (lit_at c.args.lits.now c.in-Or.a)
    (lit_at c.args.lits.now c.in-Or.b)) c.maj-in-Or.ensures.value)

pub returns-in-Maj-clause-value : goal.returns-in-Maj-clause-value
returns-in-Maj-clause-value c = rw c.in-Maj.is
    (IfOk-weaker c.maj-in-Maj.result _ _ (λ l h bits. h bits
    ∙ one-majority _ _ _) c.maj-in-Maj.ensures.value)
