use Rattle.std.proofs.Common.{◌≡◌, Bool, ◌&&◌, ◌||◌, refl, ◌∙◌, arith}
use Rattle.std.proofs.lemmas.Result.{IfOk-weaker}
use Rattle.op_text.specs.Values.{differ, majority}
use Rattle.aoi_graph.proofs.Growing.{grows-then, on-ok, two-values, third-value}
use Rattle.aoi_graph.proofs.block.+expressions.Goals as goal

two : (f : Bool → Bool → Bool) (a b x y : Bool) → (a ≡ x) × (b ≡ y) → f a b ≡ f x y
two f a b x y h = rw (h.0, h.1) refl

three : (a b c x y z : Bool) → (a ≡ x) × (b ≡ y) × (c ≡ z) → majority a b c ≡ majority x y z
three a b c x y z h = rw (h.0, h.1, h.2) refl

pub pair-returns-clause-value : goal.pair-returns-clause-value
pair-returns-clause-value t c = λ bits env e.
    two-values c.args.nodes.now.items c.expression.new.nodes.items
    c.expression-2.new.nodes.items _ _ _ _ c.args.known.now c.args.inputs.now bits env
    c.in_ok-a.a c.in_ok-b.b _ _ c.in_ok-a.ensures.grows c.in_ok-b.ensures.grows c.requires.known
    c.in_ok-a.ensures.named (c.in_ok-a.ensures.value bits env) (c.in_ok-b.ensures.value bits env) e

pub pair-returns-clause-held : goal.pair-returns-clause-held
pair-returns-clause-held t c = λ o. c.in_ok-b.ensures.held (c.in_ok-a.ensures.held o)

pub expression-returns-in-Zero-clause-held : goal.expression-returns-in-Zero-clause-held
expression-returns-in-Zero-clause-held t c = IfOk-weaker c.gate.result _ _ (λ r h o.
    h c.args.inputs.now tt o) c.gate.ensures.held

pub expression-returns-in-One-clause-held : goal.expression-returns-in-One-clause-held
expression-returns-in-One-clause-held t c = IfOk-weaker c.one.result _ _ (λ r h o.
    h c.args.inputs.now o) c.one.ensures.held

pub expression-returns-in_ok-a-in-Not-clause-held : goal.expression-returns-in_ok-a-in-Not-clause-held
expression-returns-in_ok-a-in-Not-clause-held t c = IfOk-weaker c.gate-in-Not.result _ _ (λ r h o.
    h c.args.inputs.now tt (c.in_ok-a-in-Not.ensures.held o)) c.gate-in-Not.ensures.held

pub expression-returns-in_ok-a-in-And-clause-value :
    goal.expression-returns-in_ok-a-in-And-clause-value
expression-returns-in_ok-a-in-And-clause-value t c =
    let two-are = rw (c.deref-in-And.ensures, c.deref-in-And-2.ensures)
    at c.in_ok-a-in-And.ensures.value in
    rw c.in-And.is (IfOk-weaker c.gate-in-And.result _ _ (λ r h bits env e. h bits
    ∙ two (λ x y. x && y) _ _ _ _ (two-are bits env e)) c.gate-in-And.ensures.value)

pub expression-returns-in_ok-a-in-Or-clause-value :
    goal.expression-returns-in_ok-a-in-Or-clause-value
expression-returns-in_ok-a-in-Or-clause-value t c =
    let two-are = rw (c.deref-in-Or.ensures, c.deref-in-Or-2.ensures)
    at c.in_ok-a-in-Or.ensures.value in
    rw c.in-Or.is (IfOk-weaker c.gate-in-Or.result _ _ (λ r h bits env e. h bits
    ∙ two (λ x y. x || y) _ _ _ _ (two-are bits env e)) c.gate-in-Or.ensures.value)

pub expression-returns-in_ok-a-in-Xor-clause-value :
    goal.expression-returns-in_ok-a-in-Xor-clause-value
expression-returns-in_ok-a-in-Xor-clause-value t c =
    let two-are = rw (c.deref-in-Xor.ensures, c.deref-in-Xor-2.ensures)
    at c.in_ok-a-in-Xor.ensures.value in
    rw c.in-Xor.is (IfOk-weaker c.xor.result _ _ (λ r h bits env e. h bits
    ∙ two differ _ _ _ _ (two-are bits env e)) c.xor.ensures.value)

pub expression-returns-in_ok-c-in-Maj-clause-value :
    goal.expression-returns-in_ok-c-in-Maj-clause-value
expression-returns-in_ok-c-in-Maj-clause-value t c =
    let two-are = rw (c.deref-in-Maj.ensures, c.deref-in-Maj-2.ensures)
    at c.in_ok-a-in-Maj.ensures.value in
    let last-is = rw c.deref-in-Maj-3.ensures at c.in_ok-c-in-Maj.ensures.value in
    rw c.in-Maj.is (IfOk-weaker c.gate-in-Maj.result _ _ (λ r h bits env e. h bits
    ∙ three _ _ _ _ _ _ (third-value c.args.nodes.now.items c.pair-in-Maj.new.nodes.items
    c.expression-in-Maj.new.nodes.items _ _ _ _ c.args.known.now c.args.inputs.now bits env
    c.in_ok-a-in-Maj.a c.in_ok-a-in-Maj.b c.in_ok-c-in-Maj.c _ _ _
    c.in_ok-a-in-Maj.ensures.grows c.in_ok-c-in-Maj.ensures.grows c.requires.known
    c.in_ok-a-in-Maj.ensures.named (two-are bits env) (last-is bits env) e))
    c.gate-in-Maj.ensures.value)

pub expression-returns-in_ok-a-in-And-clause-held :
    goal.expression-returns-in_ok-a-in-And-clause-held
expression-returns-in_ok-a-in-And-clause-held t c = IfOk-weaker c.gate-in-And.result _ _ (λ r h o.
    h c.args.inputs.now tt (c.in_ok-a-in-And.ensures.held o)) c.gate-in-And.ensures.held

pub expression-returns-in_ok-a-in-Or-clause-held : goal.expression-returns-in_ok-a-in-Or-clause-held
expression-returns-in_ok-a-in-Or-clause-held t c = IfOk-weaker c.gate-in-Or.result _ _ (λ r h o.
    h c.args.inputs.now tt (c.in_ok-a-in-Or.ensures.held o)) c.gate-in-Or.ensures.held

pub expression-returns-in_ok-a-in-Xor-clause-held :
    goal.expression-returns-in_ok-a-in-Xor-clause-held
expression-returns-in_ok-a-in-Xor-clause-held t c = IfOk-weaker c.xor.result _ _ (λ r h o.
    h c.args.inputs.now (c.in_ok-a-in-Xor.ensures.held o)) c.xor.ensures.held

pub expression-returns-in_ok-c-in-Maj-clause-held :
    goal.expression-returns-in_ok-c-in-Maj-clause-held
expression-returns-in_ok-c-in-Maj-clause-held t c = IfOk-weaker c.gate-in-Maj.result _ _ (λ r h o.
    h c.args.inputs.now tt (c.in_ok-c-in-Maj.ensures.held (c.in_ok-a-in-Maj.ensures.held o)))
    c.gate-in-Maj.ensures.held

pub pair-returns-clause-grows : goal.pair-returns-clause-grows
pair-returns-clause-grows t c = grows-then _ _ _ _ _ _ _ _ _ c.in_ok-a.ensures.grows
    c.in_ok-b.ensures.grows (omega arith) (omega arith)

pub expression-returns-in_ok-a-in-And-clause-grows :
    goal.expression-returns-in_ok-a-in-And-clause-grows
expression-returns-in_ok-a-in-And-clause-grows t c =
    let two-more = rw (c.deref-in-And.ensures, c.deref-in-And-2.ensures)
    at c.in_ok-a-in-And.ensures.grows in
    rw c.in-And.is (on-ok c.gate-in-And.result _ _ (λ one-more. grows-then _ _ _ _ _ _ _ _ _ two-more
    one-more (omega arith) (omega arith)) c.gate-in-And.ensures.grows)

pub expression-returns-in_ok-a-in-Or-clause-grows :
    goal.expression-returns-in_ok-a-in-Or-clause-grows
expression-returns-in_ok-a-in-Or-clause-grows t c =
    let two-more = rw (c.deref-in-Or.ensures, c.deref-in-Or-2.ensures)
    at c.in_ok-a-in-Or.ensures.grows in
    rw c.in-Or.is (on-ok c.gate-in-Or.result _ _ (λ one-more. grows-then _ _ _ _ _ _ _ _ _ two-more
    one-more (omega arith) (omega arith)) c.gate-in-Or.ensures.grows)

pub expression-returns-in_ok-a-in-Xor-clause-grows :
    goal.expression-returns-in_ok-a-in-Xor-clause-grows
expression-returns-in_ok-a-in-Xor-clause-grows t c =
    let two-more = rw (c.deref-in-Xor.ensures, c.deref-in-Xor-2.ensures)
    at c.in_ok-a-in-Xor.ensures.grows in
    rw c.in-Xor.is (on-ok c.xor.result _ _ (λ one-more. grows-then _ _ _ _ _ _ _ _ _ two-more
    one-more (omega arith) (omega arith)) c.xor.ensures.grows)
