use Rattle.std.proofs.Common.{◌≡◌, Bool, true, false, not, ◌&&◌, ◌||◌, refl, ◌∙◌, arith}
use Rattle.std.proofs.lemmas.Result.{IfOk-weaker}
use Rattle.op_text.specs.Values.{differ}
use Rattle.aoi_graph.proofs.Growing.{grows-keeps, grows-then, on-ok}
use Rattle.aoi_graph.proofs.gates.xor.Goals as goal

table : (a b : Bool) → ((a && not b) || (b && not a)) ≡ differ a b
table true true = refl
table true false = refl
table false true = refl
table false false = refl

halves : (l r a b c d : Bool) → l ≡ (a && not b) → r ≡ (c && not d) → c ≡ b → d ≡ a
    → (l || r) ≡ differ a b
halves l r a b c d e f g h = rw (e, f, g, h) (table a b)

pub returns-clause-value : goal.returns-clause-value
returns-clause-value c =
    let old = c.args.nodes.now.items in
    let mid = c.and_not.new.nodes.items in
    let more = c.and_not-2.new.nodes.items in
    IfOk-weaker c.gate.result _ _ (λ r h bits. h bits ∙ halves _ _ _ _ _ _
    (grows-keeps mid more _ _ bits c.in_ok-left.left c.in_ok-right.ensures.grows
    c.in_ok-left.ensures.named ∙ c.in_ok-left.ensures.value bits)
    (c.in_ok-right.ensures.value bits)
    (grows-keeps old mid _ _ bits c.args.b c.in_ok-left.ensures.grows c.requires.b)
    (grows-keeps old mid _ _ bits c.args.a c.in_ok-left.ensures.grows c.requires.a))
    c.gate.ensures.value

pub returns-clause-held : goal.returns-clause-held
returns-clause-held c = IfOk-weaker c.gate.result _ _ (λ r h inputs o.
    h inputs tt (c.in_ok-right.ensures.held inputs (c.in_ok-left.ensures.held inputs o)))
    c.gate.ensures.held

pub returns-clause-grows : goal.returns-clause-grows
returns-clause-grows c =
    let halves-made = grows-then _ _ _ _ _ _ _ 2 4 c.in_ok-left.ensures.grows
    c.in_ok-right.ensures.grows (omega arith) (omega arith) in
    on-ok c.gate.result _ _ (λ last. grows-then _ _ _ _ _ _ _ _ _ halves-made last (omega arith)
    (omega arith)) c.gate.ensures.grows
