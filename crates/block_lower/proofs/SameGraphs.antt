-- Graphs that are the same node by node.
use Rattle.block_lower.proofs.Common.{◌≡◌, ℕ, suc, ◌<◌, Bool, true, false, List, [], ◌∷◌, length}
use Rattle.block_lower.proofs.Common.{refl, sym, ap, ◌∙◌, arith, get_or, ◌==◌, and_parts, eqb-true}
use Rattle.block_lower.proofs.Common.{Lit, Graph, node_at}
use Rattle.std.specs.Prelude.{not}
use mathlib.Core.Bool.{beq}
use Rattle.mig_graph.specs.declared.Node.{Node}
use Rattle.loop_ir.specs.Same.{same_lit}

bits-same : (i j : Bool) → beq i j ≡ true → i ≡ j
bits-same true true h = refl
bits-same true false h = sym h
bits-same false true h = h
bits-same false false h = refl

lit-same : (x y : Lit) → false ≡ not (same_lit x y) → x ≡ y
lit-same x y h =
    let p = and_parts (x.node == y.node) (beq x.inverted y.inverted) (yes (same_lit x y) h) in
    ap (λ k. record { node = k; inverted = x.inverted }) (eqb-true x.node y.node p.0)
    ∙ ap (λ i. record { node = y.node; inverted = i }) (bits-same x.inverted y.inverted p.1)
  where
    yes : (b : Bool) → false ≡ not b → b ≡ true
    yes true h = refl
    yes false h = h

abbrev no_lit : Lit
no_lit = record { node = 0; inverted = false }

abbrev AreUnlike : List Lit → List Lit → ℕ → Bool
AreUnlike xs ys k = not (same_lit (get_or xs k no_lit) (get_or ys k no_lit))

pub node-same : (n o : Node) (xs ys : List Lit) → xs ≡ n.a ∷ n.b ∷ n.c ∷ []
    → ys ≡ o.a ∷ o.b ∷ o.c ∷ [] → false ≡ AreUnlike xs ys 0 → false ≡ AreUnlike xs ys 1
    → false ≡ AreUnlike xs ys 2 → n ≡ o
node-same n o xs ys e f p q r =
    let both = λ (k : ℕ). ap (λ zs. AreUnlike zs ys k) e
    ∙ ap (λ zs. AreUnlike (n.a ∷ n.b ∷ n.c ∷ []) zs k) f in
    let a = lit-same n.a o.a (p ∙ both 0) in
    let b = lit-same n.b o.b (q ∙ both 1) in
    let c = lit-same n.c o.c (r ∙ both 2) in
    ap (λ x. record { a = x; b = n.b; c = n.c }) a ∙ ap (λ x. record { a = o.a; b = x; c = n.c }) b
    ∙ ap (λ x. record { a = o.a; b = o.b; c = x }) c

nodes-same : (xs ys : List Node) → length xs ≡ length ys
    → ((j : ℕ) → j < length xs → node_at xs j ≡ node_at ys j) → xs ≡ ys
nodes-same [] [] e h = refl
nodes-same [] (y ∷ ys) e h = absurd (omega (arith, e))
nodes-same (x ∷ xs) [] e h = absurd (omega (arith, e))
nodes-same (x ∷ xs) (y ∷ ys) e h = ap (λ z. z ∷ xs) (h 0 (omega arith)) ∙ ap (λ zs. y ∷ zs)
    (nodes-same xs ys (omega (arith, e)) (λ j l. h (suc j) (omega (arith, l))))

pub graph-same : (m r : Graph) → m.inputs ≡ r.inputs → length m.nodes ≡ length r.nodes
    → ((j : ℕ) → j < length m.nodes → node_at m.nodes j ≡ node_at r.nodes j) → r ≡ m
graph-same m r e f h = sym (ap (λ i. record { inputs = i; nodes = m.nodes }) e
    ∙ ap (λ ns. record { inputs = r.inputs; nodes = ns }) (nodes-same m.nodes r.nodes f h))
