-- Templates whose nodes are as `Mig` keeps them.
use Rattle.word_lower.proofs.Common.{◌≡◌, ◌≢◌, ℕ, zero, suc, ◌+◌, ◌<◌, ◌≤◌, ◌^◌, Bool, true, not}
use Rattle.word_lower.proofs.Common.{List, [], ◌∷◌, ◌++◌, length, take, refl, sym, ap, ◌∙◌, subst}
use Rattle.word_lower.proofs.Common.{inl, arith, nat_tests, take_more, Lit, Node, Graph, IsGraph}
use Rattle.std.specs.List.{list_any}
use Rattle.std.proofs.lemmas.Bool.{eq-eqb}
use Rattle.std.proofs.lemmas.List.{get_or-take, length-take-le}
use Rattle.std.proofs.lemmas.List.Folds.{list_any_at}
use mathlib.Core.Bool.{beq}
use Rattle.mig_graph.specs.Literals.{SameThree, inversions}
use Rattle.mig_graph.specs.Graph.{IsSorted, AreSorted, IsFresh, node_at, no_node}
use Rattle.mig_graph.proofs.InOrder.{sorted-same, sorted-three}
use Rattle.loop_ir.specs.Same.{same_lit, same_node}
use Rattle.word_lower.specs.Shapes.{is_own, are_own}

record Own (k : ℕ) (n : Node) : Type 0 where
  sorted : IsSorted n
  last : n.c.node < k
  form : inversions n ≤ 1

own : (k : ℕ) (n : Node) → is_own k n ≡ true → Own k n
own k n h = record {
  sorted = (grind (arith, nat_tests), grind (arith, nat_tests));
  last = grind (arith, nat_tests);
  form = grind (arith, nat_tests);
}

each : (k : ℕ) (ns : List Node) → are_own k ns ≡ true → (j : ℕ) → j < length ns
    → Own (k + j) (node_at ns j)
each k [] h j l = absurd (omega (arith, l))
each k (n ∷ ns) h zero l = let e : k ≡ k + 0 = omega arith in
    subst (λ k. Own k n) e (own k n (grind arith))
each k (n ∷ ns) h (suc j) l = let e : k + 1 + j ≡ k + suc j = omega arith in
    subst (λ k. Own k (node_at ns j)) e (each (k + 1) ns (grind arith) j (omega (arith, l)))

lit-self : (x : Lit) → same_lit x x ≡ true
lit-self x = rw (eq-eqb x.node x.node refl) (beq-self x.inverted)
  where
    beq-self : (i : Bool) → beq i i ≡ true
    beq-self i = grind arith

node-self : (m n : Node) → m ≡ n → same_node m n ≡ true
node-self m n e = rw (← e, lit-self m.a, lit-self m.b, lit-self m.c) refl

first-differs : (n : Node) (ns : List Node) (k : ℕ) → not (list_any (λ m. same_node n m) ns) ≡ true
    → k < length ns → n ≢ node_at ns k
first-differs n ns k h l e =
    let f = list_any_at (λ m. same_node n m) ns k no_node l (node-self n (node_at ns k) e) in
    cc

differ : (k : ℕ) (ns : List Node) → are_own k ns ≡ true → (i j : ℕ) → i < length ns → j < length ns
    → node_at ns i ≡ node_at ns j → i ≡ j
differ k [] h i j li lj e = absurd (omega (arith, li))
differ k (n ∷ ns) h zero zero li lj e = refl
differ k (n ∷ ns) h zero (suc j) li lj e =
    absurd (first-differs n ns j (grind arith) (omega (arith, lj)) e)
differ k (n ∷ ns) h (suc i) zero li lj e =
    absurd (first-differs n ns i (grind arith) (omega (arith, li)) (sym e))
differ k (n ∷ ns) h (suc i) (suc j) li lj e =
    let f = differ (k + 1) ns (grind arith) i j (omega (arith, li)) (omega (arith, lj)) e in
    omega (arith, f)

-- the nodes of a written body are in order
pub own_sorted : (k : ℕ) (ns : List Node) → are_own k ns ≡ true → AreSorted ns
own_sorted k ns h = λ j l. (each k ns h j l).sorted

-- the nodes of a written body are a graph as `Mig` makes it
pub own_graph : (i : ℕ) (ns : List Node) → i + 1 + length ns < 2 ^ 32 → are_own (i + 1) ns ≡ true
    → IsGraph i ns
own_graph i ns small h = record {
  small = small;
  lower = λ k l. let o = each (i + 1) ns h k l in
      let s = o.sorted in
      let c = o.last in
      (omega (arith, s, c), omega (arith, s, c), c);
  three = λ k l. sorted-three (node_at ns k) (each (i + 1) ns h k l).sorted;
  form = λ k l. (each (i + 1) ns h k l).form;
  shared = λ j k lj lk s. let n = node_at ns k in
      differ (i + 1) ns h j k lj lk (sorted-same (node_at ns j) n n.a n.b n.c
      (each (i + 1) ns h j lj).sorted (each (i + 1) ns h k lk).sorted s (inl (refl, refl, refl)));
}

-- the graph of the first nodes grows by the next one
pub grown : (i : ℕ) (ns : List Node) (k : ℕ) (old new : Graph) → IsGraph i ns → AreSorted ns
    → k < length ns → old ≡ record { inputs = i; nodes = take k ns } → new.inputs ≡ old.inputs
    → (IsFresh old.nodes (node_at ns k) → inversions (node_at ns k) ≤ 1
    → new.nodes ≡ old.nodes ++ node_at ns k ∷ [])
    → new ≡ record { inputs = i; nodes = take (k + 1) ns }
grown i ns k old new graph sorted l e f more =
    let taken : old.nodes ≡ take k ns = ap (λ (g : Graph). g.nodes) e in
    let short : length (take k ns) ≡ k = length-take-le k ns (omega (arith, l)) in
    let fresh : IsFresh (take k ns) (node_at ns k) = (
      sorted k l,
      λ j lj same.
          let lk : j < k = omega (arith, lj, short) in
          let at : node_at (take k ns) j ≡ node_at ns j = get_or-take k ns j no_node lk in
          let n = node_at ns k in
          let d : j ≡ k = graph.shared j k (omega (arith, lk, l)) l
          (subst (λ m. SameThree m n) (sym (sym at ∙ same)) (inl (refl, refl, refl))) in
          absurd (omega (arith, d, lk)),
    ) in
    whole new i (take (k + 1) ns) (f ∙ ap (λ (g : Graph). g.inputs) e)
    (more (rw taken fresh) (graph.form k l) ∙ ap (λ ms. ms ++ node_at ns k ∷ []) taken
    ∙ sym (take_more ns k no_node l))
  where
    whole : (g : Graph) (i : ℕ) (ms : List Node) → g.inputs ≡ i → g.nodes ≡ ms
        → g ≡ record { inputs = i; nodes = ms }
    whole g i ms a b = rw (← a, ← b) refl
