-- Making one node again
use Rattle.mig_rewrite.proofs.Common.{◌≡◌, ◌≢◌, ℕ, ◌+◌, ◌<◌, ◌≤◌, ◌==◌, Bool, true, false, List, []}
use Rattle.mig_rewrite.proofs.Common.{◌∷◌, ◌++◌, length, refl, arith, sym, ◌∙◌, ap, subst, eqb-true}
use Rattle.mig_rewrite.proofs.Common.{Option, Some, None, nat_tests, majority, Lit, lit_value}
use Rattle.mig_rewrite.proofs.Common.{Graph, size_of, IsGraph, values, value, lit_at, each-more}
use Rattle.mig_rewrite.proofs.Common.{node_numbered}
use Rattle.mig_graph.proofs.Laws.{any-order}
use Rattle.mig_graph.proofs.ReducedLaws.{majority-merge}
use Rattle.mig_rewrite.specs.declared.merges.Merge.{Merge}
use Rattle.mig_rewrite.specs.declared.rebuild.Part.{Part}
use Rattle.mig_rewrite.specs.declared.rebuild.Part.TheVariants.{Nothing, One, Two}
use Rattle.mig_rewrite.specs.Merge.{IsMerge, straight}
use Rattle.mig_rewrite.specs.Plan.{is_marked, EachLit, part_of, whole_part, part_value, IsPlan}
use Rattle.mig_rewrite.specs.Plan.{MayMerge, cost}
use Rattle.mig_rewrite.proofs.Below.{spared_below, merged_below, one_below}
use Rattle.mig_rewrite.proofs.Numbered.{numbered-lower, numbered-value}
use Rattle.mig_rewrite.proofs.Planning.{if-cases, not-both, merge-placed, AreOutside, outside}
use Rattle.mig_rewrite.proofs.Planning.{each-map, each-zip}

one-lower : (g : Graph) (k : ℕ) → IsGraph g.inputs g.nodes → g.inputs < k → k < size_of g
    → EachLit (λ l. l.node < k) (One (node_numbered g k).a (node_numbered g k).b
    (node_numbered g k).c)
one-lower g k graph a b = numbered-lower g k graph a b

-- what is made reads lower nodes
pub part-lower : (g : Graph) (outs : List Lit) (marks : List Bool) (merge : Option Merge) (k : ℕ)
    → IsGraph g.inputs g.nodes → MayMerge g outs merge → g.inputs < k → k < size_of g
    → EachLit (λ l. l.node < k) (part_of g marks merge k)
part-lower g outs marks None k graph h a b = if-cases (EachLit (λ l. l.node < k))
    (is_marked marks k) (whole_part g None k) Nothing (λ _. one-lower g k graph a b) (λ _. tt)
part-lower g outs marks (Some m) k graph h a b =
    if-cases (EachLit (λ l. l.node < k)) (is_marked marks k) (whole_part g (Some m) k) Nothing
    (λ _. if-cases (EachLit (λ l. l.node < k)) (k == m.node) (Two m.x m.y m.u m.v m.z)
    (One (node_numbered g k).a (node_numbered g k).b (node_numbered g k).c)
    (λ e. each-map (AreOutside m) (λ l. l.node < k) (Two m.x m.y m.u m.v m.z) (λ l o.
    subst (λ j. l.node < j) (sym (eqb-true k m.node e)) o.lower) (outside g outs m graph h))
    (λ _. one-lower g k graph a b))
    (λ _. tt)

-- M(M(x, y, u), M(x, y, v), z) = M(x, y, M(u, v, z)) in a graph
pub merge-value : (g : Graph) (outs : List Lit) (m : Merge) (bits : ℕ → Bool)
    → IsGraph g.inputs g.nodes → IsMerge g outs m
    → part_value (values g bits) (Two m.x m.y m.u m.v m.z) ≡ values g bits m.node
merge-value g outs m bits graph h =
    let p = merge-placed g outs m graph h in
    let nb = h.below in let pb = p.first_below in let qb = p.second_below in
    let fb : m.first < size_of g = omega arith in
    let sb : m.second < size_of g = omega arith in
    let w = values g bits in
    let f = numbered-value g bits m.first graph h.first_above fb
    ∙ any-order w (node_numbered g m.first) m.x m.y m.u h.of_first in
    let s = numbered-value g bits m.second graph h.second_above sb
    ∙ any-order w (node_numbered g m.second) m.x m.y m.v h.of_second in
    let n = numbered-value g bits m.node graph h.above h.below
    ∙ any-order w (node_numbered g m.node) (straight m.first) (straight m.second) m.z h.of_node
    in
    sym (n ∙ ap (λ b. majority b (w m.second) (lit_value w m.z)) f
    ∙ ap (λ b. majority (majority (lit_value w m.x) (lit_value w m.y) (lit_value w m.u)) b
    (lit_value w m.z)) s ∙ majority-merge (lit_value w m.x) (lit_value w m.y) (lit_value w m.u)
    (lit_value w m.v) (lit_value w m.z))

-- what is made has the node's value
pub part-right : (g : Graph) (outs : List Lit) (marks : List Bool) (merge : Option Merge) (bits : ℕ
    → Bool) (k : ℕ) → IsGraph g.inputs g.nodes → MayMerge g outs merge → g.inputs < k
    → k < size_of g → is_marked marks k ≡ true
    → part_value (values g bits) (part_of g marks merge k) ≡ values g bits k
part-right g outs marks None bits k graph h a b e =
    if-cases (λ p. part_value (values g bits) p ≡ values g bits k) (is_marked marks k)
    (whole_part g None k) Nothing (λ _. sym (numbered-value g bits k graph a b)) (λ f.
    absurd (not-both (is_marked marks k) e f))
part-right g outs marks (Some m) bits k graph h a b e =
    if-cases (λ p. part_value (values g bits) p ≡ values g bits k) (is_marked marks k)
    (whole_part g (Some m) k) Nothing
    (λ _. if-cases (λ p. part_value (values g bits) p ≡ values g bits k) (k
    == m.node) (Two m.x m.y m.u m.v m.z) (One (node_numbered g k).a (node_numbered g k).b
    (node_numbered g k).c)
    (λ s. merge-value g outs m bits graph h ∙ ap (values g bits) (sym (eqb-true k m.node s)))
    (λ _. sym (numbered-value g bits k graph a b)))
    (λ f. absurd (not-both (is_marked marks k) e f))

-- it depends on what it reads only
pub part-same : (v w : ℕ → Bool) (p : Part) → EachLit (λ l. v l.node ≡ w l.node) p
    → part_value v p ≡ part_value w p
part-same v w Nothing h = refl
part-same v w (One x y z) h = rw (h.0, h.1, h.2) refl
part-same v w (Two x y u t z) h = rw (h.0, h.1, h.2, h.3, h.4) refl

-- the values of the nodes so far and of one more
pub values-more : (g : Graph) (outs : List Lit) (marks : List Bool) (merge : Option Merge)
    (h next : Graph) (lits more : List Lit) (l : Lit) (k : ℕ) (bits : ℕ → Bool)
    → IsGraph g.inputs g.nodes → MayMerge g outs merge → IsPlan g outs merge marks → g.inputs < k
    → k < size_of g → length lits ≡ k → more ≡ lits ++ l ∷ []
    → ((j : ℕ) → j < k → (lit_at lits j).node < size_of h)
    → ((j : ℕ) → j < k → is_marked marks j ≡ true
    → value h bits (lit_at lits j) ≡ values g bits j)
    → ((x : Lit) → x.node < size_of h → value next bits x ≡ value h bits x)
    → value next bits l ≡ part_value (λ n. value h bits (lit_at lits n))
    (part_of g marks merge k)
    → (j : ℕ) → j < k + 1 → is_marked marks j ≡ true
    → value next bits (lit_at more j) ≡ values g bits j
values-more g outs marks merge h next lits more l k bits graph right plan a b long e named old kept
    new =
    each-more (λ j x. is_marked marks j ≡ true
    → value next bits x ≡ values g bits j) lits more l k long e
    (λ j c d. kept (lit_at lits j) (named j c) ∙ old j c d)
    (λ d. new ∙ part-same (λ n. value h bits (lit_at lits n)) (values g bits)
    (part_of g marks merge k)
    (each-zip (λ l. l.node < k) (λ l. is_marked marks l.node ≡ true) _ (part_of g marks merge k)
    (λ l c d. old l.node c d) (part-lower g outs marks merge k graph right a b)
    (plan.closed k a b))
    ∙ part-right g outs marks merge bits k graph right a b d)

below-same : (a k : ℕ) → k ≢ a → one_below a (k + 1) ≡ one_below a k
below-same a k d = grind (arith, nat_tests)

below-next : (a k : ℕ) → k ≡ a → one_below a (k + 1) ≡ one_below a k + 1
below-next a k d = grind (arith, nat_tests)

below-more : (a k : ℕ) → one_below a k ≤ one_below a (k + 1)
below-more a k = grind (arith, nat_tests)

below-two : (a b k : ℕ) → a ≢ b → one_below a (k + 1) + one_below b (k + 1)
    ≤ one_below a k + one_below b k + 1
below-two a b k d = grind (arith, nat_tests)

below-least : (a b k : ℕ) → a < b → one_below b k ≤ one_below a k
below-least a b k d = grind (arith, nat_tests)

below-no : (a k : ℕ) → k ≤ a → one_below a k ≡ 0
below-no a k d = grind (arith, nat_tests)

-- the number of nodes after one more
pub count-more : (g : Graph) (outs : List Lit) (marks : List Bool) (merge : Option Merge) (k n : ℕ)
    → MayMerge g outs merge → IsPlan g outs merge marks
    → n + spared_below merge k ≤ k + merged_below merge k
    → n + cost (part_of g marks merge k) + spared_below merge (k + 1)
    ≤ k + 1 + merged_below merge (k + 1)
count-more g outs marks None k n h plan c = if-cases (λ p. n + cost p + 0
    ≤ k + 1 + 0) (is_marked marks k) (whole_part g None k) Nothing (λ _. omega arith) (λ _.
    omega arith)
count-more g outs marks (Some m) k n h plan c =
    let spared = plan.spared in
    let differ = h.differ in
    if-cases (λ p. n + cost p + spared_below (Some m) (k + 1)
    ≤ k + 1 + merged_below (Some m) (k + 1)) (is_marked marks k) (whole_part g (Some m) k)
    Nothing
    (λ e.
    let f : k ≢ m.first = λ d. not-both (is_marked marks k) e
    (subst (λ j. is_marked marks j ≡ false) (sym d) spared.0) in
    let s : k ≢ m.second = λ d. not-both (is_marked marks k) e
    (subst (λ j. is_marked marks j ≡ false) (sym d) spared.1) in
    let fs = below-same m.first k f in
    let ss = below-same m.second k s in
    if-cases (λ p. n + cost p + spared_below (Some m) (k + 1)
    ≤ k + 1 + merged_below (Some m) (k + 1)) (k == m.node) (Two m.x m.y m.u m.v m.z)
    (One (node_numbered g k).a (node_numbered g k).b (node_numbered g k).c)
    (λ t. let nn = below-next m.node k (eqb-true k m.node t) in omega arith)
    (λ _. let nn = below-more m.node k in omega arith))
    (λ _. let two = below-two m.first m.second k differ in let nn = below-more m.node k in
    omega arith)

-- no more are merged than spared
pub merged-spared : (g : Graph) (outs : List Lit) (merge : Option Merge) (k : ℕ)
    → IsGraph g.inputs g.nodes → MayMerge g outs merge → merged_below merge k ≤ spared_below merge k
merged-spared g outs None k graph h = omega arith
merged-spared g outs (Some m) k graph h = let l =
    below-least m.first m.node k (merge-placed g outs m graph h).first_below in omega arith

-- none stands below the first node
pub spared-none : (g : Graph) (outs : List Lit) (merge : Option Merge) → MayMerge g outs merge
    → spared_below merge (g.inputs + 1) ≡ 0
spared-none g outs None h = refl
spared-none g outs (Some m) h = let x = below-no m.first (g.inputs + 1)
    (omega (arith, h.first_above)) in let y =
    below-no m.second (g.inputs + 1) (omega (arith, h.second_above)) in omega arith

-- where each node so far is made, and one more, that one is marked
pub marked-more : (g : Graph) (marks : List Bool) (k n next : ℕ) → n ≤ k → next ≡ k + 1
    → next ≤ n + cost (part_of g marks None k) → (n ≡ k) × (is_marked marks k ≡ true)
marked-more g marks k n next few all made = if-cases (λ p. next ≤ n + cost p
    → (n ≡ k) × (is_marked marks k ≡ true)) (is_marked marks k) (whole_part g None k) Nothing
    (λ e m. (omega arith, e)) (λ _ m. absurd (omega arith)) made
