-- The values of all nodes, computed one after another, and graphs whose outputs agree
use Rattle.mig_rewrite.proofs.Common.{◌≡◌, ◌≢◌, ℕ, ◌+◌, ◌-◌, ◌<◌, Bool, true, false, List, length}
use Rattle.mig_rewrite.proofs.Common.{refl, sym, ◌∙◌, ap, subst, arith, inl, inr, cases_eq, flip_if}
use Rattle.mig_rewrite.proofs.Common.{Lit, lit_value, node_value, IsLower, Graph, size_of, values}
use Rattle.mig_rewrite.proofs.Common.{node_at, IsGraph, lit_at, AreNamed, node_numbered, value-zero}
use Rattle.mig_rewrite.proofs.Common.{value-node}
use Rattle.mig_graph.proofs.Laws.{value-input, node-below}
use Rattle.mig_rewrite.specs.Plan.{is_marked}
use Rattle.mig_rewrite.specs.Values.{FitsFrom, HasValues, Agree}

-- the constant alone
pub first-value : (g : Graph) (bits listed : List Bool) → is_marked listed 0 ≡ false
    → HasValues g bits listed 1
first-value g bits listed e = λ v fits j b. let f : j ≡ 0 = omega (arith, b) in
    rw f (e ∙ sym (value-zero g v))

-- one more value
pub more-values : (g : Graph) (bits old new : List Bool) (k : ℕ) → HasValues g bits old k
    → ((j : ℕ) → j ≢ k → is_marked new j ≡ is_marked old j)
    → ((v : ℕ → Bool) → FitsFrom 0 bits v → is_marked new k ≡ values g v k)
    → HasValues g bits new (k + 1)
more-values g bits old new k has others here = λ v fits j b. elim (cases_eq j k) [
  | inl e ↦ subst (λ i. is_marked new i ≡ values g v i) (sym e) (here v fits)
  | inr ne ↦ others j ne ∙ has v fits j (omega (arith, b, ne))
]

-- an input's value
pub input-value : (g : Graph) (bits : List Bool) (k : ℕ) → k < g.inputs → length bits ≡ g.inputs
    → (v : ℕ → Bool) → FitsFrom 0 bits v → is_marked bits k ≡ values g v (k + 1)
input-value g bits k b long v fits = fits k (omega arith) (omega (arith, b, long))
    ∙ sym (value-input g v k b)

-- a node's value
pub node-computed : (g : Graph) (bits old : List Bool) (k : ℕ) → IsGraph g.inputs g.nodes
    → g.inputs < k → k < size_of g → HasValues g bits old k → (v : ℕ → Bool) → FitsFrom 0 bits v
    → node_value (is_marked old) (node_numbered g k) ≡ values g v k
node-computed g bits old k graph above below has v fits =
    let i = k - g.inputs - 1 in
    let e : g.inputs + 1 + i ≡ k = omega (arith, above) in
    let b : i < length g.nodes = omega (arith, above, below) in
    let low : IsLower k (node_at g.nodes i) =
    subst (λ n. IsLower n (node_at g.nodes i)) e (graph.lower i b) in
    let last : values g v k ≡ node_value (values g v) (node_at g.nodes i) =
    subst (λ n. values g v n ≡ node_value (values g v) (node_at g.nodes i)) e
    (value-node g.inputs g.nodes v i graph b) in
    node-below (is_marked old) (values g v) k (node_at g.nodes i) (has v fits) low ∙ sym last

-- outputs that are equal by both lists of values
pub agree-values : (g h : Graph) (outs made : List Lit) (bits listed others : List Bool)
    → HasValues g bits listed (size_of g) → HasValues h bits others (size_of h) → AreNamed g outs
    → AreNamed h made → length made ≡ length outs
    → ((k : ℕ) → k < length outs → lit_value (is_marked others) (lit_at made k)
    ≡ lit_value (is_marked listed) (lit_at outs k))
    → (v : ℕ → Bool) → FitsFrom 0 bits v → Agree g outs h made v
agree-values g h outs made bits listed others has has-others named named-others long same v fits =
    λ j b.
    let c : j < length made = omega (arith, b, long) in
    sym (ap (flip_if (lit_at made j).inverted)
    (has-others v fits (lit_at made j).node (named-others j c))) ∙ same j b
    ∙ ap (flip_if (lit_at outs j).inverted) (has v fits (lit_at outs j).node (named j b))

-- the same, where the outputs agree on each assignment that gives the inputs these values
pub values-agree : (g h : Graph) (outs made : List Lit) (bits listed others : List Bool)
    → HasValues g bits listed (size_of g) → HasValues h bits others (size_of h) → AreNamed g outs
    → AreNamed h made → length made ≡ length outs
    → ((v : ℕ → Bool) → FitsFrom 0 bits v → Agree g outs h made v)
    → (k : ℕ) → k < length outs → lit_value (is_marked others) (lit_at made k)
    ≡ lit_value (is_marked listed) (lit_at outs k)
values-agree g h outs made bits listed others has has-others named named-others long all k b =
    let v = is_marked bits in
    let fits : FitsFrom 0 bits v = λ j low c. refl in
    let c : k < length made = omega (arith, b, long) in
    ap (flip_if (lit_at made k).inverted)
    (has-others v fits (lit_at made k).node (named-others k c)) ∙ all v fits k b
    ∙ sym (ap (flip_if (lit_at outs k).inverted) (has v fits (lit_at outs k).node (named k b)))

-- an assignment that fits the list from one place on fits the old list after it
pub fits-after : (free last : ℕ) (old new : List Bool) (v : ℕ → Bool) → length new ≡ length old
    → free ≡ last + 1 → FitsFrom last new v
    → ((j : ℕ) → last < j → is_marked new j ≡ is_marked old j) → FitsFrom free old v
fits-after free last old new v long e fits others = λ j low b.
    sym (others j (omega (arith, low, e)))
    ∙ fits j (omega (arith, low, e)) (omega (arith, b, long))

-- an assignment fits the list with its own value put before those that it fits
pub fits-before : (free last : ℕ) (old new : List Bool) (v : ℕ → Bool) → length new ≡ length old
    → free ≡ last + 1 → FitsFrom free old v → is_marked new last ≡ v last
    → ((j : ℕ) → last < j → is_marked new j ≡ is_marked old j) → FitsFrom last new v
fits-before free last old new v long e fits here others = λ j low b. elim (cases_eq j last) [
  | inl f ↦ subst (λ i. is_marked new i ≡ v i) (sym f) here
  | inr ne ↦ others j (omega (arith, low, ne))
      ∙ fits j (omega (arith, low, ne, e)) (omega (arith, b, long))
]

pub either : (b : Bool) (P : Type 0) → (b ≡ false → P) → (b ≡ true → P) → P
either true P f t = t refl
either false P f t = f refl
