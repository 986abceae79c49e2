-- What is true of graphs' values, for those who prove things of them
use Rattle.std.specs.Prelude.{◌≡◌, ℕ, zero, suc, ◌+◌, ◌-◌, ◌^◌, ◌<◌, ◌≤◌, Bool, true, false, not}
use Rattle.std.specs.Prelude.{List, [], ◌∷◌, ◌++◌, length, refl}
use Rattle.std.proofs.Common.{sym, ◌∙◌, ap, arith, subst, inl, inr, length-append}
use Rattle.std.proofs.lemmas.Bool.{cases_lt}
use Rattle.std.proofs.lemmas.List.{get_or_append_left, get_or-append-add}
use Rattle.bit_rows.specs.Bits.{majority, flip_if}
use Rattle.aoi_graph.specs.Gates.{with_value}
use Rattle.aoi_graph.proofs.GateLaws.{with-other, with-same}
use Rattle.mig_graph.specs.declared.Lit.{Lit}
use Rattle.mig_graph.specs.declared.Node.{Node}
use Rattle.mig_graph.specs.Literals.{lit_value, node_value, IsLower, SameThree, IsAnyOrder}
use Rattle.mig_graph.specs.Literals.{complement, node_of, NamesThree, inversions}
use Rattle.mig_graph.specs.Graph.{Graph, values_from, start, values, value, node_at, size_of}
use Rattle.mig_graph.specs.Graph.{IsGraph, GrewByOne, no_node}

-- a node below the first keeps its value
pub values-below : (k : ℕ) (ns : List Node) (v : ℕ → Bool) (n : ℕ) → n < k
    → values_from k ns v n ≡ v n
unfolding values_from
values-below k [] v n l = refl
values-below k (m ∷ ns) v n l = values-below (k + 1) ns (with_value k (node_value v m) v) n
    (omega arith) ∙ with-other k (node_value v m) v n (omega arith)

-- one more node, as the last
pub values-push : (k : ℕ) (ns : List Node) (m : Node) (v : ℕ → Bool)
    → values_from k (ns ++ m ∷ []) v ≡ with_value (k + length ns)
    (node_value (values_from k ns v) m) (values_from k ns v)
unfolding values_from
values-push k [] m v = let e : k + 0 ≡ k = omega arith in rw e refl
values-push k (n ∷ ns) m v =
    let e : k + suc (length ns) ≡ k + 1 + length ns = omega arith in
    values-push (k + 1) ns m (with_value k (node_value v n) v)
    ∙ ap (λ j. with_value j (node_value (values_from k (n ∷ ns) v) m) (values_from k (n ∷ ns) v))
    (sym e)

-- a literal's value rests on the nodes below it alone
pub lit-below : (v w : ℕ → Bool) (k : ℕ) (l : Lit) → ((n : ℕ) → n < k → v n ≡ w n) → l.node < k
    → lit_value v l ≡ lit_value w l
lit-below v w k l h b = ap (flip_if l.inverted) (h l.node b)

-- a node's value rests on the nodes below it alone
pub node-below : (v w : ℕ → Bool) (k : ℕ) (n : Node) → ((n : ℕ) → n < k → v n ≡ w n) → IsLower k n
    → node_value v n ≡ node_value w n
node-below v w k n h b = rw (
  lit-below v w k n.a h b.0,
  lit-below v w k n.b h b.1,
  lit-below v w k n.c h b.2,
) refl

-- the node at place j has the majority of its literals' values
pub values-at : (k : ℕ) (ns : List Node) (v : ℕ → Bool) (j : ℕ)
    → ((i : ℕ) → i < length ns → IsLower (k + i) (node_at ns i)) → j < length ns
    → values_from k ns v (k + j) ≡ node_value (values_from k ns v) (node_at ns j)
unfolding values_from
values-at k [] v j h l = absurd (omega arith)
values-at k (n ∷ ns) v zero h l =
    let e : k + 0 ≡ k = omega arith in
    let w = with_value k (node_value v n) v in
    rw e (values-below (k + 1) ns w k (omega arith) ∙ with-same k (node_value v n) v
    ∙ node-below v (values_from (k + 1) ns w) k n (λ i b.
    sym (values-below (k + 1) ns w i (omega arith)
    ∙ with-other k (node_value v n) v i (omega arith))) (rw e at (h 0 (omega arith))))
values-at k (n ∷ ns) v (suc j) h l =
    let e : k + suc j ≡ k + 1 + j = omega arith in
    rw e (values-at (k + 1) ns (with_value k (node_value v n) v) j (λ i b. let f : k + suc i
    ≡ k + 1 + i = omega arith in rw f at (h (suc i) (omega arith))) (omega arith))

-- a majority does not rest on the order of its first two
pub majority-swap : (a b c : Bool) → majority a b c ≡ majority b a c
unfolding majority
majority-swap true true c = refl
majority-swap true false c = refl
majority-swap false true c = refl
majority-swap false false c = refl

-- nor on that of its last two
pub majority-tail : (a b c : Bool) → majority a b c ≡ majority a c b
unfolding majority
majority-tail true true true = refl
majority-tail true true false = refl
majority-tail true false true = refl
majority-tail true false false = refl
majority-tail false true true = refl
majority-tail false true false = refl
majority-tail false false true = refl
majority-tail false false false = refl

-- the majority of three in any order
pub any-order : (v : ℕ → Bool) (n : Node) (x y z : Lit) → IsAnyOrder n x y z
    → node_value v n ≡ majority (lit_value v x) (lit_value v y) (lit_value v z)
any-order v n x y z (inl e) = rw (e.0, e.1, e.2) refl
any-order v n x y z (inr (inl e)) = rw (
  e.0,
  e.1,
  e.2,
) (majority-tail (lit_value v x) (lit_value v z) (lit_value v y))
any-order v n x y z (inr (inr (inl e))) = rw (
  e.0,
  e.1,
  e.2,
) (majority-swap (lit_value v y) (lit_value v x) (lit_value v z))
any-order v n x y z (inr (inr (inr (inl e)))) =
    rw (e.0, e.1, e.2) (majority-tail (lit_value v y) (lit_value v z) (lit_value v x)
    ∙ majority-swap (lit_value v y) (lit_value v x) (lit_value v z))
any-order v n x y z (inr (inr (inr (inr (inl e))))) =
    rw (e.0, e.1, e.2) (majority-swap (lit_value v z) (lit_value v x) (lit_value v y)
    ∙ majority-tail (lit_value v x) (lit_value v z) (lit_value v y))
any-order v n x y z (inr (inr (inr (inr (inr e))))) =
    rw (e.0, e.1, e.2) (majority-swap (lit_value v z) (lit_value v y) (lit_value v x)
    ∙ majority-tail (lit_value v y) (lit_value v z) (lit_value v x)
    ∙ majority-swap (lit_value v y) (lit_value v x) (lit_value v z))

-- to complement twice is not to complement
pub flip-not : (i b : Bool) → flip_if (not i) b ≡ not (flip_if i b)
flip-not true true = refl
flip-not true false = refl
flip-not false b = refl

-- what the three literals are like in any order
pub same-inversions : (n : Node) (x y z : Lit) → IsAnyOrder n x y z
    → inversions n ≡ inversions (node_of x y z)
same-inversions n x y z (inl e) = rw (e.0, e.1, e.2) refl
same-inversions n x y z (inr (inl e)) = rw (e.0, e.1, e.2) (omega arith)
same-inversions n x y z (inr (inr (inl e))) = rw (e.0, e.1, e.2) (omega arith)
same-inversions n x y z (inr (inr (inr (inl e)))) = rw (e.0, e.1, e.2) (omega arith)
same-inversions n x y z (inr (inr (inr (inr (inl e))))) = rw (e.0, e.1, e.2) (omega arith)
same-inversions n x y z (inr (inr (inr (inr (inr e))))) = rw (e.0, e.1, e.2) (omega arith)

-- M(x, x, z) = x
pub majority-same : (x z : Bool) → majority x x z ≡ x
unfolding majority
majority-same true z = refl
majority-same false z = refl

-- M(x, not x, z) = z
pub majority-not : (x z : Bool) → majority x (not x) z ≡ z
unfolding majority
majority-not true z = refl
majority-not false z = refl

pub twice : (v : ℕ → Bool) (n : Node) (x z : Lit) → IsAnyOrder n x x z
    → node_value v n ≡ lit_value v x
twice v n x z h = any-order v n x x z h ∙ majority-same (lit_value v x) (lit_value v z)

pub opposite : (v : ℕ → Bool) (n : Node) (x z : Lit) → IsAnyOrder n x (complement x) z
    → node_value v n ≡ lit_value v z
opposite v n x z h = any-order v n x (complement x) z h
    ∙ rw (flip-not x.inverted (v x.node)) (majority-not (lit_value v x) (lit_value v z))

-- not M(x, y, z) = M(not x, not y, not z)
pub majority-complemented : (a b c : Bool) → majority (not a) (not b) (not c) ≡ not (majority a b c)
unfolding majority
majority-complemented true true c = refl
majority-complemented true false c = refl
majority-complemented false true c = refl
majority-complemented false false c = refl

not-not : (b : Bool) → not (not b) ≡ b
not-not true = refl
not-not false = refl

pub complemented : (v : ℕ → Bool) (x y z : Lit)
    → not (node_value v (node_of (complement x) (complement y) (complement z)))
    ≡ node_value v (node_of x y z)
complemented v x y z = rw (
  flip-not x.inverted (v x.node),
  flip-not y.inverted (v y.node),
  flip-not z.inverted (v z.node),
  majority-complemented (lit_value v x) (lit_value v y) (lit_value v z),
)
    (not-not (majority (lit_value v x) (lit_value v y) (lit_value v z)))

-- the nodes of a list with one more
pub at-old : (ns : List Node) (n : Node) (k : ℕ) → k < length ns
    → node_at (ns ++ n ∷ []) k ≡ node_at ns k
at-old ns n k l = get_or_append_left ns (n ∷ []) no_node k l

pub at-last : (ns : List Node) (n : Node) → node_at (ns ++ n ∷ []) (length ns) ≡ n
at-last ns n = let e : length ns ≡ length ns + 0 = omega arith in
    rw e (get_or-append-add ns (n ∷ []) 0 no_node)

-- what holds of each node and of one more
pub each-more : (P : ℕ → Node → Type 0) (ns : List Node) (n : Node)
    → ((k : ℕ) → k < length ns → P k (node_at ns k)) → P (length ns) n → (k : ℕ)
    → k < length (ns ++ n ∷ []) → P k (node_at (ns ++ n ∷ []) k)
each-more P ns n h p k l = elim (cases_lt k (length ns)) [
  | inl b ↦ subst (P k) (sym (at-old ns n k b)) (h k b)
  | inr b ↦
      let e : length ns ≡ k = omega (arith, length-append ns (n ∷ [])) in
      subst (λ j. P j (node_at (ns ++ n ∷ []) j)) e (subst (P (length ns)) (sym (at-last ns n)) p)
]

pub same-sym : (m n : Node) → SameThree m n → SameThree n m
same-sym m n h = grind arith

pub graph-push : (i : ℕ) (ns : List Node) (n : Node) → IsGraph i ns → IsLower (i + 1 + length ns) n
    → NamesThree n → inversions n ≤ 1 → i + 1 + length ns < 2 ^ 32 - 1
    → ((k : ℕ) → k < length ns → SameThree (node_at ns k) n → ⊥) → IsGraph i (ns ++ n ∷ [])
graph-push i ns n g lower three form room new = record {
  small = omega (arith, length-append ns (n ∷ []));
  lower = each-more (λ k m. IsLower (i + 1 + k) m) ns n g.lower lower;
  three = each-more (λ k m. NamesThree m) ns n g.three three;
  form = each-more (λ k m. inversions m ≤ 1) ns n g.form form;
  shared = λ j k a b. each-more (λ k m. SameThree (node_at (ns ++ n ∷ []) j) m → j ≡ k) ns n
      (λ k b h. each-more (λ j m. SameThree m (node_at ns k)
      → j ≡ k) ns n (λ j a. g.shared j k a b) (λ h.
      absurd (new k b (same-sym n (node_at ns k) h))) j a h)
      (each-more (λ j m. SameThree m n → j ≡ length ns) ns n (λ j a h. absurd (new j a h)) (λ h.
      refl) j a) k b;
}

-- the last of the nodes has the majority of its literals' values
pub value-last : (i : ℕ) (ns : List Node) (n : Node) (bits : ℕ → Bool)
    → values (record { inputs = i; nodes = ns ++ n ∷ [] }) bits (i + 1 + length ns)
    ≡ node_value (values (record { inputs = i; nodes = ns }) bits) n
value-last i ns n bits = ap (λ v. v (i + 1 + length ns)) (values-push (i + 1) ns n (start bits))
    ∙ with-same (i + 1 + length ns) (node_value (values_from (i + 1) ns (start bits)) n)
    (values_from (i + 1) ns (start bits))

-- and the others keep theirs
pub value-old : (i : ℕ) (ns : List Node) (n : Node) (bits : ℕ → Bool) (k : ℕ)
    → k < i + 1 + length ns → values (record { inputs = i; nodes = ns ++ n ∷ [] }) bits k
    ≡ values (record { inputs = i; nodes = ns }) bits k
value-old i ns n bits k l = ap (λ v. v k) (values-push (i + 1) ns n (start bits))
    ∙ with-other (i + 1 + length ns) (node_value (values_from (i + 1) ns (start bits)) n)
    (values_from (i + 1) ns (start bits)) k (omega arith)

-- the value of a node of a graph
pub value-node : (i : ℕ) (ns : List Node) (bits : ℕ → Bool) (k : ℕ) → IsGraph i ns → k < length ns
    → values (record { inputs = i; nodes = ns }) bits (i + 1 + k)
    ≡ node_value (values (record { inputs = i; nodes = ns }) bits) (node_at ns k)
value-node i ns bits k g l = values-at (i + 1) ns (start bits) k g.lower l

-- a standing node with the same three
pub value-standing : (i : ℕ) (ns : List Node) (bits : ℕ → Bool) (k : ℕ) (n : Node) → IsGraph i ns
    → k < length ns → SameThree (node_at ns k) n
    → values (record { inputs = i; nodes = ns }) bits (i + 1 + k)
    ≡ node_value (values (record { inputs = i; nodes = ns }) bits) n
value-standing i ns bits k n g l h = value-node i ns bits k g l
    ∙ any-order (values (record { inputs = i; nodes = ns }) bits) (node_at ns k) n.a n.b n.c h

-- the majority, or the complement of that of the complements
pub complemented-value : (v : ℕ → Bool) (x y z : Lit)
    → flip_if true (node_value v (node_of (complement x) (complement y) (complement z)))
    ≡ node_value v (node_of x y z)
complemented-value v x y z = complemented v x y z

graph-of : (k : Graph) (i : ℕ) (ns : List Node) → k.inputs ≡ i → k.nodes ≡ ns
    → k ≡ record { inputs = i; nodes = ns }
graph-of k i ns p q = rw (← p, ← q) refl

-- a graph that grew keeps the values of its literals
pub value-kept : (g h : Graph) (bits : ℕ → Bool) (l : Lit) → h.inputs ≡ g.inputs → GrewByOne g h
    → l.node < size_of g → value h bits l ≡ value g bits l
value-kept g h bits l e (inl f) b = ap (λ (k : Graph). value k bits l)
    (graph-of h g.inputs g.nodes e f)
value-kept g h bits l e (inr f) b =
    ap (λ (k : Graph). value k bits l) (graph-of h g.inputs (g.nodes ++ f.0 ∷ []) e f.1)
    ∙ ap (flip_if l.inverted) (value-old g.inputs g.nodes f.0 bits l.node b)

-- the constant and the inputs
pub value-zero : (g : Graph) (bits : ℕ → Bool) → values g bits 0 ≡ false
value-zero g bits = values-below (g.inputs + 1) g.nodes (start bits) 0 (omega arith)

-- input k is node k + 1
pub value-input : (g : Graph) (bits : ℕ → Bool) (k : ℕ) → k < g.inputs
    → values g bits (k + 1) ≡ bits k
value-input g bits k l = values-below (g.inputs + 1) g.nodes (start bits) (k + 1) (omega arith)
    ∙ (let e : k + 1 ≡ suc k = omega arith in rw e refl)
