-- The values of a sketch's nodes, made one after another
use Rattle.mig_rewrite.proofs.Common.{◌≡◌, ℕ, zero, suc, ◌+◌, ◌/◌, ◌%◌, ◌<◌, ◌≤◌, ◌==◌, Bool, true}
use Rattle.mig_rewrite.proofs.Common.{false, List, [], ◌∷◌, ◌++◌, length, length-append, refl, sym}
use Rattle.mig_rewrite.proofs.Common.{◌∙◌, ap, subst, arith, inl, inr, if◌then◌else◌, nat_lt}
use Rattle.mig_rewrite.proofs.Common.{cases_lt, nat_tests, majority, flip_if, Lit, lit_value}
use Rattle.mig_rewrite.proofs.Common.{complement_if, Graph, size_of, value, values, start, lit_at}
use Rattle.mig_rewrite.proofs.Common.{AreNamed, values-below, each-more, value-complemented}
use Rattle.mig_rewrite.specs.declared.sketch.Sketch.{Sketch}
use Rattle.mig_rewrite.specs.Merge.{straight}
use Rattle.mig_rewrite.specs.Offers.{short_value, operand, sketch_values, Stands}

-- the constant
zero-value : (s : Sketch) (bits : ℕ → Bool) (k : ℕ) → sketch_values s bits k 0 ≡ false
unfolding sketch_values
zero-value s bits zero = let t : nat_lt 0 (s.inputs + 1) ≡ true = grind (arith, nat_tests) in
    rw t refl
zero-value s bits (suc k) =
    let t : (0 == s.inputs + 1 + k) ≡ false = grind (arith, nat_tests) in
    rw t (zero-value s bits k)

-- a node that is not made
unmade : (s : Sketch) (bits : ℕ → Bool) (k n : ℕ) → s.inputs + 1 + k ≤ n
    → sketch_values s bits k n ≡ false
unfolding sketch_values
unmade s bits zero n b = let t : nat_lt n (s.inputs + 1) ≡ false = grind (arith, nat_tests, b) in
    rw t refl
unmade s bits (suc k) n b =
    let t : (n == s.inputs + 1 + k) ≡ false = grind (arith, nat_tests, b) in
    rw t (unmade s bits k n (omega (arith, b)))

-- one of the nodes before the next one
before : (s : Sketch) (bits : ℕ → Bool) (k n : ℕ) → n < s.inputs + 1 + k
    → sketch_values s bits (suc k) n ≡ sketch_values s bits k n
unfolding sketch_values
before s bits k n b =
    let t : (n == s.inputs + 1 + k) ≡ false = grind (arith, nat_tests, b) in
    rw t refl

-- the next one
next : (s : Sketch) (bits : ℕ → Bool) (k n : ℕ) → n ≡ s.inputs + 1 + k
    → sketch_values s bits (suc k) n ≡ majority
    (short_value (sketch_values s bits k) (operand s k 0))
    (short_value (sketch_values s bits k) (operand s k 1))
    (short_value (sketch_values s bits k) (operand s k 2))
unfolding sketch_values
next s bits k n e =
    let t : (n == s.inputs + 1 + k) ≡ true = grind (arith, nat_tests, e) in
    rw t refl

-- a literal of the graph for one of the sketch
pub short-read : (g : Graph) (bits : ℕ → Bool) (lits : List Lit) (s : Sketch) (k a : ℕ) (l : Lit)
    → Stands g bits lits s k → l.node ≡ (if nat_lt (a / 2) (length lits) then a / 2 else 0)
    → l.inverted ≡ (a % 2 == 1)
    → lit_value (λ n. value g bits (lit_at lits n)) l ≡ short_value (sketch_values s bits k) a
short-read g bits lits s k a l stands node inverted =
    let at : (n : ℕ) → n ≡ (if nat_lt (a / 2) (length lits) then a / 2 else 0)
    → value g bits (lit_at lits n) ≡ sketch_values s bits k (a / 2) =
    λ n e. elim (cases_lt (a / 2) (length lits)) [
      | inl b ↦ let t : nat_lt (a / 2) (length lits) ≡ true = grind (arith, nat_tests, b) in
          let f : n ≡ a / 2 = rw t at e in rw f (stands.values (a / 2) b)
      | inr c ↦ let t : nat_lt (a / 2) (length lits) ≡ false = grind (arith, nat_tests, c) in
          let f : n ≡ 0 = rw t at e in
          rw f (stands.values 0 (omega (arith, stands.long)) ∙ zero-value s bits k
          ∙ sym (unmade s bits k (a / 2) (omega (arith, c, stands.long))))
    ] in
    ap (λ b. flip_if b (value g bits (lit_at lits l.node))) inverted
    ∙ ap (flip_if (a % 2 == 1)) (at l.node node)

-- a literal of the new graph
pub translated-value : (g : Graph) (bits : ℕ → Bool) (lits : List Lit) (l new : Lit)
    → new ≡ complement_if l.inverted (lit_at lits l.node)
    → value g bits new ≡ lit_value (λ n. value g bits (lit_at lits n)) l
translated-value g bits lits l new e =
    rw e (value-complemented (values g bits) l.inverted (lit_at lits l.node))

-- one more node
pub stands-more : (g h : Graph) (bits : ℕ → Bool) (lits more : List Lit) (s : Sketch) (k : ℕ)
    (new : Lit) → Stands g bits lits s k → more ≡ lits ++ new ∷ [] → AreNamed g lits
    → ((l : Lit) → l.node < size_of g → value h bits l ≡ value g bits l)
    → value h bits new ≡ majority (short_value (sketch_values s bits k) (operand s k 0))
    (short_value (sketch_values s bits k) (operand s k 1))
    (short_value (sketch_values s bits k) (operand s k 2))
    → Stands h bits more s (k + 1)
stands-more g h bits lits more s k new stands e named kept made =
    let long : length more ≡ length lits + 1 =
    rw e (omega (arith, length-append lits (new ∷ []))) in
    let one : suc k ≡ k + 1 = omega arith in
    subst (λ (m : ℕ). Stands h bits more s m) one (record {
      long = omega (arith, long, stands.long, one);
      values = λ n b. each-more (λ n x. value h bits x ≡ sketch_values s bits (suc k) n) lits more
          new (length lits) refl e (λ n c. kept (lit_at lits n) (named n c) ∙ stands.values n c
          ∙ sym (before s bits k n (omega (arith, c, stands.long))))
          (made ∙ sym (next s bits k (length lits) stands.long)) n (omega (arith, b, long));
    })

-- the constant and the inputs
pub stands-first : (g : Graph) (bits : ℕ → Bool) (lits : List Lit) (s : Sketch)
    → g.inputs ≡ s.inputs → length lits ≡ s.inputs + 1
    → ((k : ℕ) → k < s.inputs + 1 → lit_at lits k ≡ straight k) → Stands g bits lits s 0
unfolding sketch_values
stands-first g bits lits s inputs long each = record {
  long = omega (arith, long);
  values = λ n b. let c : n < s.inputs + 1 = omega (arith, b, long) in
      let t : nat_lt n (s.inputs + 1) ≡ true = grind (arith, nat_tests, c) in
      rw (each n c, t) (values-below (g.inputs + 1) g.nodes (start bits) n
      (omega (arith, c, inputs)));
}
