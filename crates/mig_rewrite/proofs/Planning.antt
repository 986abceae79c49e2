-- The two inner nodes of a merge need not be made
use Rattle.mig_rewrite.proofs.Common.{◌≡◌, ◌≢◌, ℕ, ◌<◌, ◌==◌, Bool, true, false, List, length, refl}
use Rattle.mig_rewrite.proofs.Common.{arith, inl, inr, sym, ◌∙◌, subst, slice_set, eqb-true, eq-eqb}
use Rattle.mig_rewrite.proofs.Common.{get_or-set_other, get_or-set_same, length-set, Some, cases_eq}
use Rattle.mig_rewrite.proofs.Common.{cases_lt, Lit, Graph, size_of, IsGraph, lit_at, node_numbered}
use Rattle.std.proofs.Common.{if◌then◌else◌}
use Rattle.std.proofs.lemmas.List.{set_past}
use Rattle.mig_rewrite.specs.declared.merges.Merge.{Merge}
use Rattle.mig_rewrite.specs.declared.rebuild.Part.{Part}
use Rattle.mig_rewrite.specs.declared.rebuild.Part.TheVariants.{Nothing, One, Two}
use Rattle.mig_rewrite.specs.Merge.{IsMerge, straight}
use Rattle.mig_rewrite.specs.Plan.{is_marked, EachLit, whole_part, IsPlan}
use Rattle.mig_rewrite.specs.Reach.{IsClosed}
use Rattle.mig_rewrite.proofs.Once.{Names, once-node, once-output}
use Rattle.mig_rewrite.proofs.Numbered.{numbered-lower, numbered-three, any-each, any-names}
use Rattle.mig_rewrite.proofs.Numbered.{any-three}

-- by the cases of a test
pub if-cases : {A : Type 0} (Q : A → Type 0) (b : Bool) (x y : A) → (b ≡ true → Q x)
    → (b ≡ false → Q y) → Q (if b then x else y)
if-cases Q true x y t f = t refl
if-cases Q false x y t f = f refl

pub not-both : (b : Bool) → b ≡ true → b ≡ false → ⊥
not-both true h k = cc
not-both false h k = cc

pub test-differs : (j k : ℕ) → (j == k) ≡ false → j ≢ k
test-differs j k h e = not-both (j == k) (eq-eqb j k e) h

-- the marks without those of the two inner nodes
abbrev pub cleared : List Bool → ℕ → ℕ → List Bool
cleared marks p q = slice_set (slice_set marks p false) q false

cleared-other : (marks : List Bool) (p q j : ℕ) → j ≢ p → j ≢ q
    → is_marked (cleared marks p q) j ≡ is_marked marks j
cleared-other marks p q j a b = get_or-set_other (slice_set marks p false) q j false false b
    ∙ get_or-set_other marks p j false false a

cleared-first : (marks : List Bool) (p q : ℕ) → p ≢ q → p < length marks
    → is_marked (cleared marks p q) p ≡ false
cleared-first marks p q d b = get_or-set_other (slice_set marks p false) q p false false d
    ∙ get_or-set_same marks p false false b

cleared-second : (marks : List Bool) (p q : ℕ) → q < length marks
    → is_marked (cleared marks p q) q ≡ false
cleared-second marks p q b = get_or-set_same (slice_set marks p false) q false false
    (omega (arith, length-set marks p false))

set-marked : (marks : List Bool) (p k : ℕ) → is_marked (slice_set marks p false) k ≡ true
    → is_marked marks k ≡ true
set-marked marks p k e = elim (cases_eq k p) [
  | inl s ↦ elim (cases_lt p (length marks)) [
    | inl b ↦ absurd (not-both _ (subst (λ j. is_marked (slice_set marks p false) j ≡ true) s e)
        (get_or-set_same marks p false false b))
    | inr past ↦ subst (λ (m : List Bool). is_marked m k ≡ true) (set_past marks p false past) e
  ]
  | inr d ↦ sym (get_or-set_other marks p k false false d) ∙ e
]

-- clearing marks none

pub was-marked : (marks : List Bool) (p q k : ℕ) → is_marked (cleared marks p q) k ≡ true
    → is_marked marks k ≡ true
was-marked marks p q k e = set-marked marks p k (set-marked (slice_set marks p false) q k e)

-- the places of a merge
pub record IsPlaced (g : Graph) (m : Merge) : Type 0 where
  pub first_below : m.first < m.node
  pub second_below : m.second < m.node

pub merge-placed : (g : Graph) (outs : List Lit) (m : Merge) → IsGraph g.inputs g.nodes
    → IsMerge g outs m → IsPlaced g m
merge-placed g outs m graph h =
    let l = numbered-lower g m.node graph h.above h.below in
    let e = any-each (λ l. l.node < m.node) (node_numbered g m.node) (straight m.first)
    (straight m.second) m.z h.of_node l.0 l.1 l.2 in
    record { first_below = e.0; second_below = e.1 }

-- the literals of the merged form are lower, and name neither of the two
pub record AreOutside (m : Merge) (l : Lit) : Type 0 where
  pub lower : l.node < m.node
  pub not_first : l.node ≢ m.first
  pub not_second : l.node ≢ m.second

outside-first : (g : Graph) (outs : List Lit) (m : Merge) (l : Lit) → IsGraph g.inputs g.nodes
    → IsMerge g outs m → l.node < m.first → Names (node_numbered g m.first) l.node → AreOutside m l
outside-first g outs m l graph h b n =
    let p = merge-placed g outs m graph h in
    let names = any-names (node_numbered g m.node) (straight m.first) (straight m.second) m.z
    h.of_node in
    let pa = h.first_above in let nb = h.below in let na = h.above in
    let low : m.first < m.node = p.first_below in
    let d : m.first ≢ m.node = omega arith in
    let fb : m.first < size_of g = omega arith in
    record {
      lower = omega arith;
      not_first = omega arith;
      not_second = λ e. once-node g outs m.second m.node m.first h.second_once na nb pa fb d names.1
          (subst (λ j. Names (node_numbered g m.first) j) e n);
    }

outside-second : (g : Graph) (outs : List Lit) (m : Merge) (l : Lit) → IsGraph g.inputs g.nodes
    → IsMerge g outs m → l.node < m.second → Names (node_numbered g m.second) l.node
    → AreOutside m l
outside-second g outs m l graph h b n =
    let p = merge-placed g outs m graph h in
    let names = any-names (node_numbered g m.node) (straight m.first) (straight m.second) m.z
    h.of_node in
    let pa = h.second_above in let nb = h.below in let na = h.above in
    let low : m.second < m.node = p.second_below in
    let d : m.second ≢ m.node = omega arith in
    let fb : m.second < size_of g = omega arith in
    record {
      lower = omega arith;
      not_first = λ e. once-node g outs m.first m.node m.second h.first_once na nb pa fb d names.0
          (subst (λ j. Names (node_numbered g m.second) j) e n);
      not_second = omega arith;
    }

pub outside : (g : Graph) (outs : List Lit) (m : Merge) → IsGraph g.inputs g.nodes
    → IsMerge g outs m → EachLit (AreOutside m) (Two m.x m.y m.u m.v m.z)
outside g outs m graph h =
    let p = merge-placed g outs m graph h in
    let nb = h.below in
    let pb = p.first_below in let qb = p.second_below in
    let fb : m.first < size_of g = omega arith in
    let sb : m.second < size_of g = omega arith in
    let lf = numbered-lower g m.first graph h.first_above fb in
    let ls = numbered-lower g m.second graph h.second_above sb in
    let ln = numbered-lower g m.node graph h.above h.below in
    let ef = any-each (λ l. l.node < m.first) (node_numbered g m.first) m.x m.y m.u h.of_first lf.0
    lf.1 lf.2 in
    let es = any-each (λ l. l.node < m.second) (node_numbered g m.second) m.x m.y m.v h.of_second
    ls.0 ls.1 ls.2 in
    let en = any-each (λ l. l.node < m.node) (node_numbered g m.node) (straight m.first)
    (straight m.second) m.z h.of_node ln.0 ln.1 ln.2 in
    let nf = any-names (node_numbered g m.first) m.x m.y m.u h.of_first in
    let ns = any-names (node_numbered g m.second) m.x m.y m.v h.of_second in
    let t = any-three (node_numbered g m.node) (straight m.first) (straight m.second) m.z h.of_node
    (numbered-three g m.node graph h.above h.below) in
    let z : AreOutside m m.z = record {
      lower = en.2;
      not_first = λ e. t.1 (sym e);
      not_second = λ e. t.2 (sym e);
    } in (
      outside-first g outs m m.x graph h ef.0 nf.0,
      outside-first g outs m m.y graph h ef.1 nf.1,
      outside-first g outs m m.u graph h ef.2 nf.2,
      outside-second g outs m m.v graph h es.2 ns.2,
      z,
    )

pub each-zip : (P Q R : Lit → Type 0) (p : Part) → ((l : Lit) → P l → Q l → R l) → EachLit P p
    → EachLit Q p → EachLit R p
each-zip P Q R Nothing f a b = tt
each-zip P Q R (One x y z) f a b = (f x a.0 b.0, f y a.1 b.1, f z a.2 b.2)
each-zip P Q R (Two x y u v z) f a b = (
  f x a.0 b.0,
  f y a.1 b.1,
  f u a.2 b.2,
  f v a.3 b.3,
  f z a.4 b.4,
)

pub each-map : (P Q : Lit → Type 0) (p : Part) → ((l : Lit) → P l → Q l) → EachLit P p → EachLit Q p
each-map P Q Nothing f a = tt
each-map P Q (One x y z) f a = (f x a.0, f y a.1, f z a.2)
each-map P Q (Two x y u v z) f a = (f x a.0, f y a.1, f u a.2, f v a.3, f z a.4)

-- with a merge
pub plan-merge : (g : Graph) (outs : List Lit) (m : Merge) (marks : List Bool)
    → IsGraph g.inputs g.nodes → IsMerge g outs m → IsClosed g outs marks
    → IsPlan g outs (Some m) (cleared marks m.first m.second)
plan-merge g outs m marks graph h r =
    let p = merge-placed g outs m graph h in
    let nb = h.below in
    let pb = p.first_below in let qb = p.second_below in
    let long = r.long in
    let fb : m.first < size_of g = omega arith in
    let sb : m.second < size_of g = omega arith in
    let fm : m.first < length marks = omega arith in
    let sm : m.second < length marks = omega arith in
    let new = cleared marks m.first m.second in
    let names = any-names (node_numbered g m.node) (straight m.first) (straight m.second) m.z
    h.of_node in
    let first = cleared-first marks m.first m.second h.differ fm in
    let second = cleared-second marks m.first m.second sm in
    let stays : (j : ℕ) → j ≢ m.first → j ≢ m.second → is_marked marks j ≡ true
    → is_marked new j ≡ true = λ j a b e. cleared-other marks m.first m.second j a b ∙ e in
    let before : (j : ℕ) → is_marked new j ≡ true → (j ≢ m.first) × (j ≢ m.second) =
    λ j e. (
      λ d. not-both (is_marked new j) e
          (subst (λ i. is_marked new i ≡ false) (sym d) first),
      λ d. not-both (is_marked new j) e (subst (λ i. is_marked new i ≡ false) (sym d) second),
    ) in
    let was : (j : ℕ) → is_marked new j ≡ true → is_marked marks j ≡ true = λ j e. let d =
    before j e in sym (cleared-other marks m.first m.second j d.0 d.1) ∙ e in
    let two : is_marked marks m.node ≡ true → EachLit (λ l. is_marked new l.node
    ≡ true) (Two m.x m.y m.u m.v m.z) = λ e.
    let rn = r.closed m.node h.above h.below e in
    let en = any-each (λ l. is_marked marks l.node
    ≡ true) (node_numbered g m.node) (straight m.first) (straight m.second) m.z h.of_node rn.0
    rn.1 rn.2 in
    let rf = r.closed m.first h.first_above fb en.0 in
    let rs = r.closed m.second h.second_above sb en.1 in
    let ef = any-each (λ l. is_marked marks l.node ≡ true) (node_numbered g m.first) m.x m.y m.u
    h.of_first rf.0 rf.1 rf.2 in
    let es = any-each (λ l. is_marked marks l.node ≡ true) (node_numbered g m.second) m.x m.y m.v
    h.of_second rs.0 rs.1 rs.2 in
    each-zip (AreOutside m) (λ l. is_marked marks l.node ≡ true) (λ l. is_marked new l.node
    ≡ true) (Two m.x m.y m.u m.v m.z) (λ l o e. stays l.node o.not_first o.not_second e)
    (outside g outs m graph h) (ef.0, ef.1, ef.2, es.2, en.2) in
    let one : (k : ℕ) → g.inputs < k → k < size_of g → k ≢ m.node → is_marked marks k ≡ true
    → (l : Lit) → Names (node_numbered g k) l.node → is_marked marks l.node ≡ true
    → is_marked new l.node ≡ true = λ k a b d e l n i.
    stays l.node (λ f. once-node g outs m.first m.node k h.first_once h.above h.below a b d names.0
    (subst (λ j. Names (node_numbered g k) j) f n))
    (λ f. once-node g outs m.second m.node k h.second_once h.above h.below a b d names.1
    (subst (λ j. Names (node_numbered g k) j) f n)) i in
    let ones : (k : ℕ) → g.inputs < k → k < size_of g → k ≢ m.node → is_marked marks k ≡ true
    → EachLit (λ l. is_marked new l.node ≡ true)
    (One (node_numbered g k).a (node_numbered g k).b (node_numbered g k).c) = λ k a b d e.
    let rk = r.closed k a b e in (
      one k a b d e (node_numbered g k).a (inl refl) rk.0,
      one k a b d e (node_numbered g k).b (inr (inl refl)) rk.1,
      one k a b d e (node_numbered g k).c (inr (inr refl)) rk.2,
    ) in
    record {
      long = omega (
        arith,
        length-set marks m.first false,
        length-set (slice_set marks m.first false) m.second false,
        r.long,
      );
      outputs = λ j b. stays (lit_at outs j).node (λ e.
          once-output g outs m.first m.node j h.first_once h.above h.below b names.0 e) (λ e.
          once-output g outs m.second m.node j h.second_once h.above h.below b names.1 e)
          (r.outputs j b);
      closed = λ k a b. if-cases (EachLit (λ l. is_marked new l.node ≡ true)) (is_marked new k)
          (whole_part g (Some m) k) Nothing
          (λ e. if-cases (EachLit (λ l. is_marked new l.node ≡ true)) (k
          == m.node) (Two m.x m.y m.u m.v m.z)
          (One (node_numbered g k).a (node_numbered g k).b (node_numbered g k).c)
          (λ s. two (subst (λ i. is_marked marks i ≡ true) (eqb-true k m.node s) (was k e)))
          (λ s. ones k a b (test-differs k m.node s) (was k e)))
          (λ _. tt);
      spared = (first, second);
    }
