use Rattle.mig_rewrite.proofs.Common.{◌≡◌, ℕ, Bool, ◌∙◌, ap, refl, ◌<◌, ◌∷◌, [], List, length}
use Rattle.mig_rewrite.proofs.Common.{length-append, arith, inl, inr, majority, flip_if, Lit}
use Rattle.mig_rewrite.proofs.Common.{complement_if, Graph, value, values, size_of, value-zero}
use Rattle.mig_rewrite.proofs.Common.{lit_at, AreNamed, value-complemented, complemented-node}
use Rattle.std.proofs.lemmas.Result.{IfOk-weaker}
use Rattle.mig_graph.specs.Graph.{GrewByOne}
use Rattle.mig_rewrite.specs.declared.rebuild.Part.TheVariants.{Two}
use Rattle.mig_rewrite.specs.Plan.{part_value}
use Rattle.mig_rewrite.proofs.rebuild.make.Goals as goal

-- a translated literal has the value of its node's literal
moved : (g : Graph) (bits : ℕ → Bool) (x y l : Lit) → x ≡ complement_if l.inverted y
    → value g bits x ≡ flip_if l.inverted (value g bits y)
moved g bits x y l e = rw e (value-complemented (values g bits) l.inverted y)

three : (a b c x y z : Bool) → a ≡ x → b ≡ y → c ≡ z → majority a b c ≡ majority x y z
three a b c x y z e f g = rw (e, f, g) refl

-- it names a node of the graph
translated-named : (g : Graph) (lits : List Lit) (x l : Lit)
    → x ≡ complement_if l.inverted (lit_at lits l.node) → AreNamed g lits → l.node < length lits
    → x.node < size_of g
translated-named g lits x l e named b = rw (e, complemented-node l.inverted (lit_at lits l.node))
    (named l.node b)

two : (g h k : Graph) (bits : ℕ → Bool) (lits : List Lit) (x y u v z x' y' u' v' z' i l : Lit)
    → x' ≡ complement_if x.inverted (lit_at lits x.node)
    → y' ≡ complement_if y.inverted (lit_at lits y.node)
    → u' ≡ complement_if u.inverted (lit_at lits u.node)
    → v' ≡ complement_if v.inverted (lit_at lits v.node)
    → z' ≡ complement_if z.inverted (lit_at lits z.node)
    → AreNamed g lits → x.node < length lits → y.node < length lits
    → ((m : Lit) → m.node < size_of g → value h bits m ≡ value g bits m)
    → value h bits i ≡ majority (value g bits u') (value g bits v') (value g bits z')
    → value k bits l ≡ majority (value h bits x') (value h bits y') (value h bits i)
    → value k bits l ≡ part_value (λ n. value g bits (lit_at lits n)) (Two x y u v z)
two g h k bits lits x y u v z x' y' u' v' z' i l ex ey eu ev ez named bx by kept inner outer =
    outer ∙ three _ _ _ _ _ _
    (kept x' (translated-named g lits x' x ex named bx) ∙ moved g bits x' (lit_at lits x.node) x ex)
    (kept y' (translated-named g lits y' y ey named by) ∙ moved g bits y' (lit_at lits y.node) y ey)
    (inner ∙ three _ _ _ _ _ _ (moved g bits u' (lit_at lits u.node) u eu)
    (moved g bits v' (lit_at lits v.node) v ev) (moved g bits z' (lit_at lits z.node) z ez))

-- a graph that grew has the nodes that it had
grown : (g h : Graph) (n : ℕ) → h.inputs ≡ g.inputs → GrewByOne g h → n < size_of g → n < size_of h
grown g h n e (inl f) b = omega (arith, ap length f)
grown g h n e (inr f) b = omega (arith, ap length f.1, length-append g.nodes (f.0 ∷ []))

pub returns-in-Nothing-clause-value : goal.returns-in-Nothing-clause-value
returns-in-Nothing-clause-value c = λ bits. rw c.in-Nothing.is (value-zero c.args.mig.now bits)

pub returns-in-One-clause-value : goal.returns-in-One-clause-value
returns-in-One-clause-value c =
    let g = c.args.mig.now in let lits = c.args.lits.now in let x = c.in-One.x in
    let y = c.in-One.y in let z = c.in-One.z in
    rw c.in-One.is (IfOk-weaker c.maj.result _ _ (λ l h bits. h bits ∙ three _ _ _ _ _ _
    (moved g bits c.translated.result (lit_at lits x.node) x c.translated.ensures)
    (moved g bits c.translated-in-One.result (lit_at lits y.node) y c.translated-in-One.ensures)
    (moved g bits c.translated-in-One-2.result (lit_at lits z.node) z
    c.translated-in-One-2.ensures)) c.maj.ensures.value)

pub returns-in_ok-inner-in-Two-clause-value : goal.returns-in_ok-inner-in-Two-clause-value
returns-in_ok-inner-in-Two-clause-value c =
    let within = rw c.in-Two.is at c.requires.within in
    rw c.in-Two.is (IfOk-weaker c.maj-in-Two-2.result _ _
    (λ l h bits. two c.args.mig.now c.maj-in-Two.new.self c.maj-in-Two-2.new.self bits
    c.args.lits.now
    c.in-Two.x c.in-Two.y c.in-Two.u c.in-Two.v c.in-Two.z
    c.translated-in-Two-4.result c.translated-in-Two-5.result c.translated-in-Two.result
    c.translated-in-Two-2.result c.translated-in-Two-3.result c.in_ok-inner-in-Two.inner l
    c.translated-in-Two-4.ensures c.translated-in-Two-5.ensures c.translated-in-Two.ensures
    c.translated-in-Two-2.ensures c.translated-in-Two-3.ensures
    c.requires.known within.0 within.1 (c.in_ok-inner-in-Two.ensures.kept bits)
    (c.in_ok-inner-in-Two.ensures.value bits) (h bits)) c.maj-in-Two-2.ensures.value)

pub returns-in_ok-inner-in-Two-clause-kept : goal.returns-in_ok-inner-in-Two-clause-kept
returns-in_ok-inner-in-Two-clause-kept c =
    IfOk-weaker c.maj-in-Two-2.result _ _ (λ x _ bits l b.
    c.maj-in-Two-2.ensures.kept bits l (grown c.args.mig.now c.maj-in-Two.new.self l.node
    c.in_ok-inner-in-Two.ensures.inputs c.in_ok-inner-in-Two.ensures.grew b)
    ∙ c.in_ok-inner-in-Two.ensures.kept bits l b) c.maj-in-Two-2.ensures.value
