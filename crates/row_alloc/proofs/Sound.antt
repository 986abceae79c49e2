-- A cell that holds a literal has its value
use Rattle.row_alloc.proofs.Common.{◌==◌, not, if◌then◌else◌, map, slice_index_or, Option, ◌⊎◌, sym}
use Rattle.row_alloc.proofs.Common.{◌∙◌, ap, arith, subst, inl, inr, drop, drop-cons, add-one}
use Rattle.row_alloc.proofs.Common.{common_steps, eqb-true, Cell, T, Dcc, D, Line, majority}
use Rattle.row_alloc.proofs.Common.{flip_if, Column, lines_of, is_written, bit, read, sense_lines}
use Rattle.row_alloc.proofs.Common.{settle_lines, drive, sense, settle, step, run, Lit, Node}
use Rattle.row_alloc.proofs.Common.{node_value, IsAnyOrder, Graph, value, values, IsGraph, node_at}
use Rattle.row_alloc.proofs.Common.{start, value-node, values-below, any-order}
use Rattle.std.specs.Prelude.{◌≡◌, ℕ, suc, ◌+◌, ◌<◌, ◌≤◌, Bool, true, false, ◌&&◌, ◌||◌, List, []}
use Rattle.std.specs.Prelude.{◌∷◌, length, Some, None, refl}
use mathlib.Core.Bool.{beq}
use Rattle.dram_model.specs.declared.address.Cell.TheVariants.{C}
use Rattle.dram_model.specs.declared.address.Command.{Command}
use Rattle.dram_model.specs.declared.address.Command.TheVariants.{Ap, Aap}
use Rattle.mig_graph.specs.Literals.{complement, node_of}
use Rattle.mig_graph.specs.Graph.{no_node}
use Rattle.mig_graph.proofs.Laws.{flip-not, complemented-value}
use Rattle.row_alloc.specs.declared.body.BodyCmd.{BodyCmd}
use Rattle.row_alloc.specs.Rows.{Rows, bound}
use Rattle.row_alloc.specs.Symbolic.{Symbols, held, complemented_option, sym_read, lit_eq}
use Rattle.row_alloc.specs.Symbolic.{are_twins, are_opposite, is_node, has_three, first_node}
use Rattle.row_alloc.specs.Symbolic.{or_complement, node_for, node_for_all, sense_three}
use Rattle.row_alloc.specs.Symbolic.{sym_sense_lines, sym_drive, sym_settle_lines, sym_sense}
use Rattle.row_alloc.specs.Symbolic.{sym_settle, sym_step, sym_run}
use Rattle.row_alloc.proofs.Booleans.{and-left, and-right}

-- where there is a literal, it has the value b
abbrev pub Means : Graph → (ℕ → Bool) → Option Lit → Bool → Type 0
Means g bits None b = Unit {0}
Means g bits (Some l) b = b ≡ value g bits l

-- each cell that holds a literal has its value
abbrev pub IsSound : Graph → (ℕ → Bool) → Symbols → Column → Type 0
IsSound g bits sy t = (c : Cell) → Means g bits (held sy c) (bit t c)

beq-true : (i j : Bool) → beq i j ≡ true → i ≡ j
beq-true i j h = grind (arith, h)

lit-of : (x : Lit) (n : ℕ) (i : Bool) → x.node ≡ n → x.inverted ≡ i
    → x ≡ record { node = n; inverted = i }
lit-of x n i e f = rw (← e, ← f) refl

pub lit-eq-true : (x y : Lit) → lit_eq x y ≡ true → x ≡ y
lit-eq-true x y h = lit-of x y.node y.inverted (eqb-true x.node y.node (and-left _ _ h))
    (beq-true x.inverted y.inverted (and-right (x.node == y.node) _ h))

is-node-true : (n : Node) (x y z : Lit) → is_node n x y z ≡ true → (n.a ≡ x) × (n.b ≡ y) × (n.c ≡ z)
is-node-true n x y z h =
    let r = and-right (lit_eq n.a x) (lit_eq n.b y && lit_eq n.c z) h in (
      lit-eq-true n.a x (and-left _ _ h),
      lit-eq-true n.b y (and-left _ _ r),
      lit-eq-true n.c z (and-right (lit_eq n.b y) _ r),
    )

or-sum : (a b : Bool) (P Q : Type 0) → (a ≡ true → P) → (b ≡ true → Q) → (a || b) ≡ true → P ⊎ Q
or-sum true b P Q f g h = inl (f refl)
or-sum false b P Q f g h = inr (g h)

pub has-three-true : (n : Node) (x y z : Lit) → has_three n x y z ≡ true → IsAnyOrder n x y z
has-three-true n x y z = or-sum _ _ _ _ (is-node-true n x y z)
    (or-sum _ _ _ _ (is-node-true n x z y) (or-sum _ _ _ _ (is-node-true n y x z)
    (or-sum _ _ _ _ (is-node-true n y z x) (or-sum _ _ _ _ (is-node-true n z x y)
    (is-node-true n z y x)))))

-- the node that is found has the majority of the three
MeansNode : (ℕ → Bool) → Option ℕ → Bool → Type 0
MeansNode v None b = Unit {0}
MeansNode v (Some k) b = b ≡ v k

first-means : (v : ℕ → Bool) (k : ℕ) (ns : List Node) (x y z : Lit)
    → ((j : ℕ) → j < length ns → v (k + j) ≡ node_value v (node_at ns j))
    → MeansNode v (first_node k ns x y z) (node_value v (node_of x y z))
unfolding first_node MeansNode
first-means v k [] x y z h = tt
first-means v k (n ∷ ns) x y z h =
    by-test (has_three n x y z) refl (first-means v (k + 1) ns x y z (λ j l. let s : k + 1 + j
    ≡ k + suc j = omega arith in ap v s ∙ h (suc j) (omega arith)))
  where
    by-test : (b : Bool) → has_three n x y z ≡ b
        → MeansNode v (first_node (k + 1) ns x y z) (node_value v (node_of x y z))
        → MeansNode v (if b then Some k else first_node (k + 1) ns x y z)
        (node_value v (node_of x y z))
    by-test true e rest = let z0 : k + 0 ≡ k = omega arith in
        sym (any-order v n x y z (has-three-true n x y z e)) ∙ sym (h 0 (omega arith)) ∙ ap v z0
    by-test false e rest = rest

node-means : (g : Graph) (bits : ℕ → Bool) (x y z : Lit) → IsGraph g.inputs g.nodes
    → Means g bits (node_for g x y z) (node_value (values g bits) (node_of x y z))
unfolding MeansNode
node-means g bits x y z graph =
    let v = values g bits in
    let at : (j : ℕ) → j < length g.nodes → v (g.inputs + 1 + j)
    ≡ node_value v (node_at g.nodes j) = λ j l. value-node g.inputs g.nodes bits j graph l in
    both (first_node (g.inputs + 1) g.nodes x y z)
    (first_node (g.inputs + 1) g.nodes (complement x) (complement y) (complement z))
    (first-means v (g.inputs + 1) g.nodes x y z at)
    (first-means v (g.inputs + 1) g.nodes (complement x) (complement y) (complement z) at)
  where
    both : (p q : Option ℕ) → MeansNode (values g bits) p
        (node_value (values g bits) (node_of x y z))
        → MeansNode (values g bits) q (node_value (values g bits)
        (node_of (complement x) (complement y) (complement z)))
        → Means g bits (or_complement p q) (node_value (values g bits) (node_of x y z))
    both (Some k) q h i = h
    both None (Some k) h i = sym (complemented-value (values g bits) x y z) ∙ ap not i
    both None None h i = tt

-- two that read one literal have one value
twins-equal : (g : Graph) (bits : ℕ → Bool) (p q : Option Lit) (a b : Bool) → are_twins p q ≡ true
    → Means g bits p a → Means g bits q b → a ≡ b
twins-equal g bits (Some x) (Some y) a b e h i = h ∙ ap (value g bits) (lit-eq-true x y e) ∙ sym i
twins-equal g bits (Some x) None a b e h i = absurd (cc)
twins-equal g bits None q a b e h i = absurd (cc)

opposite-values : (g : Graph) (bits : ℕ → Bool) (p q : Option Lit) (a b : Bool)
    → are_opposite p q ≡ true → Means g bits p a → Means g bits q b → b ≡ not a
opposite-values g bits (Some x) (Some y) a b e h i =
    i ∙ ap (value g bits) (lit-eq-true y (complement x) e)
    ∙ flip-not x.inverted (values g bits x.node) ∙ ap not (sym h)
opposite-values g bits (Some x) None a b e h i = absurd (cc)
opposite-values g bits None q a b e h i = absurd (cc)

pub means-if : (g : Graph) (bits : ℕ → Bool) (t : Bool) (p q : Option Lit) (b : Bool)
    → (t ≡ true → Means g bits p b) → Means g bits q b → Means g bits (if t then p else q) b
means-if g bits true p q b h i = h refl
means-if g bits false p q b h i = i

all-mean : (g : Graph) (bits : ℕ → Bool) (p q r : Option Lit) (a b c : Bool)
    → IsGraph g.inputs g.nodes → Means g bits p a → Means g bits q b → Means g bits r c
    → Means g bits (node_for_all g p q r) (majority a b c)
all-mean g bits (Some x) (Some y) (Some z) a b c graph h i j =
    rw (h, i, j) (node-means g bits x y z graph)
all-mean g bits (Some x) (Some y) None a b c graph h i j = tt
all-mean g bits (Some x) None r a b c graph h i j = tt
all-mean g bits None q r a b c graph h i j = tt

-- what three lines sense has the majority of their values
three-mean : (g : Graph) (bits : ℕ → Bool) (p q r : Option Lit) (a b c : Bool)
    → IsGraph g.inputs g.nodes → Means g bits p a → Means g bits q b → Means g bits r c
    → Means g bits (sense_three g p q r) (majority a b c)
unfolding sense_three majority
three-mean g bits p q r a b c graph h i j =
    let to = λ (o : Option Lit) (d : Bool) (e : d ≡ majority a b c). subst (Means g bits o) e in
    means-if g bits (are_twins p q) p _ _ (λ e.
    let f = twins-equal g bits p q a b e h i in to p a (grind (arith, f)) h)
    (means-if g bits (are_twins p r) p _ _ (λ e.
    let f = twins-equal g bits p r a c e h j in to p a (grind (arith, f)) h)
    (means-if g bits (are_twins q r) q _ _ (λ e.
    let f = twins-equal g bits q r b c e i j in to q b (grind (arith, f)) i)
    (means-if g bits (are_opposite p q) r _ _ (λ e.
    let f = opposite-values g bits p q a b e h i in to r c (grind (arith, f)) j)
    (means-if g bits (are_opposite p r) q _ _ (λ e.
    let f = opposite-values g bits p r a c e h j in to q b (grind (arith, f)) i)
    (means-if g bits (are_opposite q r) p _ _ (λ e.
    let f = opposite-values g bits q r b c e i j in to p a (grind (arith, f)) h)
    (all-mean g bits p q r a b c graph h i j))))))

complemented-means : (g : Graph) (bits : ℕ → Bool) (i : Bool) (p : Option Lit) (b : Bool)
    → Means g bits p b → Means g bits (complemented_option i p) (flip_if i b)
complemented-means g bits i None b h = tt
complemented-means g bits true (Some l) b h = ap not h
    ∙ sym (flip-not l.inverted (values g bits l.node))
complemented-means g bits false (Some l) b h = h

pub read-means : (g : Graph) (bits : ℕ → Bool) (sy : Symbols) (t : Column) (line : Line)
    → IsSound g bits sy t → Means g bits (sym_read sy line) (read t line)
read-means g bits sy t line h = complemented-means g bits line.inverted (held sy line.cell)
    (bit t line.cell) (h line.cell)

sense-means : (g : Graph) (bits : ℕ → Bool) (sy : Symbols) (t : Column) (lines : List Line)
    → IsGraph g.inputs g.nodes → IsSound g bits sy t
    → Means g bits (sym_sense_lines g sy lines) (sense_lines t lines)
sense-means g bits sy t [] graph h = tt
sense-means g bits sy t (a ∷ []) graph h = read-means g bits sy t a h
sense-means g bits sy t (a ∷ b ∷ []) graph h = tt
sense-means g bits sy t (a ∷ b ∷ c ∷ more) graph h =
    three-mean g bits _ _ _ _ _ _ graph (read-means g bits sy t a h) (read-means g bits sy t b h)
    (read-means g bits sy t c h)

choose-means : (g : Graph) (bits : ℕ → Bool) (w : Bool) (p q : Option Lit) (a b : Bool)
    → Means g bits p a → Means g bits q b → Means g bits (if w then p else q) (if w then a else b)
choose-means g bits true p q a b h i = h
choose-means g bits false p q a b h i = i

pub constant-means : (g : Graph) (bits : ℕ → Bool) (i : Bool)
    → i ≡ value g bits (record { node = 0; inverted = i })
constant-means g bits i = at i (values-below (g.inputs + 1) g.nodes (start bits) 0 (omega arith))
  where
    at : (i : Bool) → values g bits 0 ≡ false → i ≡ flip_if i (values g bits 0)
    at true e = rw e refl
    at false e = sym e

drive-sound : (g : Graph) (bits : ℕ → Bool) (sy : Symbols) (t : Column) (line : Line)
    (v : Option Lit) (b : Bool) → Means g bits v b → IsSound g bits sy t
    → IsSound g bits (sym_drive line v sy) (drive line b t)
drive-sound g bits sy t line v b h s (T k) =
    choose-means g bits (is_written line.cell (T k)) _ _ _ _
    (complemented-means g bits line.inverted v b h) (s (T k))
drive-sound g bits sy t line v b h s (Dcc k) =
    choose-means g bits (is_written line.cell (Dcc k)) _ _ _ _
    (complemented-means g bits line.inverted v b h) (s (Dcc k))
drive-sound g bits sy t line v b h s (C k) = constant-means g bits (not (k == 0))
drive-sound g bits sy t line v b h s (D k) =
    choose-means g bits (is_written line.cell (D k)) _ _ _ _
    (complemented-means g bits line.inverted v b h) (s (D k))

settle-sound : (g : Graph) (bits : ℕ → Bool) (sy : Symbols) (t : Column) (lines : List Line)
    (v : Option Lit) (b : Bool) → Means g bits v b → IsSound g bits sy t
    → IsSound g bits (sym_settle_lines lines v sy) (settle_lines lines b t)
settle-sound g bits sy t [] v b h s = s
settle-sound g bits sy t (line ∷ lines) v b h s =
    settle-sound g bits (sym_drive line v sy) (drive line b t) lines v b h
    (drive-sound g bits sy t line v b h s)

step-sound : (g : Graph) (bits : ℕ → Bool) (sy : Symbols) (t : Column) (command : Command)
    → IsGraph g.inputs g.nodes → IsSound g bits sy t
    → IsSound g bits (sym_step g command sy) (step command t)
step-sound g bits sy t (Ap x) graph s = settle-sound g bits sy t (lines_of x) (sym_sense g x sy)
    (sense x t) (sense-means g bits sy t (lines_of x) graph s) s
step-sound g bits sy t (Aap x y) graph s =
    let h = sense-means g bits sy t (lines_of x) graph s in
    settle-sound g bits (sym_settle x (sym_sense g x sy) sy) (settle x (sense x t) t) (lines_of y)
    (sym_sense g x sy) (sense x t) h
    (settle-sound g bits sy t (lines_of x) (sym_sense g x sy) (sense x t) h s)

-- after any commands, a cell that holds a literal has its value
pub run-sound : (g : Graph) (bits : ℕ → Bool) (sy : Symbols) (t : Column) (commands : List Command)
    → IsGraph g.inputs g.nodes → IsSound g bits sy t
    → IsSound g bits (sym_run g commands sy) (run commands t)
run-sound g bits sy t [] graph s = s
run-sound g bits sy t (command ∷ commands) graph s =
    run-sound g bits (sym_step g command sy) (step command t) commands graph
    (step-sound g bits sy t command graph s)

-- the search goes on with the next node
pub first-step : (k : ℕ) (ns : List Node) (j : ℕ) (x y z : Lit) → j < length ns
    → first_node k (drop j ns) x y z ≡ (if has_three (node_at ns j) x y z then Some k
    else first_node (k + 1) (drop (j + 1) ns) x y z)
unfolding first_node
first-step k ns j x y z l = rw (drop-cons ns j no_node, add-one j) refl

pub first-end : (k : ℕ) (ns : List Node) (j : ℕ) (x y z : Lit) → length ns ≤ j
    → first_node k (drop j ns) x y z ≡ None
unfolding first_node
first-end k ns j x y z l = let e : drop j ns ≡ [] = grind (arith, common_steps) in rw e refl

pub settle-step : (lines : List Line) (j : ℕ) (d : Line) (v : Option Lit) (sy : Symbols)
    → j < length lines → sym_settle_lines (drop j lines) v sy
    ≡ sym_settle_lines (drop (j + 1) lines) v (sym_drive (slice_index_or lines j d) v sy)
settle-step lines j d v sy l = rw (drop-cons lines j d, add-one j) refl

pub settle-end : (lines : List Line) (j : ℕ) (v : Option Lit) (sy : Symbols) → length lines ≤ j
    → sym_settle_lines (drop j lines) v sy ≡ sy
settle-end lines j v sy l = let e : drop j lines ≡ [] = grind (arith, common_steps) in rw e refl

pub run-step : (g : Graph) (rows : Rows) (cmds : List BodyCmd) (j : ℕ) (d : BodyCmd) (sy : Symbols)
    → j < length cmds → sym_run g (map (bound rows) (drop j cmds)) sy
    ≡ sym_run g (map (bound rows) (drop (j + 1) cmds))
    (sym_step g (bound rows (slice_index_or cmds j d)) sy)
run-step g rows cmds j d sy l = rw (drop-cons cmds j d, add-one j) refl

pub run-end : (g : Graph) (rows : Rows) (cmds : List BodyCmd) (j : ℕ) (sy : Symbols)
    → length cmds ≤ j → sym_run g (map (bound rows) (drop j cmds)) sy ≡ sy
run-end g rows cmds j sy l = let e : drop j cmds ≡ [] = grind (arith, common_steps) in rw e refl
