-- Where a literal is read from holds its value, and a piece's commands put it into a spill row
use Rattle.row_alloc.proofs.Common.{◌≡◌, ◌≢◌, ◌⊎◌, ℕ, zero, suc, ◌+◌, ◌-◌, ◌<◌, ◌≤◌, Bool, true}
use Rattle.row_alloc.proofs.Common.{false, ◌&&◌, List, [], ◌∷◌, ◌++◌, refl, sym, ◌∙◌, ap, arith}
use Rattle.row_alloc.proofs.Common.{eq-eqb, inl, inr, ◌==◌, if◌then◌else◌, map, ne_eqb, nat_tests}
use Rattle.row_alloc.proofs.Common.{flip_if, bit_number, Cell, Dcc, D, Column, run, lines_of, bit}
use Rattle.row_alloc.proofs.Common.{plain, Lit, Node, is_complemented, IsLower, node_value, Graph}
use Rattle.row_alloc.proofs.Common.{value, values, start, values-below}
use Rattle.std.proofs.Common.{not}
use Rattle.std.proofs.lemmas.List.{map-append}
use Rattle.dram_model.specs.declared.address.Cell.TheVariants.{C as CellC}
use Rattle.dram_model.proofs.ColumnLaws.{run-append}
use Rattle.row_alloc.specs.declared.body.BodyRef.{BodyRef}
use Rattle.row_alloc.specs.declared.body.BodyRef.TheVariants.{B, C, In, Spill}
use Rattle.row_alloc.specs.declared.body.BodyCmd.{BodyCmd}
use Rattle.row_alloc.specs.declared.body.BodyCmd.TheVariants.{Aap}
use Rattle.row_alloc.specs.declared.body.OutRow.{OutRow}
use Rattle.row_alloc.specs.Rows.{Rows, place, bound, run_body, AreApart}
use Rattle.row_alloc.specs.Phases.{source_of, into_of, node_commands, stash_commands, inputs_of}
use Rattle.row_alloc.specs.Phases.{IsReady}
use Rattle.row_alloc.proofs.Activations.{is_stored, four-commands, copy-command, not-commands}

-- bodies one after another
pub run-body-append : (rows : Rows) (xs ys : List BodyCmd) (s : Column)
    → run_body rows (xs ++ ys) s ≡ run_body rows ys (run_body rows xs s)
run-body-append rows xs ys s = ap (λ cmds. run cmds s) (map-append (bound rows) xs ys)
    ∙ run-append (map (bound rows) xs) (map (bound rows) ys) s

-- the commands give data row d the value v, and leave the other data rows
abbrev pub Puts : Rows → List BodyCmd → Column → ℕ → Bool → Type 0
Puts rows cmds t d v = (r : ℕ) → run_body rows cmds t (D r) ≡ (if d == r then v else t (D r))

pub puts-at : (rows : Rows) (cmds : List BodyCmd) (t : Column) (d : ℕ) (v : Bool)
    → Puts rows cmds t d v → run_body rows cmds t (D d) ≡ v
puts-at rows cmds t d v h = h d ∙ rw (eq-eqb d d refl) refl

pub puts-off : (rows : Rows) (cmds : List BodyCmd) (t : Column) (d : ℕ) (v : Bool) (r : ℕ)
    → Puts rows cmds t d v → d ≢ r → run_body rows cmds t (D r) ≡ t (D r)
puts-off rows cmds t d v r h ne = h r ∙ rw (ne_eqb d r ne) refl

-- which row a literal is read from
pub source-cases : (i : ℕ) (l : Lit) → ((l.node ≡ 0) × (source_of i l ≡ C (bit_number l.inverted)))
    ⊎ (((0 < l.node) × (l.node ≤ i) × (source_of i l ≡ In (l.node - 1)))
    ⊎ ((i < l.node) × (source_of i l ≡ Spill (l.node - i - 1))))
source-cases i l = grind (arith, nat_tests)

-- the reference is one row, that commands with B rows leave, and it holds b
pub record Holds (rows : Rows) (t : Column) (x : BodyRef) (b : Bool) : Type 0 where
  pub cell : Cell
  pub lines : lines_of (place rows x) ≡ plain cell ∷ []
  pub stored : is_stored cell ≡ true
  pub bit_is : bit t cell ≡ b

complemented-value : (n : ℕ) (i v : Bool) → n ≢ 0 → flip_if (i && not (n == 0)) (flip_if i v) ≡ v
complemented-value n i v h = grind (arith, h)

constant-value : (i v : Bool) → v ≡ false → not (bit_number i == 0)
    ≡ flip_if (i && not (0 == 0)) (flip_if i v)
constant-value true v e = rw e refl
constant-value false v e = rw e refl

start-of : (bits : ℕ → Bool) (n : ℕ) → 0 < n → start bits n ≡ bits (n - 1)
start-of bits zero l = absurd (omega arith)
start-of bits (suc k) l = let e : suc k - 1 ≡ k = omega arith in rw e refl

value-of-input : (g : Graph) (bits : ℕ → Bool) (n : ℕ) → n < g.inputs + 1
    → values g bits n ≡ start bits n
value-of-input g bits n l = values-below (g.inputs + 1) g.nodes (start bits) n l

-- the row that a literal is read from holds its value, or the complement where it is complemented
pub source-holds : (g : Graph) (outs : List OutRow) (rows : Rows) (s : Column) (n m : ℕ)
    (t : Column) (l : Lit) → IsReady g outs rows s n m t → AreApart rows g.inputs outs → n ≤ 32
    → l.node < g.inputs + 1 + n → Holds rows t (source_of g.inputs l)
    (flip_if (is_complemented l) (value g (inputs_of rows s) l))
source-holds g outs rows s n m t l ready apart small below =
    let bits = inputs_of rows s in
    elim (source-cases g.inputs l) [
      | inl h ↦ rw h.1 (record {
        cell = CellC (bit_number l.inverted);
        lines = refl;
        stored = refl;
        bit_is = let e : values g bits l.node ≡ false = ap (values g bits) h.0
            ∙ value-of-input g bits 0 (omega arith) in
            constant-value l.inverted (values g bits l.node) e
            ∙ ap (λ (k : ℕ). flip_if (l.inverted
            && not (k == 0)) (flip_if l.inverted (values g bits l.node))) (sym h.0);
      })
      | inr (inl h) ↦ rw h.2 (record {
        cell = D (rows.input (l.node - 1));
        lines = refl;
        stored = refl;
        bit_is = ready.kept (rows.input (l.node - 1)) (λ i b e.
            apart.spill_input i (l.node - 1) b (omega arith) e)
            ∙ sym (start-of bits l.node h.0) ∙ sym (value-of-input g bits l.node (omega arith))
            ∙ sym (complemented-value l.node l.inverted (values g bits l.node) (omega arith));
      })
      | inr (inr h) ↦ rw h.1 (record {
        cell = D (rows.spill (l.node - g.inputs - 1));
        lines = refl;
        stored = refl;
        bit_is = let e : g.inputs + 1 + (l.node - g.inputs - 1) ≡ l.node = omega arith in
            ready.nodes (l.node - g.inputs - 1) (omega arith) ∙ ap (values g bits) e
            ∙ sym (complemented-value l.node l.inverted (values g bits l.node) (omega arith));
      })
    ]

into-lines : (rows : Rows) (l : Lit) → lines_of (place rows (into_of l))
    ≡ record { cell = Dcc 0; inverted = is_complemented l } ∷ []
into-lines rows l = grind arith

flip-twice : (i b : Bool) → flip_if i (flip_if i b) ≡ b
flip-twice i b = grind arith

-- a node's commands put its value into the spill row
pub node-puts : (g : Graph) (outs : List OutRow) (rows : Rows) (s : Column) (n m i : ℕ) (t : Column)
    (x : Node) → IsReady g outs rows s n m t → AreApart rows g.inputs outs → n ≤ 32
    → IsLower (g.inputs + 1 + n) x → is_complemented x.b ≡ false → is_complemented x.c ≡ false
    → Puts rows (node_commands g.inputs x i) t (rows.spill i)
    (node_value (values g (inputs_of rows s)) x)
node-puts g outs rows s n m i t x ready apart small lower tb tc = λ r.
    let bits = inputs_of rows s in
    let a = source-holds g outs rows s n m t x.a ready apart small lower.0 in
    let b = rw tb at (source-holds g outs rows s n m t x.b ready apart small lower.1) in
    let c = rw tc at (source-holds g outs rows s n m t x.c ready apart small lower.2) in
    four-commands t (place rows (source_of g.inputs x.a)) (place rows (source_of g.inputs x.b))
    (place rows (source_of g.inputs x.c)) (place rows (into_of x.a)) (is_complemented x.a) a.cell
    b.cell c.cell (rows.spill i) r a.lines b.lines c.lines (into-lines rows x.a) b.stored
    c.stored
    ∙ rw (a.bit_is, b.bit_is, c.bit_is, flip-twice (is_complemented x.a) (value g bits x.a)) refl

-- an output's commands put its value into the spill row
pub stash-puts : (g : Graph) (outs : List OutRow) (rows : Rows) (s : Column) (n m i : ℕ)
    (t : Column) (l : Lit) → IsReady g outs rows s n m t → AreApart rows g.inputs outs → n ≤ 32
    → l.node < g.inputs + 1 + n
    → Puts rows (stash_commands g.inputs l i) t (rows.spill i) (value g (inputs_of rows s) l)
stash-puts g outs rows s n m i t l ready apart small below =
    λ r. by-turn (is_complemented l) (source-holds g outs rows s n m t l ready apart small below) r
  where
    by-turn : (b : Bool) → Holds rows t (source_of g.inputs l)
        (flip_if b (value g (inputs_of rows s) l)) → (r : ℕ)
        → run_body rows (if b then Aap (source_of g.inputs l) (B 5) ∷ Aap (B 4) (Spill i) ∷ []
        else Aap (source_of g.inputs l) (Spill i) ∷ []) t (D r)
        ≡ (if rows.spill i == r then value g (inputs_of rows s) l else t (D r))
    by-turn true h r = not-commands t (place rows (source_of g.inputs l)) h.cell (rows.spill i) r
        h.lines ∙ rw (h.bit_is, flip-twice true (value g (inputs_of rows s) l)) refl
    by-turn false h r = copy-command t (place rows (source_of g.inputs l)) h.cell (rows.spill i) r
        h.lines ∙ rw h.bit_is refl
