use Rattle.verify_core.proofs.Common.{◌≡◌, ◌∙◌, ◌+◌, sym, arith, below_more, false≢true, D, flip_if}
use Rattle.verify_core.proofs.Common.{Edge, Node, constant, AreNodes, Keeps, value, keeps-both}
use Rattle.verify_core.proofs.Common.{value-kept, value-zero, edge_at, column_of, AreCells, Cells}
use Rattle.verify_core.proofs.Common.{◌<◌, ℕ, Bool, true, false, List, length}
use Rattle.std.proofs.Common.{refl}
use Rattle.verify_core.proofs.compare.first_difference.Goals as goal

named-at : (x y : List Node) (s : Cells) (row : ℕ) (e : Edge) → AreCells x s → Keeps x y
    → e ≡ edge_at s (D row) → e.node < length y
named-at x y s row e all k is = rw is (omega (arith, all (D row), k.longer))

pub xor-requires-clause-first : goal.xor-requires-clause-first
xor-requires-clause-first c = named-at c.args.diagram.now.nodes c.loop-k.diagram.nodes
    c.args.own.now (c.args.first + c.from.result) c.cell.result c.requires.own
    c.loop-k.invariant.keeps c.cell.ensures

pub xor-requires-clause-second : goal.xor-requires-clause-second
xor-requires-clause-second c = named-at c.args.diagram.now.nodes c.loop-k.diagram.nodes
    c.args.made.now (c.args.first + c.from.result) c.cell-in-loop-k.result c.requires.made
    c.loop-k.invariant.keeps c.cell-in-loop-k.ensures

-- the difference, by the rows as they stood
by-rows : (x y z : List Node) (own made : Cells) (row at : ℕ) (a b e : Edge) → at ≡ row → Keeps x y
    → AreCells x own → AreCells x made → a ≡ edge_at own (D at) → b ≡ edge_at made (D at)
    → ((bits : ℕ → Bool) → value z bits e ≡ flip_if (value y bits a) (value y bits b))
    → (bits : ℕ → Bool) → value z bits e
    ≡ flip_if (column_of x bits own (D row)) (column_of x bits made (D row))
by-rows x y z own made row at a b e same k p q i j h bits =
    h bits ∙ rw (
      i,
      j,
      same,
      value-kept x y bits (edge_at own (D row)) k (p (D row)),
      value-kept x y bits (edge_at made (D row)) k (q (D row)),
    ) refl

no-difference : (a b : Bool) → flip_if a b ≡ false → a ≡ b
no-difference true true h = refl
no-difference true false h = absurd (false≢true (sym h))
no-difference false b h = sym h

constant-false : (ns : List Node) (bits : ℕ → Bool) (e : Edge) → AreNodes ns → e ≡ constant false
    → value ns bits e ≡ false
constant-false ns bits e h is = rw is (value-zero ns bits h)

pub returns-then-not-is_false-clause-some : goal.returns-then-not-is_false-clause-some
returns-then-not-is_false-clause-some c = (
  c.loop-k.k,
  c.loop-k-test.true,
  record {
    named = c.in_ok-e.ensures.named;
    some = c.is_false.ensures.apart c.if-not-is_false.true;
    value = by-rows c.args.diagram.now.nodes c.loop-k.diagram.nodes c.xor.new.self.nodes
        c.args.own.now c.args.made.now (c.args.first + c.loop-k.k) (c.args.first + c.from.result)
        c.cell.result c.cell-in-loop-k.result c.in_ok-e.e (omega arith) c.loop-k.invariant.keeps
        c.requires.own c.requires.made c.cell.ensures c.cell-in-loop-k.ensures
        c.in_ok-e.ensures.value;
  },
)

pub loop-k-preserved : goal.loop-k-preserved
loop-k-preserved c =
    let x = c.args.diagram.now.nodes in
    let z = c.xor.new.self.nodes in
    let k = c.loop-k.k in
    let same : c.in_ok-e.e ≡ constant false = c.is_false.ensures.same c.if-not-is_false.false in
    record {
      nodes = c.in_ok-e.ensures.nodes;
      keeps = keeps-both x c.loop-k.diagram.nodes z c.loop-k.invariant.keeps
          c.in_ok-e.ensures.keeps;
      limits = c.in_ok-e.ensures.limits ∙ c.loop-k.invariant.limits;
      agree = λ bits. below_more (λ i. column_of x bits c.args.own.now (D (c.args.first + i))
          ≡ column_of x bits c.args.made.now (D (c.args.first + i))) k
          (c.loop-k.invariant.agree bits)
          (no-difference (column_of x bits c.args.own.now (D (c.args.first + k)))
          (column_of x bits c.args.made.now (D (c.args.first + k)))
          (sym (by-rows x c.loop-k.diagram.nodes z c.args.own.now c.args.made.now
          (c.args.first + k) (c.args.first + c.from.result) c.cell.result
          c.cell-in-loop-k.result c.in_ok-e.e (omega arith) c.loop-k.invariant.keeps
          c.requires.own c.requires.made c.cell.ensures c.cell-in-loop-k.ensures
          c.in_ok-e.ensures.value bits)
          ∙ constant-false z bits c.in_ok-e.e c.in_ok-e.ensures.nodes same));
    }
