use Rattle.verify_core.proofs.Common.{◌≡◌, ◌∙◌, ◌+◌, ap, arith, range_with_len, bit_number, Cell, D}
use Rattle.verify_core.proofs.Common.{Edge, Node, assigned, AreCells, Cells, column_of, edge_at}
use Rattle.verify_core.proofs.Common.{◌-◌, ◌<◌, ◌≤◌, ◌^◌, ℕ, Bool, List, length, map}
use Rattle.bit_rows.specs.Bits.{value}
use Rattle.bdd.specs.Graphs.{value as value_of}
use Rattle.verify_core.proofs.Steps.{number-more, number-small}
use Rattle.verify_core.proofs.case.number.Goals as goal

named-at : (ns : List Node) (s : Cells) (cell : Cell) (e : Edge) → AreCells ns s → e ≡ edge_at s cell
    → e.node < length ns
named-at ns s cell e all is = rw is (all cell)

pub evaluate-bit-requires : goal.evaluate-bit-requires
evaluate-bit-requires c = named-at c.args.diagram.now.nodes c.args.column.now
    (D (c.args.base + c.from.result)) c.cell.result c.requires.cells c.cell.ensures

small-total : (f : ℕ → Bool) (base n k total : ℕ) → n ≤ 128 → 0 < k
    → total ≡ value (map f (range_with_len (base + k) (n - k))) → total < 2 ^ 127
small-total f base n k total narrow some is =
    rw is (number-small f (base + k) (n - k) 127 (omega arith))

pub overflow_mul-total : goal.overflow_mul-total
overflow_mul-total c =
    let s = column_of c.args.diagram.now.nodes (assigned c.args.path.now) c.args.column.now in
    let small : c.loop-k.total < 2 ^ 127 =
    small-total (λ row. s (D row)) c.args.base c.args.n c.loop-k.k c.loop-k.total
    (omega (arith, c.requires.narrow)) (omega (arith, c.loop-k-test.true)) c.loop-k.invariant.total in
    omega (arith, small)

pub overflow_add-total : goal.overflow_add-total
overflow_add-total c =
    let s = column_of c.args.diagram.now.nodes (assigned c.args.path.now) c.args.column.now in
    let small : c.loop-k.total < 2 ^ 127 =
    small-total (λ row. s (D row)) c.args.base c.args.n c.loop-k.k c.loop-k.total
    (omega (arith, c.requires.narrow)) (omega (arith, c.loop-k-test.true)) c.loop-k.invariant.total in
    omega (arith, small, c.bit_value.ensures.small)

-- the bit that was read
bit-at : (ns : List Node) (bits : ℕ → Bool) (s : Cells) (row at v : ℕ) (e : Edge) (b : Bool)
    → v ≡ bit_number b → b ≡ value_of ns bits e → e ≡ edge_at s (D at) → at ≡ row
    → v ≡ bit_number (column_of ns bits s (D row))
bit-at ns bits s row at v e b p q r t = p ∙ ap bit_number (q ∙ ap (value_of ns bits) r
    ∙ ap (λ (k : ℕ). column_of ns bits s (D k)) t)

pub loop-k-preserved : goal.loop-k-preserved
loop-k-preserved c =
    let s = column_of c.args.diagram.now.nodes (assigned c.args.path.now) c.args.column.now in
    let k = c.loop-k.k in
    let bit : c.bit_value.result ≡ bit_number (s (D (c.args.base + (k - 1)))) =
    bit-at c.args.diagram.now.nodes (assigned c.args.path.now) c.args.column.now
    (c.args.base + (k - 1)) (c.args.base + c.from.result) c.bit_value.result c.cell.result
    c.evaluate-bit.result c.bit_value.ensures.value c.evaluate-bit.ensures c.cell.ensures
    (omega arith) in
    record {
      within = omega (arith, c.loop-k.invariant.within);
      total = omega (
        arith,
        bit,
        c.loop-k.invariant.total,
        number-more (λ row. s (D row)) c.args.base c.args.n k (omega (arith, c.loop-k-test.true))
            c.loop-k.invariant.within,
      );
    }
