use Rattle.std.proofs.Common.{◌≡◌, ℕ, ◌*◌, ◌∙◌, ap, sym, length, arith}
use Rattle.std.proofs.lemmas.List.{length-map}
use Rattle.dram_model.specs.Column.{read}
use Rattle.dram_model.specs.declared.address.Line.{Line}
use Rattle.dram_chip.specs.declared.b_group.Wire.{Wire}
use Rattle.dram_chip.specs.Rows.{column_at, column_in, place}
use Rattle.dram_chip.proofs.Cells.{column-with, ready-with, rows-apart}
use Rattle.dram_chip.proofs.Wordlines.{line_at, wire_at, lines_in, wire-line, kept-wire, one-stepped}
use Rattle.dram_chip.proofs.Wordlines.{one-sensed, three-stepped, raised-three, third-low}
use Rattle.dram_chip.proofs.Wordlines.{three-constants}
use Rattle.dram_chip.proofs.bank.Bank.activate.Goals as goal

pub wire_start-r-requires-clause-cell : goal.wire_start-r-requires-clause-cell
wire_start-r-requires-clause-cell c = (kept-wire c.args.self.now.rows c.in-B.k 2 c.args.x
    c.b_wires-raised.result.now
    (record { group = c.in-B.is; range = c.requires.range; lines = c.b_wires-raised.ensures.lines })
    (omega (arith, c.if-raised-eq3.true))).0

pub settle_rows-requires-clause-a : goal.settle_rows-requires-clause-a
settle_rows-requires-clause-a c =
    let wires = c.b_wires-raised.result.now in
    let lines = lines_in wires in
    let count : length lines ≡ 3 = length-map wires (λ (w : Wire). w.line) ∙ c.if-raised-eq3.true in
    let n = c.args.self.now.words in
    let at : (i : ℕ) → n * place (wire_at wires i).line.cell ≡ n * place (line_at lines i).cell =
    λ i. ap (λ (l : Line). n * place l.cell) (wire-line wires i) in
    let three = raised-three c.args.self.now.rows c.in-B.k c.args.x lines
    (record { group = c.in-B.is; range = c.requires.range; lines = c.b_wires-raised.ensures.lines }) count in
    let apart = rows-apart n (place (line_at lines 0).cell) (place (line_at lines 1).cell)
    three.before in
    let p = c.wire_start-p.ensures.start ∙ at 0 in
    let q = c.wire_start-q.ensures.start ∙ at 1 in
    omega (arith, apart, p, q)

pub settle_rows-requires-clause-b : goal.settle_rows-requires-clause-b
settle_rows-requires-clause-b c =
    let wires = c.b_wires-raised.result.now in
    let lines = lines_in wires in
    let count : length lines ≡ 3 = length-map wires (λ (w : Wire). w.line) ∙ c.if-raised-eq3.true in
    let n = c.args.self.now.words in
    let at : (i : ℕ) → n * place (wire_at wires i).line.cell ≡ n * place (line_at lines i).cell =
    λ i. ap (λ (l : Line). n * place l.cell) (wire-line wires i) in
    let three = raised-three c.args.self.now.rows c.in-B.k c.args.x lines
    (record { group = c.in-B.is; range = c.requires.range; lines = c.b_wires-raised.ensures.lines }) count in
    let apart = rows-apart n (place (line_at lines 1).cell) (place (line_at lines 2).cell)
    three.after in
    let q = c.wire_start-q.ensures.start ∙ at 1 in
    let r = c.wire_start-r.ensures.start ∙ at 2 in
    omega (arith, apart, q, r)

pub returns-then-raised-eq3-clause-ready : goal.returns-then-raised-eq3-clause-ready
returns-then-raised-eq3-clause-ready c =
    let wires = c.b_wires-raised.result.now in
    let lines = lines_in wires in
    let count : length lines ≡ 3 = length-map wires (λ (w : Wire). w.line) ∙ c.if-raised-eq3.true in
    let n = c.args.self.now.words in
    let at : (i : ℕ) → n * place (wire_at wires i).line.cell ≡ n * place (line_at lines i).cell =
    λ i. ap (λ (l : Line). n * place l.cell) (wire-line wires i) in
    ready-with c.args.self.now c.settle_rows.new.all c.requires.ready
    (c.settle_rows.ensures.length ∙ ap length c.deref_mut.ensures.value)
    (three-constants n c.wire_start-p.result c.wire_start-q.result c.wire_start-r.result lines
    c.args.self.now.all.items c.deref_mut.result.now c.settle_rows.new.all
    (raised-three c.args.self.now.rows c.in-B.k c.args.x lines
    (record { group = c.in-B.is; range = c.requires.range; lines = c.b_wires-raised.ensures.lines }) count)
    (third-low c.args.self.now.rows c.in-B.k c.args.x lines
    (record { group = c.in-B.is; range = c.requires.range; lines = c.b_wires-raised.ensures.lines }) count)
    (record {
      count = count;
      was = c.deref_mut.ensures.value;
      at_p = c.wire_start-p.ensures.start ∙ at 0;
      at_q = c.wire_start-q.ensures.start ∙ at 1;
      at_r = c.wire_start-r.ensures.start ∙ at 2;
      settled = c.settle_rows.ensures.settled;
    }) c.requires.ready.constant)

pub returns-then-raised-eq3-clause-cell : goal.returns-then-raised-eq3-clause-cell
returns-then-raised-eq3-clause-cell c = (kept-wire c.args.self.now.rows c.in-B.k 0 c.args.x
    c.b_wires-raised.result.now
    (record { group = c.in-B.is; range = c.requires.range; lines = c.b_wires-raised.ensures.lines })
    (omega (arith, c.if-raised-eq3.true))).0

pub returns-then-raised-eq3-clause-stepped : goal.returns-then-raised-eq3-clause-stepped
returns-then-raised-eq3-clause-stepped c = λ k h.
    let wires = c.b_wires-raised.result.now in
    let lines = lines_in wires in
    let count : length lines ≡ 3 = length-map wires (λ (w : Wire). w.line) ∙ c.if-raised-eq3.true in
    let n = c.args.self.now.words in
    let at : (i : ℕ) → n * place (wire_at wires i).line.cell ≡ n * place (line_at lines i).cell =
    λ i. ap (λ (l : Line). n * place l.cell) (wire-line wires i) in
    column-with c.args.self.now c.settle_rows.new.all k
    (c.settle_rows.ensures.length ∙ ap length c.deref_mut.ensures.value)
    ∙ (three-stepped c.args.self.now.rows c.args.self.now.words c.in-B.k k c.wire_start-p.result
    c.wire_start-q.result c.wire_start-r.result c.args.self.now.all.items c.deref_mut.result.now
    c.settle_rows.new.all c.args.x lines
    (record { group = c.in-B.is; range = c.requires.range; lines = c.b_wires-raised.ensures.lines })
    (record {
      count = count;
      was = c.deref_mut.ensures.value;
      at_p = c.wire_start-p.ensures.start ∙ at 0;
      at_q = c.wire_start-q.ensures.start ∙ at 1;
      at_r = c.wire_start-r.ensures.start ∙ at 2;
      settled = c.settle_rows.ensures.settled;
    }) h).0

pub returns-then-raised-eq3-clause-sensed : goal.returns-then-raised-eq3-clause-sensed
returns-then-raised-eq3-clause-sensed c = λ k h.
    let wires = c.b_wires-raised.result.now in
    let lines = lines_in wires in
    let count : length lines ≡ 3 = length-map wires (λ (w : Wire). w.line) ∙ c.if-raised-eq3.true in
    let n = c.args.self.now.words in
    let at : (i : ℕ) → n * place (wire_at wires i).line.cell ≡ n * place (line_at lines i).cell =
    λ i. ap (λ (l : Line). n * place l.cell) (wire-line wires i) in
    ap (λ s. read s (wire_at wires 0).line) (column-with c.args.self.now c.settle_rows.new.all k
    (c.settle_rows.ensures.length ∙ ap length c.deref_mut.ensures.value))
    ∙ ap (read (column_in n c.settle_rows.new.all k)) (wire-line wires 0)
    ∙ (three-stepped c.args.self.now.rows c.args.self.now.words c.in-B.k k c.wire_start-p.result
    c.wire_start-q.result c.wire_start-r.result c.args.self.now.all.items c.deref_mut.result.now
    c.settle_rows.new.all c.args.x lines
    (record { group = c.in-B.is; range = c.requires.range; lines = c.b_wires-raised.ensures.lines })
    (record {
      count = count;
      was = c.deref_mut.ensures.value;
      at_p = c.wire_start-p.ensures.start ∙ at 0;
      at_q = c.wire_start-q.ensures.start ∙ at 1;
      at_r = c.wire_start-r.ensures.start ∙ at 2;
      settled = c.settle_rows.ensures.settled;
    }) h).1

pub returns-else-raised-eq3-clause-stepped : goal.returns-else-raised-eq3-clause-stepped
returns-else-raised-eq3-clause-stepped c = λ k h. one-stepped c.args.self.now.rows c.in-B.k c.args.x
    (lines_in c.b_wires-raised.result.now) (column_at c.args.self.now k)
    (record { group = c.in-B.is; range = c.requires.range; lines = c.b_wires-raised.ensures.lines })
    c.requires.first (λ e. c.if-raised-eq3.false
    (sym (length-map c.b_wires-raised.result.now (λ (w : Wire). w.line)) ∙ e))

pub returns-else-raised-eq3-clause-sensed : goal.returns-else-raised-eq3-clause-sensed
returns-else-raised-eq3-clause-sensed c = λ k h.
    ap (read (column_at c.args.self.now k)) (wire-line c.b_wires-raised.result.now 0)
    ∙ one-sensed c.args.self.now.rows c.in-B.k c.args.x
    (lines_in c.b_wires-raised.result.now) (column_at c.args.self.now k)
    (record { group = c.in-B.is; range = c.requires.range; lines = c.b_wires-raised.ensures.lines })
    c.requires.first (λ e. c.if-raised-eq3.false
    (sym (length-map c.b_wires-raised.result.now (λ (w : Wire). w.line)) ∙ e))
