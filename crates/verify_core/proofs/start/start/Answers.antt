use Rattle.verify_core.proofs.Common.{◌≡◌, ◌∙◌, ◌+◌, ap, arith, below_more, T, Dcc, D, value}
use Rattle.verify_core.proofs.Common.{keeps-both, edge_at, ◌≢◌, ◌<◌, ℕ, Bool}
use Rattle.std.proofs.Common.{refl, eq-eqb}
use Rattle.std.proofs.lemmas.Bool.{ne_eqb}
use Rattle.verify_core.specs.Starts.{IsMeant, row_variable}
use Rattle.verify_core.proofs.start.start.Goals as goal

apart : (i k : ℕ) → i < k → k ≢ i
apart i k l e = omega arith

same-place : (a b d i n s r k : ℕ) → a ≡ n → b ≡ s → d ≡ r → i ≡ k
    → 6 + row_variable a b d i ≡ 6 + row_variable n s r k
same-place a b d i n s r k p q t u = rw (p, q, t, u) refl

pub loop-k-preserved : goal.loop-k-preserved
loop-k-preserved c =
    let was = c.loop-k.invariant in
    let put = c.in_ok-put.ensures in
    let k = c.loop-k.k in
    let e : c.from.result ≡ k = omega arith in
    record {
      nodes = put.nodes;
      cells = put.cells;
      keeps = keeps-both c.args.diagram.now.nodes c.loop-k.diagram.nodes c.put.new.diagram.nodes
          was.keeps put.keeps;
      limits = put.limits ∙ was.limits;
      long = put.rows ∙ was.long;
      tees = below_more (λ i. (bits : ℕ → Bool)
          → IsMeant c.args.begin bits → value c.put.new.diagram.nodes bits (edge_at c.put.new.column (T i)) ≡ bits i) k
          (λ i l bits m. put.others (T i) (ne_eqb k i (apart i k l)) bits ∙ was.tees i l bits m)
          (λ bits m. put.here (T k) (eq-eqb k k refl) bits m ∙ ap bits e);
    }

pub loop-j-preserved : goal.loop-j-preserved
loop-j-preserved c =
    let was = c.loop-j.invariant in
    let put = c.in_ok-put-2.ensures in
    let k = c.loop-j.j in
    let e : 4 + c.from-in-loop-j.result ≡ 4 + k = omega arith in
    record {
      nodes = put.nodes;
      cells = put.cells;
      keeps = keeps-both c.args.diagram.now.nodes c.loop-j.diagram.nodes
          c.put-in-loop-j.new.diagram.nodes was.keeps put.keeps;
      limits = put.limits ∙ was.limits;
      long = put.rows ∙ was.long;
      tees = λ i l bits m. put.others (T i) refl bits ∙ was.tees i l bits m;
      duals = below_more (λ i. (bits : ℕ → Bool)
          → IsMeant c.args.begin bits → value c.put-in-loop-j.new.diagram.nodes bits
          (edge_at c.put-in-loop-j.new.column (Dcc i)) ≡ bits (4 + i)) k
          (λ i l bits m. put.others (Dcc i) (ne_eqb k i (apart i k l)) bits ∙ was.duals i l bits m)
          (λ bits m. put.here (Dcc k) (eq-eqb k k refl) bits m ∙ ap bits e);
    }

pub loop-row-preserved : goal.loop-row-preserved
loop-row-preserved c =
    let was = c.loop-row.invariant in
    let put = c.in_ok-put-3.ensures in
    let k = c.loop-row.row in
    let e : 6 + c.row_variable-place.result
    ≡ 6 + row_variable c.args.n c.args.sources c.args.results k =
    ap (λ v. 6 + v) c.row_variable-place.ensures.value
    ∙ same-place c.from-in-loop-row.result c.from-in-loop-row-2.result c.from-in-loop-row-3.result
    c.from-in-loop-row-4.result c.args.n c.args.sources c.args.results k (omega arith) (omega arith)
    (omega arith) (omega arith) in
    record {
      nodes = put.nodes;
      cells = put.cells;
      keeps = keeps-both c.args.diagram.now.nodes c.loop-row.diagram.nodes
          c.put-in-loop-row.new.diagram.nodes was.keeps put.keeps;
      limits = put.limits ∙ was.limits;
      long = put.rows ∙ was.long;
      tees = λ i l bits m. put.others (T i) refl bits ∙ was.tees i l bits m;
      duals = λ i l bits m. put.others (Dcc i) refl bits ∙ was.duals i l bits m;
      placed = below_more (λ i. (bits : ℕ → Bool)
          → IsMeant c.args.begin bits → value c.put-in-loop-row.new.diagram.nodes bits
          (edge_at c.put-in-loop-row.new.column (D i))
          ≡ bits (6 + row_variable c.args.n c.args.sources c.args.results i)) k
          (λ i l bits m. put.others (D i) (ne_eqb k i (apart i k l)) bits ∙ was.placed i l bits m)
          (λ bits m. put.here (D k) (eq-eqb k k refl) bits m ∙ ap bits e);
    }
