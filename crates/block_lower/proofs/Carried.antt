-- The commands that a body carries do it, and are few.
use Rattle.block_lower.proofs.Common.{◌≡◌, ℕ, ◌+◌, ◌*◌, ◌<◌, ◌≤◌, Bool, true, false, cond, not}
use Rattle.block_lower.proofs.Common.{List, [], ◌∷◌, length, sym, ap, ◌∙◌, subst, inl, inr, arith}
use Rattle.block_lower.proofs.Common.{◌==◌, ◌&&◌, sum_by, and_parts, and_from, eqb-true, cases_Bool}
use Rattle.block_lower.proofs.Common.{sum_by-cons, Lit, IsGraph, size_of, lit_at, OutRow, out_at}
use Rattle.block_lower.proofs.Common.{FitBody, DoesHeld, Place, AreRows, enters, leaves}
use Rattle.block_lower.proofs.Common.{IsWellFormed, body_cost, is_copy, plain_cost, HasCommands}
use Rattle.block_lower.proofs.Common.{one-rows, HasRows, all_count}
use Rattle.mig_graph.specs.Literals.{is_complemented}
use Rattle.row_alloc.specs.Length.{is_direct, output_length, plain_length}
use Rattle.row_alloc.proofs.Plainly.{plainly}
use Rattle.loop_ir.specs.Plain.{Block as Body}
use Rattle.loop_ir.specs.Outputs.{IsOuts}
use Rattle.loop_laws.proofs.Costing.{rowed-plain}
use Rattle.loop_laws.proofs.Rowed.{have_rows, no_enters, no_leaves}
use Rattle.block_lower.specs.Choice.{HasFound, AreFor}

rows-few : (rows : List OutRow) → sum_by output_length rows ≤ 3 * length rows
rows-few [] = omega arith
rows-few (o ∷ rows) = omega (
  arith,
  sum_by-cons output_length o rows,
  one (is_complemented o.lit),
  rows-few rows,
)
  where
    one : (b : Bool) → cond b 3 2 ≤ 3
    one true = omega arith
    one false = omega arith

-- the plain body of a graph with such rows
module _ (b : Body) (rows : List OutRow)
    (are : AreRows b.reads b.writes b.graph.inputs b.outs (length b.outs) rows) where
  sum-few : sum_by output_length rows ≤ 3 * length b.outs
  sum-few = let s = are.size in omega (arith, rows-few rows, s)

  copy-direct : is_copy b ≡ true → is_direct b.graph rows ≡ true
  copy-direct e =
      let p = and_parts (length b.graph.nodes == 0) ((length b.outs == 1)
      && not (is_complemented (lit_at b.outs 0))) e in
      let q = and_parts (length b.outs == 1) (not (is_complemented (lit_at b.outs 0))) p.1 in
      let n : length rows ≡ 1 = are.size ∙ eqb-true (length b.outs) 1 q.0 in
      and_from (length b.graph.nodes == 0) ((length rows == 1)
      && not (is_complemented (out_at rows 0).lit)) p.0
      (and_from (length rows == 1) (not (is_complemented (out_at rows 0).lit))
      (ap (λ k. k == 1) n)
      (ap (λ l. not (is_complemented l)) (are.lits 0 (omega (arith, n))) ∙ q.1))

  direct-one : is_direct b.graph rows ≡ true → length b.outs ≡ 1
  direct-one e =
      let p = and_parts (length b.graph.nodes == 0) ((length rows == 1)
      && not (is_complemented (out_at rows 0).lit)) e in
      let q = and_parts (length rows == 1) (not (is_complemented (out_at rows 0).lit)) p.1 in
      sym are.size ∙ eqb-true (length rows) 1 q.0

  abbrev many : ℕ
  many = 4 * length b.graph.nodes + sum_by output_length rows

  pub plain-most : plain_length b.graph rows ≤ body_cost b
  plain-most = elim (cases_Bool (is_direct b.graph rows)) [
    | inl e ↦ let l : plain_length b.graph rows ≡ 1 = ap (λ c. cond c 1 many) e in
        let o = direct-one e in omega (arith, l, o)
    | inr e ↦ let l : plain_length b.graph rows ≡ many = ap (λ c. cond c 1 many) e in
        let s = sum-few in omega (arith, l, s)
  ]

  pub plain-few : HasRows b → plain_length b.graph rows ≤ plain_cost b
  plain-few none = elim (cases_Bool (is_copy b)) [
    | inl e ↦ let l : plain_length b.graph rows ≡ 1 = ap (λ c. cond c 1 many) (copy-direct e) in
        let p : plain_cost b ≡ 1 = rowed-plain b none ∙ ap (λ c. cond c 1 (body_cost b)) e in
        omega (arith, l, p)
    | inr e ↦ let p : plain_cost b ≡ body_cost b = rowed-plain b none
        ∙ ap (λ c. cond c 1 (body_cost b)) e in
        let m = plain-most in omega (arith, p, m)
  ]

-- what was found for a body is no more than four commands a node and three an output
pub found-most : (b : Body) → HasFound b.reads b.writes b.graph b.outs b.found
    → length b.found ≤ body_cost b
found-most b h = let f = h.found.few in let p = plain-most b h.rows h.are in omega (arith, f, p)

-- what was found for a body without states does it
pub has-commands : (b : Body) → HasRows b → IsGraph b.graph.inputs b.graph.nodes
    → length b.outs ≡ length b.writes → HasFound b.reads b.writes b.graph b.outs b.found
    → HasCommands b
has-commands b none graph written h =
    let rows = have_rows b none in
    record {
      does = λ outs is.
          let e : outs ≡ h.rows = one-rows b.reads b.writes b.graph.inputs b.outs (length b.outs)
          outs h.rows (subst (λ m. IsOuts b m outs) (all_count b.writes rows.1 ∙ sym written) is)
          h.are in
          subst (λ os. DoesHeld b.graph os (enters 0 b.reads) (leaves b.writes b.outs) b.found)
          (sym e) (subst (λ hs. DoesHeld b.graph h.rows hs (leaves b.writes b.outs) b.found)
          (sym (no_enters b.reads 0 rows.0))
          (subst (λ hs. DoesHeld b.graph h.rows [] hs b.found)
          (sym (no_leaves b.writes b.outs rows.1))
          (plainly b.graph h.rows b.found graph h.found.fit h.found.does)));
      few = let f = h.found.few in let p = plain-few b h.rows h.are none in omega (arith, f, p);
    }

-- commands are found for each body that is well formed and within the limits
module _ (b : Body) (well : IsWellFormed b) (inputs : b.graph.inputs ≤ 80)
    (outputs : length b.outs ≤ 8) (size : length b.graph.nodes + length b.outs ≤ 32) where
  pub fit : (rows : List OutRow)
      → AreRows b.reads b.writes b.graph.inputs b.outs (length b.outs) rows → FitBody b.graph rows
  fit rows are =
      let long = are.size in
      let writes = well.writes in
      record {
        inputs = inputs;
        outputs = omega (arith, outputs, long);
        rows = omega (arith, size, long);
        named = λ j l. subst (λ (lit : Lit). lit.node < size_of b.graph) (sym (are.lits j l))
            (well.named j (omega (arith, l, long)));
        same = λ j k l e. (are.found j k l e).0;
        once = λ i j k li lj e f.
            let p = sym (are.found i k li e).1 ∙ (are.found j k lj f).1 in
            well.apart i j (omega (arith, li, long, writes)) (omega (arith, lj, long, writes)) (
              ap (λ (q : Place). q.space) p,
              ap (λ (q : Place). q.which) p,
            );
      }

  pub is-found : AreFor b.reads b.writes b.graph b.outs b.graph b.outs b.found
      → HasFound b.reads b.writes b.graph b.outs b.found
  is-found (inl h) = h
  is-found (inr u) = absurd (let n = u.unfit in n.unfit (fit n.rows n.are))
