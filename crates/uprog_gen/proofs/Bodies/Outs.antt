-- Each body has rows for its outputs, and its commands do it with these.
use Rattle.uprog_gen.proofs.Common.{◌≡◌, ℕ, zero, suc, ◌+◌, ◌<◌, ◌≤◌, Bool, true, false, List, []}
use Rattle.uprog_gen.proofs.Common.{◌∷◌, ◌++◌, length, Option, Some, None, refl, subst, ⊎_elim}
use Rattle.uprog_gen.proofs.Common.{arith, ◌==◌, ◌&&◌, slice_index_or, and_parts, cases_eq}
use Rattle.uprog_gen.proofs.Common.{eqb-true, nat_tests, Lit, lit_at, Space, Sub, Place, Block}
use Rattle.uprog_gen.proofs.Common.{nth_place, row_count, enters, leaves, IsSmall}
use Rattle.std.proofs.Common.{◌≢◌}
use Rattle.std.specs.Prelude.{IfSome, IfNone}
use Rattle.row_alloc.specs.declared.body.OutRow.{OutRow}
use Rattle.row_alloc.specs.Held.{DoesHeld}
use Rattle.loop_ir.specs.Spots.{same_space}
use Rattle.loop_ir.specs.Costs.{same_sub}
use Rattle.loop_ir.specs.Outputs.{IsOuts}
use Rattle.loop_ir.proofs.Outs.{rows-next}
use Rattle.loop_laws.proofs.Same.{sub_true}

-- both are one place
abbrev same_place : Place → Place → Bool
same_place p q = same_space p.space q.space && (p.which == q.which && same_sub p.sub q.sub)

space_true : (a b : Space) → same_space a b ≡ true → a ≡ b
space_true a b e = grind arith

space_same : (a : Space) → same_space a a ≡ true
space_same a = grind arith

same_parts : (a b : Space) (v w : ℕ) (x y : Sub) → a ≡ b → v ≡ w → x ≡ y
    → ◌≡◌ {A = Place} (record { space = a; which = v; sub = x })
    (record { space = b; which = w; sub = y })
same_parts a b v w x y e f g = cc

place_true : (p q : Place) → same_place p q ≡ true → p ≡ q
place_true p q e =
    let h = and_parts (same_space p.space q.space) (p.which == q.which && same_sub p.sub q.sub) e in
    let k = and_parts (p.which == q.which) (same_sub p.sub q.sub) h.1 in
    same_parts p.space q.space p.which q.which p.sub q.sub (space_true p.space q.space h.0)
    (eqb-true p.which q.which k.0) (sub_true p.sub q.sub k.1)

place_same : (p q : Place) → p ≡ q → same_place p q ≡ true
place_same p q e = rw (← e, space_same p.space) (grind (arith, nat_tests))

-- the first of so many inputs that is read at a place, if there is one
pub record First (reads : List Place) (p : Place) (inputs : ℕ) : Type 0 where
  pub same : Option ℕ
  pub found : IfSome same (λ k. (k < inputs) × (nth_place reads k ≡ p))
  pub first : IfSome same (λ k. (i : ℕ) → i < k → nth_place reads i ≢ p)
  pub none : IfNone same ((k : ℕ) → k < inputs → nth_place reads k ≢ p)

module _ (reads : List Place) (p : Place) where
  one_more : (m : ℕ) (same : Option ℕ) → IfSome same (λ k. (k < m) × (nth_place reads k ≡ p))
      → IfSome same (λ k. (i : ℕ) → i < k → nth_place reads i ≢ p)
      → IfNone same ((k : ℕ) → k < m → nth_place reads k ≢ p) → (c : Bool)
      → same_place (nth_place reads m) p ≡ c → First reads p (suc m)
  one_more m (Some k) f s n c e = record {
    same = Some k;
    found = (omega (arith, f.0), f.1);
    first = s;
    none = tt;
  }
  one_more m None f s n true e = record {
    same = Some m;
    found = (omega arith, place_true (nth_place reads m) p e);
    first = n;
    none = tt;
  }
  one_more m None f s n false e = record {
    same = None;
    found = tt;
    first = tt;
    none = λ k lt h. ⊎_elim
        (λ (i : k ≡ m). let t = place_same (nth_place reads m) p
        (subst (λ j. nth_place reads j ≡ p) i h) in cc)
        (λ (d : k ≡ m → ⊥). n k (omega (arith, lt)) h)
        (cases_eq k m);
  }

  pub first_read : (inputs : ℕ) → First reads p inputs
  first_read zero = record {
    same = None;
    found = tt;
    first = tt;
    none = λ k lt e. absurd (omega (arith, lt));
  }
  first_read (suc m) =
      let f = first_read m in
      one_more m f.same f.found f.first f.none (same_place (nth_place reads m) p) refl

-- the rows of the first outputs, so many
abbrev rows_of : Block → ℕ → List OutRow
rows_of b zero = []
rows_of b (suc m) = rows_of b m ++ record {
  lit = lit_at b.outs m;
  same = (first_read b.reads (nth_place b.writes m) b.graph.inputs).same;
} ∷ []

lit_here : (ls : List Lit) (j : ℕ) → lit_at ls j ≡ slice_index_or ls j (lit_at ls j)
lit_here [] j = refl
lit_here (l ∷ ls) zero = refl
lit_here (l ∷ ls) (suc j) = lit_here ls j

are_rows : (b : Block) (m : ℕ) → m ≤ length b.outs → IsOuts b m (rows_of b m)
are_rows b zero le = record {
  size = refl;
  lits = λ j lt. absurd (omega (arith, lt));
  found = λ j k lt e. absurd (omega (arith, lt));
  first = λ i j k lt e l. absurd (omega (arith, lt));
  none = λ j lt e k l. absurd (omega (arith, lt));
}
are_rows b (suc m) le =
    let f = first_read b.reads (nth_place b.writes m) b.graph.inputs in
    let one : m + 1 ≡ suc m = omega arith in
    subst (λ k. IsOuts b k (rows_of b (suc m))) one
    (rows-next b.reads b.writes b.graph.inputs b.outs m (rows_of b m) (rows_of b (suc m))
    (lit_at b.outs m) f.same (nth_place b.writes m) refl (are_rows b m (omega (arith, le))) refl
    (omega (arith, le)) (lit_here b.outs m) f.found f.first f.none)

pub row_few : (ps : List Place) → row_count ps ≤ length ps
row_few [] = omega arith
row_few (p ∷ ps) = grind (arith, row_few ps)

-- the rows of the outputs that are no states
unfoldable pub outs_of : Block → List OutRow
outs_of b = rows_of b (row_count b.writes)

pub own_outs : (b : Block) → IsSmall b → IsOuts b (row_count b.writes) (outs_of b)
unfolding outs_of
own_outs b small = are_rows b (row_count b.writes)
    (omega (arith, row_few b.writes, small.states.written))

-- a body's commands do it
pub commands_do : (b : Block) → IsSmall b
    → DoesHeld b.graph (outs_of b) (enters 0 b.reads) (leaves b.writes b.outs) b.found
commands_do b small = small.commands.does (outs_of b) (own_outs b small)
