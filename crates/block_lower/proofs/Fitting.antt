-- A graph of which no body is made has none that may stand for it and of which one is made.
use Rattle.block_lower.proofs.Common.{◌≡◌, ℕ, zero, suc, ◌<◌, ◌≤◌, List, [], ◌∷◌, length, refl, sym}
use Rattle.block_lower.proofs.Common.{ap, ◌∙◌, subst, arith, inl, inr, Some, Lit, Graph, size_of}
use Rattle.block_lower.proofs.Common.{lit_at, AreNamed, KeepsOutputs, BodyCmd, OutRow, out_at}
use Rattle.block_lower.proofs.Common.{FitBody, Place, AreRows}
use Rattle.block_lower.specs.Choice.{AreFor, IsUnfit}

-- the same rows for other literals
relit : List Lit → List OutRow → List OutRow
relit [] os = []
relit (l ∷ ls) [] = []
relit (l ∷ ls) (o ∷ os) = record { lit = l; same = o.same } ∷ relit ls os

relit_long : (ls : List Lit) (os : List OutRow) → length os ≡ length ls
    → length (relit ls os) ≡ length ls
unfolding relit
relit_long [] os e = refl
relit_long (l ∷ ls) [] e = absurd (omega (arith, e))
relit_long (l ∷ ls) (o ∷ os) e = ap suc (relit_long ls os (omega (arith, e)))

relit_lit : (ls : List Lit) (os : List OutRow) → length os ≡ length ls → (j : ℕ) → j < length ls
    → (out_at (relit ls os) j).lit ≡ lit_at ls j
unfolding relit
relit_lit [] os e j lt = absurd (omega (arith, lt))
relit_lit (l ∷ ls) [] e j lt = absurd (omega (arith, e))
relit_lit (l ∷ ls) (o ∷ os) e zero lt = refl
relit_lit (l ∷ ls) (o ∷ os) e (suc j) lt = relit_lit ls os (omega (arith, e)) j (omega (arith, lt))

relit_same : (ls : List Lit) (os : List OutRow) → length os ≡ length ls → (j : ℕ) → j < length ls
    → (out_at (relit ls os) j).same ≡ (out_at os j).same
unfolding relit
relit_same [] os e j lt = absurd (omega (arith, lt))
relit_same (l ∷ ls) [] e j lt = absurd (omega (arith, e))
relit_same (l ∷ ls) (o ∷ os) e zero lt = refl
relit_same (l ∷ ls) (o ∷ os) e (suc j) lt =
    relit_same ls os (omega (arith, e)) j (omega (arith, lt))

module _ (reads writes : List Place) (g : Graph) (outs : List Lit) (h : Graph) (made : List Lit)
    (keeps : KeepsOutputs g outs h made) (named : AreNamed h made)
    (count : length h.nodes ≤ length g.nodes) (rows : List OutRow)
    (are : AreRows reads writes h.inputs made (length made) rows) where
  abbrev own : List OutRow
  own = relit outs rows

  long : length rows ≡ length outs
  long = are.size ∙ keeps.long

  own_long : length own ≡ length outs
  own_long = relit_long outs rows long

  below : (j : ℕ) → j < length own → j < length outs
  below j lt = omega (arith, lt, own_long)

  below_rows : (j : ℕ) → j < length own → j < length rows
  below_rows j lt = omega (arith, lt, own_long, long)

  same_row : (j : ℕ) → j < length own → (out_at own j).same ≡ (out_at rows j).same
  same_row j lt = relit_same outs rows long j (below j lt)

  own_input : (k : ℕ) → k < h.inputs → k < g.inputs
  own_input k lt = let i = keeps.inputs in omega (arith, lt, i)

  its_input : (k : ℕ) → k < g.inputs → k < h.inputs
  its_input k lt = let i = keeps.inputs in omega (arith, lt, i)

  own_rows : AreRows reads writes g.inputs outs (length outs) own
  own_rows = record {
    size = own_long;
    lits = λ j lt. relit_lit outs rows long j (below j lt);
    found = λ j k lt e. let f = are.found j k (below_rows j lt) (sym (same_row j lt) ∙ e) in
        (own_input k f.0, f.1);
    first = λ i j k lt e. are.first i j k (below_rows j lt) (sym (same_row j lt) ∙ e);
    none = λ j lt e k lk. are.none j (below_rows j lt) (sym (same_row j lt) ∙ e) k
        (its_input k lk);
  }

  still_fit : FitBody g own → FitBody h rows
  still_fit f = record {
    inputs = let a = f.inputs in let i = keeps.inputs in omega (arith, a, i);
    outputs = let a = f.outputs in omega (arith, a, own_long, long);
    rows = let a = f.rows in omega (arith, a, count, own_long, long);
    named = λ j lt. subst (λ (l : Lit). l.node < size_of h) (sym (are.lits j lt))
        (named j (let s = are.size in omega (arith, lt, s)));
    same = λ j k lt e. (are.found j k lt e).0;
    once = λ i j k li lj e d. f.once i j k (omega (arith, li, own_long, long))
        (omega (arith, lj, own_long, long))
        (same_row i (omega (arith, li, own_long, long)) ∙ e)
        (same_row j (omega (arith, lj, own_long, long)) ∙ d);
  }

-- where no body is made of a graph that may stand for another, none is made of that
pub unfit_first : (reads writes : List Place) (g : Graph) (outs : List Lit) (h : Graph)
    (made : List Lit) → KeepsOutputs g outs h made → AreNamed h made
    → length h.nodes ≤ length g.nodes → IsUnfit reads writes h made → IsUnfit reads writes g outs
unfit_first reads writes g outs h made keeps named count u = record {
  rows = own reads writes g outs h made keeps named count u.rows u.are;
  are = own_rows reads writes g outs h made keeps named count u.rows u.are;
  unfit = λ f. u.unfit (still_fit reads writes g outs h made keeps named count u.rows u.are f);
}

-- what is left stands for itself
pub left-own : (reads writes : List Place) (g : Graph) (outs : List Lit) (h : Graph)
    (made : List Lit) (cmds : List BodyCmd) → AreFor reads writes g outs h made cmds
    → AreFor reads writes h made h made cmds
left-own reads writes g outs h made cmds (inl f) = inl f
left-own reads writes g outs h made cmds (inr l) = inr (record {
  unfit = subst (λ x. IsUnfit reads writes x made) (sym l.same)
      (subst (IsUnfit reads writes g) (sym l.same_outs) l.unfit);
  same = refl;
  same_outs = refl;
  none = l.none;
})
