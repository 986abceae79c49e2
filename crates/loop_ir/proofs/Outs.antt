-- The rows of a graph's outputs, one after another.
use Rattle.std.proofs.Common.{◌≡◌, ◌≢◌, ℕ, zero, suc, ◌+◌, ◌<◌, ◌≤◌, List, [], ◌∷◌, ◌++◌, length}
use Rattle.std.proofs.Common.{Option, Some, None, refl, sym, ◌∙◌, subst, ⊎_elim, arith, ap, inl, inr}
use Rattle.std.proofs.Common.{length-append, false}
use Rattle.std.proofs.lemmas.List.{get_or_append_left}
use Rattle.std.specs.Prelude.{slice_index_or, IfSome, IfNone}
use Rattle.std.proofs.Math.Seq.{get_or-append_seam}
use Rattle.std.proofs.lemmas.Bool.{cases_eq, cases_lt}
use Rattle.mig_graph.specs.declared.Lit.{Lit}
use Rattle.mig_graph.specs.Outputs.{lit_at}
use Rattle.row_alloc.specs.declared.body.OutRow.{OutRow}
use Rattle.row_alloc.specs.Rows.{out_at}
use Rattle.loop_ir.specs.declared.ir.Place.{Place}
use Rattle.loop_ir.specs.declared.ir.Space.TheVariants.{Source}
use Rattle.loop_ir.specs.declared.ir.Sub.TheVariants.{Zero as At_zero}
use Rattle.loop_ir.specs.Spots.{nth_place}
use Rattle.loop_ir.specs.Outputs.{AreRows}

pub nth-at : (places : List Place) (k : ℕ) (d : Place) → k < length places
    → slice_index_or places k d ≡ nth_place places k
nth-at [] k d lt = absurd (omega arith)
nth-at (p ∷ ps) zero d lt = refl
nth-at (p ∷ ps) (suc k) d lt = nth-at ps k d (omega arith)

pub nth-beyond : (places : List Place) (k : ℕ) → length places ≤ k
    → nth_place places k ≡ record { space = Source; which = 0; sub = At_zero }
nth-beyond [] k le = refl
nth-beyond (p ∷ ps) zero le = absurd (omega arith)
nth-beyond (p ∷ ps) (suc k) le = nth-beyond ps k (omega arith)

lit-here : (ls : List Lit) (j : ℕ) (x : Lit) → j < length ls → x ≡ slice_index_or ls j x
    → x ≡ lit_at ls j
lit-here [] j x lt e = absurd (omega arith)
lit-here (l ∷ ls) zero x lt e = e
lit-here (l ∷ ls) (suc j) x lt e = lit-here ls j x (omega arith) e

-- what is found for one output
record IsRow (reads writes : List Place) (inputs : ℕ) (outs : List Lit) (j : ℕ) (row : OutRow)
    : Type 0 where
  pub lit : row.lit ≡ lit_at outs j
  pub found : (k : ℕ) → row.same ≡ Some k → (k < inputs)
      × (nth_place reads k ≡ nth_place writes j)
  pub first : (i k : ℕ) → row.same ≡ Some k → i < k → nth_place reads i ≢ nth_place writes j
  pub none : row.same ≡ None → (k : ℕ) → k < inputs → nth_place reads k ≢ nth_place writes j

-- what the search gives
row-here : (reads writes : List Place) (inputs : ℕ) (outs : List Lit) (j : ℕ) (lit : Lit)
    (same : Option ℕ) (place : Place) → place ≡ nth_place writes j → j < length outs
    → lit ≡ slice_index_or outs j lit → IfSome same (λ k. (k < inputs)
    × (nth_place reads k ≡ place)) → IfSome same (λ k. (i : ℕ) → i < k → nth_place reads i ≢ place)
    → IfNone same ((k : ℕ) → k < inputs → nth_place reads k ≢ place)
    → IsRow reads writes inputs outs j (record { lit = lit; same = same })
row-here reads writes inputs outs j lit None place ep lt el f s g = record {
  lit = lit-here outs j lit lt el;
  found = λ k h. absurd (cc);
  first = λ i k h l. absurd (cc);
  none = λ h k lk e. g k lk (e ∙ sym ep);
}
row-here reads writes inputs outs j lit (Some l) place ep lt el f s g = record {
  lit = lit-here outs j lit lt el;
  found = λ k h. let s : l ≡ k = cc in subst (λ m. (m < inputs)
      × (nth_place reads m ≡ nth_place writes j)) s (f.0, f.1 ∙ ep);
  first = λ i k h below e. let n : l ≡ k = cc in s i (omega (arith, n, below)) (e ∙ sym ep);
  none = λ h. absurd (cc);
}

out-old : (outs : List OutRow) (o : OutRow) (j : ℕ) → j < length outs
    → out_at (outs ++ o ∷ []) j ≡ out_at outs j
out-old outs o j lt = get_or_append_left outs (o
    ∷ []) (record { lit = record { node = 0; inverted = false }; same = None }) j lt

out-last : (outs : List OutRow) (o : OutRow) (j : ℕ) → j ≡ length outs
    → out_at (outs ++ o ∷ []) j ≡ o
out-last outs o j e = subst (λ k. out_at (outs ++ o ∷ []) k
    ≡ o) (sym e) (get_or-append_seam outs o []
    (record { lit = record { node = 0; inverted = false }; same = None }))

rows-more : (reads writes : List Place) (inputs : ℕ) (outs : List Lit) (m : ℕ)
    (rows more : List OutRow) (o : OutRow) → more ≡ rows ++ o ∷ []
    → AreRows reads writes inputs outs m rows → IsRow reads writes inputs outs m o
    → AreRows reads writes inputs outs (m + 1) more
rows-more reads writes inputs outs m rows more o eq h f =
    subst (AreRows reads writes inputs outs (m + 1)) (sym eq)
    (record {
      size = omega (arith, length-append rows (o ∷ []), h.size);
      lits = λ j lt. by j lt (λ q. q.lit ≡ lit_at outs j) (λ l. h.lits j l) (λ e.
          subst (λ k. o.lit ≡ lit_at outs k) (sym e) f.lit);
      found = λ j k lt. by j lt (λ q. q.same ≡ Some k → (k < inputs)
          × (nth_place reads k ≡ nth_place writes j)) (λ l. h.found j k l) (λ e.
          subst (λ i. o.same ≡ Some k → (k < inputs)
          × (nth_place reads k ≡ nth_place writes i)) (sym e) (f.found k));
      first = λ i j k lt. by j lt (λ q. q.same ≡ Some k → i < k
          → nth_place reads i ≢ nth_place writes j) (λ l. h.first i j k l) (λ e.
          subst (λ x. o.same ≡ Some k → i < k → nth_place reads i ≢ nth_place writes x) (sym e)
          (f.first i k));
      none = λ j lt. by j lt (λ q. q.same ≡ None → (k : ℕ) → k < inputs
          → nth_place reads k ≢ nth_place writes j) (λ l. h.none j l) (λ e.
          subst (λ i. o.same ≡ None → (k : ℕ) → k < inputs
          → nth_place reads k ≢ nth_place writes i) (sym e) f.none);
    })
  where
    by : (j : ℕ) → j < length (rows ++ o ∷ []) → (P : OutRow → Type 0)
        → (j < length rows → P (out_at rows j)) → (j ≡ m → P o) → P (out_at (rows ++ o ∷ []) j)
    by j lt P old last =
        ⊎_elim
        (λ (e : j ≡ m). subst P (sym (out-last rows o j (e ∙ sym h.size))) (last e))
        (λ (ne : j ≡ m → ⊥). let l : j < length rows = omega (
          arith,
          lt,
          h.size,
          length-append rows (o ∷ []),
        ) in subst P (sym (out-old rows o j l)) (old l))
        (cases_eq j m)

-- the rows with one more
pub rows-next : (reads writes : List Place) (inputs : ℕ) (outs : List Lit) (m : ℕ)
    (rows more : List OutRow) (lit : Lit) (same : Option ℕ) (place : Place)
    → more ≡ rows ++ record { lit = lit; same = same } ∷ []
    → AreRows reads writes inputs outs m rows → place ≡ nth_place writes m → m < length outs
    → lit ≡ slice_index_or outs m lit → IfSome same (λ k. (k < inputs)
    × (nth_place reads k ≡ place)) → IfSome same (λ k. (i : ℕ) → i < k → nth_place reads i ≢ place)
    → IfNone same ((k : ℕ) → k < inputs → nth_place reads k ≢ place)
    → AreRows reads writes inputs outs (m + 1) more
rows-next reads writes inputs outs m rows more lit same place em h ep lt el f s g =
    rows-more reads writes inputs outs m rows more (record { lit = lit; same = same }) em h
    (row-here reads writes inputs outs m lit same place ep lt el f s g)

-- there is one list of rows
module _ (reads : List Place) (place : Place) (inputs : ℕ) where
  record IsSame (same : Option ℕ) : Type 0 where
    pub found : (k : ℕ) → same ≡ Some k → (k < inputs) × (nth_place reads k ≡ place)
    pub first : (i k : ℕ) → same ≡ Some k → i < k → nth_place reads i ≢ place
    pub none : same ≡ None → (k : ℕ) → k < inputs → nth_place reads k ≢ place

  one-same : (x y : Option ℕ) → IsSame x → IsSame y → x ≡ y
  one-same None None p q = refl
  one-same None (Some l) p q = absurd (p.none refl l (q.found l refl).0 (q.found l refl).1)
  one-same (Some k) None p q = absurd (q.none refl k (p.found k refl).0 (p.found k refl).1)
  one-same (Some k) (Some l) p q = elim (cases_lt k l) [
    | inl a ↦ absurd (q.first k l refl a (p.found k refl).1)
    | inr a ↦ elim (cases_lt l k) [
      | inl b ↦ absurd (p.first l k refl b (q.found l refl).1)
      | inr b ↦ ap Some (let e : k ≡ l = omega (arith, a, b) in e)
    ]
  ]

one-row : (x y : OutRow) → x.lit ≡ y.lit → x.same ≡ y.same → x ≡ y
one-row x y e f = ap (λ l. let o : OutRow = record { lit = l; same = x.same } in o) e
    ∙ ap (λ s. let o : OutRow = record { lit = y.lit; same = s } in o) f

same-rows : (xs ys : List OutRow) → length xs ≡ length ys
    → ((j : ℕ) → j < length xs → out_at xs j ≡ out_at ys j) → xs ≡ ys
same-rows [] [] n h = refl
same-rows [] (y ∷ ys) n h = absurd (omega (arith, n))
same-rows (x ∷ xs) [] n h = absurd (omega (arith, n))
same-rows (x ∷ xs) (y ∷ ys) n h = ap (λ z. z ∷ xs) (h 0 (omega arith))
    ∙ ap (λ zs. y ∷ zs) (same-rows xs ys (omega (arith, n)) (λ j lt. h (suc j) (omega (arith, lt))))

pub one-rows : (reads writes : List Place) (inputs : ℕ) (outs : List Lit) (m : ℕ)
    (xs ys : List OutRow) → AreRows reads writes inputs outs m xs
    → AreRows reads writes inputs outs m ys → xs ≡ ys
one-rows reads writes inputs outs m xs ys p q =
    same-rows xs ys (p.size ∙ sym q.size) (λ j l.
    let k : j < length ys = omega (arith, l, p.size, q.size) in
    one-row (out_at xs j) (out_at ys j) (p.lits j l ∙ sym (q.lits j k))
    (one-same reads (nth_place writes j) inputs (out_at xs j).same (out_at ys j).same
    (record {
      found = λ n. p.found j n l;
      first = λ i n. p.first i j n l;
      none = p.none j l;
    }) (record {
      found = λ n. q.found j n k;
      first = λ i n. q.first i j n k;
      none = q.none j k;
    })))
