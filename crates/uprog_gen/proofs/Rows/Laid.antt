-- A binding that fits gives each own row a place of its own.
use Rattle.uprog_gen.proofs.Common.{◌≡◌, ℕ, zero, suc, ◌+◌, ◌-◌, ◌*◌, ◌<◌, List, [], ◌∷◌, sym, ap}
use Rattle.uprog_gen.proofs.Common.{◌∙◌, subst, refl, arith, inl, inr, slice_get, slice_index}
use Rattle.uprog_gen.proofs.Common.{AllByRecursion, Kind, Shape, results, Bound, Fits, AreBelow}
use Rattle.uprog_gen.proofs.Common.{Space, Result, Source, ScratchBit, ScratchWord, Cells, Spot}
use Rattle.uprog_gen.proofs.Common.{IsOwn}
use Rattle.uprog_code.specs.Shape.{width}
use Rattle.uprog_code.specs.Fits.{Range, IsAmong, AreApart, ranges, ArePairwiseApart, scratch_range}
use Rattle.uprog_code.specs.Fits.{written, IsInSome}
use Rattle.uprog_gen.specs.Where.{row_in, IsIn, IsBelow}
use Rattle.uprog_gen.proofs.Rows.Rounds.{IsLaid}

spot_of : (s : Space) (w v i j : ℕ) → w ≡ v → i ≡ j
    → (let p : Spot = record { space = s; which = w; index = i } in p)
    ≡ record { space = s; which = v; index = j }
spot_of s w v i j e f = rw (e, f) refl

module _ (rows n : ℕ) where
  -- a value's row lies in the value's range, of which holds what holds of all
  value_at : (P : Range → Type 0) (ks : List Kind) (bs : List ℕ) → AreBelow rows n ks bs
      → AllByRecursion P (ranges n ks bs) → (v j : ℕ) → IsBelow (slice_get ks v) n j
      → (r : Range) × P r × IsAmong r (slice_index bs v + j)
  value_at P [] bs f all v j below = absurd below
  value_at P (k ∷ ks) [] f all v j below = absurd f
  value_at P (k ∷ ks) (b ∷ bs) f all zero j below =
      (record { base = b; size = width k n }, all.0, (omega arith, omega (arith, below)))
  value_at P (k ∷ ks) (b ∷ bs) f all (suc v) j below = value_at P ks bs f.1 all.1 v j below

  value_low : (ks : List Kind) (bs : List ℕ) → AreBelow rows n ks bs → (v j : ℕ)
      → IsBelow (slice_get ks v) n j → slice_index bs v + j < rows - 32
  value_low [] bs f v j below = absurd below
  value_low (k ∷ ks) [] f v j below = absurd f
  value_low (k ∷ ks) (b ∷ bs) f zero j below = omega (arith, f.0, below)
  value_low (k ∷ ks) (b ∷ bs) f (suc v) j below = value_low ks bs f.1 v j below

  pub value_among : (ks : List Kind) (bs : List ℕ) → AreBelow rows n ks bs → (v j : ℕ)
      → IsBelow (slice_get ks v) n j → IsInSome (ranges n ks bs) (slice_index bs v + j)
  value_among [] bs f v j below = absurd below
  value_among (k ∷ ks) [] f v j below = absurd f
  value_among (k ∷ ks) (b ∷ bs) f zero j below = inl (omega arith, omega (arith, below))
  value_among (k ∷ ks) (b ∷ bs) f (suc v) j below = inr (value_among ks bs f.1 v j below)

  -- rows of two values that are apart differ
  values_same : (ks : List Kind) (bs : List ℕ) → AreBelow rows n ks bs
      → ArePairwiseApart (ranges n ks bs) → (v j w i : ℕ) → IsBelow (slice_get ks v) n j
      → IsBelow (slice_get ks w) n i → slice_index bs v + j ≡ slice_index bs w + i → v ≡ w
  values_same [] bs f apart v j w i p q e = absurd p
  values_same (k ∷ ks) [] f apart v j w i p q e = absurd f
  values_same (k ∷ ks) (b ∷ bs) f apart zero j zero i p q e = refl
  values_same (k ∷ ks) (b ∷ bs) f apart zero j (suc w) i p q e =
      let r : Range = record { base = b; size = width k n } in
      let h = value_at (AreApart r) ks bs f.1 apart.0 w i q in
      absurd (h.1 (b + j) (omega arith, omega (arith, p)) (subst (IsAmong h.0) (sym e) h.2))
  values_same (k ∷ ks) (b ∷ bs) f apart (suc v) j zero i p q e =
      let r : Range = record { base = b; size = width k n } in
      let h = value_at (AreApart r) ks bs f.1 apart.0 v j p in
      absurd (h.1 (b + i) (omega arith, omega (arith, q)) (subst (IsAmong h.0) e h.2))
  values_same (k ∷ ks) (b ∷ bs) f apart (suc v) j (suc w) i p q e =
      ap suc (values_same ks bs f.1 apart.1 v j w i p q e)

module _ (rows : ℕ) (head : Shape) (n : ℕ) (b : Bound) (fits : Fits rows head n b) where
  -- rows of the scratch lie in its range
  pub bit_among : (w : ℕ) → w < head.bits → IsAmong (scratch_range head n b) (b.scratch + w)
  bit_among w lt = (omega arith, omega arith)

  pub word_among : (i : ℕ) → i < n * head.words
      → IsAmong (scratch_range head n b) (b.scratch + head.bits + i)
  word_among i li = (omega arith, omega arith)

  -- a result's row is none of the scratch, and a source's is none of what is written
  result_or_scratch : (w i row : ℕ) → IsBelow (slice_get (results head) w) n i
      → IsAmong (scratch_range head n b) row → row ≡ slice_index b.results w + i → ⊥
  result_or_scratch w i row p among e =
      let h = value_at rows n (AreApart (scratch_range head n b)) (results head) b.results
      fits.results fits.apart.0 w i p in
      h.1 row among (subst (IsAmong h.0) (sym e) h.2)

  source_range : (v j : ℕ) → IsBelow (slice_get head.sources v) n j → (r : Range)
      × AllByRecursion (AreApart r) (written head n b) × IsAmong r (slice_index b.sources v + j)
  source_range v j q = value_at rows n (λ s. AllByRecursion (AreApart s) (written head n b))
      head.sources b.sources fits.sources fits.read v j q

  source_or_scratch : (v j row : ℕ) → IsBelow (slice_get head.sources v) n j
      → IsAmong (scratch_range head n b) row → row ≡ slice_index b.sources v + j → ⊥
  source_or_scratch v j row q among e =
      let h = source_range v j q in
      h.1.0 row (subst (IsAmong h.0) (sym e) h.2) among

  source_or_result : (v j w i : ℕ) → IsBelow (slice_get head.sources v) n j
      → IsBelow (slice_get (results head) w) n i
      → slice_index b.results w + i ≡ slice_index b.sources v + j → ⊥
  source_or_result v j w i q p e =
      let h = source_range v j q in
      let k = value_at rows n (AreApart h.0) (results head) b.results fits.results h.1.1 w i p in
      k.1 (slice_index b.results w + i) (subst (IsAmong h.0) (sym e) h.2) k.2

  own_in : (s t : Space) (w i v j : ℕ) → IsIn head n s w i → IsIn head n t v j → IsOwn s
      → row_in head n b s w i ≡ row_in head n b t v j
      → (let p : Spot = record { space = s; which = w; index = i } in p)
      ≡ record { space = t; which = v; index = j }
  own_in Result Result w i v j p q own e =
      let same = values_same rows n (results head) b.results fits.results fits.apart.1 w i v j p q e
      in spot_of Result w v i j same (omega (arith, e, ap (slice_index b.results) same))
  own_in Result Source w i v j p q own e = absurd (source_or_result v j w i q p e)
  own_in Result ScratchBit w i v j p q own e =
      absurd (result_or_scratch w i (b.scratch + v) p (bit_among v q.0) (sym e))
  own_in Result ScratchWord w i v j p q own e =
      absurd (result_or_scratch w i (b.scratch + head.bits + j) p (word_among j q.1) (sym e))
  own_in Source t w i v j p q own e = absurd own
  own_in ScratchBit Result w i v j p q own e =
      absurd (result_or_scratch v j (b.scratch + w) q (bit_among w p.0) e)
  own_in ScratchBit Source w i v j p q own e =
      absurd (source_or_scratch v j (b.scratch + w) q (bit_among w p.0) e)
  own_in ScratchBit ScratchBit w i v j p q own e =
      spot_of ScratchBit w v i j (omega arith) (p.1 ∙ sym q.1)
  own_in ScratchBit ScratchWord w i v j p q own e = absurd (omega (arith, e, p.0))
  own_in ScratchWord Result w i v j p q own e =
      absurd (result_or_scratch v j (b.scratch + head.bits + i) q (word_among i p.1) e)
  own_in ScratchWord Source w i v j p q own e =
      absurd (source_or_scratch v j (b.scratch + head.bits + i) q (word_among i p.1) e)
  own_in ScratchWord ScratchBit w i v j p q own e = absurd (omega (arith, e, q.0))
  own_in ScratchWord ScratchWord w i v j p q own e =
      spot_of ScratchWord w v i j (p.0 ∙ sym q.0) (omega arith)
  own_in Cells t w i v j p q own e = absurd p
  own_in s Cells w i v j p q own e = absurd q

  low_in : (s : Space) (w i : ℕ) → IsIn head n s w i → row_in head n b s w i < rows - 32
  low_in Result w i p = value_low rows n (results head) b.results fits.results w i p
  low_in Source w i p = value_low rows n head.sources b.sources fits.sources w i p
  low_in ScratchBit w i p =
      omega (arith, p.0, fits.scratch (let l : w < head.bits = p.0 in omega (arith, l)))
  low_in ScratchWord w i p =
      omega (arith, p.1, fits.scratch (let l : i < n * head.words = p.1 in omega (arith, l)))
  low_in Cells w i p = absurd p

  pub laid : IsLaid rows head n b
  laid = record {
    own = λ p q ip iq own e. own_in p.space q.space p.which p.index q.which q.index ip iq own e;
    low = λ p ip. low_in p.space p.which p.index ip;
  }
