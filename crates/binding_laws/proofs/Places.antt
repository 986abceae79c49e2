-- Which rows of a trace are one row, whatever the binding
use Rattle.std.specs.Prelude.{◌≡◌, ◌≢◌, ℕ, zero, suc, ◌+◌, ◌-◌, ◌*◌, ◌<◌, ◌==◌, Bool}
use Rattle.std.specs.Prelude.{true, false, ◌&&◌, List, [], ◌∷◌, Some, slice_get}
use Rattle.std.specs.Prelude.{slice_index, refl}
use Rattle.std.specs.List.{AllByRecursion}
use Rattle.std.proofs.Common.{subst, sym, ap, arith, inl, inr, eq-eqb}
use Rattle.std.proofs.lemmas.Bool.{ltb-true, eqb-true, cases_eq, ne_eqb}
use Rattle.op_text.specs.declared.tree.Kind.{Kind}
use Rattle.op_text.specs.declared.tree.Kind.TheVariants.{Word, Bit}
use Rattle.uprog_code.specs.declared.code.RowSpace.{RowSpace}
use Rattle.uprog_code.specs.declared.code.RowSpace.TheVariants as space
use Rattle.uprog_code.specs.Shape.{Shape, width, results}
use Rattle.uprog_code.specs.Machine.{in_kind}
use Rattle.uprog_code.specs.Legal.{may_be_second}
use Rattle.uprog_code.specs.Bound.{Bound}
use Rattle.uprog_code.specs.Fits.{Range, IsAmong, AreApart, AreBelow, ranges, Fits, ArePairwiseApart}
use Rattle.uprog_code.specs.Fits.{written, scratch_range}
use Rattle.uprog_code.specs.Issued.{is_issued_in}
use Rattle.binding_laws.specs.Alike.{is_data, data_row}

-- the two rows are one
abbrev pub is_same : ℕ → RowSpace → ℕ → ℕ → RowSpace → ℕ → ℕ → Bool
is_same n space.Result w i space.Result v j = (w == v) && (i == j)
is_same n space.ScratchBit w i space.ScratchBit v j = w == v
is_same n space.ScratchWord w i space.ScratchWord v j = (w * n + i) == (v * n + j)
is_same n space.Spill w i space.Spill v j = w == v
is_same n _ w i _ v j = false

-- a row lies in the range at this place of a list
pub record Lies (rs : List Range) (w row : ℕ) : Type 0 where
  pub range : Range
  pub at : slice_get rs w ≡ Some range
  pub among : IsAmong range row

pub kind_width : (k : Kind) (n i : ℕ) → in_kind (Some k) n i ≡ true → i < width k n
kind_width Word n i h = ltb-true i n h
kind_width Bit n i h = let e = eqb-true i 0 h in omega arith

pub value-lies : (rows n : ℕ) (ks : List Kind) (bs : List ℕ) (w i : ℕ) → AreBelow rows n ks bs
    → in_kind (slice_get ks w) n i ≡ true → Lies (ranges n ks bs) w (slice_index bs w + i)
value-lies rows n [] bs w i f h = absurd (cc)
value-lies rows n (k ∷ ks) [] w i f h = absurd f
value-lies rows n (k ∷ ks) (b ∷ bs) zero i f h =
    let l = kind_width k n i h in
    record {
      range = record { base = b; size = width k n };
      at = refl;
      among = (omega arith, omega arith);
    }
value-lies rows n (k ∷ ks) (b ∷ bs) (suc w) i f h =
    let rest = value-lies rows n ks bs w i f.1 h in
    record { range = rest.range; at = rest.at; among = rest.among }

pub value-below : (rows n : ℕ) (ks : List Kind) (bs : List ℕ) (w i : ℕ) → AreBelow rows n ks bs
    → in_kind (slice_get ks w) n i ≡ true → slice_index bs w + i < rows - 32
value-below rows n [] bs w i f h = absurd (cc)
value-below rows n (k ∷ ks) [] w i f h = absurd f
value-below rows n (k ∷ ks) (b ∷ bs) zero i f h =
    let l = kind_width k n i h in let u = f.0 in omega arith
value-below rows n (k ∷ ks) (b ∷ bs) (suc w) i f h = value-below rows n ks bs w i f.1 h

-- what holds of each range
pub each-at : (P : Range → Type 0) (rs : List Range) (w : ℕ) (r : Range) → AllByRecursion P rs
    → slice_get rs w ≡ Some r → P r
each-at P [] w r h e = absurd (cc)
each-at P (x ∷ rs) zero r h e = let same : x ≡ r = cc in subst P same h.0
each-at P (x ∷ rs) (suc w) r h e = each-at P rs w r h.1 e

-- two ranges at different places are apart
pairwise-at : (rs : List Range) (w v row : ℕ) → ArePairwiseApart rs → w ≢ v → Lies rs w row
    → Lies rs v row → ⊥
pairwise-at [] w v row h n p q = let e = p.at in absurd (cc)
pairwise-at (x ∷ rs) zero zero row h n p q = n refl
pairwise-at (x ∷ rs) zero (suc v) row h n p q =
    let e = p.at in
    let same : p.range ≡ x = cc in
    each-at (AreApart x) rs v q.range h.0 q.at row (subst (λ r. IsAmong r row) same p.among)
    q.among
pairwise-at (x ∷ rs) (suc w) zero row h n p q =
    let e = q.at in
    let same : q.range ≡ x = cc in
    each-at (AreApart x) rs w p.range h.0 p.at row (subst (λ r. IsAmong r row) same q.among)
    p.among
pairwise-at (x ∷ rs) (suc w) (suc v) row h n p q =
    pairwise-at rs w v row h.1 (λ e. n (ap suc e))
    (record { range = p.range; at = p.at; among = p.among })
    (record { range = q.range; at = q.at; among = q.among })

-- numbers behind one base
shifted : (a i j : ℕ) → ((a + i) == (a + j)) ≡ (i == j)
shifted a i j = elim (cases_eq i j) [
  | inl e ↦ rw e (let o : a + j ≡ a + j = refl in rw (eq-eqb (a + j) (a + j) o, eq-eqb j j refl) refl)
  | inr n ↦
      let m : a + i ≢ a + j = λ e. n (omega arith) in
      rw (ne_eqb (a + i) (a + j) m, ne_eqb i j n) refl
]

apart : (x y : ℕ) → (x ≡ y → ⊥) → (x == y) ≡ false
apart x y h = ne_eqb x y h

module _ (rows : ℕ) (shape : Shape) (n : ℕ) (b : Bound) (fits : Fits rows shape n b) where
  result_lies : (w i : ℕ) → is_issued_in shape n space.Result w i ≡ true
      → Lies (written shape n b) (suc w) (slice_index b.results w + i)
  result_lies w i h =
      let l = value-lies rows n (results shape) b.results w i fits.results h in
      record { range = l.range; at = l.at; among = l.among }

  bit_lies : (w i : ℕ) → is_issued_in shape n space.ScratchBit w i ≡ true
      → Lies (written shape n b) 0 (b.scratch + w)
  bit_lies w i h =
      let l = ltb-true w shape.bits h in
      record { range = scratch_range shape n b; at = refl; among = (omega arith, omega arith) }

  word_lies : (w i : ℕ) → is_issued_in shape n space.ScratchWord w i ≡ true
      → Lies (written shape n b) 0 (b.scratch + shape.bits + w * n + i)
  word_lies w i h =
      let l = ltb-true (w * n + i) (n * shape.words) h in
      record { range = scratch_range shape n b; at = refl; among = (omega arith, omega arith) }

  result_below : (w i : ℕ) → is_issued_in shape n space.Result w i ≡ true
      → slice_index b.results w + i < rows - 32
  result_below w i h = value-below rows n (results shape) b.results w i fits.results h

  source_below : (w i : ℕ) → is_issued_in shape n space.Source w i ≡ true
      → slice_index b.sources w + i < rows - 32
  source_below w i h = value-below rows n shape.sources b.sources w i fits.sources h

  bit_below : (w i : ℕ) → is_issued_in shape n space.ScratchBit w i ≡ true
      → b.scratch + w < rows - 32
  bit_below w i h = let l = ltb-true w shape.bits h in
      let f = fits.scratch (omega arith) in omega arith

  word_below : (w i : ℕ) → is_issued_in shape n space.ScratchWord w i ≡ true
      → b.scratch + shape.bits + w * n + i < rows - 32
  word_below w i h = let l = ltb-true (w * n + i) (n * shape.words) h in
      let f = fits.scratch (omega arith) in omega arith

  -- a source's row is none of those that may be written
  source_apart : (w i v row : ℕ) → is_issued_in shape n space.Source w i ≡ true
      → Lies (written shape n b) v row → slice_index b.sources w + i ≡ row → ⊥
  source_apart w i v row h l e =
      let s = value-lies rows n shape.sources b.sources w i fits.sources h in
      let all = each-at (λ s. AllByRecursion (AreApart s) (written shape n b))
      (ranges n shape.sources b.sources) w s.range fits.read s.at in
      each-at (AreApart s.range) (written shape n b) v l.range all l.at row
      (subst (λ k. IsAmong s.range k) e s.among) l.among

  written_apart : (w v row other : ℕ) → w ≢ v → Lies (written shape n b) w row
      → Lies (written shape n b) v other → row ≡ other → ⊥
  written_apart w v row other d p q e = pairwise-at (written shape n b) w v other fits.apart d
      (subst (λ k. Lies (written shape n b) w k) e p) q

  -- whether a row that may be written and any other are one
  pub rows_same : (x : RowSpace) (w i : ℕ) (y : RowSpace) (v j : ℕ) → is_data x ≡ true
      → may_be_second x ≡ true → is_issued_in shape n x w i ≡ true → is_data y ≡ true
      → is_issued_in shape n y v j ≡ true
      → (data_row rows shape n b x w i == data_row rows shape n b y v j) ≡ is_same n x w i y v j
  rows_same space.B w i y v j dx sx hx dy hy = absurd (cc)
  rows_same space.C w i y v j dx sx hx dy hy = absurd (cc)
  rows_same space.Source w i y v j dx sx hx dy hy = absurd (cc)
  rows_same space.Result w i space.B v j dx sx hx dy hy = absurd (cc)
  rows_same space.Result w i space.C v j dx sx hx dy hy = absurd (cc)
  rows_same space.Result w i space.Result v j dx sx hx dy hy = elim (cases_eq w v) [
    | inl e ↦ rw (e, eq-eqb v v refl) (shifted (slice_index b.results v) i j)
    | inr d ↦
        rw (ne_eqb w v d) (apart _ _ (written_apart (suc w) (suc v) _ _ (λ e. d (omega arith))
        (result_lies w i hx) (result_lies v j hy)))
  ]
  rows_same space.Result w i space.Source v j dx sx hx dy hy =
      apart _ _ (λ e. source_apart v j (suc w) _ hy (result_lies w i hx) (sym e))
  rows_same space.Result w i space.ScratchBit v j dx sx hx dy hy =
      apart _ _ (written_apart (suc w) 0 _ _ (λ e. omega arith) (result_lies w i hx)
      (bit_lies v j hy))
  rows_same space.Result w i space.ScratchWord v j dx sx hx dy hy =
      apart _ _ (written_apart (suc w) 0 _ _ (λ e. omega arith) (result_lies w i hx)
      (word_lies v j hy))
  rows_same space.Result w i space.Spill v j dx sx hx dy hy =
      apart _ _ (λ e. let l = result_below w i hx in omega arith)
  rows_same space.ScratchBit w i space.B v j dx sx hx dy hy = absurd (cc)
  rows_same space.ScratchBit w i space.C v j dx sx hx dy hy = absurd (cc)
  rows_same space.ScratchBit w i space.Result v j dx sx hx dy hy =
      apart _ _ (written_apart 0 (suc v) _ _ (λ e. omega arith) (bit_lies w i hx)
      (result_lies v j hy))
  rows_same space.ScratchBit w i space.Source v j dx sx hx dy hy =
      apart _ _ (λ e. source_apart v j 0 _ hy (bit_lies w i hx) (sym e))
  rows_same space.ScratchBit w i space.ScratchBit v j dx sx hx dy hy = shifted b.scratch w v
  rows_same space.ScratchBit w i space.ScratchWord v j dx sx hx dy hy =
      apart _ _ (λ e. let l = ltb-true w shape.bits hx in omega arith)
  rows_same space.ScratchBit w i space.Spill v j dx sx hx dy hy =
      apart _ _ (λ e. let l = bit_below w i hx in omega arith)
  rows_same space.ScratchWord w i space.B v j dx sx hx dy hy = absurd (cc)
  rows_same space.ScratchWord w i space.C v j dx sx hx dy hy = absurd (cc)
  rows_same space.ScratchWord w i space.Result v j dx sx hx dy hy =
      apart _ _ (written_apart 0 (suc v) _ _ (λ e. omega arith) (word_lies w i hx)
      (result_lies v j hy))
  rows_same space.ScratchWord w i space.Source v j dx sx hx dy hy =
      apart _ _ (λ e. source_apart v j 0 _ hy (word_lies w i hx) (sym e))
  rows_same space.ScratchWord w i space.ScratchBit v j dx sx hx dy hy =
      apart _ _ (λ e. let l = ltb-true v shape.bits hy in omega arith)
  rows_same space.ScratchWord w i space.ScratchWord v j dx sx hx dy hy =
      let p : b.scratch + shape.bits + w * n + i ≡ b.scratch + shape.bits + (w * n + i) = omega arith in
      let q : b.scratch + shape.bits + v * n + j ≡ b.scratch + shape.bits + (v * n + j) = omega arith in
      rw (p, q) (shifted (b.scratch + shape.bits) (w * n + i) (v * n + j))
  rows_same space.ScratchWord w i space.Spill v j dx sx hx dy hy =
      apart _ _ (λ e. let l = word_below w i hx in omega arith)
  rows_same space.Spill w i space.B v j dx sx hx dy hy = absurd (cc)
  rows_same space.Spill w i space.C v j dx sx hx dy hy = absurd (cc)
  rows_same space.Spill w i space.Result v j dx sx hx dy hy =
      apart _ _ (λ e. let l = result_below v j hy in omega arith)
  rows_same space.Spill w i space.Source v j dx sx hx dy hy =
      apart _ _ (λ e. let l = source_below v j hy in omega arith)
  rows_same space.Spill w i space.ScratchBit v j dx sx hx dy hy =
      apart _ _ (λ e. let l = bit_below v j hy in omega arith)
  rows_same space.Spill w i space.ScratchWord v j dx sx hx dy hy =
      apart _ _ (λ e. let l = word_below v j hy in omega arith)
  rows_same space.Spill w i space.Spill v j dx sx hx dy hy = shifted (rows - 32) w v
