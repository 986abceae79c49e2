-- What a column holds under the canonical binding, some column holds under each that fits and has its
-- sources apart
use Rattle.std.specs.Prelude.{◌≡◌, ℕ, zero, suc, ◌+◌, ◌-◌, ◌*◌, ◌<◌, ◌≤◌, nat_lt, nat_le, Bool}
use Rattle.std.specs.Prelude.{true, false, ◌&&◌, if◌then◌else◌, List, [], ◌∷◌, length, slice_get}
use Rattle.std.specs.Prelude.{slice_index, refl}
use Rattle.std.specs.List.{AllByRecursion}
use Rattle.std.proofs.Common.{sym, ◌∙◌, ap, arith, inl, inr}
use Rattle.std.proofs.lemmas.Bool.{ltb-true, lt-ltb, leb-true, le-leb, cases_lt, and_parts}
use Rattle.dram_model.specs.declared.address.Cell.TheVariants.{T, Dcc, C, D}
use Rattle.dram_model.specs.Column.{Column, run}
use Rattle.op_text.specs.declared.tree.Kind.{Kind}
use Rattle.uprog_code.specs.declared.code.RowSpace.{RowSpace}
use Rattle.uprog_code.specs.declared.code.RowSpace.TheVariants as space
use Rattle.uprog_code.specs.Shape.{Shape, width, results, need}
use Rattle.uprog_code.specs.Machine.{Issue, in_kind}
use Rattle.uprog_code.specs.Bound.{Bound, bound}
use Rattle.uprog_code.specs.Fits.{Range, IsAmong, AreApart, AreBelow, ranges, Fits, ArePairwiseApart}
use Rattle.uprog_code.specs.Fits.{scratch_range, written}
use Rattle.uprog_code.specs.Implements.{numbers}
use Rattle.uprog_code.specs.Issued.{is_issued_in, AreGood}
use Rattle.binding_laws.specs.Alike.{is_data, data_row, Alike}
use Rattle.binding_laws.specs.Canonical.{bases, result_rows, value_rows, canonical, canonical_rows}
use Rattle.binding_laws.proofs.Places.{each-at, kind_width, value-lies, value-below}
use Rattle.binding_laws.proofs.Rebound.{run_alike}
use Rattle.binding_laws.proofs.Settled.{canonical-fits}
use Rattle.binding_laws.proofs.Enough.{numbers-same}

-- the row is in the range
is_in : Range → ℕ → Bool
is_in r row = nat_le r.base row && nat_lt row (r.base + r.size)

in-range : (r : Range) (row : ℕ) → IsAmong r row → is_in r row ≡ true
unfolding is_in
in-range r row a = rw (le-leb r.base row a.0, lt-ltb row (r.base + r.size) a.1) refl

not-in : (r : Range) (row : ℕ) → (IsAmong r row → ⊥) → is_in r row ≡ false
unfolding is_in
not-in r row h = by (is_in r row) refl
  where
    by : (b : Bool) → is_in r row ≡ b → is_in r row ≡ false
    by true e =
        let both = and_parts (nat_le r.base row) (nat_lt row (r.base + r.size)) e in
        absurd (h (leb-true r.base row both.0, ltb-true row (r.base + r.size) both.1))
    by false e = e

-- the bit of a row of values that begin at these rows, as a column holds them n rows each from a row
-- on; else another
put_in : ℕ → ℕ → List Kind → List ℕ → Column → ℕ → Bool → Bool
put_in n start [] bs s row other = other
put_in n start (k ∷ ks) [] s row other = other
put_in n start (k ∷ ks) (b ∷ bs) s row other =
    if is_in (record { base = b; size = width k n }) row then s (D (start + (row - b)))
    else put_in n (start + n) ks bs s row other

put-hit : (rows n start : ℕ) (ks : List Kind) (bs : List ℕ) (s : Column) (other : Bool) (w i : ℕ)
    → AreBelow rows n ks bs → ArePairwiseApart (ranges n ks bs)
    → in_kind (slice_get ks w) n i ≡ true
    → put_in n start ks bs s (slice_index bs w + i) other
    ≡ s (D (slice_index (bases n start ks) w + i))
unfolding put_in
put-hit rows n start [] bs s other w i f p h = absurd (cc)
put-hit rows n start (k ∷ ks) [] s other w i f p h = absurd f
put-hit rows n start (k ∷ ks) (b ∷ bs) s other zero i f p h =
    let l = kind_width k n i h in
    let e : start + (b + i - b) ≡ start + i = omega arith in
    rw (in-range (record { base = b; size = width k n }) (b + i) (omega arith, omega arith))
    (ap (λ r. s (D r)) e)
put-hit rows n start (k ∷ ks) (b ∷ bs) s other (suc w) i f p h =
    let row = slice_index bs w + i in
    let there = value-lies rows n ks bs w i f.1 h in
    let first : Range = record { base = b; size = width k n } in
    let out : IsAmong first row → ⊥ = λ a. each-at (AreApart first) (ranges n ks bs) w there.range
    p.0 there.at row a there.among in
    rw (not-in first row out) (put-hit rows n (start + n) ks bs s other w i f.1 p.1 h)

put-miss : (rows n start : ℕ) (ks : List Kind) (bs : List ℕ) (s : Column) (other : Bool) (row : ℕ)
    → AreBelow rows n ks bs → AllByRecursion (λ r. IsAmong r row → ⊥) (ranges n ks bs)
    → put_in n start ks bs s row other ≡ other
unfolding put_in
put-miss rows n start [] bs s other row f p = refl
put-miss rows n start (k ∷ ks) [] s other row f p = absurd f
put-miss rows n start (k ∷ ks) (b ∷ bs) s other row f p =
    rw (not-in (record { base = b; size = width k n }) row p.0)
    (put-miss rows n (start + n) ks bs s other row f.1 p.1)

-- a row of a range is in none that is apart from it
apart-from : (x : Range) (rs : List Range) (row : ℕ) → IsAmong x row
    → AllByRecursion (AreApart x) rs → AllByRecursion (λ r. IsAmong r row → ⊥) rs
apart-from x [] row a h = tt
apart-from x (r ∷ rs) row a h = (λ b. h.0 row a b, apart-from x rs row a h.1)

not-less : (x y : ℕ) → y ≤ x → nat_lt x y ≡ false
not-less x y l = grind (arith, ltb-true)

-- the data rows of such a column
placed_row : Shape → ℕ → ℕ → Bound → Column → ℕ → Bool
placed_row shape n q c s row =
    if nat_lt row (q - 32) then (if is_in (scratch_range shape n c) row
    then s (D (value_rows shape n + (row - c.scratch)))
    else put_in n 0 (results shape) c.results s row
    (put_in n (result_rows shape n) shape.sources c.sources s row false))
    else s (D (value_rows shape n + need shape n + (row - (q - 32))))

-- such a column
placed : Shape → ℕ → ℕ → Bound → Column → Column
placed shape n q c s (T k) = s (T k)
placed shape n q c s (Dcc k) = s (Dcc k)
placed shape n q c s (C k) = false
placed shape n q c s (D k) = placed_row shape n q c s k

placed-value : (shape : Shape) (n q : ℕ) (c : Bound) (s : Column) (row : ℕ) → row < q - 32
    → (IsAmong (scratch_range shape n c) row → ⊥)
    → placed_row shape n q c s row ≡ put_in n 0 (results shape) c.results s row
    (put_in n (result_rows shape n) shape.sources c.sources s row false)
unfolding placed_row
placed-value shape n q c s row l out =
    rw (lt-ltb row (q - 32) l, not-in (scratch_range shape n c) row out) refl

placed-scratch : (shape : Shape) (n q : ℕ) (c : Bound) (s : Column) (row j : ℕ) → row < q - 32
    → row ≡ c.scratch + j → j < need shape n
    → placed_row shape n q c s row ≡ s (D (value_rows shape n + j))
unfolding placed_row
placed-scratch shape n q c s row j l e m =
    let d : row - c.scratch ≡ j = omega arith in
    rw (
      lt-ltb row (q - 32) l,
      in-range (scratch_range shape n c) row (omega arith, omega arith),
      d,
    ) refl

placed-spill : (shape : Shape) (n q : ℕ) (c : Bound) (s : Column) (w : ℕ)
    → placed_row shape n q c s (q - 32 + w) ≡ s (D (value_rows shape n + need shape n + w))
unfolding placed_row
placed-spill shape n q c s w =
    let d : q - 32 + w - (q - 32) ≡ w = omega arith in
    rw (not-less (q - 32 + w) (q - 32) (omega arith), d) refl

placed-alike : (shape : Shape) (n q : ℕ) (c : Bound) (s : Column) → Fits q shape n c
    → ArePairwiseApart (ranges n shape.sources c.sources)
    → Alike shape n (canonical_rows shape n) q (canonical shape n) c s (placed shape n q c s)
unfolding placed
placed-alike shape n q c s fits sources = record {
  tees = λ k l. refl;
  duals = λ k l. refl;
  row = λ x w i d h. sym (by x w i d h);
}
  where
    by : (x : RowSpace) (w i : ℕ) → is_data x ≡ true → is_issued_in shape n x w i ≡ true
        → placed_row shape n q c s (data_row q shape n c x w i)
        ≡ s (D (data_row (canonical_rows shape n) shape n (canonical shape n) x w i))
    by space.B w i d h = absurd (cc)
    by space.C w i d h = absurd (cc)
    by space.Result w i d h =
        let row = slice_index c.results w + i in
        let there = value-lies q n (results shape) c.results w i fits.results h in
        placed-value shape n q c s row
        (value-below q n (results shape) c.results w i fits.results h)
        (λ a. each-at (AreApart (scratch_range shape n c)) (ranges n (results shape) c.results) w
        there.range fits.apart.0 there.at row a there.among)
        ∙ put-hit q n 0 (results shape) c.results s
        (put_in n (result_rows shape n) shape.sources c.sources s row false) w i fits.results
        fits.apart.1 h
    by space.Source w i d h =
        let row = slice_index c.sources w + i in
        let there = value-lies q n shape.sources c.sources w i fits.sources h in
        let out = apart-from there.range (written shape n c) row there.among
        (each-at (λ r. AllByRecursion (AreApart r) (written shape n c))
        (ranges n shape.sources c.sources) w there.range fits.read there.at) in
        placed-value shape n q c s row
        (value-below q n shape.sources c.sources w i fits.sources h) out.0
        ∙ put-miss q n 0 (results shape) c.results s
        (put_in n (result_rows shape n) shape.sources c.sources s row false) row fits.results out.1
        ∙ put-hit q n (result_rows shape n) shape.sources c.sources s false w i fits.sources sources h
    by space.ScratchBit w i d h =
        let l = ltb-true w shape.bits h in
        let room = fits.scratch (omega arith) in
        placed-scratch shape n q c s (c.scratch + w) w (omega (arith, room, l)) refl
        (omega (arith, l))
    by space.ScratchWord w i d h =
        let l = ltb-true (w * n + i) (n * shape.words) h in
        let room = fits.scratch (omega arith) in
        let e : value_rows shape n + (shape.bits + w * n + i)
        ≡ value_rows shape n + shape.bits + w * n + i = omega arith in
        placed-scratch shape n q c s (c.scratch + shape.bits + w * n + i) (shape.bits + w * n + i)
        (omega (arith, room, l)) (omega arith) (omega (arith, l))
        ∙ ap (λ k. s (D k)) e
    by space.Spill w i d h =
        let e : value_rows shape n + need shape n + w ≡ canonical_rows shape n - 32 + w =
        omega arith in
        placed-spill shape n q c s w ∙ ap (λ k. s (D k)) e

-- the column holds the numbers, and the commands give the results
pub elsewhere : (shape : Shape) (n : ℕ) (issues : List Issue) (s : Column) → 0 < n
    → AreGood shape n issues → (rows : ℕ) (b : Bound) → Fits rows shape n b
    → ArePairwiseApart (ranges n shape.sources b.sources)
    → (t : Column) × (numbers n shape.sources b.sources t
    ≡ numbers n shape.sources (canonical shape n).sources s)
    × (numbers n (results shape) b.results (run (bound rows shape n b issues) t)
    ≡ numbers n (results shape) (canonical shape n).results
    (run (bound (canonical_rows shape n) shape n (canonical shape n) issues) s))
elsewhere shape n issues s some good q c fits sources =
    let own = canonical-fits shape n some in
    let p = canonical_rows shape n in
    let b = canonical shape n in
    let t = placed shape n q c s in
    let alike = placed-alike shape n q c s fits sources in
    let end = run_alike shape n p q b c own fits issues s t alike good in (
      t,
      sym (numbers-same p q n shape.sources b.sources c.sources s t own.sources fits.sources
          (λ w i l. alike.row space.Source w i refl l)),
      sym (numbers-same p q n (results shape) b.results c.results
          (run (bound p shape n b issues) s) (run (bound q shape n c issues) t) own.results
          fits.results (λ w i l. end.row space.Result w i refl l)),
    )
