-- The canonical binding fits, and a column that is moved to it is alike
use Rattle.std.specs.Prelude.{◌≡◌, ℕ, zero, suc, ◌+◌, ◌-◌, ◌*◌, ◌<◌, ◌≤◌, nat_lt, Bool}
use Rattle.std.specs.Prelude.{true, false, List, [], ◌∷◌, length, slice_get, slice_index}
use Rattle.std.specs.Prelude.{refl, if◌then◌else◌}
use Rattle.std.specs.List.{AllByRecursion}
use Rattle.std.proofs.Common.{◌∙◌, ap, arith}
use Rattle.std.proofs.lemmas.Bool.{ltb-true, lt-ltb}
use Rattle.dram_model.specs.declared.address.Cell.TheVariants.{T, Dcc, C, D}
use Rattle.dram_model.specs.Column.{Column}
use Rattle.op_text.specs.declared.tree.Kind.{Kind}
use Rattle.op_text.specs.declared.tree.Kind.TheVariants.{Word, Bit}
use Rattle.uprog_code.specs.declared.code.RowSpace.{RowSpace}
use Rattle.uprog_code.specs.declared.code.RowSpace.TheVariants as space
use Rattle.uprog_code.specs.Shape.{Shape, width, results, need}
use Rattle.uprog_code.specs.Machine.{in_kind}
use Rattle.uprog_code.specs.Bound.{Bound}
use Rattle.uprog_code.specs.Fits.{Range, AreApart, AreBelow, ranges, Fits, ArePairwiseApart}
use Rattle.uprog_code.specs.Fits.{written, scratch_range, result_ranges}
use Rattle.uprog_code.specs.Issued.{is_issued_in}
use Rattle.binding_laws.specs.Alike.{is_data, data_row, Alike}
use Rattle.binding_laws.specs.Canonical.{bases, result_rows, value_rows, canonical, canonical_rows}
use Rattle.binding_laws.proofs.Places.{kind_width}

-- the bit at the k-th row of values that begin at these rows, n rows each
abbrev pub pick : ℕ → List ℕ → Column → ℕ → Bool
pick n [] t k = false
pick n (b ∷ bs) t k = if nat_lt k n then t (D (b + k)) else pick n bs t (k - n)

-- the data rows of a column under another binding, as the canonical one places them
abbrev pub moved_row : Shape → ℕ → ℕ → Bound → Column → ℕ → Bool
moved_row shape n q c t k =
    if nat_lt k (result_rows shape n) then pick n c.results t k
    else if nat_lt k (value_rows shape n) then pick n c.sources t (k - result_rows shape n)
    else if nat_lt k (value_rows shape n + need shape n)
    then t (D (c.scratch + (k - value_rows shape n)))
    else t (D (q - 32 + (k - (value_rows shape n + need shape n))))

-- such a column, as the canonical binding places it
abbrev pub moved : Shape → ℕ → ℕ → Bound → Column → Column
moved shape n q c t (T k) = t (T k)
moved shape n q c t (Dcc k) = t (Dcc k)
moved shape n q c t (C k) = false
moved shape n q c t (D k) = moved_row shape n q c t k

-- a range lies from lo up to hi
pub record Within (lo hi : ℕ) (r : Range) : Type 0 where
  pub low : lo ≤ r.base
  pub high : r.base + r.size ≤ hi

width-within : (k : Kind) (n : ℕ) → 0 < n → width k n ≤ n
width-within Word n h = omega arith
width-within Bit n h = omega arith

more-rows : (s n l hi : ℕ) → s + n * suc l ≤ hi → s + n + n * l ≤ hi
more-rows s n l hi h = omega arith

first-rows : (s n l hi : ℕ) → s + n * suc l ≤ hi → s + n ≤ hi
first-rows s n l hi h = grind arith

bases-within : (n lo hi s : ℕ) (ks : List Kind) → 0 < n → lo ≤ s → s + n * length ks ≤ hi
    → AllByRecursion (Within lo hi) (ranges n ks (bases n s ks))
bases-within n lo hi s [] some l h = tt
bases-within n lo hi s (k ∷ ks) some l h =
    let w = width-within k n some in
    let f = first-rows s n (length ks) hi h in (
      record { low = l; high = omega arith },
      bases-within n lo hi (s + n) ks some (omega arith) (more-rows s n (length ks) hi h),
    )

bases-below : (rows n s : ℕ) (ks : List Kind) → 0 < n → s + n * length ks ≤ rows - 32
    → AreBelow rows n ks (bases n s ks)
bases-below rows n s [] some h = tt
bases-below rows n s (k ∷ ks) some h =
    let w = width-within k n some in
    let f = first-rows s n (length ks) (rows - 32) h in (
      omega arith,
      bases-below rows n (s + n) ks some (more-rows s n (length ks) (rows - 32) h),
    )

within-apart : (a b c d : ℕ) (q r : Range) → Within a b q → Within c d r → b ≤ c → AreApart q r
within-apart a b c d q r p s l row i j =
    absurd (omega (arith, p.high, s.low, i.0, i.1, j.0, j.1))

apart-within : (a b c d : ℕ) (q r : Range) → Within a b q → Within c d r → d ≤ a → AreApart q r
apart-within a b c d q r p s l row i j =
    absurd (omega (arith, p.low, s.high, i.0, i.1, j.0, j.1))

all-apart : (a b c d : ℕ) (q : Range) (rs : List Range) → Within a b q
    → AllByRecursion (Within c d) rs → b ≤ c → AllByRecursion (AreApart q) rs
all-apart a b c d q [] p h l = tt
all-apart a b c d q (r ∷ rs) p h l =
    (within-apart a b c d q r p h.0 l, all-apart a b c d q rs p h.1 l)

all-behind : (a b c d : ℕ) (q : Range) (rs : List Range) → Within a b q
    → AllByRecursion (Within c d) rs → d ≤ a → AllByRecursion (AreApart q) rs
all-behind a b c d q [] p h l = tt
all-behind a b c d q (r ∷ rs) p h l =
    (apart-within a b c d q r p h.0 l, all-behind a b c d q rs p h.1 l)

bases-apart : (n s : ℕ) (ks : List Kind) → 0 < n → ArePairwiseApart (ranges n ks (bases n s ks))
bases-apart n s [] some = tt
bases-apart n s (k ∷ ks) some =
    let w = width-within k n some in
    let r : Range = record { base = s; size = width k n } in
    let one : Within s (s + n) r = record { low = omega arith; high = omega arith } in (
      all-apart s (s + n) (s + n) (s + n + n * length ks) r (ranges n ks (bases n (s + n) ks)) one
          (bases-within n (s + n) (s + n + n * length ks) (s + n) ks some (omega arith)
          (omega arith)) (omega arith),
      bases-apart n (s + n) ks some,
    )

each-source : (shape : Shape) (n : ℕ) (rs : List Range) → 0 < n
    → AllByRecursion (Within (result_rows shape n) (value_rows shape n)) rs
    → AllByRecursion (λ s. AllByRecursion (AreApart s) (written shape n (canonical shape n))) rs
each-source shape n [] some h = tt
each-source shape n (r ∷ rs) some h =
    let scratch : Range = scratch_range shape n (canonical shape n) in
    let there : Within (value_rows shape n) (value_rows shape n + need shape n) scratch =
    record { low = omega arith; high = omega arith } in (
      (
        within-apart (result_rows shape n) (value_rows shape n) (value_rows shape n)
            (value_rows shape n + need shape n) r scratch h.0 there (omega arith),
        all-behind (result_rows shape n) (value_rows shape n) 0 (result_rows shape n) r
            (result_ranges shape n (canonical shape n)) h.0
            (bases-within n 0 (result_rows shape n) 0 (results shape) some (omega arith) (omega arith))
            (omega arith),
      ),
      each-source shape n rs some h.1,
    )

pub canonical-fits : (shape : Shape) (n : ℕ) → 0 < n
    → Fits (canonical_rows shape n) shape n (canonical shape n)
canonical-fits shape n some =
    let scratch : Range = scratch_range shape n (canonical shape n) in
    let there : Within (value_rows shape n) (value_rows shape n + need shape n) scratch =
    record { low = omega arith; high = omega arith } in
    record {
      results = bases-below (canonical_rows shape n) n 0 (results shape) some (omega arith);
      sources = bases-below (canonical_rows shape n) n (result_rows shape n) shape.sources some
          (omega arith);
      scratch = λ _. omega arith;
      apart = (
        all-behind (value_rows shape n) (value_rows shape n + need shape n) 0 (result_rows shape n)
            scratch (result_ranges shape n (canonical shape n)) there
            (bases-within n 0 (result_rows shape n) 0 (results shape) some (omega arith)
            (omega arith)) (omega arith),
        bases-apart n 0 (results shape) some,
      );
      read = each-source shape n (ranges n shape.sources (canonical shape n).sources) some
          (bases-within n (result_rows shape n) (value_rows shape n) (result_rows shape n)
          shape.sources some (omega arith) (omega arith));
    }

-- a row of a value
pub base-at : (n s : ℕ) (ks : List Kind) (w i : ℕ) → in_kind (slice_get ks w) n i ≡ true
    → slice_index (bases n s ks) w ≡ s + w * n
base-at n s [] w i h = absurd (cc)
base-at n s (k ∷ ks) zero i h = omega arith
base-at n s (k ∷ ks) (suc w) i h = base-at n (s + n) ks w i h ∙ (omega arith)

pub base-small : (n s : ℕ) (ks : List Kind) (w i : ℕ) → 0 < n → in_kind (slice_get ks w) n i ≡ true
    → (w * n + i < n * length ks) × (i < n)
base-small n s [] w i some h = absurd (cc)
base-small n s (k ∷ ks) zero i some h =
    let l = kind_width k n i h in let m = width-within k n some in (grind arith, omega arith)
base-small n s (k ∷ ks) (suc w) i some h =
    let rest = base-small n s ks w i some h in (omega (arith, rest.0), rest.1)

pick-at : (n : ℕ) (ks : List Kind) (bs : List ℕ) (t : Column) (w i rows : ℕ) → AreBelow rows n ks bs
    → in_kind (slice_get ks w) n i ≡ true → i < n
    → pick n bs t (w * n + i) ≡ t (D (slice_index bs w + i))
pick-at n [] bs t w i rows f h l = absurd (cc)
pick-at n (k ∷ ks) [] t w i rows f h l = absurd f
pick-at n (k ∷ ks) (b ∷ bs) t zero i rows f h l =
    let e : zero * n + i ≡ i = omega arith in rw (e, lt-ltb i n l) refl
pick-at n (k ∷ ks) (b ∷ bs) t (suc w) i rows f h l =
    let e : suc w * n + i ≡ n + (w * n + i) = omega arith in
    let m : nat_lt (n + (w * n + i)) n ≡ false = not-below (n + (w * n + i)) n (omega arith) in
    let d : n + (w * n + i) - n ≡ w * n + i = omega arith in
    rw (e, m, d) (pick-at n ks bs t w i rows f.1 h l)
  where
    not-below : (x y : ℕ) → y ≤ x → nat_lt x y ≡ false
    not-below x y l = grind (arith, ltb-true)

not-less : (x y : ℕ) → y ≤ x → nat_lt x y ≡ false
not-less x y l = grind (arith, ltb-true)

moved-result : (shape : Shape) (n q : ℕ) (c : Bound) (t : Column) (k : ℕ) → k < result_rows shape n
    → moved_row shape n q c t k ≡ pick n c.results t k
moved-result shape n q c t k l = rw (lt-ltb k (result_rows shape n) l) refl

moved-source : (shape : Shape) (n q : ℕ) (c : Bound) (t : Column) (k j : ℕ)
    → k ≡ result_rows shape n + j → k < value_rows shape n
    → moved_row shape n q c t k ≡ pick n c.sources t j
moved-source shape n q c t k j e l =
    let d : k - result_rows shape n ≡ j = omega arith in
    rw (
      not-less k (result_rows shape n) (omega arith),
      lt-ltb k (value_rows shape n) l,
      d,
    ) refl

moved-scratch : (shape : Shape) (n q : ℕ) (c : Bound) (t : Column) (k j : ℕ)
    → k ≡ value_rows shape n + j → j < need shape n
    → moved_row shape n q c t k ≡ t (D (c.scratch + j))
moved-scratch shape n q c t k j e l =
    let d : k - value_rows shape n ≡ j = omega arith in
    rw (
      not-less k (result_rows shape n) (omega arith),
      not-less k (value_rows shape n) (omega arith),
      lt-ltb k (value_rows shape n + need shape n) (omega arith),
      d,
    ) refl

moved-spill : (shape : Shape) (n q : ℕ) (c : Bound) (t : Column) (k j : ℕ)
    → k ≡ value_rows shape n + need shape n + j → moved_row shape n q c t k ≡ t (D (q - 32 + j))
moved-spill shape n q c t k j e =
    let d : k - (value_rows shape n + need shape n) ≡ j = omega arith in
    rw (
      not-less k (result_rows shape n) (omega arith),
      not-less k (value_rows shape n) (omega arith),
      not-less k (value_rows shape n + need shape n) (omega arith),
      d,
    ) refl

-- the column that is moved holds the same
pub moved-alike : (shape : Shape) (n q : ℕ) (c : Bound) (t : Column) → 0 < n → Fits q shape n c
    → Alike shape n (canonical_rows shape n) q (canonical shape n) c (moved shape n q c t) t
moved-alike shape n q c t some fits = record {
  tees = λ k l. refl;
  duals = λ k l. refl;
  row = λ x w i d is. by x w i d is;
}
  where
    by : (x : RowSpace) (w i : ℕ) → is_data x ≡ true → is_issued_in shape n x w i ≡ true
        → moved_row shape n q c t
        (data_row (canonical_rows shape n) shape n (canonical shape n) x w i)
        ≡ t (D (data_row q shape n c x w i))
    by space.B w i d h = absurd (cc)
    by space.C w i d h = absurd (cc)
    by space.Result w i d h =
        let e : slice_index (bases n 0 (results shape)) w + i ≡ w * n + i =
        omega (arith, base-at n 0 (results shape) w i h) in
        let s = base-small n 0 (results shape) w i some h in
        rw e (moved-result shape n q c t (w * n + i) s.0
        ∙ pick-at n (results shape) c.results t w i q fits.results h s.1)
    by space.Source w i d h =
        let s = base-small n (result_rows shape n) shape.sources w i some h in
        moved-source shape n q c t
        (slice_index (bases n (result_rows shape n) shape.sources) w + i) (w * n + i)
        (omega (arith, base-at n (result_rows shape n) shape.sources w i h))
        (omega (arith, base-at n (result_rows shape n) shape.sources w i h, s.0))
        ∙ pick-at n shape.sources c.sources t w i q fits.sources h s.1
    by space.ScratchBit w i d h =
        let l = ltb-true w shape.bits h in
        moved-scratch shape n q c t (value_rows shape n + w) w refl (omega arith)
    by space.ScratchWord w i d h =
        let l = ltb-true (w * n + i) (n * shape.words) h in
        let e : c.scratch + (shape.bits + w * n + i) ≡ c.scratch + shape.bits + w * n + i = omega arith in
        moved-scratch shape n q c t (value_rows shape n + shape.bits + w * n + i)
        (shape.bits + w * n + i) (omega arith) (omega arith)
        ∙ ap (λ k. t (D k)) e
    by space.Spill w i d h =
        moved-spill shape n q c t (canonical_rows shape n - 32 + w) w (omega arith)

-- a row of a trace lies in the canonical bank
pub canonical-inside : (shape : Shape) (n : ℕ) (x : RowSpace) (w i : ℕ) → 0 < n → is_data x ≡ true
    → is_issued_in shape n x w i ≡ true
    → data_row (canonical_rows shape n) shape n (canonical shape n) x w i < canonical_rows shape n
canonical-inside shape n space.B w i some d h = absurd (cc)
canonical-inside shape n space.C w i some d h = absurd (cc)
canonical-inside shape n space.Result w i some d h =
    let s = base-small n 0 (results shape) w i some h in
    omega (arith, base-at n 0 (results shape) w i h, s.0)
canonical-inside shape n space.Source w i some d h =
    let s = base-small n (result_rows shape n) shape.sources w i some h in
    omega (arith, base-at n (result_rows shape n) shape.sources w i h, s.0)
canonical-inside shape n space.ScratchBit w i some d h = let l = ltb-true w shape.bits h in omega arith
canonical-inside shape n space.ScratchWord w i some d h =
    let l = ltb-true (w * n + i) (n * shape.words) h in omega arith
canonical-inside shape n space.Spill w i some d h = let l = ltb-true w 32 h in omega arith

-- two columns with the same bits in the cells of the canonical bank are alike
pub same-alike : (shape : Shape) (n q : ℕ) (c : Bound) (s m t : Column) → 0 < n
    → ((k : ℕ) → k < 4 → s (T k) ≡ m (T k)) → ((k : ℕ) → k < 2 → s (Dcc k) ≡ m (Dcc k))
    → ((k : ℕ) → k < canonical_rows shape n → s (D k) ≡ m (D k))
    → Alike shape n (canonical_rows shape n) q (canonical shape n) c m t
    → Alike shape n (canonical_rows shape n) q (canonical shape n) c s t
same-alike shape n q c s m t some tees duals rows a = record {
  tees = λ k l. tees k l ∙ a.tees k l;
  duals = λ k l. duals k l ∙ a.duals k l;
  row = λ x w i d h. rows (data_row (canonical_rows shape n) shape n (canonical shape n) x w i)
      (canonical-inside shape n x w i some d h) ∙ a.row x w i d h;
}
