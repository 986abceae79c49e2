-- How sources are loaded, one after the other.
use Rattle.soak_job.proofs.Common.{◌≡◌, ℕ, zero, suc, ◌+◌, ◌*◌, ◌<◌, ◌≤◌, Bool, false, List, []}
use Rattle.soak_job.proofs.Common.{◌∷◌, ◌++◌, length, map, drop, get_or, refl, sym, ap, ◌∙◌, subst}
use Rattle.soak_job.proofs.Common.{arith, append-nil, flat_map, range_with_len, length-append}
use Rattle.soak_job.proofs.Common.{map-append, nat_tests, Kind, Word, Bit, Counters, Column, Banks}
use Rattle.soak_job.proofs.Common.{ChipView, Did, below, number, Did-none, StoppedWithin}
use Rattle.soak_job.proofs.Common.{stopped_before, stopped_later, numbers, width}
use Rattle.std.proofs.Common.{◌-◌}
use Rattle.std.specs.Prelude.{replicate}
use Rattle.std.proofs.lemmas.List.FromFn.{length-map-range_with_len, length-range_with_len}
use Rattle.bit_rows.specs.Bits.{value}
use Rattle.dram_model.specs.declared.address.Cell.TheVariants.{D}
use Rattle.dram_model.specs.Elements.{numbers_in, padded_to, segments_of, size_of, write_events}
use Rattle.dram_model.proofs.EventLaws.{Did-more}
use Rattle.transpose_unit.specs.Laws.{is_in_rows}
use Rattle.transpose_unit.proofs.Held.{counted_hold, others_hold, rows_are}
use Rattle.soak_job.proofs.Counting.{sum_cons}
use Rattle.soak_job.specs.Words.{following, after_all, elements, sources_at, value_at, values_of}
use Rattle.soak_job.specs.Layout.{bases_from, source_row_count, soak_chip, source_writes}
use Rattle.soak_job.specs.OneCase.{WritesMore}

-- banks whose columns are alike
pub same_below : {X : Type 0} (f : Column → X) (a b : Banks) (k start : ℕ)
    → ((bank : ℕ) → map f (a bank) ≡ map f (b bank))
    → map f (flat_map a (range_with_len start k)) ≡ map f (flat_map b (range_with_len start k))
same_below f a b zero start e = refl
same_below f a b (suc k) start e =
    let left = flat_map a (range_with_len (start + 1) k) in
    let right = flat_map b (range_with_len (start + 1) k) in
    map-append f (a start) left ∙ ap (λ x. x ++ map f left) (e start)
    ∙ ap (λ x. map f (b start) ++ x) (same_below f a b k (start + 1) e)
    ∙ sym (map-append f (b start) right)

column_same : (base w : ℕ) (x y : Column)
    → ((row : ℕ) → row < base + w → x (D row) ≡ y (D row)) → number base w x ≡ number base w y
column_same base w x y e = ap value (rows_are (λ row. x (D row)) (λ row. y (D row)) base base w
    (λ k l. e (base + k) (omega arith)))

-- columns whose rows are alike have the same numbers there
pub numbers_same : (base w : ℕ) (xs ys : List Column) → 0 < w
    → ((row : ℕ) → row < base + w → map (λ (s : Column). s (D row)) xs
    ≡ map (λ (s : Column). s (D row)) ys) → map (number base w) xs ≡ map (number base w) ys
numbers_same base w [] [] p e = refl
numbers_same base w [] (y ∷ ys) p e =
    let none : 0 ≡ suc (length (map (λ (s : Column). s (D base)) ys)) =
    ap length (e base (omega arith)) in absurd (omega (arith, none))
numbers_same base w (x ∷ xs) [] p e =
    let none : suc (length (map (λ (s : Column). s (D base)) xs)) ≡ 0 =
    ap length (e base (omega arith)) in absurd (omega (arith, none))
numbers_same base w (x ∷ xs) (y ∷ ys) p e =
    let first = column_same base w x y
    (λ row l. ap (λ (bs : List Bool). get_or bs 0 false) (e row l)) in
    let rest = numbers_same base w xs ys p (λ row l. ap (λ (bs : List Bool). drop 1 bs) (e row l))
    in
    ap (λ v. v ∷ map (number base w) xs) first ∙ ap (λ vs. number base w y ∷ vs) rest

-- lists of numbers, of which each has one more in front
pub both : {A B : Type 0} (f : A → ℕ) (h : A → List ℕ) (g : B → ℕ) (k : B → List ℕ) (xs : List A)
    (is : List B) → map f xs ≡ map g is → map h xs ≡ map k is
    → map (λ x. f x ∷ h x) xs ≡ map (λ i. g i ∷ k i) is
both f h g k [] [] e d = refl
both f h g k [] (i ∷ is) e d =
    let none : 0 ≡ suc (length (map g is)) = ap length e in absurd (omega (arith, none))
both f h g k (x ∷ xs) [] e d =
    let none : suc (length (map f xs)) ≡ 0 = ap length e in absurd (omega (arith, none))
both f h g k (x ∷ xs) (i ∷ is) e d =
    let one : f x ≡ g i = ap (λ (vs : List ℕ). get_or vs 0 0) e in
    let others : h x ≡ k i = ap (λ (vs : List (List ℕ)). get_or vs 0 []) d in
    let rest = both f h g k xs is (ap (λ (vs : List ℕ). drop 1 vs) e)
    (ap (λ (vs : List (List ℕ)). drop 1 vs) d) in
    ap (λ v. (v ∷ h x) ∷ map (λ x. f x ∷ h x) xs) one
    ∙ ap (λ vs. (g i ∷ vs) ∷ map (λ x. f x ∷ h x) xs) others
    ∙ ap (λ rows. (g i ∷ k i) ∷ rows) rest

-- where the columns have the sources from here on, and below them what they have now, they have all
-- sources
abbrev pub Completes : (n : ℕ) → List Kind → List Kind → (first state row : ℕ) → Banks → Type 0
Completes n kinds rest first state row now = (banks : Banks)
    → ((r bank : ℕ) → r < row → map (λ (s : Column). s (D r)) (banks bank)
    ≡ map (λ (s : Column). s (D r)) (now bank))
    → map (numbers n rest (bases_from row n rest)) (below 2 banks)
    ≡ map (sources_at state n rest) (range_with_len 0 elements)
    → map (numbers n kinds (bases_from 0 n kinds)) (below 2 banks)
    ≡ map (sources_at first n kinds) (range_with_len 0 elements)

-- the sources so far were written
pub record SoFar (n : ℕ) (kinds rest : List Kind) (first state row : ℕ) (start now : ChipView) :
    Type 0 where
  pub rows : row + source_row_count n rest ≡ source_row_count n kinds
  pub writes : WritesMore (2 * row) start.counters now.counters
  pub did : (new : ChipView) → Did (source_writes state row n rest) now new
      → Did (source_writes first 0 n kinds) start new
  pub stops : (last : Banks) → StoppedWithin 0 (source_writes state row n rest) now.banks last
      → StoppedWithin 0 (source_writes first 0 n kinds) start.banks last
  pub completes : Completes n kinds rest first state row now.banks
  pub after_is : after_all state rest ≡ after_all first kinds

wide : (n : ℕ) (k : Kind) → 0 < n → 0 < width k n
wide n Word p = p
wide n Bit p = omega arith

outside : (base w row : ℕ) → row < base → is_in_rows base w (D row) ≡ false
outside base w row l = grind (arith, nat_tests)

-- what the writes of one source leave
pub written_numbers : (values : List ℕ) (banks : Banks) (base w : ℕ) → length values ≡ 256
    → numbers_in soak_chip banks base w (length values)
    ≡ padded_to (size_of soak_chip (length values)) values
    → map (number base w) (below 2 banks) ≡ values
written_numbers values banks base w e h =
    let padded : map (number base w) (below 2 banks) ≡ values ++ [] =
    subst (λ m. map (number base w) (below (segments_of soak_chip m) banks)
    ≡ values ++ replicate (size_of soak_chip m - m) 0) e h in
    padded ∙ append-nil values

pub one_more : (n : ℕ) (kinds rest more : List Kind) (k : Kind) (first state row : ℕ)
    (start now mid : ChipView) → 0 < n → rest ≡ k ∷ more
    → SoFar n kinds rest first state row start now
    → Did (write_events soak_chip row (width k n) (values_of state (width k n))) now mid
    → map (number row (width k n)) (below 2 mid.banks) ≡ values_of state (width k n)
    → SoFar n kinds more first (following state elements) (row + width k n) start mid
one_more n kinds rest more k first state row start now mid p e so wrote are =
    let w : ℕ = width k n in
    let size : length (values_of state w) ≡ 256 =
    length-map-range_with_len (value_at state w) 0 256 in
    let here : SoFar n kinds (k ∷ more) first state row start now =
    subst (λ (ks : List Kind). SoFar n kinds ks first state row start now) e so in
    let lower : (r bank : ℕ) → r < row → map (λ (s : Column). s (D r)) (mid.banks bank)
    ≡ map (λ (s : Column). s (D r)) (now.banks bank) = λ r bank l.
    ap (λ (b : Banks). map (λ (s : Column). s (D r)) (b bank)) wrote.banks
    ∙ others_hold soak_chip row w (values_of state w) now.banks bank (D r) (outside row w r l) in
    let counted : mid.counters ≡ record now.counters { writes = now.counters.writes + w * 2 } =
    wrote.counters ∙ counted_hold soak_chip row w (values_of state w) now.counters
    ∙ ap (λ m. record now.counters { writes = now.counters.writes + w * segments_of soak_chip m })
    size in
    let all : source_row_count n (k ∷ more) ≡ w + source_row_count n more =
    sum_cons (λ (j : Kind). width j n) k more in
    let sum : now.counters.writes + w * 2 ≡ start.counters.writes + 2 * (row + w) =
    omega (arith, ap (λ (c : Counters). c.writes) here.writes) in
    record {
      rows = omega (arith, here.rows, all);
      writes = counted ∙ ap (λ (c : Counters). record c { writes = now.counters.writes + w * 2 })
          here.writes ∙ ap (λ x. record start.counters { writes = x }) sum;
      did = λ new d. here.did new (Did-more _ _ now mid new wrote d);
      stops = λ last s. here.stops last (stopped_later 0 (write_events soak_chip row w
          (values_of state w)) (source_writes (following state elements) (row + w) n more)
          now.banks mid.banks last wrote.banks s);
      completes = λ banks low more_are. here.completes banks
          (λ r bank l. low r bank (omega arith) ∙ lower r bank l)
          (both (number row w) (numbers n more (bases_from (row + w) n more)) (value_at state w)
          (sources_at (following state elements) n more) (below 2 banks) (range_with_len 0 elements)
          (numbers_same row w (below 2 banks) (below 2 mid.banks) (wide n k p)
          (λ r l. same_below (λ (s : Column). s (D r)) banks mid.banks 2 0 (λ bank. low r bank l))
          ∙ are) more_are);
      after_is = here.after_is;
    }

-- the same, as a loop has it
pub step_as : (n : ℕ) (kinds rest more : List Kind) (values : List ℕ) (k : Kind) (first state row
    next up w : ℕ)
    (start now mid : ChipView) → 0 < n → rest ≡ k ∷ more → next ≡ following state elements
    → w ≡ width k n → up ≡ w → values ≡ values_of state w → length values ≡ 256
    → SoFar n kinds rest first state row start now
    → Did (write_events soak_chip row w values) now mid
    → numbers_in soak_chip mid.banks row w (length values)
    ≡ padded_to (size_of soak_chip (length values)) values
    → SoFar n kinds more first next (row + up) start mid
step_as n kinds rest more values k first state row next up w start now mid p e g ew eu ev size so
    wrote are =
    let numbers_are = written_numbers values mid.banks row w size are in
    let same_numbers : map (number row (width k n)) (below 2 mid.banks)
    ≡ values_of state (width k n) =
    subst (λ x. map (number row x) (below 2 mid.banks) ≡ values_of state x) ew
    (numbers_are ∙ ev) in
    let same_writes : Did (write_events soak_chip row (width k n) (values_of state (width k n))) now
    mid = subst (λ x. Did (write_events soak_chip row x (values_of state x)) now mid) ew
    (subst (λ (vs : List ℕ). Did (write_events soak_chip row w vs) now mid) ev wrote) in
    subst (λ s. SoFar n kinds more first s (row + up) start mid) (sym g)
    (subst (λ x. SoFar n kinds more first (following state elements) (row + x) start mid)
    (sym (eu ∙ ew)) (one_more n kinds rest more k first state row start now mid p e so same_writes
    same_numbers))

-- a source that was not written
pub source_failed : (n : ℕ) (kinds rest more : List Kind) (values : List ℕ) (k : Kind)
    (first state row w : ℕ) (start now : ChipView) (last : Banks) → rest ≡ k ∷ more
    → w ≡ width k n → values ≡ values_of state w
    → SoFar n kinds rest first state row start now
    → StoppedWithin 0 (write_events soak_chip row w values) now.banks last
    → StoppedWithin 0 (source_writes first 0 n kinds) start.banks last
source_failed n kinds rest more values k first state row w start now last e ew ev so s =
    let own : StoppedWithin 0 (write_events soak_chip row (width k n)
    (values_of state (width k n))) now.banks last =
    subst (λ x. StoppedWithin 0 (write_events soak_chip row x (values_of state x)) now.banks last) ew
    (subst (λ (vs : List ℕ). StoppedWithin 0 (write_events soak_chip row w vs) now.banks last) ev
    s) in
    so.stops last (subst (λ (ks : List Kind). StoppedWithin 0 (source_writes state row n ks)
    now.banks last) (sym e) (stopped_before 0 _ (source_writes (following state elements)
    (row + width k n) n more) now.banks last own))

-- rows for one source more
pub has_rows : (n : ℕ) (rest more : List Kind) (k : Kind) (row w all : ℕ) → rest ≡ k ∷ more
    → w ≡ width k n → row + source_row_count n rest ≡ all → all ≤ 512 → row + w ≤ 512
has_rows n rest more k row w all e ew h l =
    let cons : source_row_count n (k ∷ more) ≡ width k n + source_row_count n more =
    sum_cons (λ (j : Kind). width j n) k more in
    let same : source_row_count n rest ≡ source_row_count n (k ∷ more) = ap (source_row_count n) e in
    omega (arith, cons, same, ew, h, l)

abbrev no_numbers : List ℕ
no_numbers = []

nothing : {A B : Type 0} (xs : List A) (ys : List B) → length xs ≡ length ys
    → map (λ (x : A). no_numbers) xs ≡ map (λ (y : B). no_numbers) ys
nothing [] [] e = refl
nothing [] (y ∷ ys) e = absurd (omega (arith, e))
nothing (x ∷ xs) [] e = absurd (omega (arith, e))
nothing (x ∷ xs) (y ∷ ys) e = ap (λ (rest : List (List ℕ)). [] ∷ rest)
    (nothing xs ys (omega (arith, e)))

-- all sources were written
pub all_loaded : (n : ℕ) (kinds rest : List Kind) (first state row : ℕ) (start now : ChipView)
    → rest ≡ [] → length (now.banks 0) ≡ 128 → length (now.banks 1) ≡ 128
    → SoFar n kinds rest first state row start now
    → Did (source_writes first 0 n kinds) start now
    × (map (numbers n kinds (bases_from 0 n kinds)) (below 2 now.banks)
    ≡ map (sources_at first n kinds) (range_with_len 0 elements))
all_loaded n kinds rest first state row start now e zero_long one_long so =
    let here : SoFar n kinds [] first state row start now =
    subst (λ (ks : List Kind). SoFar n kinds ks first state row start now) e so in
    let size : length (now.banks 0 ++ (now.banks 1 ++ [])) ≡ 256 =
    length-append (now.banks 0) (now.banks 1 ++ [])
    ∙ omega (arith, length-append (now.banks 1) [], zero_long, one_long) in
    let many : length (range_with_len 0 256) ≡ 256 = length-range_with_len 0 256 in (
      here.did now (Did-none now),
      here.completes now.banks (λ r bank l. refl)
          (nothing (below 2 now.banks) (range_with_len 0 elements) (size ∙ sym many)),
    )
