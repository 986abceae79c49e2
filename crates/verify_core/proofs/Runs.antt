-- Runs on variables, in a diagram that grew, and from a column of one's choice
use Rattle.verify_core.proofs.Common.{ℕ, ◌*◌, ◌<◌, ◌≤◌, Bool, List, length, slice_index, sym, ◌∙◌}
use Rattle.verify_core.proofs.Common.{ap, arith, flip_if, D, Column, Kind, Shape, Issue, Bound}
use Rattle.verify_core.proofs.Common.{Fits, numbers, Edge, Node, Keeps, value-kept, AreCells, Cells}
use Rattle.verify_core.proofs.Common.{column_of, column-kept, canonical, canonical_rows}
use Rattle.verify_core.proofs.Common.{result_rows, value_rows, bases, canonical-fits, moved}
use Rattle.verify_core.proofs.Common.{base-at, numbers-same, ◌≡◌, ◌+◌}
use Rattle.symbolic_column.proofs.Lines.{cells-kept}
use Rattle.binding_laws.specs.Alike.{Alike}
use Rattle.binding_laws.proofs.Settled.{moved-alike, same-alike, base-small}
use Rattle.verify_core.specs.declared.start.Begin.{Begin}
use Rattle.verify_core.specs.declared.start.Begin.TheVariants.{Variables}
use Rattle.verify_core.specs.Starts.{IsMeant, IsStart, row_variable}
use Rattle.verify_core.specs.SymbolicRuns.{IsRun, IsDifference, ResultsDiffer}
use Rattle.verify_core.specs.Verdicts.{SameKinds}
use Rattle.verify_core.proofs.Orders.{bits_of, bits-tee, bits-dual, bits-row}

-- and what a run came to
pub run-kept : (shape : Shape) (n : ℕ) (issues : List Issue) (b : Begin) (x y : List Node)
    (end : Cells) → Keeps x y → IsRun shape n issues b x end → IsRun shape n issues b y end
run-kept shape n issues b x y end k ran = record {
  first = ran.first;
  start = ran.start;
  starts = ran.starts;
  start_rows = ran.start_rows;
  does = λ bits. column-kept x y bits end k ran.cells ∙ ran.does bits;
  cells = cells-kept x y end k ran.cells;
  rows = ran.rows;
  short = ran.short;
}

-- and where two runs differ
pub difference-kept : (old new last : List Node) (own made : Cells) (row : ℕ) (e : Edge)
    → Keeps old last → Keeps new last → AreCells old own → AreCells old made
    → IsDifference old new own made row e → IsDifference last last own made row e
difference-kept old new last own made row e k l p q d = record {
  named = omega (arith, d.named, l.longer);
  some = d.some;
  value = λ bits. value-kept new last bits e l d.named ∙ d.value bits
      ∙ ap (λ (s : Column). flip_if (s (D row)) (column_of old bits made (D row)))
      (sym (column-kept old last bits own k p))
      ∙ ap (λ (s : Column). flip_if (column_of last bits own (D row)) (s (D row)))
      (sym (column-kept old last bits made k q));
}

pub results-kept : (shape : Shape) (n : ℕ) (old new last : List Node) (own made : Cells) (e : Edge)
    → Keeps old last → Keeps new last → AreCells old own → AreCells old made
    → ResultsDiffer shape n old new own made e → ResultsDiffer shape n last last own made e
results-kept shape n old new last own made e k l p q d = record {
  which = d.which;
  position = d.position;
  inside = d.inside;
  difference = difference-kept old new last own made (d.which * n + d.position) e k l p q d.difference;
}

-- an assignment that gives a column, as far as the canonical bank goes
pub start-alike : (shape : Shape) (n q : ℕ) (c : Bound) (t : Column) (issues : List Issue)
    (nodes : List Node) (end : Cells) → 0 < n → Fits q shape n c
    → (ran : IsRun shape n issues Variables nodes end)
    → (let bits = bits_of n (length shape.sources) (result_rows shape n) (moved shape n q c t) in
    Alike shape n (canonical_rows shape n) q (canonical shape n) c
    (column_of ran.first bits ran.start) t)
start-alike shape n q c t issues nodes end some fits ran =
    let m = moved shape n q c t in
    let s = length shape.sources in
    let r = result_rows shape n in
    let bits = bits_of n s r m in
    same-alike shape n q c (column_of ran.first bits ran.start) m t some
    (λ k l. ran.starts.tees bits tt k l ∙ bits-tee n s r m k l)
    (λ k l. ran.starts.duals bits tt k l ∙ bits-dual n s r m k l)
    (λ k l. ran.starts.rows bits tt k (omega (arith, ran.start_rows, l)) ∙ bits-row n s r m k some)
    (moved-alike shape n q c t some fits)

-- columns of variables hold the same numbers as sources, whatever the scratch
pub sources-same : (a b : Shape) (n : ℕ) (f g : Begin) (x y : List Node) (c d : Cells)
    (bits : ℕ → Bool) → 0 < n → SameKinds a b → IsMeant f bits → IsMeant g bits
    → IsStart x f n (length a.sources) (result_rows a n) c
    → IsStart y g n (length b.sources) (result_rows b n) d → value_rows a n ≤ length c.rows
    → value_rows b n ≤ length d.rows
    → numbers n a.sources (canonical a n).sources (column_of x bits c)
    ≡ numbers n b.sources (canonical b n).sources (column_of y bits d)
sources-same a b n f g x y c d bits some same mf mg p q long wide =
    numbers-same (canonical_rows a n) (canonical_rows a n) n a.sources
    (bases n (result_rows a n) a.sources) (bases n (result_rows a n) a.sources)
    (column_of x bits c) (column_of y bits d) (canonical-fits a n some).sources
    (canonical-fits a n some).sources
    (λ w i h. at (slice_index (bases n (result_rows a n) a.sources) w + i)
    (omega (
      arith,
      base-at n (result_rows a n) a.sources w i h,
      (base-small n (result_rows a n) a.sources w i some h).0,
    )))
    ∙ ap (λ (ks : List Kind). numbers n ks (bases n (result_rows a n) ks)
    (column_of y bits d)) same.sources
    ∙ ap (λ (r : ℕ). numbers n b.sources (bases n r b.sources) (column_of y bits d)) rows-one
  where
    rows-one : result_rows a n ≡ result_rows b n
    rows-one = ap (λ (ks : List Kind). n * length ks) same.results

    sources-one : length a.sources ≡ length b.sources
    sources-one = ap (λ (ks : List Kind). length ks) same.sources

    at : (k : ℕ) → k < value_rows a n → column_of x bits c (D k) ≡ column_of y bits d (D k)
    at k l =
        p.rows bits mf k (omega (arith, l, long))
        ∙ ap (λ (r : ℕ). bits (6 + row_variable n (length a.sources) r k)) rows-one
        ∙ ap (λ (s : ℕ). bits (6 + row_variable n s (result_rows b n) k)) sources-one
        ∙ sym (q.rows bits mg k (omega (
          arith,
          l,
          wide,
          rows-one,
          ap (λ (v : ℕ). n * v) sources-one,
        )))
