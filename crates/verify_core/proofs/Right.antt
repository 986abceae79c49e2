-- Two microprograms whose result rows are one function each do the same
use Rattle.verify_core.proofs.Common.{ℕ, ◌*◌, ◌<◌, ◌≤◌, Bool, List, length, slice_index, sym, ◌∙◌}
use Rattle.verify_core.proofs.Common.{ap, arith, Column, Kind, Shape, results, Issue, numbers}
use Rattle.verify_core.proofs.Common.{Gives, AreGood, Node, Cells, column_of, canonical}
use Rattle.verify_core.proofs.Common.{canonical_rows, result_rows, value_rows, bases}
use Rattle.verify_core.proofs.Common.{canonical-fits, base-at, moved, numbers-same, ◌≡◌, ◌+◌}
use Rattle.binding_laws.proofs.Enough.{enough-from}
use Rattle.verify_core.specs.declared.start.Begin.{Begin}
use Rattle.verify_core.specs.declared.start.Begin.TheVariants.{Variables}
use Rattle.verify_core.specs.SymbolicRuns.{IsRun, ResultsAgree}
use Rattle.verify_core.specs.Verdicts.{SameKinds}
use Rattle.verify_core.proofs.Orders.{bits_of}
use Rattle.verify_core.proofs.Runs.{start-alike, sources-same}

-- the canonical bank has the rows of the values
pub values-inside : (shape : Shape) (n : ℕ) (c : Cells) → length c.rows ≡ canonical_rows shape n
    → value_rows shape n ≤ length c.rows
values-inside shape n c e = omega arith

-- results that agree row by row are the same numbers
pub results-same : (shape : Shape) (n : ℕ) (nodes : List Node) (end finish : Cells) → 0 < n
    → ResultsAgree shape n nodes end finish → (bits : ℕ → Bool)
    → numbers n (results shape) (canonical shape n).results (column_of nodes bits end)
    ≡ numbers n (results shape) (canonical shape n).results (column_of nodes bits finish)
results-same shape n nodes end finish some agree bits =
    numbers-same (canonical_rows shape n) (canonical_rows shape n) n (results shape)
    (bases n 0 (results shape)) (bases n 0 (results shape)) (column_of nodes bits end)
    (column_of nodes bits finish) (canonical-fits shape n some).results
    (canonical-fits shape n some).results
    (λ w i h.
    let e : slice_index (bases n 0 (results shape)) w + i ≡ w * n + i =
    omega (arith, base-at n 0 (results shape) w i h) in
    rw e (agree bits w i h))

-- the numbers of a column, by kinds that are the same
pub results-renamed : (a b : Shape) (n : ℕ) (s : Column) → SameKinds a b
    → numbers n (results a) (canonical a n).results s ≡ numbers n (results b) (canonical b n).results s
results-renamed a b n s same =
    ap (λ (ks : List Kind). numbers n ks (bases n 0 ks) s) same.results

-- what a run of a microprogram that gives a meaning came to
pub run-means : (b : Shape) (n : ℕ) (ys : List Issue) (meaning : List ℕ → List ℕ)
    (begin : Begin) (nodes : List Node) (finish : Cells) (bits : ℕ → Bool) → 0 < n
    → (did : IsRun b n ys begin nodes finish) → Gives b n ys meaning
    → numbers n (results b) (canonical b n).results (column_of nodes bits finish)
    ≡ meaning (numbers n b.sources (canonical b n).sources (column_of did.first bits did.start))
run-means b n ys meaning begin nodes finish bits some did gives =
    ap (numbers n (results b) (canonical b n).results) (did.does bits)
    ∙ gives.value (canonical_rows b n) (canonical b n) (column_of did.first bits did.start)
    (canonical-fits b n some)

pub right : (a b : Shape) (n : ℕ) (xs ys : List Issue) (meaning : List ℕ → List ℕ)
    (nodes : List Node) (end finish : Cells) → 0 < n → SameKinds a b → AreGood a n xs
    → IsRun a n xs Variables nodes end → IsRun b n ys Variables nodes finish → Gives b n ys meaning
    → ResultsAgree a n nodes end finish → Gives a n xs meaning
right a b n xs ys meaning nodes end finish some same good ran did gives agree =
    enough-from a n xs meaning some good (λ q c t fits.
    let bits = bits_of n (length a.sources) (result_rows a n) (moved a n q c t) in (
      column_of ran.first bits ran.start,
      start-alike a n q c t xs nodes end some fits ran,
      ap (numbers n (results a) (canonical a n).results) (sym (ran.does bits))
          ∙ results-same a n nodes end finish some agree bits
          ∙ results-renamed a b n (column_of nodes bits finish) same
          ∙ run-means b n ys meaning Variables nodes finish bits some did gives
          ∙ ap meaning (sym (sources-same a b n Variables Variables ran.first did.first ran.start
          did.start bits some same tt tt ran.starts did.starts (values-inside a n ran.start ran.start_rows)
          (values-inside b n did.start did.start_rows))),
    ))
