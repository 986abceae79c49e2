-- An assignment under which two runs differ is a case that fails
use Rattle.verify_core.proofs.Common.{◌≢◌, ℕ, ◌*◌, ◌<◌, Bool, true, false, List, slice_index, refl}
use Rattle.verify_core.proofs.Common.{sym, ◌∙◌, ap, arith, false≢true, flip_if, D, Shape, results}
use Rattle.verify_core.proofs.Common.{Issue, run, bound, numbers, Gives, AreGood, Edge, Node, value}
use Rattle.verify_core.proofs.Common.{Cells, column_of, canonical, canonical_rows, bases}
use Rattle.verify_core.proofs.Common.{canonical-fits, base-at, ◌≡◌, ◌+◌}
use Rattle.binding_laws.proofs.Elsewhere.{elsewhere}
use Rattle.verify_core.specs.declared.case.Case.{Case}
use Rattle.verify_core.specs.declared.start.Begin.{Begin}
use Rattle.verify_core.specs.Starts.{IsMeant}
use Rattle.verify_core.specs.SymbolicRuns.{IsCase, IsRun, ResultsDiffer}
use Rattle.verify_core.specs.Verdicts.{Fails, SameKinds}
use Rattle.verify_core.proofs.Runs.{sources-same}
use Rattle.verify_core.proofs.Right.{values-inside, results-renamed, run-means}
use Rattle.verify_core.proofs.Numbers.{numbers-bits}
use Rattle.verify_core.proofs.Ones.{work-same}

not-alike : (x y : Bool) → flip_if x y ≡ true → x ≡ y → ⊥
not-alike true true h e = false≢true h
not-alike false false h e = false≢true h
not-alike true false h e = false≢true (sym e)
not-alike false true h e = false≢true e

same-kinds : (a : Shape) → SameKinds a a
same-kinds a = record { sources = refl; results = refl }

-- numbers of results that differ at a row
pub apart-by : (a : Shape) (n : ℕ) (nodes : List Node) (end finish : Cells) (bits : ℕ → Bool)
    (e : Edge) → 0 < n → ResultsDiffer a n nodes nodes end finish e → value nodes bits e ≡ true
    → numbers n (results a) (bases n 0 (results a)) (column_of nodes bits end)
    ≢ numbers n (results a) (bases n 0 (results a)) (column_of nodes bits finish)
apart-by a n nodes end finish bits e some differ true_ one =
    let row = differ.which * n + differ.position in
    let at : slice_index (bases n 0 (results a)) differ.which + differ.position ≡ row =
    omega (arith, base-at n 0 (results a) differ.which differ.position differ.inside) in
    not-alike (column_of nodes bits end (D row)) (column_of nodes bits finish (D row))
    (sym (differ.difference.value bits) ∙ true_)
    (rw at at (numbers-bits (canonical_rows a n) n (results a) (bases n 0 (results a))
    (column_of nodes bits end) (column_of nodes bits finish) differ.which differ.position
    (canonical-fits a n some).results one differ.inside))

pub wrong : (a b : Shape) (n : ℕ) (xs ys : List Issue) (meaning : List ℕ → List ℕ) (f g : Begin)
    (nodes : List Node) (end finish : Cells) (bits : ℕ → Bool) (case : Case) → 0 < n
    → SameKinds a b → AreGood a n xs → IsMeant f bits → IsRun a n xs f nodes end → IsRun b n ys f nodes finish
    → Gives b n ys meaning → IsCase a n g nodes end finish bits case
    → case.got.items ≢ case.wanted.items → Fails a n xs meaning case
wrong a b n xs ys meaning f g nodes end finish bits case some same good meant ran did gives is differ =
    let own : numbers n (results a) (canonical a n).results (run (bound (canonical_rows a n) a n
    (canonical a n) xs) (column_of ran.first bits ran.start)) ≡ case.got.items =
    ap (numbers n (results a) (canonical a n).results) (sym (ran.does bits)) ∙ sym is.got in
    record {
      column = column_of ran.first bits ran.start;
      sources = own-sources ∙ sym is.sources;
      got = own;
      wanted = is.wanted ∙ results-renamed a b n (column_of nodes bits finish) same
          ∙ run-means b n ys meaning f nodes finish bits some did gives
          ∙ ap meaning (sym (sources-same a b n g f nodes did.first is.start did.start bits some
          same is.meant meant is.starts did.starts (values-inside a n is.start is.rows)
          (values-inside b n did.start did.start_rows)) ∙ sym is.sources);
      differ = differ;
      ones = is.ones ∙ work-same a n g f nodes ran.first is.start ran.start bits is.meant meant
          is.starts ran.starts is.rows ran.start_rows;
      everywhere = λ rows c fits apart.
          let there = elsewhere a n xs (column_of ran.first bits ran.start) some good rows c fits
          apart in
          record {
            column = there.0;
            sources = there.1 ∙ own-sources ∙ sym is.sources;
            got = there.2 ∙ own;
          };
    }
  where
    own-sources : numbers n a.sources (canonical a n).sources (column_of ran.first bits ran.start)
        ≡ numbers n a.sources (canonical a n).sources (column_of nodes bits is.start)
    own-sources =
        sources-same a a n f g ran.first nodes ran.start is.start bits some (same-kinds a) meant
        is.meant ran.starts is.starts (values-inside a n ran.start ran.start_rows)
        (values-inside a n is.start is.rows)
