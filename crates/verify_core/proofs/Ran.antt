-- A run by a binding that is the canonical one
use Rattle.verify_core.proofs.Common.{ℕ, ◌<◌, ◌^◌, Bool, List, length, refl, ◌∙◌, ap, subst, arith}
use Rattle.verify_core.proofs.Common.{run, Shape, Issue, Bound, bound, Fits, Node, AreCells, Cells}
use Rattle.verify_core.proofs.Common.{column_of, canonical, canonical_rows, result_rows}
use Rattle.verify_core.proofs.Common.{canonical-fits, ◌≡◌}
use Rattle.verify_core.specs.declared.start.Begin.{Begin}
use Rattle.verify_core.specs.Starts.{IsStart}
use Rattle.verify_core.specs.SymbolicRuns.{IsRun}

pub fits-by : (a h : Shape) (n m rows : ℕ) (b : Bound) → h ≡ a → m ≡ n → b ≡ canonical h n
    → rows ≡ canonical_rows h n → 0 < n → Fits rows a m b
fits-by a h n m rows b e w is bank some =
    rw (w, is, bank, e) (canonical-fits a n some)

-- the same run, of the entry's shape
pub ran-by : (a h : Shape) (n m rows s r : ℕ) (b : Bound) (xs ys : List Issue)
    (begin : Begin) (first last : List Node) (start end : Cells) → h ≡ a → m ≡ n → b ≡ canonical h n
    → rows ≡ canonical_rows h n → s ≡ length h.sources → r ≡ result_rows h n → ys ≡ xs
    → IsStart first begin n s r start → length start.rows ≡ rows
    → ((bits : ℕ → Bool) → column_of last bits end
    ≡ run (bound rows a m b ys) (column_of first bits start))
    → AreCells last end → length end.rows ≡ length start.rows
    → rows < 2 ^ 16 → IsRun a n xs begin last end
ran-by a h n m rows s r b xs ys begin first last start end e w is bank count few same starts long did cells
    kept small =
    record {
      first = first;
      start = start;
      starts = subst (λ (z : Shape). IsStart first begin n (length z.sources) (result_rows z n) start) e
          (rw (← count, ← few) starts);
      start_rows = long ∙ bank ∙ ap (λ (z : Shape). canonical_rows z n) e;
      does = λ bits. did bits ∙ rw (w, is, bank, same, e) refl;
      cells = cells;
      rows = kept ∙ long ∙ bank ∙ ap (λ (z : Shape). canonical_rows z n) e;
      short = omega (arith, kept, long, small);
    }
