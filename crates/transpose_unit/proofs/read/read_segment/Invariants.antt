use Rattle.transpose_unit.proofs.Common.{◌≡◌, ℕ, ◌+◌, ◌<◌, bits_of_words, row_in, Kept}
use Rattle.dram_model.specs.View.{DidRead}
use Rattle.transpose_unit.specs.Stage.{stage_row}
use Rattle.transpose_unit.proofs.read.read_segment.Given as goal

-- the rows so far were read
abbrev pub invariant-loop-k : goal.invariant-loop-k
invariant-loop-k g l =
    let dram = g.D.Dram in
    let first = dram.view l.fn.dram in
    let now = dram.view l.dram in
    record {
      borrow : dram.borrow l.dram ≡ dram.borrow l.fn.dram;
      kept : Kept first now;
      did : DidRead l.k first now;
      rows : (j : ℕ) → j < l.k → bits_of_words (stage_row l.fn.g.words l.stage j)
          ≡ row_in (l.base + j) (first.banks l.bank);
    }
