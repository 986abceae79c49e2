use Rattle.std.proofs.Common.{◌≡◌, ℕ, ◌<◌, take, true}
use Rattle.dram_model.specs.Column.{settle_lines, read, is_cell}
use Rattle.dram_chip.specs.Rows.{column_at, IsReady, data_row_count, columns_of, IsWired}
use Rattle.dram_chip.proofs.Wordlines.{lines_in}
use Rattle.dram_chip.proofs.bank.Bank.settle.Given as goal

-- the lines so far have taken the bit, and a line reads it
abbrev pub invariant-loop-wire : goal.invariant-loop-wire
invariant-loop-wire l = record {
  ready : IsReady l.self;
  rows : data_row_count l.self ≡ data_row_count l.fn.self;
  columns : columns_of l.self ≡ columns_of l.fn.self;
  cell : is_cell (data_row_count l.fn.self) l.from.line.cell ≡ true;
  wired : IsWired l.from;
  settled : (c : ℕ) → c < columns_of l.fn.self → column_at l.self c
      ≡ settle_lines (take l.wire-index (lines_in l.wire-items))
      (read (column_at l.fn.self c) l.fn.src.line)
      (column_at l.fn.self c);
  kept : (c : ℕ) → c < columns_of l.fn.self → read (column_at l.self c) l.from.line
      ≡ read (column_at l.fn.self c) l.fn.src.line;
}
