use Rattle.sim_machine.proofs.Common.{◌≡◌, ◌+◌, ◌*◌, ◌≤◌, ◌++◌, length, vec_len, vec_capacity, Kept}
use Rattle.sim_machine.proofs.Common.{DidRead}
use Rattle.sim_machine.specs.Image.{bank_bytes}
use Rattle.sim_machine.proofs.image.read_bank.Given as goal

-- the rows so far were read
abbrev pub invariant-loop-row : goal.invariant-loop-row
invariant-loop-row g l =
    let D = g.D.Dram in
    let first = D.view l.initial.dram in
    let now = D.view l.dram in
    record {
      borrow : D.borrow l.dram ≡ D.borrow l.initial.dram;
      kept : Kept first now;
      stage : length l.stage ≡ length l.initial.stage;
      did : DidRead l.row first now;
      file : l.file.items ≡ l.initial.file.items ++ bank_bytes l.fn.g first.banks l.bank l.row;
      len : vec_len l.file ≡ vec_len l.initial.file + l.row * (8 * l.fn.g.words);
      capacity : vec_capacity l.initial.file ≤ vec_capacity l.file;
    }
