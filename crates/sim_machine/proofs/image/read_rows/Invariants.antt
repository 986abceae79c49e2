use Rattle.sim_machine.proofs.Common.{◌≡◌, ◌+◌, ◌*◌, ◌≤◌, ◌++◌, length, vec_len, vec_capacity}
use Rattle.sim_machine.proofs.Common.{flat_map, range_with_len, Kept, DidRead}
use Rattle.sim_machine.specs.Image.{bank_bytes}
use Rattle.sim_machine.proofs.image.read_rows.Given as goal

-- the banks so far were read
abbrev pub invariant-loop-bank : goal.invariant-loop-bank
invariant-loop-bank g l =
    let D = g.D.Dram in
    let first = D.view l.initial.dram in
    let now = D.view l.dram in
    record {
      borrow : D.borrow l.dram ≡ D.borrow l.initial.dram;
      kept : Kept first now;
      stage : length l.stage ≡ length l.initial.stage;
      did : DidRead (l.bank * l.g.rows) first now;
      file : l.file.items ≡ l.initial.file.items ++ flat_map
          (λ bank. bank_bytes l.g first.banks bank l.g.rows) (range_with_len 0 l.bank);
      len : vec_len l.file ≡ vec_len l.initial.file + l.bank * (l.g.rows * (8 * l.g.words));
      capacity : vec_capacity l.initial.file ≤ vec_capacity l.file;
    }
