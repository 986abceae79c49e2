use Rattle.scan_query.proofs.Common.{◌≡◌, ◌*◌, ◌≤◌, length, take, map, count_by, DidRead, number}
use Rattle.scan_query.proofs.Common.{below, ◌==◌}
use Rattle.dram_model.specs.View.{Kept}
use Rattle.scan_query.proofs.ones.ones_of.Given as goal

abbrev pub invariant-banks : goal.invariant-banks
invariant-banks g l =
    let D = g.D.Dram in
    record {
      borrow : D.borrow l.dram ≡ D.borrow l.initial.dram;
      kept : Kept (D.view l.initial.dram) (D.view l.dram);
      stage : length l.stage ≡ length l.initial.stage;
      did : DidRead l.bank (D.view l.initial.dram) (D.view l.dram);
      few : l.found ≤ 65536 * l.bank;
      counted : l.found ≡ count_by (λ v. v == 1) (take l.object.count
          (map (number l.object.base 1) (below l.bank (D.view l.initial.dram).banks)));
    }
