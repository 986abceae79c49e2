use Rattle.object_steps.proofs.Common.{◌≡◌, ◌*◌, ◌<◌, ◌++◌, length, Known, AppendsUpTo, DidRead}
use Rattle.object_steps.proofs.Common.{Kept}
use Rattle.object_steps.specs.Lines.{values_text}
use Rattle.object_steps.proofs.Valued.{first_values}
use Rattle.object_steps.proofs.printing.add_values.Given as goal

-- the banks so far were read, and their values appended
abbrev pub invariant-loop-bank : goal.invariant-loop-bank
invariant-loop-bank g l =
    let D = g.D.Dram in
    let S = g.S.Sink in
    let first = D.view l.initial.dram in
    let now = D.view l.dram in
    record {
      borrow : D.borrow l.dram ≡ D.borrow l.initial.dram;
      kept : Kept first now;
      did : DidRead (l.bank * l.o.width) first now;
      stage : length l.stage ≡ length l.initial.stage;
      unfailed : (S.view l.out).faults ≡ (S.view l.initial.out).faults;
      room : length l.text.items < 4096;
      held : Known (AppendsUpTo l.text.items (l.initial.text.items ++ values_text
          (first_values l.o.base l.o.width l.o.count l.bank first.banks)))
          (S.view l.initial.out).sent (S.view l.out).sent;
    }
