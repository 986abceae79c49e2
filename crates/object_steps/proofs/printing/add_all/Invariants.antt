use Rattle.object_steps.proofs.Common.{◌<◌, ◌++◌, length, take, Known, AppendsUpTo, ◌≡◌}
use Rattle.object_steps.specs.Lines.{values_text}
use Rattle.object_steps.proofs.printing.add_all.Given as goal

-- the values so far were appended
abbrev pub invariant-loop-value : goal.invariant-loop-value
invariant-loop-value g l =
    let S = g.S.Sink in
    let first = S.view l.initial.out in
    let now = S.view l.out in
    record {
      unfailed : now.faults ≡ first.faults;
      room : length l.text.items < 4096;
      held : Known (AppendsUpTo l.text.items (l.initial.text.items
          ++ values_text (take l.value-index l.values))) first.sent now.sent;
    }
