use Rattle.object_steps.proofs.Common.{◌*◌, ◌/◌, ◌<◌, ◌++◌, length, map, min, range_with_len, Known}
use Rattle.object_steps.proofs.Common.{AppendsUpTo, stage_number, stage_rows, ◌≡◌}
use Rattle.object_steps.specs.Lines.{values_text}
use Rattle.object_steps.proofs.printing.add_columns.Given as goal

-- the columns of the blocks so far were appended
abbrev pub invariant-loop-block : goal.invariant-loop-block
invariant-loop-block g l =
    let S = g.S.Sink in
    let first = S.view l.initial.out in
    let now = S.view l.out in
    record {
      unfailed : now.faults ≡ first.faults;
      room : length l.text.items < 4096;
      held : Known (AppendsUpTo l.text.items (l.initial.text.items ++ values_text
          (map (stage_number (length l.stage / stage_rows l.n) l.n l.stage)
          (range_with_len 0 (min l.count (64 * l.block)))))) first.sent now.sent;
    }
