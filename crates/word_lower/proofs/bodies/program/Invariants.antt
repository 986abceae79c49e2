use Rattle.word_lower.proofs.Common.{◌≡◌, map, take, AllParts, step_of, IsMade}
use Rattle.word_lower.specs.Places.{slot_at, program_on}
use Rattle.word_lower.specs.Lines.{lines_steps}
use Rattle.word_lower.proofs.bodies.program.Given as goal

-- the steps so far
abbrev pub invariant-loop-line : goal.invariant-loop-line
invariant-loop-line l = record {
  same : map step_of l.steps.items
      ≡ program_on (slot_at l.owners) (lines_steps (take l.line-index l.lines));
  made : AllParts IsMade (map step_of l.steps.items);
}
