-- The steps of a table's lines.
-- Private contracts alone speak of this.
use Rattle.std.specs.Prelude.{List, [], ◌∷◌, Option, Some, None}
use Rattle.loop_ir.specs.Plain.{StepOf}
use Rattle.loop_laws.specs.Rooms.{Marked}
use Rattle.word_lower.specs.declared.shapes.ProgramLine.{ProgramLine}
use Rattle.word_lower.specs.Programs.{line_step}

-- the lines that there are
abbrev pub lines_steps : List (Option ProgramLine) → List (StepOf Marked)
lines_steps [] = []
lines_steps (None ∷ ls) = lines_steps ls
lines_steps (Some l ∷ ls) = line_step l ∷ lines_steps ls
