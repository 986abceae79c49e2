use Rattle.word_lower.proofs.Common.{ap, ◌∙◌}
use Rattle.word_lower.specs.Programs.{row_steps}
use Rattle.word_lower.proofs.table.lines.Goals as goal

pub returns : goal.returns
returns c = c.row_lines.ensures ∙ ap (λ r. row_steps r c.args.kind) c.program_of.ensures
