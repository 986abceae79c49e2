use Rattle.std.proofs.Common.{◌∙◌}
use Rattle.bbop_isa.proofs.Newlines.{line_found}
use Rattle.bbop_isa.proofs.lines.line_len.Goals as goal

pub returns-clause-value : goal.returns-clause-value
returns-clause-value c = c.unwrap_or.ensures
    ∙ line_found c.args.text.now c.memchr.result c.memchr.ensures
