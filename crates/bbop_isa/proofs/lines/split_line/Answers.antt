use Rattle.bbop_isa.proofs.Parted.{line_is_first, line_is_last}
use Rattle.bbop_isa.proofs.lines.split_line.Goals as goal

pub returns-in-Some-clause-lines : goal.returns-in-Some-clause-lines
returns-in-Some-clause-lines c =
    line_is_first c.args.text.now c.split_at.result.0.now c.split_at.result.1.now
    c.in-Some.after.now c.in-Some.field-0-0.now
    (rw (← c.line_len.ensures.value) c.split_at.ensures.front)
    (rw (← c.line_len.ensures.value) c.split_at.ensures.back) c.in-Some.ensures.cases.0

pub returns-in-None-clause-lines : goal.returns-in-None-clause-lines
returns-in-None-clause-lines c =
    line_is_last c.args.text.now c.split_at.result.0.now c.split_at.result.1.now
    (rw (← c.line_len.ensures.value) c.split_at.ensures.front)
    (rw (← c.line_len.ensures.value) c.split_at.ensures.back) c.in-None.ensures.cases
