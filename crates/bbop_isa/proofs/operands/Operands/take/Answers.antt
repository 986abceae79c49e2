use Rattle.bbop_isa.specs.Reading.{term_view}
use Rattle.bbop_isa.proofs.Gathered.{pushed_is_taken}
use Rattle.bbop_isa.proofs.operands.Operands.take.Goals as goal

pub returns-else-self : goal.returns-else-self
returns-else-self c = pushed_is_taken c.args.self.now (term_view c.args.term) c.push.result c.push.new.self
    c.if-self.false c.push.ensures.pushed c.push.ensures.comma
