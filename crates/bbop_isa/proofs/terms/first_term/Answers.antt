use Rattle.std.proofs.Common.{sym, ap}
use Rattle.bbop_isa.specs.Words.{word_view}
use Rattle.bbop_isa.specs.Reading.{written_view}
use Rattle.bbop_isa.proofs.Terming.{name_is_first}
use Rattle.bbop_isa.proofs.terms.first_term.Goals as goal

pub returns-in-Name-clause-read : goal.returns-in-Name-clause-read
returns-in-Name-clause-read c =
    name_is_first c.args.words.now c.in-Name.name.now (written_view c.operand_of-place.result.0)
    c.operand_of-place.result.1 c.index-words-0.result c.requires (sym c.index-words-0.is)
    (ap word_view c.in-Name.is)
    c.operand_of-place.ensures.read
