use Rattle.std.proofs.Common.{sym, ◌∙◌, map}
use Rattle.bbop_isa.specs.Words.{word_view}
use Rattle.bbop_isa.proofs.Terming.{bit_is_kept, bits_are_kept, name_is_read}
use Rattle.bbop_isa.proofs.terms.operand_of.Goals as goal

pub returns-in-Some-clause-read : goal.returns-in-Some-clause-read
returns-in-Some-clause-read c =
    bit_is_kept c.args.name.now c.args.words.now c.in-Some.k (sym c.bit_in.ensures ∙ c.in-Some.is)

pub returns-in-Some-bits_in-clause-read : goal.returns-in-Some-bits_in-clause-read
returns-in-Some-bits_in-clause-read c =
    bits_are_kept c.args.name.now c.args.words.now c.in-Some-bits_in.low c.in-Some-bits_in.high
    (sym c.bits_in.ensures ∙ c.in-Some-bits_in.is)

pub returns-in-None-clause-read : goal.returns-in-None-clause-read
returns-in-None-clause-read c =
    name_is_read c.args.name.now (map word_view c.args.words.now)
    (sym c.bit_in.ensures ∙ c.in_default.is) (sym c.bits_in.ensures ∙ c.in-None.is)
