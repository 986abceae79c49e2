use Rattle.std.proofs.Common.{◌∙◌, ◌%◌, ap, sym}
use Rattle.bit_rows.specs.Bits.{bit_at}
use Rattle.bit_rows.proofs.Seen.{shown-bit, indexed}
use Rattle.bit_rows.proofs.row.Row.get.Goals as goal

pub returns : goal.returns
returns c = c.bit_of_word.ensures ∙ ap (λ w. bit_at w (c.args.c % 64))
    (indexed c.self.inside.columns c.args.c c.self.inside.words.items c.args.self.now
    c.index.result.now (record { is = c.self.view_is; size = c.self.invariant }) c.requires
    c.index.ensures) ∙ sym (shown-bit c.self.inside.columns c.args.c c.self.inside.words.items
    c.args.self.now (record { is = c.self.view_is; size = c.self.invariant }) c.requires)
