use Rattle.std.proofs.Common.{◌∙◌, ap}
use Rattle.bit_rows.specs.Bits.{bit_at}
use Rattle.bit_rows.proofs.Seen.{set-is, indexed}
use Rattle.bit_rows.proofs.row.Row.set.Goals as goal

pub returns : goal.returns
returns c = set-is c.self.inside.columns c.args.c c.self.inside.words.items c.args.self.now
    c.with_bit.result c.args.b (record { is = c.self.view_is; size = c.self.invariant }) c.requires
    c.with_bit.ensures.bit
    (λ r l h. c.with_bit.ensures.others r l h ∙ ap (λ w. bit_at w r)
    (indexed c.self.inside.columns c.args.c c.self.inside.words.items c.args.self.now
    c.index.result.now (record { is = c.self.view_is; size = c.self.invariant }) c.requires
    c.index.ensures))
