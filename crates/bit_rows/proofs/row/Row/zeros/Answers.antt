use Rattle.std.proofs.Common.{refl, false}
use Rattle.bit_rows.proofs.Seen.{alike-is, zero-bit}
use Rattle.bit_rows.proofs.row.Row.zeros.Goals as goal

pub returns : goal.returns
returns c = alike-is c.args.columns c.args.columns 0 c.in_ok-words.words.items false
    (c.in_ok-words.ensures.items_if_clones_equal (λ y h. h)) refl zero-bit
