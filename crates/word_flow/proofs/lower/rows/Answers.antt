use Rattle.word_flow.proofs.Common.{◌≡◌, length, arith, nat_lt, if◌then◌else◌, slots_of}
use Rattle.word_flow.proofs.Sides.{as_many, second_one, second_none, rows_are}
use Rattle.word_flow.proofs.lower.rows.Goals.{then-args-gt1, else-args-gt1}
use Rattle.word_flow.proofs.lower.rows.Goals as goal

pub returns : goal.returns
returns c = λ t u ss found near at.
    (let many = as_many (slots_of c.args.names.now) c.args.args.now ss at in
    let names = c.args.names.now in
    let last : c.if-args-gt1.last ≡ (if nat_lt 1 (length ss) then 1 else 0) =
    elim c.if-args-gt1.branch [
      | then-args-gt1 w ↦ second_one ss c.if-args-gt1.last w.last-is
          (let h = w.if-args-gt1.true in omega (arith, h, many))
      | else-args-gt1 w ↦ second_none ss c.if-args-gt1.last w.last-is
          (let h = w.if-args-gt1.false in omega (arith, h, many))
    ] in
    rows_are t u ss names.free_bit names.free_word c.slot_of.result c.second_slot.result
    c.argument.result c.argument-2.result c.if-args-gt1.last (c.slot_of.ensures.place t found)
    (c.second_slot.ensures t u found near) (c.argument.ensures ss at)
    (c.argument-2.ensures ss at) last)
