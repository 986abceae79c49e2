use Rattle.word_lower.proofs.Common.{◌∙◌, sym, arith, slots_of}
use Rattle.word_lower.specs.Shapes.{following}
use Rattle.word_lower.proofs.Owners.{owner_is, after_past}
use Rattle.word_lower.proofs.linear.owner.Goals as goal

pub returns-then-k-args : goal.returns-then-k-args
returns-then-k-args c = λ ss at. c.slot_of.ensures.place (following ss c.args.names.now.free_bit c.args.k)
    (owner_is (slots_of c.args.names.now) c.args.args.now ss c.args.names.now.free_bit c.args.k _
    c.index-args-k.is at c.if-k-args.true)

pub returns-else-k-args : goal.returns-else-k-args
returns-else-k-args c = λ ss at. (let past = c.if-k-args.false in
    c.scratch_bit.ensures ∙ sym (after_past (slots_of c.args.names.now) c.args.args.now ss
    c.args.names.now.free_bit c.args.k at (omega (arith, past))))
