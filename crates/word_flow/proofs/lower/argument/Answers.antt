use Rattle.word_flow.proofs.Common.{slots_of, following}
use Rattle.word_lower.proofs.Owners.{owner_is}
use Rattle.word_flow.proofs.lower.argument.Goals as goal

pub returns : goal.returns
returns c = λ ss at. c.slot_of.ensures.place (following ss c.args.names.now.free_bit c.args.k)
    (owner_is (slots_of c.args.names.now) c.args.args.now ss c.args.names.now.free_bit c.args.k _
    c.index-args-k.is at c.requires)
