use Rattle.transpose_unit.proofs.Exchanges.{lower-bits}
use Rattle.transpose_unit.proofs.transpose.lower_of.Goals as goal

pub returns : goal.returns
returns c = λ k l. lower-bits c.args.weight c.args.mask c.args.lower c.args.upper k
    c.requires.weight c.requires.mask l
