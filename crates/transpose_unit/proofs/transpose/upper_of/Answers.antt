use Rattle.transpose_unit.proofs.Exchanges.{upper-bits}
use Rattle.transpose_unit.proofs.transpose.upper_of.Goals as goal

pub returns : goal.returns
returns c = λ k l. upper-bits c.args.weight c.args.mask c.args.lower c.args.upper k
    c.ranges.mask.fits c.requires.mask l
