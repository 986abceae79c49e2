use Rattle.scan_query.proofs.Common.{arith}
use Rattle.scan_query.proofs.Counting.{ones_whole, ones_low}
use Rattle.scan_query.proofs.ones.ones_in.Goals as goal

pub returns-then-n-eq64-clause-value : goal.returns-then-n-eq64-clause-value
returns-then-n-eq64-clause-value c = ones_whole c.args.word c.args.n c.ranges.word.fits
    c.if-n-eq64.true

pub returns-else-n-eq64-clause-value : goal.returns-else-n-eq64-clause-value
returns-else-n-eq64-clause-value c = ones_low c.args.word c.args.n
    (omega (arith, c.requires, c.if-n-eq64.false))
