use Rattle.scan_query.proofs.Naming.{wider, never_wider}
use Rattle.scan_query.proofs.checks.is_wider.Goals as goal

pub returns-then-width-lt128 : goal.returns-then-width-lt128
returns-then-width-lt128 c = wider c.args.value c.args.width

pub returns-else-width-lt128 : goal.returns-else-width-lt128
returns-else-width-lt128 c = never_wider c.args.value c.args.width c.ranges.value.fits
    c.if-width-lt128.false
