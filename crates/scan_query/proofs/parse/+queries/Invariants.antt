use Rattle.scan_query.proofs.Common.{◌+◌, ◌*◌, length}
use Rattle.scan_query.specs.Reading.{left, seen}
use Rattle.scan_query.proofs.parse.+queries.Given as goal

abbrev pub decreases-query : goal.decreases-query
decreases-query l = 2 * length (left (seen l.parser.now))

abbrev pub decreases-negation : goal.decreases-negation
decreases-negation l = 2 * length (left (seen l.parser.now)) + 1

abbrev pub decreases-join : goal.decreases-join
decreases-join l = 2 * length (left (seen l.parser.now)) + 1
