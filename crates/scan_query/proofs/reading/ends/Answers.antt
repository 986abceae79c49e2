use Rattle.scan_query.proofs.Common.{Ok, subst, Takes, lexeme_of}
use Rattle.scan_query.specs.Reading.{seen}
use Rattle.scan_query.proofs.Ending.{at_end, spare_stranger, spare_token}
use Rattle.scan_query.proofs.reading.ends.Goals as goal

pub returns-in-Some-clause-finds : goal.returns-in-Some-clause-finds
returns-in-Some-clause-finds c =
    let some = subst (λ r. Takes c.args.parser.now.lexer (Ok r) c.next.new.self) c.in-Some.is
    c.in-Ok.ensures in
    spare_token (seen c.args.parser.now) (lexeme_of c.in-Some.token) c.next.new.self some

pub returns-in-None-clause-finds : goal.returns-in-None-clause-finds
returns-in-None-clause-finds c =
    let nothing = subst (λ r. Takes c.args.parser.now.lexer (Ok r) c.next.new.self) c.in-None.is
    c.in-Ok.ensures in
    at_end (seen c.args.parser.now) nothing.0

pub returns-in-Err-clause-finds : goal.returns-in-Err-clause-finds
returns-in-Err-clause-finds c = spare_stranger (seen c.args.parser.now) c.in-Err.fault
    c.in-Err.ensures.0
