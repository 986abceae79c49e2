use Rattle.scan_query.proofs.Common.{Ok, subst, refl, Takes}
use Rattle.scan_query.specs.Reading.{seen}
use Rattle.scan_query.proofs.Taking.{ends, strange, took_one}
use Rattle.scan_query.proofs.reading.next.Goals as goal

pub returns-in-Some-clause-takes : goal.returns-in-Some-clause-takes
returns-in-Some-clause-takes c =
    let some = subst (λ r. Takes c.args.parser.now.lexer (Ok r) c.next.new.self) c.in-Some.is
    c.in-Ok.ensures in
    took_one c.in-Some.token _ (seen c.args.parser.now) _ some refl
    c.word_of.ensures.view

pub returns-in-None-clause-takes : goal.returns-in-None-clause-takes
returns-in-None-clause-takes c =
    let nothing = subst (λ r. Takes c.args.parser.now.lexer (Ok r) c.next.new.self) c.in-None.is
    c.in-Ok.ensures in
    ends (seen c.args.parser.now) nothing.0

pub returns-in-Err-clause-takes : goal.returns-in-Err-clause-takes
returns-in-Err-clause-takes c = strange (seen c.args.parser.now) c.in-Err.fault c.in-Err.ensures.0
