use Rattle.bdd.proofs.Growing.{pushed}
use Rattle.bdd.proofs.table.widen_answers.Goals as goal

pub loop-count-preserved : goal.loop-count-preserved
loop-count-preserved c = λ nodes h r. pushed nodes c.loop-count.answers.items
    c.push.new.self.items c.blank.result _ c.push.ensures.items c.blank.ensures h
    (c.loop-count.invariant nodes h r)

pub returns-then-is_err : goal.returns-then-is_err
returns-then-is_err c = λ nodes h r. pushed nodes c.loop-count.answers.items
    c.push.new.self.items c.blank.result _ c.push.ensures.items c.blank.ensures h
    (c.loop-count.invariant nodes h r)
