use Rattle.word_flow.proofs.Common.{ap, statement, steps_of, slots_of}
use Rattle.std.proofs.lemmas.Result.{IfOk-weaker}
use Rattle.word_flow.proofs.Statements.{has_words, statement_lowered, statement_exact}
use Rattle.word_flow.proofs.Statements.{statement_aps_are, statement_written}
use Rattle.word_flow.proofs.lower.lower_flow.Goals as goal

pub program-requires-clause-words : goal.program-requires-clause-words
program-requires-clause-words c =
    let n = c.args.names.now in
    let w = c.in-Word in
    has_words (slots_of n) n.free_bit n.free_word (statement c.args.s.now) w.dst w.second w.op
    w.args.items (ap statement w.is) c.requires.flow c.requires.meets c.requires.placed
    c.rows.result _ c.deref.ensures.value c.rows.ensures

pub returns-clause-lowered : goal.returns-clause-lowered
returns-clause-lowered c =
    let n = c.args.names.now in
    let w = c.in-Word in
    IfOk-weaker c.program.result _ _ (λ p. statement_lowered (slots_of n) n.free_bit n.free_word
    (statement c.args.s.now) w.dst w.second w.op w.args.items (ap statement w.is) c.requires.flow
    c.requires.meets c.requires.placed c.rows.result _ c.deref.ensures.value c.rows.ensures
    (steps_of p)) c.program.ensures

pub returns-clause-exact : goal.returns-clause-exact
returns-clause-exact c =
    let n = c.args.names.now in
    let w = c.in-Word in
    IfOk-weaker c.program.result _ _ (λ p. statement_exact (slots_of n) n.free_bit n.free_word
    (statement c.args.s.now) w.dst w.second w.op w.args.items (ap statement w.is) c.requires.flow
    c.requires.meets c.requires.placed c.rows.result _ c.deref.ensures.value c.rows.ensures
    (steps_of p)) c.program.ensures

pub returns-clause-aps : goal.returns-clause-aps
returns-clause-aps c =
    let n = c.args.names.now in
    let w = c.in-Word in
    IfOk-weaker c.program.result _ _ (λ p. statement_aps_are (slots_of n) n.free_bit n.free_word
    (statement c.args.s.now) w.dst w.second w.op w.args.items (ap statement w.is) c.requires.flow
    c.requires.meets c.requires.placed c.rows.result _ c.deref.ensures.value c.rows.ensures
    (steps_of p)) c.program.ensures

pub returns-clause-written : goal.returns-clause-written
returns-clause-written c =
    let n = c.args.names.now in
    let w = c.in-Word in
    IfOk-weaker c.program.result _ _ (λ p. statement_written (slots_of n) n.free_bit n.free_word
    (statement c.args.s.now) w.dst w.second w.op w.args.items (ap statement w.is) c.requires.flow
    c.requires.meets c.requires.placed c.rows.result _ c.deref.ensures.value c.rows.ensures
    (steps_of p)) c.program.ensures
