use Rattle.word_lower.proofs.linear.lower_linear.Goals as goal

pub returns-in-Word-clause-written : goal.returns-in-Word-clause-written
returns-in-Word-clause-written c =
    rw c.in-Word.is (rw c.deref.ensures.value at c.lower_word.ensures.written)
