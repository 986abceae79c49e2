use Rattle.std.proofs.Common.{◌∙◌}
use Rattle.op_text.specs.Language.{operation, result_names}
use Rattle.op_lang.proofs.Counts.{bits_counted, words_counted}
use Rattle.op_lang.proofs.scratch.count_in.Goals as goal

pub returns-in-Bit : goal.returns-in-Bit
returns-in-Bit c = rw (c.in-Serial.is, c.in-Bit.is)
    ((let h = rw c.deref-in-Bit.ensures.value at c.count_states.ensures in h)
    ∙ bits_counted (result_names (operation c.args.of.now)) c.in-Serial.states.items
    c.in-Serial.assigns.items)

pub returns-in-Word-kind : goal.returns-in-Word-kind
returns-in-Word-kind c = rw (c.in-Serial.is, c.in-Word-kind.is)
    ((let h = rw (c.deref-in-Word-kind.ensures.value, c.deref-in-Word-kind-2.ensures.value) at
    c.count_words.ensures in h) ∙ words_counted (result_names (operation c.args.of.now))
    c.in-Serial.states.items
    c.in-Serial.assigns.items)
