use Rattle.object_alloc.proofs.Common.{ap, sym, ◌∙◌, ◌*◌, arith, take_all, bits_of_words}
use Rattle.object_alloc.specs.Bytes.{bits_of_bytes}
use Rattle.object_alloc.proofs.Bits.{words_more}
use Rattle.object_alloc.proofs.words.words_of_bytes.Goals as goal

pub loop-i-preserved : goal.loop-i-preserved
loop-i-preserved c = words_more c.args.bytes.now c.loop-i.words c.loop-i.i c.word_of_bytes.result
    (omega arith) c.word_of_bytes.ensures c.loop-i.invariant

pub returns-clause-bits : goal.returns-clause-bits
returns-clause-bits c =
    ap bits_of_words (sym (take_all c.loop-i.i c.loop-i.words (omega arith))) ∙ c.loop-i.invariant
    ∙ ap bits_of_bytes (take_all (8 * c.loop-i.i) c.args.bytes.now (omega arith))
