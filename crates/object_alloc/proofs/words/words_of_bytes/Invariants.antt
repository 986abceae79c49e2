use Rattle.object_alloc.proofs.Common.{◌≡◌, ◌*◌, take, bits_of_words}
use Rattle.object_alloc.specs.Bytes.{bits_of_bytes}
use Rattle.object_alloc.proofs.words.words_of_bytes.Given as goal

abbrev pub invariant-loop-i : goal.invariant-loop-i
invariant-loop-i l = bits_of_words (take l.i l.words) ≡ bits_of_bytes (take (8 * l.i) l.bytes)
