use Rattle.object_alloc.proofs.Common.{◌≡◌, ◌+◌, ◌*◌, ◌≤◌, ◌++◌, take, vec_len, vec_capacity}
use Rattle.object_alloc.proofs.Bits.{word_list_bytes}
use Rattle.object_alloc.proofs.words.bytes_of_words.Given as goal

abbrev pub invariant-loop-word : goal.invariant-loop-word
invariant-loop-word l = record {
  items : l.out.items ≡ l.initial.out.items ++ word_list_bytes (take l.word-index l.words);
  len : vec_len l.out ≡ vec_len l.initial.out + 8 * l.word-index;
  room : vec_capacity l.initial.out ≤ vec_capacity l.out;
}
