use Rattle.scan_query.proofs.Common.{◌≡◌, ◌*◌, ◌≤◌, take, count_by, bits_of_words}
use Rattle.scan_query.proofs.ones.ones_below.Given as goal

abbrev pub invariant-words : goal.invariant-words
invariant-words l = record {
  few : l.found ≤ 64 * l.word;
  counted : l.found ≡ count_by (λ b. b) (take l.columns (bits_of_words (take l.word l.words)));
}
