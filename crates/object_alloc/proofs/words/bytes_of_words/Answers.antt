use Rattle.object_alloc.proofs.Common.{List, ℕ, ap, sym, ◌∙◌, ◌++◌, arith, take_all}
use Rattle.std.proofs.lemmas.List.{get_or_default}
use Rattle.object_alloc.proofs.Bits.{bytes-words, word_list_bytes}
use Rattle.object_alloc.proofs.words.bytes_of_words.Goals as goal

pub returns-clause-items : goal.returns-clause-items
returns-clause-items c =
    let words = c.args.words.now in
    let all = take_all c.loop-word.word-index words (omega arith) in
    let is = bytes-words words (λ k d l. omega (
      arith,
      c.type_inv.words k,
      get_or_default words k d 0 l,
    )) in
    c.loop-word.invariant.items ∙ ap (λ (xs : List ℕ). c.args.out.now.items
    ++ xs) (ap word_list_bytes all ∙ sym is)
