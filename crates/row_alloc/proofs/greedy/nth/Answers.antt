use Rattle.row_alloc.proofs.Common.{sym, []}
use Rattle.std.proofs.lemmas.List.{get_or-map}
use Rattle.row_alloc.proofs.greedy.nth.Goals as goal

pub returns : goal.returns
returns c = sym (get_or-map (λ s. s.now) c.args.sequences.now c.args.k _ [] c.requires)
