use Rattle.op_lang.proofs.Common.{◌≡◌, filter, not, take, is_among}
use Rattle.op_lang.proofs.names.others.Given as goal

abbrev pub invariant-loop-name : goal.invariant-loop-name
invariant-loop-name l = l.kept.items ≡ filter (λ n. not (is_among l.without n))
    (take l.name-index l.names)
