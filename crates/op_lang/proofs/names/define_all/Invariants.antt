use Rattle.op_lang.proofs.Common.{◌≡◌, ◌++◌, map, take}
use Rattle.op_lang.proofs.names.define_all.Given as goal

abbrev pub invariant-loop-name : goal.invariant-loop-name
invariant-loop-name l = l.defined.items ≡ l.initial.defined.items
    ++ map (λ n. record { name = n; kind = l.kind }) (take l.name-index l.names)
