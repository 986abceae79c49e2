use Rattle.scan_query.proofs.Common.{◌≡◌, ◌∙◌, ◌++◌, ◌∷◌, [], ◌+◌, ◌≤◌, ap, sym, subst, arith, take}
use Rattle.scan_query.proofs.Common.{not, length, List, ℕ, get_or, filter, has_name, free_among}
use Rattle.scan_model.proofs.FreeNames.{many}
use Rattle.scan_query.proofs.Naming.{free_more, take_all_of, named_at}
use Rattle.scan_query.proofs.names.free_names.Goals as goal

pub loop-i-preserved : goal.loop-i-preserved
loop-i-preserved c =
    let table = c.args.table.now.pairs in
    let i = c.loop-i.i in
    c.keep_free.ensures (free_among table i) c.loop-i.invariant
    ∙ ap (take 65) (ap (λ n. free_among table i ++ filter (λ m. not (has_name table m)) (n ∷ []))
    c.scan_name.ensures
    ∙ sym (free_more table i))

pub returns-clause-full : goal.returns-clause-full
returns-clause-full c =
    let table = c.args.table.now.pairs in
    let i = c.loop-i.i in
    let few = many table 64 c.len-i-end.ensures.kept.few (omega arith) in
    let all : length table + 65 ≡ i = omega (
      arith,
      c.loop-i-test.false,
      c.loop-i.auto.i-end,
      c.len-i-end.ensures.value,
    ) in
    ap length c.loop-i.invariant ∙ take_all_of 65 (free_among table i)
    (subst (λ n. 65 ≤ length (free_among table n)) all (omega (arith, few)))

pub returns-clause-free : goal.returns-clause-free
returns-clause-free c = λ k l.
    let table = c.args.table.now.pairs in
    let i = c.loop-i.i in
    let all : i ≡ length table + 65 = omega (
      arith,
      c.loop-i-test.false,
      c.loop-i.auto.i-end,
      c.len-i-end.ensures.value,
    ) in
    ap (λ (xs : List (List ℕ)). get_or xs k []) (c.loop-i.invariant
    ∙ ap (λ n. take 65 (free_among table n)) all)
    ∙ named_at table k l
