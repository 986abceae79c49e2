-- Each command is an AAP or an AP: those of all rounds together are all their commands.
use Rattle.uprog_gen.proofs.Common.{◌≡◌, ◌+◌, cond, List, [], ◌∷◌, length, refl, arith, count_by}
use Rattle.uprog_gen.proofs.Common.{sum_by-cons, BodyCmd, Aap, Ap, Block, RoundOf, is_aap, is_ap}
use Rattle.uprog_gen.proofs.Common.{turn_aaps, turn_aps, turn_cost, rounds_cost, rounds_sum}

one_kind : (c : BodyCmd) → cond (is_aap c) 1 0 + cond (is_ap c) 1 0 ≡ 1
one_kind (Aap x y) = refl
one_kind (Ap x) = refl

both_kinds : (cs : List BodyCmd) → count_by is_aap cs + count_by is_ap cs ≡ length cs
both_kinds [] = refl
both_kinds (c ∷ cs) =
    let a = sum_by-cons (λ (c : BodyCmd). cond (is_aap c) 1 0) c cs in
    let b = sum_by-cons (λ (c : BodyCmd). cond (is_ap c) 1 0) c cs in
    omega (arith, both_kinds cs, one_kind c, a, b)

pub all_kinds : (rs : List (RoundOf Block))
    → rounds_sum turn_aaps rs + rounds_sum turn_aps rs ≡ rounds_cost rs
all_kinds [] = refl
all_kinds (r ∷ rs) =
    let a = sum_by-cons (λ (r : RoundOf Block). turn_aaps r.part) r rs in
    let p = sum_by-cons (λ (r : RoundOf Block). turn_aps r.part) r rs in
    let c = sum_by-cons (λ (r : RoundOf Block). turn_cost r.part) r rs in
    omega (arith, all_kinds rs, a, p, c, both_kinds r.part.found)
