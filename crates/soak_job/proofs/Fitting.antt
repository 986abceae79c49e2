-- Every case can be done.
use Rattle.soak_job.proofs.Common.{◌≡◌, ℕ, ◌+◌, ◌<◌, ◌≤◌, Bool, true, false, List, [], ◌∷◌, refl}
use Rattle.soak_job.proofs.Common.{Option, Some, None, is_none, AllByRecursion, Kind, second_kind}
use Rattle.soak_job.proofs.Common.{op_shape}
use Rattle.std.proofs.lemmas.Bool.{and_parts, leb-true, ltb-true}
use Rattle.std.specs.Prelude.{nat_le, nat_lt, ◌&&◌}
use Rattle.std.specs.List.{list_all}
use Rattle.uprog_code.specs.Shape.{need}
use Rattle.soak_job.specs.declared.cases.Case.{Case}
use Rattle.soak_job.specs.Cases.{one_statement, soak_cases}
use Rattle.soak_job.specs.Layout.{FitsChip, result_rows, source_rows}
use Rattle.soak_job.specs.Done.{CanBeDone}

abbrev is_fit : Case → Bool
is_fit c = nat_lt 0 c.n && (nat_le c.n 64
    && nat_le (source_rows c + result_rows c + need (op_shape (one_statement c.op)) c.n) 480)

lt_of : {a b : ℕ} → nat_lt a b ≡ true → a < b
lt_of {a} {b} e = ltb-true a b e

le_of : {a b : ℕ} → nat_le a b ≡ true → a ≤ b
le_of {a} {b} e = leb-true a b e

fit : (c : Case) → is_fit c ≡ true → FitsChip c
fit c e =
    let rest = nat_le c.n 64
    && nat_le (source_rows c + result_rows c + need (op_shape (one_statement c.op)) c.n) 480 in
    let p = and_parts (nat_lt 0 c.n) rest e in
    let q = and_parts (nat_le c.n 64)
    (nat_le (source_rows c + result_rows c + need (op_shape (one_statement c.op)) c.n) 480) p.1 in
    record { some = lt_of p.0; narrow = le_of q.0; rows = le_of q.1 }

none_of : (k : Option Kind) → is_none k ≡ true → k ≡ None
none_of None e = refl
none_of (Some k) e = absurd (cc)

abbrev is_doable : Case → Bool
is_doable c = is_none (second_kind c.op) && is_fit c

each_done : (cs : List Case) → list_all is_doable cs ≡ true → AllByRecursion CanBeDone cs
each_done [] e = tt
each_done (c ∷ cs) e = let p = and_parts (is_doable c) (list_all is_doable cs) e in
    let q = and_parts (is_none (second_kind c.op)) (is_fit c) p.0 in
    (record { single = none_of (second_kind c.op) q.0; fits = fit c q.1 }, each_done cs p.1)

pub all_done : AllByRecursion CanBeDone soak_cases
all_done = each_done soak_cases refl
