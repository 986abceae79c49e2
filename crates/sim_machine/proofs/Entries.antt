-- The entry of a name, by its place.
use Rattle.sim_machine.proofs.Common.{◌≡◌, ℕ, Bool, true, false, cond, List, length, refl, sym, ◌∙◌}
use Rattle.sim_machine.proofs.Common.{ap, Some, None, arith, nat_lt, slice_get, find}
use Rattle.std.specs.Prelude.{position}
use Rattle.std.specs.List.{position_or_len}
use Rattle.std.proofs.lemmas.List.Folds.{find_at}
use Rattle.std.proofs.lemmas.Option.{slice_get_past}

some_place : (b : Bool) (n k : ℕ) → Some k ≡ cond b (Some n) None → n ≡ k
some_place true n k e = cc
some_place false n k e = absurd (cc)

pub found_there : {X : Type 0} (p : X → Bool) (xs : List X) (k : ℕ) (x : X)
    → Some k ≡ position p xs → slice_get xs k ≡ Some x → Some x ≡ find p xs
found_there p xs k x e at =
    let same = some_place (nat_lt (position_or_len p xs) (length xs)) (position_or_len p xs) k e in
    sym at ∙ ap (slice_get xs) (sym same) ∙ sym (find_at p xs)

past : {X : Type 0} (xs : List X) (n : ℕ) → nat_lt n (length xs) ≡ false → None ≡ slice_get xs n
past xs n e = sym (slice_get_past xs n (grind arith))

no_place : (b : Bool) (n : ℕ) → None ≡ cond b (Some n) None → b ≡ false
no_place true n e = absurd (cc)
no_place false n e = refl

pub none_there : {X : Type 0} (p : X → Bool) (xs : List X)
    → None ≡ position p xs → None ≡ find p xs
none_there p xs e =
    past xs (position_or_len p xs) (no_place (nat_lt (position_or_len p xs) (length xs))
    (position_or_len p xs) e) ∙ sym (find_at p xs)
