-- A name's field is its spelling, and its spelling is read.
use Rattle.std.proofs.Common.{◌≡◌, ℕ, ◌+◌, ◌-◌, Bool, true, false, not, ◌&&◌, eqb, List, [], ◌∷◌}
use Rattle.std.proofs.Common.{◌++◌, length, take, drop, replicate, Ok, refl, subst, arith}
use Rattle.std.specs.Int.{w8}
use Rattle.std.specs.List.{list_all}
use Rattle.text_lex.specs.Spelled.{fits_name}
use Rattle.file_fields.specs.Fields.{IsBytes, is_between, ◌>>=◌, rule, bytes_at, field_at}
use Rattle.file_fields.specs.Fields.{is_padded_name, name_bytes, name_at}
use Rattle.file_fields.proofs.Held.{Holds, Holds-then, Holds-front, Holds-back, bind_ok, ok_is}
use Rattle.file_fields.proofs.Held.{rule_ok, bytes_takes, bytes_again, wide8, field_takes}
use Rattle.file_fields.proofs.Held.{field_again}
use Rattle.file_fields.proofs.Padded.{both, between_is, is-between, name_short, padded_is}
use Rattle.file_fields.proofs.Padded.{is_padded}

is_not : (b : Bool) → not b ≡ true → b ≡ false
is_not true h = absurd cc
is_not false h = refl

-- a name that was read stands there with its length and its zeros
pub name_takes : {K : Type 0} (short kind : K) (taken : List ℕ
    → Bool) (at : ℕ) (bytes name : List ℕ) → IsBytes bytes
    → name_at short kind taken at bytes ≡ Ok name
    → Holds bytes at (name_bytes name) (at + 17) × (fits_name name ≡ true)
    × (taken name ≡ false)
unfolding name_at
name_takes short kind taken at bytes name fits e =
    let a = bind_ok (field_at short w8 (is_between 1 16) kind at bytes)
    (λ len. bytes_at short 16 (at + 1) bytes >>= λ field. rule (is_padded_name len field
    && not (taken (take len field))) (at
    + 1) kind >>= λ _. Ok (take len field)) name e in
    let b = bind_ok (bytes_at short 16 (at + 1) bytes)
    (λ field. rule (is_padded_name a.0 field && not (taken (take a.0 field))) (at + 1) kind >>= λ _.
    Ok (take a.0 field)) name a.2 in
    let c = bind_ok (rule (is_padded_name a.0 b.0 && not (taken (take a.0 b.0))) (at + 1) kind)
    (λ _.
    Ok (take a.0 b.0)) name b.2 in
    let len = field_takes short w8 256 (λ n. n ∷ []) wide8 (is_between 1 16) kind at (at + 1)
    bytes a.0 fits a.1 refl in
    let field = bytes_takes short 16 (at + 1) (at + 17) bytes b.0 b.1 (omega arith) in
    let new = both (is_padded_name a.0 b.0) (not (taken (take a.0 b.0)))
    (rule_ok (is_padded_name a.0 b.0 && not (taken (take a.0 b.0))) (at + 1) kind c.0 c.1) in
    let others = both (fits_name (take a.0 b.0)) (list_all (λ z. eqb z 0) (drop a.0 b.0)) new.0 in
    let few = between_is 1 16 a.0 len.2 in
    let spelled : (a.0 ∷ b.0) ≡ name_bytes (take a.0 b.0) =
    padded_is a.0 b.0 field.1 few.1 others.1 in
    let held : Holds bytes at (a.0 ∷ b.0) (at + 17) =
    Holds-then bytes at (a.0 ∷ []) (at + 1) b.0 (at + 17) len.0 field.0 in
    let named : Holds bytes at (name_bytes (take a.0 b.0)) (at + 17) =
    subst (λ (t : List ℕ). Holds bytes at t (at + 17)) spelled held in
    subst (λ (n : List ℕ). Holds bytes at (name_bytes n) (at + 17) × (fits_name n ≡ true)
    × (taken n ≡ false)) (ok_is (take a.0 b.0) name c.2) (
      named,
      others.0,
      is_not (taken (take a.0 b.0)) new.1,
    )

-- a name that stands there and is new is read
pub name_again : {K : Type 0} (short kind : K) (taken : List ℕ
    → Bool) (at : ℕ) (bytes name : List ℕ)
    → Holds bytes at (name_bytes name) (at + 17) → fits_name name ≡ true
    → taken name ≡ false → name_at short kind taken at bytes ≡ Ok name
unfolding name_at
name_again short kind taken at bytes name h ok new =
    let few = name_short name ok in
    let padding : List ℕ = replicate (16 - length name) 0 in
    let front = Holds-front bytes at (length name ∷ []) (at + 1) (name ++ padding) (at + 17) h refl
    in
    let back = Holds-back bytes at (length name ∷ []) (at + 1) (name ++ padding) (at + 17) h refl in
    let padded = is_padded name ok in
    let len = field_again short w8 256 (λ n. n ∷ []) wide8 (is_between 1 16) kind at (at + 1)
    bytes (length name) front (omega arith) (is-between 1 16 (length name) few.0 few.1) in
    let field = bytes_again short 16 (at + 1) (at + 17) bytes (name ++ padding) back padded.size in
    let passes : (is_padded_name (length name) (name ++ padding)
    && not (taken (take (length name) (name ++ padding)))) ≡ true =
    rw (padded.passes, padded.name, new) refl in
    rw (len, field, passes, padded.name) refl
