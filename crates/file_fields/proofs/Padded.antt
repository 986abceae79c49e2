-- Names as fields of a file.
use Rattle.std.proofs.Common.{◌≡◌, ℕ, zero, suc, ◌-◌, ◌≤◌, Bool, true, false, ◌&&◌, eqb, leb, List}
use Rattle.std.proofs.Common.{[], ◌∷◌, ◌++◌, length, take, drop, replicate, refl, sym, ap, ◌∙◌}
use Rattle.std.proofs.Common.{arith}
use Rattle.std.specs.List.{list_all}
use Rattle.std.proofs.lemmas.Bool.{eqb-true}
use Rattle.std.proofs.lemmas.Bool.Decides.{nat_tests}
use Rattle.std.proofs.lemmas.List.{take_at, drop_at, take-append-drop, length-append, length-take}
use Rattle.std.proofs.lemmas.List.{length-drop, length-replicate}
use Rattle.text_lex.specs.Spelled.{fits_name}
use Rattle.file_fields.specs.Fields.{is_between, is_padded_name, name_bytes}

-- both parts of a test that holds
pub both : (a b : Bool) → (a && b) ≡ true → (a ≡ true) × (b ≡ true)
both true b h = (refl, h)
both false b h = absurd cc

-- a number that passes the test is between the two
pub between_is : (low high n : ℕ) → is_between low high n ≡ true → (low ≤ n) × (n ≤ high)
between_is low high n h = (grind (arith, nat_tests), grind (arith, nat_tests))

-- a number between the two passes the test
pub is-between : (low high n : ℕ) → low ≤ n → n ≤ high → is_between low high n ≡ true
is-between low high n l h = grind (arith, nat_tests)

zeros_are : (bytes : List ℕ) → list_all (λ b. eqb b 0) bytes ≡ true
    → bytes ≡ replicate (length bytes) 0
zeros_are [] h = refl
zeros_are (b ∷ bytes) h =
    let t = both (eqb b 0) (list_all (λ c. eqb c 0) bytes) h in
    let first : b ≡ 0 = eqb-true _ _ t.0 in
    rw first (ap (λ (bs : List ℕ). 0 ∷ bs) (zeros_are bytes t.1))

are-zeros : (n : ℕ) → list_all (λ b. eqb b 0) (replicate n 0) ≡ true
are-zeros zero = refl
are-zeros (suc n) = are-zeros n

-- a field of 16 bytes with a name in front and zeros after
pub padded_is : (len : ℕ) (field : List ℕ) → length field ≡ 16 → len ≤ 16
    → list_all (λ b. eqb b 0) (drop len field) ≡ true → (len ∷ field) ≡ name_bytes (take len field)
padded_is len field e l z =
    let size : length (take len field) ≡ len = omega (arith, length-take len field) in
    let count : length (drop len field) ≡ 16 - len = omega (arith, length-drop len field) in
    let zeros : drop len field ≡ replicate (16 - len) 0 = zeros_are (drop len field) z
    ∙ ap (λ (n : ℕ). replicate n 0) count in
    let whole : field ≡ take len field ++ replicate (16 - len) 0 = sym (take-append-drop len field)
    ∙ ap (λ (r : List ℕ). take len field ++ r) zeros in
    let text : ℕ → List ℕ = λ n. n ∷ (take len field ++ replicate (16 - n) 0) in
    ap (λ (f : List ℕ). len ∷ f) whole ∙ ap text (sym size)

-- a name has 1 to 16 bytes
pub name_short : (name : List ℕ) → fits_name name ≡ true → (1 ≤ length name) × (length name ≤ 16)
name_short [] h = absurd cc
name_short (b ∷ bs) h = let t = both _ (leb (length (b ∷ bs)) 16) h in
    (omega arith, grind (arith, nat_tests))

-- a name takes 17 bytes of a file
pub name_size : (name : List ℕ) → fits_name name ≡ true → length (name_bytes name) ≡ 17
name_size name h =
    let short = name_short name h in
    omega (
      arith,
      length-append name (replicate (16 - length name) 0),
      length-replicate {A = ℕ} (16 - length name) 0,
    )

-- the field of a name
pub record IsPadded (text : List ℕ) : Type 0 where
  pub size : length (text ++ replicate (16 - length text) 0) ≡ 16
  pub name : take (length text) (text ++ replicate (16 - length text) 0) ≡ text
  pub passes : is_padded_name (length text) (text ++ replicate (16 - length text) 0) ≡ true

pub is_padded : (name : List ℕ) → fits_name name ≡ true → IsPadded name
is_padded name ok =
    let short = name_short name ok in
    let padding : List ℕ = replicate (16 - length name) 0 in
    let taken : take (length name) (name ++ padding) ≡ name =
    take_at name padding (length name) refl in
    let rest : drop (length name) (name ++ padding) ≡ padding =
    drop_at name padding (length name) refl in
    record {
      size = omega (
        arith,
        length-append name padding,
        length-replicate {A = ℕ} (16 - length name) 0,
      );
      name = taken;
      passes = rw (taken, rest, ok) (rw (are-zeros (16 - length name)) refl);
    }
