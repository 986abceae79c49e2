-- What a block's visits do to the names.
use Rattle.block_lower.proofs.Common.{◌≡◌, ℕ, zero, suc, ◌+◌, ◌-◌, ◌<◌, Bool, true, false, List, []}
use Rattle.block_lower.proofs.Common.{◌∷◌, ◌++◌, map, length, bytes_eq, refl, sym, ap, ◌∙◌, arith}
use Rattle.block_lower.proofs.Common.{◌⊎◌, inl, inr, slice_get, Some, or_cases, cond-true}
use Rattle.block_lower.proofs.Common.{cond-false, Word, Bit, State, Equation, NameValue, term_bit}
use Rattle.block_lower.proofs.Common.{changed, bit_written, with_blanks, with_states, is_among}
use Rattle.block_lower.proofs.Common.{AreDistinct, targets_of}
use Rattle.std.proofs.Common.{replicate}
use Rattle.std.proofs.lemmas.Bool.{or_parts}
use Rattle.op_text.specs.Meaning.{assigned, upwards, downwards, positions}
use Rattle.block_lower.specs.Inputs.{name_at}
use Rattle.block_lower.proofs.Names.{name-true, name-same, name-other, cases_name, among-is}
use Rattle.block_lower.proofs.Rows.{position}

pub changed-same : (names : List ℕ → NameValue) (name : List ℕ) (v : NameValue) (x : List ℕ)
    → x ≡ name
    → changed names name v x ≡ v
changed-same names name v x e = cond-true (bytes_eq x name) v (names x) (name-same x name e)

pub changed-other : (names : List ℕ → NameValue) (name : List ℕ) (v : NameValue) (x : List ℕ)
    → (x ≡ name → ⊥)
    → changed names name v x ≡ names x
changed-other names name v x ne = cond-false (bytes_eq x name) v (names x) (name-other x name ne)

not-head : (y x : List ℕ) (ys : List (List ℕ)) → is_among (y ∷ ys) x ≡ false → x ≡ y → ⊥
not-head y x ys f e = let h = or_parts (bytes_eq y x) (is_among ys x) f in
    let s = name-same y x (sym e) in let k = h.0 in cc

in-tail : (y x : List ℕ) (ys : List (List ℕ)) → is_among (y ∷ ys) x ≡ false → is_among ys x ≡ false
in-tail y x ys f = (or_parts (bytes_eq y x) (is_among ys x) f).1

pub assigned-other : (r : List ℕ → Bool) (p : ℕ) (names : List ℕ
    → NameValue) (es : List Equation) (x : List ℕ) → is_among (targets_of es) x ≡ false
    → assigned r p names es x ≡ names x
assigned-other r p names [] x f = refl
assigned-other r p names (e ∷ es) x f =
    let v = bit_written p (names e.name) (term_bit r e.value) in
    assigned-other r p (changed names e.name v) es x (in-tail e.name x (targets_of es) f)
    ∙ changed-other names e.name v x (not-head e.name x (targets_of es) f)

abbrev pub equation_at : Equation → ℕ → List Equation → Equation
equation_at d k [] = d
equation_at d zero (e ∷ es) = e
equation_at d (suc k) (e ∷ es) = equation_at d k es

pub equation-got : (d : Equation) (es : List Equation) (j : ℕ) → j < length es
    → slice_get es j ≡ Some (equation_at d j es)
equation-got d [] j l = absurd (omega arith)
equation-got d (e ∷ es) zero l = refl
equation-got d (e ∷ es) (suc j) l = equation-got d es j (omega arith)

-- the target of an assignment has its value written
pub assigned-at : (r : List ℕ → Bool) (p : ℕ) (names : List ℕ
    → NameValue) (es : List Equation) (d : Equation) (j : ℕ) → AreDistinct (targets_of es)
    → j < length es → assigned r p names es (name_at (targets_of es) j)
    ≡ bit_written p (names (name_at (targets_of es) j)) (term_bit r (equation_at d j es).value)
assigned-at r p names [] d j once l = absurd (omega arith)
assigned-at r p names (e ∷ es) d zero once l =
    let v = bit_written p (names e.name) (term_bit r e.value) in
    assigned-other r p (changed names e.name v) es e.name once.0
    ∙ changed-same names e.name v e.name refl
assigned-at r p names (e ∷ es) d (suc j) once l =
    let v = bit_written p (names e.name) (term_bit r e.value) in
    let x = name_at (targets_of es) j in
    let other : x ≡ e.name → ⊥ = λ h. later h in
    assigned-at r p (changed names e.name v) es d j once.1 (omega arith)
    ∙ ap (λ (h : NameValue). bit_written p h (term_bit r (equation_at d j es).value))
    (changed-other names e.name v x other)
  where
    later : name_at (targets_of es) j ≡ e.name → ⊥
    later h = let m = among-is (targets_of es) j e.name (below es j (omega arith)) h in
        let f = once.0 in cc
      where
        below : (es : List Equation) (j : ℕ) → j < length es → j < length (targets_of es)
        below [] j l = absurd (omega arith)
        below (e ∷ es) zero l = omega arith
        below (e ∷ es) (suc j) l = let h = below es j (omega arith) in omega (arith, h)

abbrev pub blank : ℕ → NameValue
blank n = record { kind = Word; bits = replicate n false }

pub blanks-other : (n : ℕ) (names : List ℕ → NameValue) (es : List Equation) (x : List ℕ)
    → is_among (targets_of es) x ≡ false → with_blanks n names es x ≡ names x
blanks-other n names [] x f = refl
blanks-other n names (e ∷ es) x f = blanks-other n (changed names e.name (blank n)) es x
    (in-tail e.name x (targets_of es) f) ∙ changed-other names e.name (blank n) x
    (not-head e.name x (targets_of es) f)

pub blanks-at : (n : ℕ) (names : List ℕ → NameValue) (es : List Equation) (x : List ℕ)
    → (is_among (targets_of es) x ≡ true) ⊎ (names x ≡ blank n) → with_blanks n names es x ≡ blank n
blanks-at n names [] x (inl e) = absurd (cc)
blanks-at n names [] x (inr e) = e
blanks-at n names (e ∷ es) x h = blanks-at n (changed names e.name (blank n)) es x
    (elim (cases_name x e.name) [
      | inl s ↦ inr (changed-same names e.name (blank n) x s)
      | inr ne ↦ elim h [
        | inl m ↦ elim (or_cases (bytes_eq e.name x) (is_among (targets_of es) x) m) [
          | inl s ↦
              absurd (ne (sym (name-true e.name x s)))
          | inr t ↦ inl t
        ]
        | inr b ↦ inr (changed-other names e.name (blank n) x ne ∙ b)
      ]
    ])

abbrev pub names_of : List State → List (List ℕ)
names_of ss = map (λ (s : State). s.name) ss

pub states-other : (names : List ℕ → NameValue) (ss : List State) (x : List ℕ)
    → is_among (names_of ss) x ≡ false → with_states names ss x ≡ names x
states-other names [] x f = refl
states-other names (s ∷ ss) x f =
    let v : NameValue = record { kind = Bit; bits = s.start ∷ [] } in
    states-other (changed names s.name v) ss x (in-tail s.name x (names_of ss) f)
    ∙ changed-other names s.name v x (not-head s.name x (names_of ss) f)

-- the positions from the i-th on, so many
abbrev pub positions_from : Bool → ℕ → ℕ → ℕ → List ℕ
positions_from down n i zero = []
positions_from down n i (suc count) = position down n i ∷ positions_from down n (i + 1) count

down-is : (n i count : ℕ) → i + count ≡ n → downwards count ≡ positions_from true n i count
down-is n i zero e = refl
down-is n i (suc count) e = let h : count ≡ n - 1 - i = omega (arith, e) in
    ap (λ p. p ∷ downwards count) h ∙ ap (λ ps. (n - 1 - i)
    ∷ ps) (down-is n (i + 1) count (omega arith))

up-more : (n i count : ℕ) → positions_from false n i (suc count) ≡ positions_from false n i count
    ++ (i + count) ∷ []
up-more n i zero = let e : i ≡ i + 0 = omega arith in ap (λ p. p ∷ []) e
up-more n i (suc count) = let e : i + 1 + count ≡ i + suc count = omega arith in
    ap (λ ps. i ∷ ps) (up-more n (i + 1) count
    ∙ ap (λ p. positions_from false n (i + 1) count ++ p ∷ []) e)

up-is : (n count : ℕ) → upwards count ≡ positions_from false n 0 count
up-is n zero = refl
up-is n (suc count) = let e : count ≡ 0 + count = omega arith in
    ap (λ ps. ps ++ count ∷ []) (up-is n count)
    ∙ ap (λ p. positions_from false n 0 count ++ p ∷ []) e ∙ sym (up-more n 0 count)

pub positions-are : (down : Bool) (n : ℕ) → positions down n ≡ positions_from down n 0 n
positions-are true n = down-is n 0 n (omega arith)
positions-are false n = up-is n n
