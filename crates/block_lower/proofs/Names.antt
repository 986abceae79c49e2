-- Names in lists.
use Rattle.block_lower.proofs.Common.{◌≡◌, ℕ, zero, suc, ◌<◌, Bool, true, false, List, [], ◌∷◌}
use Rattle.block_lower.proofs.Common.{◌++◌, filter, length, refl, sym, ◌∙◌, subst, arith, ◌⊎◌, inl}
use Rattle.block_lower.proofs.Common.{inr, bytes_eq, false_from_ne_true, or_cases, or_left}
use Rattle.block_lower.proofs.Common.{or_right, cases_Bool, is_among}
use Rattle.std.proofs.lemmas.Slice.Eq.{bytes_eq-Decides}
use Rattle.std.proofs.lemmas.List.Folds.{list_any-append}
use Rattle.block_lower.specs.Inputs.{name_at}

pub name-true : (a b : List ℕ) → bytes_eq a b ≡ true → a ≡ b
name-true a b e = (bytes_eq-Decides a b).0 e

pub name-same : (a b : List ℕ) → a ≡ b → bytes_eq a b ≡ true
name-same a b e = (bytes_eq-Decides a b).1 e

pub name-other : (a b : List ℕ) → (a ≡ b → ⊥) → bytes_eq a b ≡ false
name-other a b ne = false_from_ne_true (bytes_eq a b) (λ e. ne (name-true a b e))

pub cases_name : (a b : List ℕ) → (a ≡ b) ⊎ (a ≡ b → ⊥)
cases_name a b = elim (cases_Bool (bytes_eq a b)) [
  | inl e ↦ inl (name-true a b e)
  | inr e ↦ inr (λ s. let t = name-same a b s in cc)
]

-- a name of a list has a place in it
pub place-of : (names : List (List ℕ)) (x : List ℕ) → is_among names x ≡ true
    → (k : ℕ) × (k < length names) × (name_at names k ≡ x)
place-of [] x e = absurd (cc)
place-of (y ∷ ys) x e = elim (or_cases (bytes_eq y x) (is_among ys x) e) [
  | inl h ↦ (0, omega arith, name-true y x h)
  | inr h ↦ let r = place-of ys x h in (suc r.0, (let l = r.1 in omega arith), r.2)
]

pub among-at : (names : List (List ℕ)) (k : ℕ) → k < length names
    → is_among names (name_at names k) ≡ true
among-at [] k l = absurd (omega arith)
among-at (y ∷ ys) zero l = or_left (bytes_eq y y) (is_among ys y) (name-same y y refl)
among-at (y ∷ ys) (suc k) l = or_right (bytes_eq y (name_at ys k)) (is_among ys (name_at ys k))
    (among-at ys k (omega arith))

pub among-is : (names : List (List ℕ)) (k : ℕ) (x : List ℕ) → k < length names → name_at names k ≡ x
    → is_among names x ≡ true
among-is names k x l e = subst (λ y. is_among names y ≡ true) e (among-at names k l)

pub among-left : (xs ys : List (List ℕ)) (x : List ℕ) → is_among xs x ≡ true
    → is_among (xs ++ ys) x ≡ true
among-left xs ys x e = list_any-append (λ n. bytes_eq n x) xs ys
    ∙ or_left (is_among xs x) (is_among ys x) e

pub among-right : (xs ys : List (List ℕ)) (x : List ℕ) → is_among ys x ≡ true
    → is_among (xs ++ ys) x ≡ true
among-right xs ys x e = list_any-append (λ n. bytes_eq n x) xs ys
    ∙ or_right (is_among xs x) (is_among ys x) e

pub among-either : (xs ys : List (List ℕ)) (x : List ℕ) → is_among (xs ++ ys) x ≡ true
    → (is_among xs x ≡ true) ⊎ (is_among ys x ≡ true)
among-either xs ys x e = or_cases (is_among xs x) (is_among ys x)
    (sym (list_any-append (λ n. bytes_eq n x) xs ys) ∙ e)

pub among-here : (x : List ℕ) → is_among (x ∷ []) x ≡ true
among-here x = or_left (bytes_eq x x) false (name-same x x refl)

pub among-one : (y x : List ℕ) → is_among (y ∷ []) x ≡ true → y ≡ x
among-one y x e = elim (or_cases (bytes_eq y x) false e) [
  | inl h ↦ name-true y x h
  | inr h ↦ absurd (cc)
]

-- what a filter keeps
pub among-kept : (p : List ℕ → Bool) (names : List (List ℕ)) (x : List ℕ) → is_among names x ≡ true
    → p x ≡ true → is_among (filter p names) x ≡ true
among-kept p [] x e h = absurd (cc)
among-kept p (y ∷ ys) x e h = elim (cases_Bool (p y)) [
  | inl k ↦ rw k (elim (or_cases (bytes_eq y x) (is_among ys x) e) [
    | inl f ↦
        or_left (bytes_eq y x) (is_among (filter p ys) x) f
    | inr f ↦ or_right (bytes_eq y x) (is_among (filter p ys) x) (among-kept p ys x f h)
  ])
  | inr k ↦ rw k (elim (or_cases (bytes_eq y x) (is_among ys x) e) [
    | inl f ↦
        (let g = name-true y x f in let k2 : p x ≡ false = subst (λ z. p z ≡ false) g k in
        absurd (cc))
    | inr f ↦ among-kept p ys x f h
  ])
]

pub among-filtered : (p : List ℕ → Bool) (names : List (List ℕ)) (x : List ℕ)
    → is_among (filter p names) x ≡ true → (is_among names x ≡ true) × (p x ≡ true)
among-filtered p [] x e = absurd (cc)
among-filtered p (y ∷ ys) x e = elim (cases_Bool (p y)) [
  | inl k ↦ let e2 : is_among (y ∷ filter p ys) x ≡ true = rw k at e in
      elim (or_cases (bytes_eq y x) (is_among (filter p ys) x) e2) [
        | inl f ↦ (
          or_left (bytes_eq y x) (is_among ys x) f,
          subst (λ z. p z ≡ true) (name-true y x f) k,
        )
        | inr f ↦ let r = among-filtered p ys x f in
            (or_right (bytes_eq y x) (is_among ys x) r.0, r.1)
      ]
  | inr k ↦ let e2 : is_among (filter p ys) x ≡ true = rw k at e in
      let r = among-filtered p ys x e2 in (or_right (bytes_eq y x) (is_among ys x) r.0, r.1)
]

-- no name stands twice
abbrev pub AreOnce : List (List ℕ) → Type 0
AreOnce names = (i j : ℕ) → i < length names → j < length names → name_at names i ≡ name_at names j
    → i ≡ j
