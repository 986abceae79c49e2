-- Names gathered once each, and their numbers.
use Rattle.block_lower.proofs.Common.{◌≡◌, ℕ, ◌+◌, ◌≤◌, true, false, cond, List, [], ◌∷◌, ◌++◌}
use Rattle.block_lower.proofs.Common.{length, sym, ap, ◌∙◌, subst, arith, ◌⊎◌, inl, inr, bytes_eq}
use Rattle.block_lower.proofs.Common.{Some, is_some, or_cases, or_left, or_right, cases_Bool}
use Rattle.block_lower.proofs.Common.{cond-true, cond-false, false_from_ne_true, get, is_among}
use Rattle.block_lower.proofs.Common.{Numbers}
use Rattle.std.proofs.Common.{◌≢◌}
use Rattle.std.proofs.lemmas.Bool.{cases_lt, cond_both}
use Rattle.std.proofs.lemmas.List.{get_or_append_left, get_or_push, length_push}
use Rattle.block_lower.specs.Inputs.{gathered, AreNumbered}
use Rattle.block_lower.proofs.Names.{name-true, name-same, cases_name, among-is, among-left}
use Rattle.block_lower.proofs.Names.{among-right, among-either, among-here, among-one, AreOnce}

pub gathered-length : (known xs : List (List ℕ))
    → length (gathered known xs) ≤ length known + length xs
gathered-length known [] = omega arith
gathered-length known (x ∷ xs) =
    let more = cond (is_among known x) known (known ++ x ∷ []) in
    let h = gathered-length more xs in
    let k : length more ≤ length known + 1 = cond_both (is_among known x) known (known ++ x
    ∷ []) (λ ys. length ys ≤ length known + 1) (λ e. omega arith) (λ e.
    omega (arith, length_push known x)) in
    omega (arith, h, k)

pub gathered-known : (known xs : List (List ℕ)) (x : List ℕ) → is_among known x ≡ true
    → is_among (gathered known xs) x ≡ true
gathered-known known [] x e = e
gathered-known known (y ∷ ys) x e = gathered-known (cond (is_among known y) known (known ++ y ∷ []))
    ys x (cond_both (is_among known y) known (known ++ y ∷ []) (λ zs. is_among zs x
    ≡ true) (λ h. e) (λ h. among-left known (y ∷ []) x e))

pub gathered-all : (known xs : List (List ℕ)) (x : List ℕ) → is_among xs x ≡ true
    → is_among (gathered known xs) x ≡ true
gathered-all known [] x e = absurd (cc)
gathered-all known (y ∷ ys) x e = elim (or_cases (bytes_eq y x) (is_among ys x) e) [
  | inl h ↦ gathered-known (cond (is_among known y) known (known ++ y ∷ [])) ys x
      (subst (λ z. is_among (cond (is_among known y) known (known ++ y ∷ [])) z
      ≡ true) (name-true y x h) (cond_both (is_among known y) known (known ++ y
      ∷ []) (λ zs. is_among zs y ≡ true) (λ h. h) (λ h.
      among-right known (y ∷ []) y (among-here y))))
  | inr h ↦ gathered-all (cond (is_among known y) known (known ++ y ∷ [])) ys x h
]

pub gathered-from : (known xs : List (List ℕ)) (x : List ℕ) → is_among (gathered known xs) x ≡ true
    → (is_among known x ≡ true) ⊎ (is_among xs x ≡ true)
gathered-from known [] x e = inl e
gathered-from known (y ∷ ys) x e =
    elim (gathered-from (cond (is_among known y) known (known ++ y ∷ [])) ys x e) [
      | inl h ↦ elim (cases_Bool (is_among known y)) [
        | inl k ↦ inl (subst (λ zs. is_among zs x
            ≡ true) (cond-true (is_among known y) known (known ++ y ∷ []) k) h)
        | inr k ↦
            elim (among-either known (y ∷ []) x (subst (λ zs. is_among zs x
            ≡ true) (cond-false (is_among known y) known (known ++ y ∷ []) k) h)) [
              | inl f ↦ inl f
              | inr f ↦
                  inr (or_left (bytes_eq y x) (is_among ys x) (name-same y x (among-one y x f)))
            ]
      ]
      | inr h ↦ inr (or_right (bytes_eq y x) (is_among ys x) h)
    ]

pub once-more : (names : List (List ℕ)) (x : List ℕ) → AreOnce names → is_among names x ≡ false
    → AreOnce (names ++ x ∷ [])
once-more names x once new i j li lj e =
    let long = length_push names x in
    elim (cases_lt i (length names)) [
      | inl a ↦ elim (cases_lt j (length names)) [
        | inl b ↦ once i j a b (sym (get_or_append_left names (x ∷ []) [] i a) ∙ e
            ∙ get_or_append_left names (x ∷ []) [] j b)
        | inr b ↦ let same : length names ≡ j = omega (arith, long) in
            let t = among-is names i x a (sym (get_or_append_left names (x ∷ []) [] i a) ∙ e
            ∙ get_or_push names x [] j same) in absurd (cc)
      ]
      | inr a ↦ let here : length names ≡ i = omega (arith, long) in
          elim (cases_lt j (length names)) [
            | inl b ↦ let t = among-is names j x b (sym (get_or_append_left names (x ∷ []) [] j b)
                ∙ sym e ∙ get_or_push names x [] i here) in absurd (cc)
            | inr b ↦ omega (arith, long)
          ]
    ]

pub gathered-once : (known xs : List (List ℕ)) → AreOnce known → AreOnce (gathered known xs)
gathered-once known [] once = once
gathered-once known (x ∷ xs) once = gathered-once (cond (is_among known x) known (known ++ x ∷ []))
    xs (cond_both (is_among known x) known (known ++ x ∷ []) AreOnce (λ h. once) (λ h.
    once-more known x once h))

-- one number more
pub numbered-more : (names : List (List ℕ)) (x : List ℕ) (old new : Numbers) → AreNumbered names old
    → get bytes_eq new x ≡ Some (length names)
    → ((other : List ℕ) → other ≢ x → get bytes_eq new other ≡ get bytes_eq old other)
    → AreNumbered (names ++ x ∷ []) new
numbered-more names x old new h same others = record {
  some = λ q. elim (cases_name q x) [
    | inl e ↦ subst (λ z. is_some (get bytes_eq new z) ≡ is_among (names ++ x ∷ []) z) (sym e)
        (rw same (sym (among-right names (x ∷ []) x (among-here x))))
    | inr ne ↦ ap is_some (others q ne) ∙ h.some q ∙ elim (cases_Bool (is_among names q)) [
      | inl t ↦ t ∙ sym (among-left names (x ∷ []) q t)
      | inr f ↦ f ∙ sym (false_from_ne_true (is_among (names ++ x ∷ []) q) (λ t.
          elim (among-either names (x ∷ []) q t) [
            | inl u ↦ (cc)
            | inr u ↦ ne (sym (among-one x q u))
          ]))
    ]
  ];
  place = λ q k e. elim (cases_name q x) [
    | inl s ↦ let f : get bytes_eq new x ≡ Some k = subst (λ z. get bytes_eq new z ≡ Some k) s e in
        let g : length names ≡ k = cc in
        (omega (arith, length_push names x), get_or_push names x [] k g ∙ sym s)
    | inr ne ↦ let r = h.place q k (sym (others q ne) ∙ e) in let l = r.0 in
        (omega (arith, length_push names x), get_or_append_left names (x ∷ []) [] k r.0 ∙ r.1)
  ];
}
