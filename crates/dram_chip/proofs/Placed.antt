-- Words in a list, with others in their place.
use Rattle.std.proofs.Common.{◌≡◌, ℕ, ◌+◌, ◌-◌, ◌<◌, ◌≤◌, ◌++◌, List, length}
use Rattle.std.proofs.Common.{get_or, take, drop, refl, sym, ap, ◌∙◌, arith, inl, inr}
use Rattle.std.proofs.Common.{get_or-take, get_or-drop}
use Rattle.std.proofs.lemmas.List.{get_or_append_left, get_or-append_right}
use Rattle.std.proofs.lemmas.Bool.{cases_lt}
use Rattle.std.proofs.lemmas.Grind.{common_steps}
use mathlib.Core.Logic.{◌⊎◌}
use borrow.Rule.Slice.PartMut.{post_of}

-- a word after the first part
pub past : (p s : List ℕ) (i q : ℕ) → length p ≡ i → get_or (p ++ s) (i + q) 0 ≡ get_or s q 0
past p s i q e = let back : i + q - i ≡ q = omega arith in get_or-append_right p s i (i + q) 0 e
    (omega arith) ∙ ap (λ n. get_or s n 0) back

-- two lists that are alike at k in the part that it falls in
pub alike : (xs ys zs ws : List ℕ) (k : ℕ) → length xs ≡ length ys
    → (k < length xs → get_or xs k 0 ≡ get_or ys k 0)
    → ((j : ℕ) → k ≡ length xs + j → get_or zs j 0 ≡ get_or ws j 0)
    → get_or (xs ++ zs) k 0 ≡ get_or (ys ++ ws) k 0
alike xs ys zs ws k e h g = elim (cases_lt k (length xs)) [
  | inl l ↦ get_or_append_left xs zs 0 k l ∙ h l ∙ sym (get_or_append_left ys ws 0 k (omega arith))
  | inr l ↦ get_or-append_right xs zs (length xs) k 0 refl l ∙ g (k - length xs) (omega arith)
      ∙ sym (get_or-append_right ys ws (length xs) k 0 (sym e) l)
]

-- a list with n words from a on in their place
unfoldable pub placed : List ℕ → List ℕ → ℕ → ℕ → List ℕ
placed xs ys a n = take a xs ++ (ys ++ post_of a (a + n - a) xs)

pub length-placed : (xs ys : List ℕ) (a n : ℕ) → a + n ≤ length xs → length ys ≡ n
    → length (placed xs ys a n) ≡ length xs
unfolding placed
length-placed xs ys a n l e = grind (arith, common_steps)

pub placed-at : (xs ys : List ℕ) (a n q : ℕ) → a + n ≤ length xs → length ys ≡ n → q < n
    → get_or (placed xs ys a n) (a + q) 0 ≡ get_or ys q 0
unfolding placed
placed-at xs ys a n q l e m =
    past (take a xs) (ys ++ post_of a (a + n - a) xs) a q (grind (arith, common_steps))
    ∙ get_or_append_left ys (post_of a (a + n - a) xs) 0 q (omega arith)

pub placed-off : (xs ys : List ℕ) (a n k : ℕ) → a + n ≤ length xs → length ys ≡ n
    → (k < a) ⊎ (a + n ≤ k) → get_or (placed xs ys a n) k 0 ≡ get_or xs k 0
unfolding placed
placed-off xs ys a n k l e (inl h) = get_or_append_left (take a xs) (ys ++ post_of a (a + n - a) xs)
    0 k (grind (arith, common_steps)) ∙ get_or-take a xs k 0 h
placed-off xs ys a n k l e (inr h) =
    let front : length (take a xs) ≡ a = grind (arith, common_steps) in
    let width : a + n - a ≡ n = omega arith in
    let at : a + (n + (k - a - n)) ≡ k = omega arith in
    get_or-append_right (take a xs) (ys ++ post_of a (a + n - a) xs) a k 0 front (omega arith)
    ∙ get_or-append_right ys (post_of a (a + n - a) xs) n (k - a) 0 e (omega arith)
    ∙ get_or-drop (a + n - a) (drop a xs) (k - a - n) 0
    ∙ get_or-drop a xs (a + n - a + (k - a - n)) 0
    ∙ ap (λ m. get_or xs m 0) (omega arith)

-- the same, from the start on
unfoldable pub headed : List ℕ → List ℕ → ℕ → List ℕ
headed xs ys n = ys ++ drop n xs

pub length-headed : (xs ys : List ℕ) (n : ℕ) → n ≤ length xs → length ys ≡ n
    → length (headed xs ys n) ≡ length xs
unfolding headed
length-headed xs ys n l e = grind (arith, common_steps)

pub headed-at : (xs ys : List ℕ) (n q : ℕ) → length ys ≡ n → q < n
    → get_or (headed xs ys n) q 0 ≡ get_or ys q 0
unfolding headed
headed-at xs ys n q e m = get_or_append_left ys (drop n xs) 0 q (omega arith)

pub headed-off : (xs ys : List ℕ) (n k : ℕ) → length ys ≡ n → n ≤ k
    → get_or (headed xs ys n) k 0 ≡ get_or xs k 0
unfolding headed
headed-off xs ys n k e h = get_or-append_right ys (drop n xs) n k 0 e h ∙ get_or-drop n xs (k - n) 0
    ∙ ap (λ m. get_or xs m 0) (omega arith)

-- the words of a row in a list's first part, and at the start of its second
pub read-front : (all low rest : List ℕ) (a b n q : ℕ) → all ≡ low ++ rest → length low ≡ b
    → a + n ≤ b → q < n → get_or (take (a + n - a) (drop a low)) q 0 ≡ get_or all (a + q) 0
read-front all low rest a b n q e l f h =
    get_or-take (a + n - a) (drop a low) q 0 (omega arith) ∙ get_or-drop a low q 0
    ∙ sym (get_or_append_left low rest 0 (a + q) (omega arith))
    ∙ ap (λ xs. get_or xs (a + q) 0) (sym e)

pub read-back : (all low rest : List ℕ) (b n q : ℕ) → all ≡ low ++ rest → length low ≡ b → q < n
    → get_or (take n rest) q 0 ≡ get_or all (b + q) 0
read-back all low rest b n q e l h =
    get_or-take n rest q 0 h ∙ sym (past low rest b q l) ∙ ap (λ xs. get_or xs (b + q) 0) (sym e)
