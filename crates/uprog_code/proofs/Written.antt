-- The text of a program's parts, written one after another.
use Rattle.std.proofs.Common.{◌≡◌, ℕ, ◌+◌, ◌<◌, List, [], ◌∷◌, ◌++◌, length, drop, map, flat_map}
use Rattle.std.proofs.Common.{refl, ap, sym, ◌∙◌}
use Rattle.std.proofs.lemmas.List.{append_assoc, append-nil, drop_more}
use Rattle.std.proofs.lemmas.Grind.{flat_map-append}
use Rattle.std.specs.Prelude.{slice_index_or}
use Rattle.std.specs.List.{zip}

-- the text of one more part that is left
pub next_part : {A : Type 0} (text : A → List ℕ) (parts : List A) (k : ℕ) (part : A)
    (out new all : List ℕ) → k < length parts → part ≡ slice_index_or parts k part
    → new ≡ out ++ text part → out ++ flat_map text (drop k parts) ≡ all
    → new ++ flat_map text (drop (k + 1) parts) ≡ all
next_part {A} text parts k part out new all lt e written before =
    ap (λ (xs : List ℕ). xs ++ flat_map text (drop (k + 1) parts)) written
    ∙ append_assoc out (text part) (flat_map text (drop (k + 1) parts))
    ∙ ap (λ (xs : List A). out ++ flat_map text xs)
    (ap (λ y. y ∷ drop (k + 1) parts) e ∙ sym (drop_more parts k part lt)) ∙ before

-- parts of which the first are read from others
pub zip_read : {A B C : Type 0} (read : A → B) (text : B → C → List ℕ) (xs : List A) (ys : List C)
    → flat_map (λ (p : A × C). text (read p.0) p.1) (zip xs ys)
    ≡ flat_map (λ (p : B × C). text p.0 p.1) (zip (map read xs) ys)
zip_read read text [] ys = refl
zip_read read text (x ∷ xs) [] = refl
zip_read read text (x ∷ xs) (y ∷ ys) = ap (λ l. text (read x) y ++ l) (zip_read read text xs ys)

-- the text of one more part, after those that were written
pub one_more : {A : Type 0} (text : A → List ℕ) (seen : List A) (one : A) (old out new : List ℕ)
    → new ≡ out ++ text one → out ≡ old ++ flat_map text seen
    → new ≡ old ++ flat_map text (seen ++ one ∷ [])
one_more text seen one old out new written before =
    written ∙ ap (λ l. l ++ text one) before ∙ append_assoc old (flat_map text seen) (text one)
    ∙ ap (λ l. old ++ l) (sym (flat_map-append text seen (one ∷ [])
    ∙ ap (λ l. flat_map text seen ++ l) (append-nil (text one))))
