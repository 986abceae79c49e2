-- Parts of a list, written one after the other.
use Rattle.std.proofs.Common.{◌≡◌, ℕ, ◌+◌, ◌<◌, List, [], ◌∷◌, ◌++◌, length, take, get_or, map}
use Rattle.std.proofs.Common.{sym, ap, ◌∙◌, append_assoc, append-nil}
use Rattle.std.proofs.lemmas.List.{take_more, map-append}
use Rattle.std.proofs.lemmas.List.Concat.{flat_map-append}
use Rattle.std.specs.List.{flat_map}

-- two texts after one
pub twice : {A : Type 0} (old mid new x y : List A) → mid ≡ old ++ x → new ≡ mid ++ y
    → new ≡ old ++ (x ++ y)
twice old mid new x y m n = n ∙ ap (λ (ys : List _). ys ++ y) m ∙ append_assoc old x y

taken-more : {A : Type 0} (xs : List A) (i : ℕ) (x : A) → i < length xs → x ≡ get_or xs i x
    → take (i + 1) xs ≡ take i xs ++ x ∷ []
taken-more xs i x l e = take_more xs i x l ∙ ap (λ y. take i xs ++ y ∷ []) (sym e)

flat-more : {A B : Type 0} (f : A → List B) (xs : List A) (x : A)
    → flat_map f (xs ++ x ∷ []) ≡ flat_map f xs ++ f x
flat-more f xs x = flat_map-append f xs (x ∷ [])
    ∙ ap (λ (ys : List _). flat_map f xs ++ ys) (append-nil (f x))

-- one part more
pub written-more : {A B : Type 0} (f : A → List B) (xs : List A) (i : ℕ) (x : A)
    (start old new : List B) → i < length xs → x ≡ get_or xs i x
    → old ≡ start ++ flat_map f (take i xs) → new ≡ old ++ f x
    → new ≡ start ++ flat_map f (take (i + 1) xs)
written-more f xs i x start old new l is o n = n ∙ ap (λ (ys : List _). ys ++ f x) o
    ∙ append_assoc start (flat_map f (take i xs)) (f x)
    ∙ ap (λ (ys : List _). start ++ ys) (sym (ap (flat_map f) (taken-more xs i x l is)
    ∙ flat-more f (take i xs) x))

-- and of parts that are read as others
pub mapped-more : {A B C : Type 0} (f : B → List C) (g : A → B) (xs : List A) (i : ℕ) (x : A)
    (start old new : List C) → i < length xs → x ≡ get_or xs i x
    → old ≡ start ++ flat_map f (map g (take i xs)) → new ≡ old ++ f (g x)
    → new ≡ start ++ flat_map f (map g (take (i + 1) xs))
mapped-more f g xs i x start old new l is o n = n ∙ ap (λ (ys : List _). ys ++ f (g x)) o
    ∙ append_assoc start (flat_map f (map g (take i xs))) (f (g x))
    ∙ ap (λ (ys : List _). start ++ ys) (sym (ap (λ ys. flat_map f (map g ys))
    (taken-more xs i x l is) ∙ ap (flat_map f) (map-append g (take i xs) (x ∷ []))
    ∙ flat-more f (map g (take i xs)) (g x)))
