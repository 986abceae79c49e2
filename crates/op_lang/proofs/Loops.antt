-- Lists that are read part by part.
use Rattle.op_lang.proofs.Common.{◌≡◌, ℕ, ◌≤◌, List, [], ◌∷◌, ◌++◌, map, length, refl, sym, ap, ◌∙◌}
use Rattle.op_lang.proofs.Common.{codes, arith, append_assoc, append-nil, length-append, ◌+◌, ◌<◌}
use Rattle.op_lang.proofs.Common.{take, get_or, filter, cond, Bool, true, false, take_more}
use Rattle.op_lang.proofs.Common.{map-append, Wanted, after_commas, between_commas, in_turn}
use Rattle.std.proofs.lemmas.List.Elements.{filter-append}
use Rattle.op_lang.specs.Reading.{ParserView, breach, left}

following-more : {A : Type 0} (spell : A → List (List ℕ)
    → List (List ℕ)) (xs : List A) (x : A) (rest : List (List ℕ))
    → after_commas spell (xs ++ x ∷ []) rest ≡ after_commas spell xs (codes "," ∷ spell x rest)
following-more spell [] x rest = refl
following-more spell (y ∷ xs) x rest = ap (λ l. codes ","
    ∷ spell y l) (following-more spell xs x rest)

between-more : {A : Type 0} (spell : A → List (List ℕ)
    → List (List ℕ)) (xs : List A) (x : A) (rest : List (List ℕ)) → 1 ≤ length xs
    → between_commas spell (xs ++ x ∷ []) rest ≡ between_commas spell xs (codes "," ∷ spell x rest)
between-more spell [] x rest h = absurd (omega arith)
between-more spell (y ∷ xs) x rest h = ap (spell y) (following-more spell xs x rest)

-- Some parts are read, with commas between them.
pub record HasParts {A : Type 0} (more : Wanted) (spell : A → List (List ℕ)
    → List (List ℕ)) (start : List (List ℕ)) (old : ParserView) (xs : List A) (new : ParserView) :
    Type 0
  where
    pub same : (wanted : List Wanted) → breach (more ∷ wanted) old ≡ breach (more ∷ wanted) new
    pub spells : start ≡ between_commas spell xs (left new)
    pub some : 1 ≤ length xs

pub next_part : {A : Type 0} (more : Wanted) (spell : A → List (List ℕ)
    → List (List ℕ)) (start : List (List ℕ)) (old : ParserView) (xs : List A) (mid : ParserView)
    (ys : List A) (x : A) (new : ParserView)
    → HasParts more spell start old xs mid → ((wanted : List Wanted)
    → breach (more ∷ wanted) mid ≡ breach (more ∷ wanted) new)
    → left mid ≡ codes "," ∷ spell x (left new) → ys ≡ xs ++ x ∷ []
    → HasParts more spell start old ys new
next_part more spell start old xs mid ys x new h moves spells e = record {
  same = λ wanted. h.same wanted ∙ moves wanted;
  spells = h.spells ∙ ap (between_commas spell xs) spells
      ∙ sym (between-more spell xs x (left new) h.some)
      ∙ ap (λ l. between_commas spell l (left new)) (sym e);
  some = rw e (omega (arith, h.some, length-append xs (x ∷ [])));
}

turn-more : {A B : Type 0} (spell : A → List (List ℕ) → List (List ℕ)) (f : B
    → A) (xs : List B) (x : B) (rest : List (List ℕ))
    → in_turn spell (map f (xs ++ x ∷ [])) rest ≡ in_turn spell (map f xs) (spell (f x) rest)
turn-more spell f [] x rest = refl
turn-more spell f (y ∷ xs) x rest = ap (spell (f y)) (turn-more spell f xs x rest)

-- Some parts are read, one after the other.
pub record HasTurns {A B : Type 0} (front : List Wanted) (wanted : Wanted) (spell : A
    → List (List ℕ) → List (List ℕ)) (f : B → A) (start : List (List ℕ)) (old : ParserView)
    (xs : List B) (new : ParserView) : Type 0 where
  pub same : (more : List Wanted) → breach (front ++ more) old ≡ breach (wanted ∷ more) new
  pub spells : start ≡ in_turn spell (map f xs) (left new)

pub next_turn : {A B : Type 0} (front : List Wanted) (wanted next : Wanted) (spell : A
    → List (List ℕ) → List (List ℕ)) (f : B → A) (start : List (List ℕ)) (old : ParserView)
    (xs : List B) (mid : ParserView) (ys : List B) (x : B) (new : ParserView)
    → HasTurns front wanted spell f start old xs mid
    → ((more : List Wanted) → breach (wanted ∷ more) mid ≡ breach (next ∷ more) new)
    → left mid ≡ spell (f x) (left new) → ys ≡ xs ++ x ∷ []
    → HasTurns front next spell f start old ys new
next_turn front wanted next spell f start old xs mid ys x new h moves spells e = record {
  same = λ more. h.same more ∙ moves more;
  spells = h.spells ∙ ap (in_turn spell (map f xs)) spells ∙ sym (turn-more spell f xs x (left new))
      ∙ ap (λ l. in_turn spell (map f l) (left new)) (sym e);
}

-- one item more of a list
pub taken-more : {A : Type 0} (xs : List A) (i : ℕ) (x : A) → i < length xs → x ≡ get_or xs i x
    → take (i + 1) xs ≡ take i xs ++ x ∷ []
taken-more xs i x l e = take_more xs i x l ∙ ap (λ y. take i xs ++ y ∷ []) (sym e)

pub mapped-more : {A B : Type 0} (f : A → B) (xs : List A) (i : ℕ) (x : A) → i < length xs
    → x ≡ get_or xs i x → map f (take (i + 1) xs) ≡ map f (take i xs) ++ f x ∷ []
mapped-more f xs i x l e = ap (map f) (taken-more xs i x l e) ∙ map-append f (take i xs) (x ∷ [])

-- a list to which one item more was added
pub added-more : {A : Type 0} (start front longer old new : List A) (x y : A)
    → old ≡ start ++ front → new ≡ old ++ y ∷ [] → y ≡ x → longer ≡ front ++ x ∷ []
    → new ≡ start ++ longer
added-more start front longer old new x y p q e l = q ∙ ap (λ (ys : List _). ys ++ y ∷ []) p
    ∙ append_assoc start front (y ∷ []) ∙ ap (λ z. start ++ (front ++ z ∷ [])) e
    ∙ ap (λ (ys : List _). start ++ ys) (sym l)

filtered-more : {A : Type 0} (p : A → Bool) (xs : List A) (i : ℕ) (x : A) (b : Bool)
    → i < length xs → x ≡ get_or xs i x → p x ≡ b
    → filter p (take (i + 1) xs) ≡ filter p (take i xs) ++ cond b (x ∷ []) []
filtered-more p xs i x b l e h = ap (filter p) (taken-more xs i x l e)
    ∙ filter-append p (take i xs) (x ∷ [])
    ∙ ap (λ (c : Bool). filter p (take i xs) ++ cond c (x ∷ []) []) h

-- the items that pass a test, and one more, which passes it or not
pub passed-more : {A : Type 0} (p : A → Bool) (xs old new : List A) (i : ℕ) (x y : A)
    → old ≡ filter p (take i xs) → new ≡ old ++ y ∷ [] → y ≡ x → i < length xs
    → x ≡ get_or xs i x → p x ≡ true → new ≡ filter p (take (i + 1) xs)
passed-more p xs old new i x y o n e l is h = n ∙ ap (λ (ys : List _). ys ++ y ∷ []) o
    ∙ ap (λ z. filter p (take i xs) ++ z ∷ []) e ∙ sym (filtered-more p xs i x true l is h)

pub passed-same : {A : Type 0} (p : A → Bool) (xs old new : List A) (i : ℕ) (x : A)
    → old ≡ filter p (take i xs) → new ≡ old → i < length xs → x ≡ get_or xs i x → p x ≡ false
    → new ≡ filter p (take (i + 1) xs)
passed-same p xs old new i x o n l is h = n ∙ o ∙ sym (append-nil (filter p (take i xs)))
    ∙ sym (filtered-more p xs i x false l is h)
