-- Objects by name in a state that grows at its end.
use Rattle.scan_model.proofs.Common.{◌≡◌, ◌≢◌, ℕ, Bool, true, false, not, cond, List, [], ◌∷◌, ◌++◌}
use Rattle.scan_model.proofs.Common.{Option, Some, None, refl, ◌∙◌, ap, subst, append-nil, map}
use Rattle.scan_model.proofs.Common.{length, arith, filter, ◌||◌, find, AllByRecursion, option_map}
use Rattle.scan_model.proofs.Common.{unwrap_or, bytes_eq, Named, has_name, object_named, nothing}
use Rattle.scan_model.proofs.Common.{Place, whole, seen, Held, table_of, numbers_at, with_results}
use Rattle.scan_model.proofs.Common.{bytes_differ, find_map, entry_of}
use Rattle.std.specs.Option.{option_or}
use Rattle.std.proofs.lemmas.List.Folds.{find-append}
use Rattle.machine_model.specs.Places.{put_all}
use Rattle.machine_model.specs.Steps.{numbers_named}
use Rattle.machine_model.proofs.Places.{bytes_same}

-- the object of this name, and that there is none
abbrev pub lookup : List Held → List ℕ → Option Held
lookup s name = find (λ h. bytes_eq h.name name) s

pub lookup-append : (s t : List Held) (name : List ℕ)
    → lookup (s ++ t) name ≡ option_or (lookup s name) (lookup t name)
lookup-append s t name = find-append (λ h. bytes_eq h.name name) s t

pub at_append : (s t : List Held) (name : List ℕ) (h : Held) → lookup s name ≡ Some h
    → lookup (s ++ t) name ≡ Some h
at_append s t name h e = lookup-append s t name ∙ ap (λ o. option_or o (lookup t name)) e

pub past_append : (s t : List Held) (name : List ℕ) → lookup s name ≡ None
    → lookup (s ++ t) name ≡ lookup t name
past_append s t name e = lookup-append s t name ∙ ap (λ o. option_or o (lookup t name)) e

pub lookup-one : (h : Held) (name : List ℕ) → h.name ≡ name → lookup (h ∷ []) name ≡ Some h
lookup-one h name e = rw (bytes_same h.name name e) refl

pub lookup-other : (h : Held) (name : List ℕ) → h.name ≢ name → lookup (h ∷ []) name ≡ None
lookup-other h name n = rw (bytes_differ h.name name n) refl

-- the last object
pub at_last : (s : List Held) (h : Held) → lookup s h.name ≡ None
    → lookup (s ++ h ∷ []) h.name ≡ Some h
at_last s h e = past_append s (h ∷ []) h.name e ∙ lookup-one h h.name refl

pub absent_append : (s : List Held) (h : Held) (name : List ℕ) → lookup s name ≡ None
    → h.name ≢ name → lookup (s ++ h ∷ []) name ≡ None
absent_append s h name e n = past_append s (h ∷ []) name e ∙ lookup-other h name n

any_case : (b : Bool) (h : Held) (found : Option Held) (rest : Bool)
    → (found ≡ None → rest ≡ false) → cond b (Some h) found ≡ None → (b || rest) ≡ false
any_case true h found rest go e = cc
any_case false h found rest go e = go e

pub absent_has : (s : List Held) (name : List ℕ) → lookup s name ≡ None
    → has_name (table_of s) name ≡ false
absent_has [] name e = refl
absent_has (h ∷ s) name e = any_case (bytes_eq h.name name) h (lookup s name)
    (has_name (table_of s) name) (absent_has s name) e

none_case : (b : Bool) (h : Held) (found : Option Held) (rest : Bool)
    → (rest ≡ false → found ≡ None) → (b || rest) ≡ false → cond b (Some h) found ≡ None
none_case true h found rest go e = cc
none_case false h found rest go e = go e

pub has_absent : (s : List Held) (name : List ℕ) → has_name (table_of s) name ≡ false
    → lookup s name ≡ None
has_absent [] name e = refl
has_absent (h ∷ s) name e = none_case (bytes_eq h.name name) h (lookup s name)
    (has_name (table_of s) name) (has_absent s name) e

some_case : (b : Bool) (h g : Held) (found : Option Held) (rest : Bool)
    → (found ≡ Some g → rest ≡ true) → cond b (Some h) found ≡ Some g → (b || rest) ≡ true
some_case true h g found rest go e = refl
some_case false h g found rest go e = go e

pub at_has : (s : List Held) (name : List ℕ) (h : Held) → lookup s name ≡ Some h
    → has_name (table_of s) name ≡ true
at_has [] name h e = cc
at_has (g ∷ s) name h e = some_case (bytes_eq g.name name) g h (lookup s name)
    (has_name (table_of s) name) (at_has s name h) e

-- an object that there is
present_case : (b : Bool) (h : Held) (found : Option Held) (rest : Bool)
    → (rest ≡ true → (g : Held) × (found ≡ Some g)) → (b || rest) ≡ true → (g : Held)
    × (cond b (Some h) found ≡ Some g)
present_case true h found rest go e = (h, refl)
present_case false h found rest go e = go e

pub has_at : (s : List Held) (name : List ℕ) → has_name (table_of s) name ≡ true → (h : Held)
    × (lookup s name ≡ Some h)
has_at [] name e = cc
has_at (g ∷ s) name e = present_case (bytes_eq g.name name) g (lookup s name)
    (has_name (table_of s) name) (has_at s name) e

of_case : (P : Held → Type 0) (b : Bool) (h g : Held) (found : Option Held) → P h
    → (found ≡ Some g → P g) → cond b (Some h) found ≡ Some g → P g
of_case P true h g found p go e = subst P (some_same h g e) p where
  some_same : (h g : Held) → Some h ≡ Some g → h ≡ g
  some_same h g e = cc
of_case P false h g found p go e = go e

pub at_all : (P : Held → Type 0) (s : List Held) (name : List ℕ) (h : Held) → AllByRecursion P s
    → lookup s name ≡ Some h → P h
at_all P [] name h all e = cc
at_all P (g ∷ s) name h all e = of_case P (bytes_eq g.name name) g h (lookup s name) all.0
    (at_all P s name h all.1) e

pub at_object : (s : List Held) (name : List ℕ) (h : Held) → lookup s name ≡ Some h
    → object_named (table_of s) name ≡ h.object
at_object s name h e =
    ap (λ (found : Option Named). unwrap_or (option_map (λ p. p.1) found) nothing)
    (find_map entry_of (λ p. bytes_eq p.0 name) s ∙ ap (option_map entry_of) e)

pub at_numbers : (s : List Held) (name : List ℕ) (h : Held) → lookup s name ≡ Some h
    → numbers_named s name ≡ h.numbers
at_numbers s name h e = ap (λ (found : Option Held). unwrap_or (option_map (λ h. h.numbers) found)
    []) e

abbrev pub renumbered : Held → List ℕ → Held
renumbered h numbers = record { name = h.name; object = h.object; numbers = numbers }

-- what is seen of a whole number is the number
pub seen_whole : (numbers : List ℕ) → map (seen None) numbers ≡ numbers
seen_whole [] = refl
seen_whole (v ∷ numbers) = ap (λ vs. v ∷ vs) (seen_whole numbers)

pub place_numbers : (s : List Held) (p : Place) (h : Held) → lookup s p.name ≡ Some h
    → numbers_at s p ≡ map (seen p.part) h.numbers
place_numbers s p h e = ap (map (seen p.part)) (at_numbers s p.name h e)

pub whole_numbers : (s : List Held) (name : List ℕ) (h : Held) → lookup s name ≡ Some h
    → numbers_at s (whole name) ≡ h.numbers
whole_numbers s name h e = seen_whole (numbers_named s name) ∙ at_numbers s name h e

put_whole : (olds news : List ℕ) → length olds ≡ length news → put_all None olds news ≡ news
put_whole [] [] e = refl
put_whole [] (v ∷ news) e = absurd (omega arith)
put_whole (v ∷ olds) [] e = absurd (omega arith)
put_whole (u ∷ olds) (v ∷ news) e = ap (λ vs. v ∷ vs) (put_whole olds news (omega arith))

-- as many numbers for the last object
pub with_last : (s : List Held) (h : Held) (result : ℕ → List ℕ) → lookup s h.name ≡ None
    → length h.numbers ≡ length (result 0)
    → with_results (s ++ h ∷ []) result (whole h.name ∷ []) ≡ s ++ renumbered h (result 0) ∷ []
with_last [] h result e l =
    rw (bytes_same h.name h.name refl, put_whole h.numbers (result 0) l) refl
with_last (g ∷ s) h result e l = last_case (bytes_eq g.name h.name) g (put_all None g.numbers
    (result 0)) (with_results (s ++ h ∷ []) result (whole h.name ∷ [])) (s ++ renumbered h
    (result 0) ∷ []) (lookup s h.name) (λ found. with_last s h result found l) e where
      last_case : (b : Bool) (g : Held) (put : List ℕ) (xs ys : List Held) (found : Option Held)
          → (found ≡ None → xs ≡ ys) → cond b (Some g) found ≡ None
          → renumbered g (cond b put g.numbers) ∷ xs ≡ g ∷ ys
      last_case true g put xs ys found go e = cc
      last_case false g put xs ys found go e = ap (λ rest. g ∷ rest) (go e)

-- the state without the objects of a name
abbrev pub dropped : List Held → List ℕ → List Held
dropped s name = filter (λ h. not (bytes_eq h.name name)) s

pub dropped-append : (s t : List Held) (name : List ℕ)
    → dropped (s ++ t) name ≡ dropped s name ++ dropped t name
dropped-append [] t name = refl
dropped-append (h ∷ s) t name = drop_case (dropped (s ++ t) name) (dropped s name)
    (dropped t name) (not (bytes_eq h.name name)) h (dropped-append s t name) where
      drop_case : (xs ys zs : List Held) (b : Bool) (h : Held) → xs ≡ ys ++ zs
          → cond b (h ∷ xs) xs ≡ cond b (h ∷ ys) ys ++ zs
      drop_case xs ys zs true h e = ap (λ rest. h ∷ rest) e
      drop_case xs ys zs false h e = e

pub dropped-none : (s : List Held) (name : List ℕ) → lookup s name ≡ None → dropped s name ≡ s
dropped-none [] name e = refl
dropped-none (h ∷ s) name e = none (bytes_eq h.name name) h s (dropped s name) (lookup s name)
    (dropped-none s name) e where
      none : (b : Bool) (h : Held) (s t : List Held) (found : Option Held) → (found ≡ None → t ≡ s)
          → cond b (Some h) found ≡ None → cond (not b) (h ∷ t) t ≡ h ∷ s
      none true h s t found go e = cc
      none false h s t found go e = ap (λ rest. h ∷ rest) (go e)

pub dropped-one : (h : Held) (name : List ℕ) → h.name ≡ name → dropped (h ∷ []) name ≡ []
dropped-one h name e = rw (bytes_same h.name name e) refl

pub dropped-other : (h : Held) (name : List ℕ) → h.name ≢ name → dropped (h ∷ []) name ≡ h ∷ []
dropped-other h name n = rw (bytes_differ h.name name n) refl

-- the object after s is dropped, and what stands after it stays
pub dropped-between : (s : List Held) (h k : Held) → lookup s h.name ≡ None → k.name ≢ h.name
    → dropped ((s ++ h ∷ []) ++ k ∷ []) h.name ≡ s ++ k ∷ []
dropped-between s h k e n =
    dropped-append (s ++ h ∷ []) (k ∷ []) h.name
    ∙ ap (λ front. front ++ dropped (k ∷ []) h.name) (dropped-append s (h ∷ []) h.name
    ∙ ap (λ t. dropped s h.name ++ t) (dropped-one h h.name refl)
    ∙ append-nil (dropped s h.name) ∙ dropped-none s h.name e)
    ∙ ap (λ back. s ++ back) (dropped-other k h.name n)
