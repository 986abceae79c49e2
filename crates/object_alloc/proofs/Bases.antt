-- The least base, by its code and by its definition.
use Rattle.object_alloc.proofs.Common.{◌≡◌, ℕ, zero, suc, ◌+◌, ◌-◌, ◌<◌, ◌≤◌, Bool, true, false}
use Rattle.object_alloc.proofs.Common.{not, ◌&&◌, cond, List, [], ◌∷◌, length, get_or, Option, Some}
use Rattle.object_alloc.proofs.Common.{None, refl, sym, ◌∙◌, ap, subst, inl, inr, arith, list_all}
use Rattle.object_alloc.proofs.Common.{find, range_with_len, All, cases_lt, nat_tests, list_all_at}
use Rattle.object_alloc.proofs.Common.{get_or-range_with_len, length-range_with_len, length-map}
use Rattle.object_alloc.proofs.Common.{get_or-map}
use Rattle.std.proofs.Common.{max}
use Rattle.std.specs.Option.{option_map, is_none, is_some}
use Rattle.object_alloc.specs.declared.table.Object.{Object}
use Rattle.object_alloc.specs.Listed.{Named, Listing, objects_of}
use Rattle.object_alloc.specs.Free.{has_row, is_free, are_free, free, end_of, meets}

-- the first number that passes is found
pub find_first : (p : ℕ → Bool) (a n b : ℕ) → a ≤ b → b < a + n → p b ≡ true
    → ((c : ℕ) → a ≤ c → c < b → p c ≡ false) → find p (range_with_len a n) ≡ Some b
find_first p a zero b l h t f = absurd (omega arith)
find_first p a (suc n) b l h t f =
    elim (cases_lt a b) [
      | inl lt ↦ rw (f a (omega arith) lt) (find_first p (a + 1) n b (omega arith) (omega arith) t
          (λ c x y. f c (omega arith) y))
      | inr ge ↦ let e : a ≡ b = omega arith in rw (ap p e ∙ t) (ap Some e)
    ]

-- if none passes, none is found
pub find_none : (p : ℕ → Bool) (a n : ℕ) → ((c : ℕ) → a ≤ c → c < a + n → p c ≡ false)
    → find p (range_with_len a n) ≡ None
find_none p a zero f = refl
find_none p a (suc n) f = rw (f a (omega arith) (omega arith))
    (find_none p (a + 1) n (λ c x y. f c (omega arith) (omega arith)))

-- a list of numbers passes whole
pub all_range : (p : ℕ → Bool) (a n : ℕ) → ((c : ℕ) → a ≤ c → c < a + n → p c ≡ true)
    → list_all p (range_with_len a n) ≡ true
all_range p a zero f = refl
all_range p a (suc n) f = rw (f a (omega arith) (omega arith))
    (all_range p (a + 1) n (λ c x y. f c (omega arith) (omega arith)))

pub not_all_range : (p : ℕ → Bool) (a n c : ℕ) → a ≤ c → c < a + n → p c ≡ false
    → list_all p (range_with_len a n) ≡ false
not_all_range p a n c l h f =
    let at : get_or (range_with_len a n) (c - a) 0 ≡ c =
    get_or-range_with_len a n (c - a) 0 (omega arith) ∙ omega arith in
    let within : c - a < length (range_with_len a n) = rw length-range_with_len (omega arith) in
    list_all_at p (range_with_len a n) (c - a) 0 within (ap p at ∙ f)

-- where an element of a list is
abbrev pub IsAt : {X : Type 0} → List X → X → Type 0
IsAt xs x = (i : ℕ) × (i < length xs) × (get_or xs i x ≡ x)

found_case : {X : Type 0} (p : X → Bool) (y : X) (ys : List X) (x : X) (b : Bool) → p y ≡ b
    → (find p ys ≡ Some x → IsAt ys x × (p x ≡ true)) → cond b (Some y) (find p ys) ≡ Some x
    → IsAt (y ∷ ys) x × (p x ≡ true)
found_case p y ys x true e go h = let same : y ≡ x = cc in
    ((0, omega arith, same), ap p (sym same) ∙ e)
found_case p y ys x false e go h = let rest = go h in
    ((suc rest.0.0, omega arith, rest.0.2), rest.1)

-- what is found is in the list, and passes
pub found_in : {X : Type 0} (p : X → Bool) (xs : List X) (x : X) → find p xs ≡ Some x
    → IsAt xs x × (p x ≡ true)
found_in p [] x h = cc
found_in p (y ∷ ys) x h = found_case p y ys x (p y) refl (found_in p ys x) h

none_case : {X : Type 0} (p q : X → Bool) (y : X) (ys : List X) (b : Bool) → p y ≡ b
    → (p y ≡ false → q y ≡ true) → (find p ys ≡ None → list_all q ys ≡ true)
    → cond b (Some y) (find p ys) ≡ None → (q y && list_all q ys) ≡ true
none_case p q y ys true e f go h = cc
none_case p q y ys false e f go h = rw (f e) (go h)

-- if none is found, each passes what those that are not found pass
pub none_found : {X : Type 0} (p q : X → Bool) (xs : List X) → ((x : X) → p x ≡ false → q x ≡ true)
    → find p xs ≡ None → list_all q xs ≡ true
none_found p q [] f h = refl
none_found p q (y ∷ ys) f h = none_case p q y ys (p y) refl (f y) (none_found p q ys f) h

-- a row that an object has is not free
row_taken : (limit : ℕ) (objects : List Object) (o : Object) (row : ℕ) → IsAt objects o
    → has_row o row ≡ true → is_free limit objects row ≡ false
row_taken limit objects o row at h =
    let taken : not (has_row (get_or objects at.0 o) row) ≡ false = rw at.2 (rw h refl) in
    let all : list_all (λ p. not (has_row p row)) objects ≡ false =
    list_all_at (λ p. not (has_row p row)) objects at.0 o at.1 taken in
    grind (arith, nat_tests)

-- a base before the end of an object that stands in the way is not that of k free rows
pub base_taken : (limit : ℕ) (objects : List Object) (k base c : ℕ) (o : Object) → IsAt objects o
    → meets base k o ≡ true → base ≤ c → c < end_of o → are_free limit objects k c ≡ false
base_taken limit objects k base c o at m l h =
    let meets_is : (o.base < base + k) × (base < base + k) × (o.base < o.base + o.width) =
    grind (arith, nat_tests) in
    let has : has_row o (max c o.base) ≡ true = grind (arith, nat_tests) in
    not_all_range (is_free limit objects) c k (max c o.base) (omega arith) (omega arith)
    (row_taken limit objects o (max c o.base) at has)

-- a base that would end past the limit is not that of k free rows
pub base_past : (limit : ℕ) (objects : List Object) (k c : ℕ) → limit < c + k → c ≤ limit
    → are_free limit objects k c ≡ false
base_past limit objects k c h l =
    not_all_range (is_free limit objects) c k (c + k - 1) (omega arith) (omega arith)
    (grind (arith, nat_tests))

-- if nothing stands in the way, the rows are free
pub base_clear : (limit : ℕ) (objects : List Object) (k base : ℕ) → base + k ≤ limit
    → find (meets base k) objects ≡ None → are_free limit objects k base ≡ true
base_clear limit objects k base h e =
    all_range (is_free limit objects) base k (λ row x y.
    let clear : list_all (λ o. not (has_row o row)) objects ≡ true =
    none_found (meets base k) (λ o. not (has_row o row)) objects (λ o m.
    grind (arith, nat_tests)) e in
    grind (arith, nat_tests))

-- what the search has found
pub free_is : (limit : ℕ) (objects : List Object) (k base : ℕ) → base + k ≤ limit
    → are_free limit objects k base ≡ true → ((c : ℕ) → c < base
    → are_free limit objects k c ≡ false) → free limit objects k ≡ Some base
unfolding free
free_is limit objects k base h t f = find_first (are_free limit objects k) 0 (limit + 1) base
    (omega arith) (omega arith) t (λ c x y. f c y)

pub free_is_none : (limit : ℕ) (objects : List Object) (k base : ℕ) → limit < base + k
    → ((c : ℕ) → c < base → are_free limit objects k c ≡ false) → free limit objects k ≡ None
unfolding free
free_is_none limit objects k base h f =
    find_none (are_free limit objects k) 0 (limit + 1) (λ c x y. elim (cases_lt c base) [
      | inl lt ↦ f c lt
      | inr ge ↦ base_past limit objects k c (omega arith) (omega arith)
    ])

-- what an object in the way says
pub meets_is : (base k : ℕ) (o : Object) → meets base k o ≡ true → base < end_of o
meets_is base k o h = grind (arith, nat_tests)

blocked_case : (p : Object → Bool) (objects : List Object) (end : ℕ) (found : Option Object)
    → find p objects ≡ found → Some end ≡ option_map end_of found → (o : Object) × IsAt objects o
    × (p o ≡ true) × (end_of o ≡ end)
blocked_case p objects end None e h = cc
blocked_case p objects end (Some o) e h = let in' = found_in p objects o e in
    let same : end_of o ≡ end = cc in (o, in'.0, in'.1, same)

pub blocked_is : (p : Object → Bool) (objects : List Object) (end : ℕ)
    → Some end ≡ option_map end_of (find p objects) → (o : Object) × IsAt objects o × (p o ≡ true)
    × (end_of o ≡ end)
blocked_is p objects end h = blocked_case p objects end (find p objects) refl h

clear_case : (found : Option Object) (r : Option ℕ) → r ≡ option_map end_of found
    → ((x : ℕ) → r ≡ Some x → ⊥) → found ≡ None
clear_case None r e h = refl
clear_case (Some o) r e h = absurd (h (end_of o) e)

pub clear_is : (p : Object → Bool) (objects : List Object) (r : Option ℕ)
    → r ≡ option_map end_of (find p objects) → ((x : ℕ) → r ≡ Some x → ⊥) → find p objects ≡ None
clear_is p objects r e h = clear_case (find p objects) r e h

pub end_within : (limit : ℕ) (pairs : List Named) (o : Object) → IsAt (objects_of pairs) o
    → All (λ p. end_of p.1 ≤ limit) pairs → end_of o ≤ limit
end_within limit pairs o at h =
    let d : Named = ([], o) in
    let within : at.0 < length pairs = simp length-map at at.1 in
    let is : (get_or pairs at.0 d).1 ≡ o = sym
    (get_or-map (λ (p : Named). p.1) pairs at.0 d o within) ∙ at.2 in
    subst (λ (p : Object). end_of p ≤ limit) is (h at.0 d within)

-- whether rows that are in range are free
free_case : (limit : ℕ) (objects : List Object) (k base : ℕ) (found : Option Object)
    → base + k ≤ limit → find (meets base k) objects ≡ found
    → is_none (option_map end_of found) ≡ are_free limit objects k base
free_case limit objects k base None h e = sym (base_clear limit objects k base h e)
free_case limit objects k base (Some o) h e =
    let at = found_in (meets base k) objects o e in
    sym (base_taken limit objects k base base o at.0 at.1 (omega arith) (meets_is base k o at.1))

turned : (a b : Bool) → not a ≡ b → a ≡ not b
turned true b e = ap not e
turned false b e = ap not e

pub free_test : (seen : Listing) (limit k base : ℕ) (pairs : List Named) (end : Option ℕ)
    (none : Bool) → record { limit = limit; pairs = pairs } ≡ seen → base + k ≤ seen.limit
    → end ≡ option_map end_of (find (meets base k) (objects_of pairs))
    → is_some end ≡ not none → none ≡ are_free seen.limit (objects_of seen.pairs) k base
free_test seen limit k base pairs end none e h f r =
    turned none (is_some end) (sym r) ∙ rw (
      ← e,
      f,
    ) (free_case limit (objects_of pairs) k base (find (meets base k) (objects_of pairs))
    (rw (← e) at h) refl)
