-- Where an object of a name stands in a state.
use Rattle.machine_model.proofs.Common.{false_from_ne_true, ◌≡◌, ◌≢◌, ℕ, zero, suc, ◌<◌, ◌≤◌, Bool}
use Rattle.machine_model.proofs.Common.{true, false, cond, List, [], ◌∷◌, length, get_or, map}
use Rattle.machine_model.proofs.Common.{Option, Some, refl, sym, ◌∙◌, ap, subst, arith, find}
use Rattle.machine_model.proofs.Common.{list_any, ◌||◌, option_map, unwrap_or, bytes_eq, length-map}
use Rattle.machine_model.proofs.Common.{AreApart, end_of, Named, IsTable, has_name}
use Rattle.std.specs.List.{AllPairs}
use Rattle.std.proofs.lemmas.Slice.Eq.{bytes_eq-Decides}
use Rattle.std.proofs.Math.ListN.{get_or-map}
use Rattle.machine_model.specs.Refusals.{object_named, nothing}
use Rattle.machine_model.specs.Steps.{Held, table_of, numbers_named}

-- names that are found equal are one
pub same_bytes : (xs ys : List ℕ) → bytes_eq xs ys ≡ true → xs ≡ ys
same_bytes xs ys h = (bytes_eq-Decides xs ys).0 h

-- one name is found equal to itself
pub bytes_same : (xs ys : List ℕ) → xs ≡ ys → bytes_eq xs ys ≡ true
bytes_same xs ys e = (bytes_eq-Decides xs ys).1 e

-- names that differ are told apart
pub bytes_differ : (xs ys : List ℕ) → xs ≢ ys → bytes_eq xs ys ≡ false
bytes_differ xs ys n = false_from_ne_true _ (λ t. n (same_bytes xs ys t))

any_case : {X : Type 0} (p : X → Bool) (x : X) (xs : List X) (d : X) (b : Bool) → p x ≡ b
    → (list_any p xs ≡ true → (j : ℕ) × (j < length xs) × (p (get_or xs j d) ≡ true))
    → (p x || list_any p xs) ≡ true → (j : ℕ) × (j < length (x ∷ xs))
    × (p (get_or (x ∷ xs) j d) ≡ true)
any_case p x xs d true e go h = (0, omega arith, e)
any_case p x xs d false e go h = let r = go (rw e at h) in (suc r.0, omega (arith, r.1), r.2)

pub any_at : {X : Type 0} (p : X → Bool) (xs : List X) (d : X) → list_any p xs ≡ true
    → (j : ℕ) × (j < length xs) × (p (get_or xs j d) ≡ true)
any_at p [] d h = cc
any_at p (x ∷ xs) d h = any_case p x xs d (p x) refl (any_at p xs d) h

-- where keys differ, the one with the key is found
pub find_key : {X : Type 0} (key : X → List ℕ) (xs : List X) (k : ℕ) (d : X)
    → AllPairs (λ p q. key p ≢ key q) xs → k < length xs
    → find (λ x. bytes_eq (key x) (key (get_or xs k d))) xs ≡ Some (get_or xs k d)
find_key key [] k d a h = absurd (omega arith)
find_key key (x ∷ xs) zero d a h = rw (bytes_same (key x) (key x) refl) refl
find_key key (x ∷ xs) (suc k) d a h =
    rw (bytes_differ (key x) (key (get_or xs k d)) (a 0 (suc k) d (omega arith) h))
    (find_key key xs k d (λ i j e l m. a (suc i) (suc j) e (omega arith) (omega arith))
    (omega arith))

-- to find in a mapped list is to find what maps to it
pub find_map : {X Y : Type 0} (f : X → Y) (p : Y → Bool) (xs : List X)
    → find p (map f xs) ≡ option_map f (find (λ x. p (f x)) xs)
find_map f p [] = refl
find_map f p (x ∷ xs) = find_map_case f p x xs (p (f x)) (find_map f p xs) where
  find_map_case : {X Y : Type 0} (f : X → Y) (p : Y → Bool) (x : X) (xs : List X) (b : Bool)
      → find p (map f xs) ≡ option_map f (find (λ x. p (f x)) xs)
      → cond b (Some (f x)) (find p (map f xs))
      ≡ option_map f (cond b (Some x) (find (λ x. p (f x)) xs))
  find_map_case f p x xs true go = refl
  find_map_case f p x xs false go = go

-- what is read of a name that no object has, with its numbers
abbrev pub no_one : Held
no_one = record { name = []; object = nothing; numbers = [] }

-- a held object as the table has it
abbrev pub entry_of : Held → Named
entry_of h = (h.name, h.object)

-- where the object of this name stands, and what it holds
pub record IsFound (state : List Held) (name : List ℕ) : Type 0 where
  pub place : ℕ
  pub within : place < length state
  pub named : (get_or state place no_one).name ≡ name
  pub object : object_named (table_of state) name ≡ (get_or state place no_one).object
  pub numbers : numbers_named state name ≡ (get_or state place no_one).numbers

pub names_differ : (limit : ℕ) (state : List Held) → IsTable limit (table_of state)
    → AllPairs (λ p q. p.name ≢ q.name) state
names_differ limit state t i j d l m =
    let n = t.names i j (entry_of d) l (simp length-map m) in
    subst (λ (p : Named). p.0 ≢ (get_or state j d).name) (get_or-map entry_of state i d)
    (subst (λ (q : Named). (get_or (table_of state) i (entry_of d)).0 ≢ q.0)
    (get_or-map entry_of state j d) n)

pub rows_apart : (limit : ℕ) (state : List Held) → IsTable limit (table_of state)
    → AllPairs (λ p q. AreApart p.object q.object) state
rows_apart limit state t i j d l m =
    let n = t.rows i j (entry_of d) l (simp length-map m) in
    subst (λ (p : Named). AreApart p.1 (get_or state j d).object) (get_or-map entry_of state i d)
    (subst (λ (q : Named). AreApart (get_or (table_of state) i (entry_of d)).1 q.1)
    (get_or-map entry_of state j d) n)

pub ends_within : (limit : ℕ) (state : List Held) → IsTable limit (table_of state)
    → (k : ℕ) (d : Held) → k < length state → end_of (get_or state k d).object ≤ limit
ends_within limit state t k d l =
    subst (λ (p : Named). end_of p.1 ≤ limit) (get_or-map entry_of state k d)
    (t.within k (entry_of d) (simp length-map l))

found_at : (state : List Held) (name : List ℕ) (k : ℕ) → AllPairs (λ p q. p.name ≢ q.name) state
    → k < length state → (get_or state k no_one).name ≡ name → IsFound state name
found_at state name k a l e =
    let f : find (λ (h : Held). bytes_eq h.name name) state ≡ Some (get_or state k no_one) =
    subst (λ (n : List ℕ). find (λ (h : Held). bytes_eq h.name n) state
    ≡ Some (get_or state k no_one)) e (find_key (λ (h : Held). h.name) state k no_one a l) in
    record {
      place = k;
      within = l;
      named = e;
      object = ap (λ (found : Option Named). unwrap_or (option_map (λ p. p.1) found) nothing)
          (find_map entry_of (λ p. bytes_eq p.0 name) state ∙ ap (option_map entry_of) f);
      numbers = ap (λ (found : Option Held). unwrap_or (option_map (λ h. h.numbers) found) []) f;
    }

-- an object that there is stands somewhere
pub found : (limit : ℕ) (state : List Held) (name : List ℕ) → IsTable limit (table_of state)
    → has_name (table_of state) name ≡ true → IsFound state name
found limit state name t h =
    let at = any_at (λ (p : Named). bytes_eq p.0 name) (table_of state) (entry_of no_one) h in
    let within : at.0 < length state = simp length-map at at.1 in
    let is : (get_or (table_of state) at.0 (entry_of no_one)).0 ≡ (get_or state at.0 no_one).name =
    ap (λ (p : Named). p.0) (get_or-map entry_of state at.0 no_one) in
    found_at state name at.0 (names_differ limit state t) within (sym is ∙ same_bytes _ _ at.2)

-- the object at a place is that of its name
pub object_at : (limit : ℕ) (state : List Held) (k : ℕ) (name : List ℕ)
    → IsTable limit (table_of state) → k < length state → (get_or state k no_one).name ≡ name
    → object_named (table_of state) name ≡ (get_or state k no_one).object
unfolding found_at
object_at limit state k name t l e = (found_at state name k (names_differ limit state t) l e).object

-- a state with this table, in which no object has a number
abbrev pub still : List Named → List Held
still table = map (λ p. record { name = p.0; object = p.1; numbers = [] }) table

pub still_table : (table : List Named) → table_of (still table) ≡ table
still_table [] = refl
still_table (p ∷ table) = ap (λ rest. p ∷ rest) (still_table table)
