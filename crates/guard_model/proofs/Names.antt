-- What is found under the name of a copy.
use Rattle.guard_model.proofs.Common.{◌≡◌, ℕ, Bool, true, false, not, ◌||◌, ◌&&◌, ◌+◌, cond, eqb}
use Rattle.guard_model.proofs.Common.{List, [], ◌∷◌, map, Option, Some, None, refl, sym, ◌∙◌, ap}
use Rattle.guard_model.proofs.Common.{nat_lt, find, option_map, unwrap_or, bytes_eq, Object, Named}
use Rattle.guard_model.proofs.Common.{has_name, Part, Place, put_all, object_named, rows_of}
use Rattle.guard_model.proofs.Common.{goes_past, nothing, is_absent, Held, table_of, numbers_named}
use Rattle.guard_model.proofs.Common.{new_numbers, part_count, same_bytes}
use Rattle.machine_model.specs.Places.{cut, is_past}
use Rattle.guard_model.specs.Guarded.{place_on}
use Rattle.guard_model.specs.Triples.{x_letter, y_letter, z_letter}
use Rattle.guard_model.proofs.Trios.{Trio, copy, spread, alone}

-- one of the three letters, with where its copies begin
pub data Letter : ℕ → (Trio → ℕ) → Type 0 where
  is_x : Letter x_letter (λ t. t.x)
  is_y : Letter y_letter (λ t. t.y)
  is_z : Letter z_letter (λ t. t.z)

-- the trio of this name
abbrev pub trio_named : List Trio → List ℕ → Option Trio
trio_named ts name = find (λ (t : Trio). bytes_eq t.name name) ts

-- what is found under a copy's name is the copy of the trio
found_case : (c : ℕ) (base : Trio → ℕ) (t : Trio) (name : List ℕ) (b : Bool) (rest : Option Held)
    (more : Option Trio) → rest ≡ option_map (λ u. copy c (base u) u) more
    → cond b (Some (copy c (base t) t)) rest ≡ option_map (λ u. copy c (base u) u)
    (cond b (Some t) more)
found_case c base t name true rest more e = refl
found_case c base t name false rest more e = e

pub found_copy : (c : ℕ) (base : Trio → ℕ) (ts : List Trio) (name : List ℕ) → Letter c base → find
    (λ (h : Held). bytes_eq h.name (c ∷ name)) (spread ts) ≡ option_map (λ u. copy c (base u) u)
    (trio_named ts name)
found_copy c base [] name l = refl
found_copy c base (t ∷ ts) name is_x = found_case x_letter (λ t. t.x) t name
    (bytes_eq t.name name) _ _ (found_copy x_letter (λ t. t.x) ts name is_x)
found_copy c base (t ∷ ts) name is_y = found_case y_letter (λ t. t.y) t name
    (bytes_eq t.name name) _ _ (found_copy y_letter (λ t. t.y) ts name is_y)
found_copy c base (t ∷ ts) name is_z = found_case z_letter (λ t. t.z) t name
    (bytes_eq t.name name) _ _ (found_copy z_letter (λ t. t.z) ts name is_z)

alone_case : (t : Trio) (b : Bool) (rest : Option Held) (more : Option Trio) → rest
    ≡ option_map alone more → cond b (Some (alone t)) rest ≡ option_map alone (cond b (Some t) more)
alone_case t true rest more e = refl
alone_case t false rest more e = e

pub found_alone : (ts : List Trio) (name : List ℕ) → find (λ (h : Held). bytes_eq h.name name)
    (map alone ts) ≡ option_map alone (trio_named ts name)
found_alone [] name = refl
found_alone (t ∷ ts) name = alone_case t (bytes_eq t.name name) _ _ (found_alone ts name)

-- of a state its table's entry
entry_case : (h : Held) (b : Bool) (rest : Option Named) (more : Option Held) → rest ≡ option_map
    (λ h. (h.name, h.object)) more → cond b (Some (h.name, h.object)) rest ≡ option_map
    (λ h. (h.name, h.object)) (cond b (Some h) more)
entry_case h true rest more e = refl
entry_case h false rest more e = e

entry_found : (state : List Held) (name : List ℕ) → find (λ (p : Named). bytes_eq p.0 name)
    (table_of state) ≡ option_map (λ h. (h.name, h.object))
    (find (λ (h : Held). bytes_eq h.name name) state)
entry_found [] name = refl
entry_found (h ∷ state) name = entry_case h (bytes_eq h.name name) _ _ (entry_found state name)

abbrev object_of : Option Held → Object
object_of found = unwrap_or (option_map (λ (p : Named). p.1)
    (option_map (λ (h : Held). (h.name, h.object)) found)) nothing

object_is : (state : List Held) (name : List ℕ) → object_named (table_of state) name ≡ object_of
    (find (λ (h : Held). bytes_eq h.name name) state)
object_is state name = ap (λ (found : Option Named). unwrap_or
    (option_map (λ p. p.1) found) nothing) (entry_found state name)

-- an operand of the copies is as that of the one: there or not, past its object or not, as wide,
-- and of the same count
pub record IsLike (table lone : List Named) (c : ℕ) : Type 0 where
  pub absent : (name : List ℕ) → is_absent table (c ∷ name) ≡ is_absent lone name
  pub past : (p : Place) → goes_past table (place_on c p) ≡ goes_past lone p
  pub wide : (p : Place) → (rows_of table (place_on c p)).width ≡ (rows_of lone p).width
  pub counted : (p : Place) → (rows_of table (place_on c p)).count ≡ (rows_of lone p).count

past_like : (part : Option Part) (o q : Object) → o.width ≡ q.width
    → is_past part o ≡ is_past part q
past_like None o q e = refl
past_like (Some p) o q e = ap (λ w. nat_lt w (p.low + p.size)) e

wide_like : (part : Option Part) (o q : Object) → o.width ≡ q.width
    → (cut part o).width ≡ (cut part q).width
wide_like None o q e = e
wide_like (Some p) o q e = refl

widths : (c : ℕ) (base : Trio → ℕ) (found : Option Trio)
    → (object_of (option_map (λ u. copy c (base u) u) found)).width
    ≡ (object_of (option_map alone found)).width
widths c base None = refl
widths c base (Some t) = refl

counts : (c : ℕ) (base : Trio → ℕ) (found : Option Trio)
    → (object_of (option_map (λ u. copy c (base u) u) found)).count
    ≡ (object_of (option_map alone found)).count
counts c base None = refl
counts c base (Some t) = refl

both_or : (b p q : Bool) → p ≡ q → (b || p) ≡ (b || q)
both_or b p q e = ap (λ r. b || r) e

pub has_copy : (c : ℕ) (base : Trio → ℕ) (ts : List Trio) (name : List ℕ) → Letter c base → has_name
    (table_of (spread ts)) (c ∷ name) ≡ has_name (table_of (map alone ts)) name
has_copy c base [] name l = refl
has_copy c base (t ∷ ts) name is_x = both_or (bytes_eq t.name name) _ _
    (has_copy x_letter (λ t. t.x) ts name is_x)
has_copy c base (t ∷ ts) name is_y = both_or (bytes_eq t.name name) _ _
    (has_copy y_letter (λ t. t.y) ts name is_y)
has_copy c base (t ∷ ts) name is_z = both_or (bytes_eq t.name name) _ _
    (has_copy z_letter (λ t. t.z) ts name is_z)

pub copies_like : (c : ℕ) (base : Trio → ℕ) (ts : List Trio) → Letter c base → IsLike
    (table_of (spread ts)) (table_of (map alone ts)) c
copies_like c base ts l = record {
  absent = λ name. ap not (has_copy c base ts name l);
  past = λ p. past_like p.part (object_named (table_of (spread ts)) (c ∷ p.name))
      (object_named (table_of (map alone ts)) p.name) (wide p.name);
  wide = λ p. wide_like p.part (object_named (table_of (spread ts)) (c ∷ p.name))
      (object_named (table_of (map alone ts)) p.name) (wide p.name);
  counted = λ p. part_count (object_named (table_of (spread ts)) (c ∷ p.name)) p.part
      ∙ counted p.name ∙ sym (part_count (object_named (table_of (map alone ts)) p.name) p.part);
} where
  wide : (name : List ℕ) → (object_named (table_of (spread ts)) (c ∷ name)).width
      ≡ (object_named (table_of (map alone ts)) name).width
  wide name = ap (λ (o : Object). o.width) (object_is (spread ts) (c ∷ name) ∙ ap object_of
      (found_copy c base ts name l)) ∙ widths c base (trio_named ts name)
      ∙ sym (ap (λ (o : Object). o.width)
      (object_is (map alone ts) name ∙ ap object_of (found_alone ts name)))

  counted : (name : List ℕ) → (object_named (table_of (spread ts)) (c ∷ name)).count
      ≡ (object_named (table_of (map alone ts)) name).count
  counted name = ap (λ (o : Object). o.count) (object_is (spread ts) (c ∷ name) ∙ ap object_of
      (found_copy c base ts name l)) ∙ counts c base (trio_named ts name)
      ∙ sym (ap (λ (o : Object). o.count)
      (object_is (map alone ts) name ∙ ap object_of (found_alone ts name)))

abbrev numbers_in : Option Held → List ℕ
numbers_in found = unwrap_or (option_map (λ h. h.numbers) found) []

same_numbers : (c : ℕ) (base : Trio → ℕ) (found : Option Trio) → numbers_in
    (option_map (λ u. copy c (base u) u) found) ≡ numbers_in (option_map alone found)
same_numbers c base None = refl
same_numbers c base (Some t) = refl

-- the numbers of a copy are those of the one
pub copy_numbers : (c : ℕ) (base : Trio → ℕ) (ts : List Trio) (name : List ℕ) → Letter c base
    → numbers_named (spread ts) (c ∷ name) ≡ numbers_named (map alone ts) name
copy_numbers c base ts name l = ap numbers_in (found_copy c base ts name l) ∙ same_numbers c base
    (trio_named ts name) ∙ sym (ap numbers_in (found_alone ts name))

-- names under two letters differ
pub letters_differ : (c d : ℕ) (m n : List ℕ) → eqb c d ≡ false → (k : List ℕ) → bytes_eq k (c ∷ m)
    ≡ true → bytes_eq k (d ∷ n) ≡ false
letters_differ c d m n e k h = rw (same_bytes k (c ∷ m) h, e) refl

-- new numbers for the copies under one letter
abbrev pub under : ℕ → (List ℕ → List ℕ → List ℕ) → List ℕ → List ℕ → List ℕ
under c new [] numbers = numbers
under c new (d ∷ name) numbers = cond (eqb d c) (new name numbers) numbers

either_same : (b : Bool) (numbers : List ℕ) → numbers ≡ cond b numbers numbers
either_same true numbers = refl
either_same false numbers = refl

under_case : (b m : Bool) (new : List ℕ → List ℕ) (v numbers : List ℕ)
    → cond b (new (cond (b && m) v numbers)) (cond (b && m) v numbers)
    ≡ cond b (new (cond m v numbers)) numbers
under_case true m new v numbers = refl
under_case false m new v numbers = refl

-- the results of the copies' destinations are those of the one's
pub new_under : (result : ℕ → List ℕ) (c k : ℕ) (dsts : List Place) (name numbers : List ℕ)
    → new_numbers result k (map (place_on c) dsts) name numbers
    ≡ under c (new_numbers result k dsts) name numbers
new_under result c k [] [] numbers = refl
new_under result c k [] (d ∷ name) numbers = either_same (eqb d c) numbers
new_under result c k (dst ∷ dsts) [] numbers = new_under result c (k + 1) dsts [] numbers
new_under result c k (dst ∷ dsts) (d ∷ name) numbers =
    new_under result c (k + 1) dsts (d ∷ name)
    (cond (eqb d c && bytes_eq name dst.name) (put_all dst.part numbers (result k)) numbers)
    ∙ under_case (eqb d c) (bytes_eq name dst.name) (new_numbers result (k + 1) dsts name)
    (put_all dst.part numbers (result k)) numbers

-- the object with new numbers, by its name and the numbers that it has
abbrev pub given : (List ℕ → List ℕ → List ℕ) → Held → Held
given new h = record {
  name = h.name;
  object = h.object;
  numbers = new h.name h.numbers;
}

pub given_same : (state : List Held) (f g : List ℕ → List ℕ → List ℕ)
    → ((name numbers : List ℕ) → f name numbers ≡ g name numbers)
    → map (given f) state ≡ map (given g) state
given_same [] f g e = refl
given_same (h ∷ state) f g e =
    ap (λ ns. record { name = h.name; object = h.object; numbers = ns } ∷ map (given f) state)
    (e h.name h.numbers)
    ∙ ap (λ r. given g h ∷ r) (given_same state f g e)

-- new numbers leave the table
pub table_given : (state : List Held) (new : List ℕ → List ℕ → List ℕ)
    → table_of (map (given new) state) ≡ table_of state
table_given [] new = refl
table_given (h ∷ state) new = ap (λ r. (h.name, h.object) ∷ r) (table_given state new)

given_case : (h : Held) (f : List ℕ → List ℕ → List ℕ) (name : List ℕ) (b : Bool)
    (rest more : Option Held) → bytes_eq h.name name ≡ b → f name h.numbers ≡ h.numbers
    → numbers_in rest ≡ numbers_in more
    → numbers_in (cond b (Some (given f h)) rest) ≡ numbers_in (cond b (Some h) more)
given_case h f name true rest more t e r =
    ap (λ m. f m h.numbers) (same_bytes h.name name t) ∙ e
given_case h f name false rest more t e r = r

-- where a name is given no new numbers, it has the old ones
pub other_given : (state : List Held) (f : List ℕ → List ℕ → List ℕ) (name : List ℕ)
    → ((numbers : List ℕ) → f name numbers ≡ numbers)
    → numbers_named (map (given f) state) name ≡ numbers_named state name
other_given [] f name e = refl
other_given (h ∷ state) f name e =
    given_case h f name (bytes_eq h.name name) _ _ refl (e h.numbers) (other_given state f name e)
