-- The first stranger, three objects at a time.
use Rattle.tmr_guard.proofs.Common.{◌≡◌, ℕ, ◌+◌, ◌<◌, ◌≤◌, Bool, true, false, not, cond, List, []}
use Rattle.tmr_guard.proofs.Common.{◌∷◌, length, get_or, drop, Option, Some, refl, sym, ◌∙◌, ap}
use Rattle.tmr_guard.proofs.Common.{arith, inl, inr, slice_get, Named, stranger_from, is_first}
use Rattle.tmr_guard.proofs.Common.{is_copy, y_letter, z_letter}
use Rattle.std.proofs.lemmas.List.{drop_more, drop_all}
use Rattle.std.proofs.lemmas.Bool.{cases_eq}
use Rattle.tmr_guard.proofs.Rounds.{got}

-- what is left, from place k on
pub three_left : (k : ℕ) (table : List Named) (e : Named) → k + 2 < length table
    → drop k table ≡ get_or table k e ∷ get_or table (k + 1) e ∷ get_or table (k + 2) e
    ∷ drop (k + 3) table
three_left k table e l =
    let p : k + 1 + 1 ≡ k + 2 = omega arith in
    let q : k + 2 + 1 ≡ k + 3 = omega arith in
    drop_more table k e (omega arith)
    ∙ ap (λ r. get_or table k e ∷ r) (drop_more table (k + 1) e (omega arith))
    ∙ ap (λ n. get_or table k e ∷ get_or table (k + 1) e ∷ drop n table) p
    ∙ ap (λ r. get_or table k e ∷ get_or table (k + 1) e ∷ r)
    (drop_more table (k + 2) e (omega arith))
    ∙ ap (λ n. get_or table k e ∷ get_or table (k + 1) e ∷ get_or table (k + 2) e ∷ drop n table)
    q

at_three : (table : List Named) (k : ℕ) (x y z : Named) → k + 2 < length table
    → get_or table k x ≡ x → get_or table (k + 1) x ≡ y → get_or table (k + 2) x ≡ z
    → stranger_from k (drop k table) ≡ stranger_from k (x ∷ y ∷ z ∷ drop (k + 3) table)
at_three table k x y z l p q r =
    ap (stranger_from k) (three_left k table x l)
    ∙ ap (λ w. stranger_from k (w ∷ get_or table (k + 1) x ∷ get_or table (k + 2) x
    ∷ drop (k + 3) table)) p
    ∙ ap (λ w. stranger_from k (x ∷ w ∷ get_or table (k + 2) x ∷ drop (k + 3) table)) q
    ∙ ap (λ w. stranger_from k (x ∷ y ∷ w ∷ drop (k + 3) table)) r

pub three_first : (table : List Named) (k : ℕ) (x : Named) (found : Option ℕ)
    → k + 2 < length table → slice_get table k ≡ Some x → is_first x ≡ false
    → stranger_from k (drop k table) ≡ found → Some k ≡ found
three_first table k x found l p a h = sym (at_three table k x _ _ l (got table k x x p) refl refl
    ∙ rw a refl) ∙ h

judged : (a b c : Bool) (k l m : ℕ) (r : Option ℕ) → a ≡ true → b ≡ false
    → cond (not a) (Some k) (cond (not b) (Some l) (cond (not c) (Some m) r)) ≡ Some l
judged true false c k l m r e f = refl
judged true true c k l m r e f = cc
judged false b c k l m r e f = cc

judged_third : (a b c : Bool) (k l m : ℕ) (r : Option ℕ) → a ≡ true → b ≡ true → c ≡ false
    → cond (not a) (Some k) (cond (not b) (Some l) (cond (not c) (Some m) r)) ≡ Some m
judged_third true true false k l m r e f g = refl
judged_third true true true k l m r e f g = cc
judged_third true false c k l m r e f g = cc
judged_third false b c k l m r e f g = cc

judged_all : (a b c : Bool) (k l m : ℕ) (r : Option ℕ) → a ≡ true → b ≡ true → c ≡ true
    → cond (not a) (Some k) (cond (not b) (Some l) (cond (not c) (Some m) r)) ≡ r
judged_all true true true k l m r e f g = refl
judged_all true true false k l m r e f g = cc
judged_all true false c k l m r e f g = cc
judged_all false b c k l m r e f g = cc

pub three_second : (table : List Named) (k : ℕ) (x y : Named) (found : Option ℕ)
    → k + 2 < length table → slice_get table k ≡ Some x → slice_get table (k + 1) ≡ Some y
    → is_first x ≡ true → is_copy y_letter x y ≡ false
    → stranger_from k (drop k table) ≡ found → Some (k + 1) ≡ found
three_second table k x y found l p q a b h = sym
    (at_three table k x y _ l (got table k x x p) (got table (k + 1) y x q) refl
    ∙ judged (is_first x) (is_copy y_letter x y) (is_copy z_letter x (get_or table (k + 2) x)) k
    (k + 1) (k + 2) (stranger_from (k + 3) (drop (k + 3) table)) a b) ∙ h

pub three_third : (table : List Named) (k : ℕ) (x y z : Named) (found : Option ℕ)
    → k + 2 < length table → slice_get table k ≡ Some x → slice_get table (k + 1) ≡ Some y
    → slice_get table (k + 2) ≡ Some z
    → is_first x ≡ true → is_copy y_letter x y ≡ true → is_copy z_letter x z ≡ false
    → stranger_from k (drop k table) ≡ found → Some (k + 2) ≡ found
three_third table k x y z found l p q r a b c h =
    sym (at_three table k x y z l (got table k x x p) (got table (k + 1) y x q)
    (got table (k + 2) z x r) ∙ judged_third (is_first x) (is_copy y_letter x y)
    (is_copy z_letter x z) k (k + 1) (k + 2) _ a b c) ∙ h

pub three_all : (table : List Named) (k : ℕ) (x y z : Named) (found : Option ℕ)
    → k + 2 < length table → slice_get table k ≡ Some x → slice_get table (k + 1) ≡ Some y
    → slice_get table (k + 2) ≡ Some z
    → is_first x ≡ true → is_copy y_letter x y ≡ true → is_copy z_letter x z ≡ true
    → stranger_from k (drop k table) ≡ found
    → stranger_from (k + 3) (drop (k + 3) table) ≡ found
three_all table k x y z found l p q r a b c h =
    sym (at_three table k x y z l (got table k x x p) (got table (k + 1) y x q)
    (got table (k + 2) z x r) ∙ judged_all (is_first x) (is_copy y_letter x y)
    (is_copy z_letter x z) k (k + 1) (k + 2) _ a b c) ∙ h

-- the list ends inside a triple
one_left : (table : List Named) (k : ℕ) (x : Named) → k + 1 ≡ length table
    → slice_get table k ≡ Some x → drop k table ≡ x ∷ []
one_left table k x e p =
    drop_more table k x (omega (arith, e)) ∙ ap (λ w. w ∷ drop (k + 1) table) (got table k x x p)
    ∙ ap (λ r. x ∷ r) (drop_all (k + 1) table (omega (arith, e)))

two_left : (table : List Named) (k : ℕ) (x y : Named) → k + 2 ≡ length table
    → slice_get table k ≡ Some x → get_or table (k + 1) x ≡ y → drop k table ≡ x ∷ y ∷ []
two_left table k x y e p q =
    let n : k + 1 + 1 ≡ k + 2 = omega arith in
    drop_more table k x (omega (arith, e)) ∙ ap (λ w. w ∷ drop (k + 1) table) (got table k x x p)
    ∙ ap (λ r. x ∷ r) (drop_more table (k + 1) x (omega (arith, e))
    ∙ ap (λ w. w ∷ drop (k + 1 + 1) table) q
    ∙ ap (λ r. y ∷ r) (drop_all (k + 1 + 1) table (omega (arith, e, n))))

pub last_first : (table : List Named) (k : ℕ) (x : Named) (found : Option ℕ) → k < length table
    → length table ≤ k + 2 → slice_get table k ≡ Some x → is_first x ≡ false
    → stranger_from k (drop k table) ≡ found → Some k ≡ found
last_first table k x found l m p a h = elim (cases_eq (k + 1) (length table)) [
  | inl e ↦ sym (ap (stranger_from k) (one_left table k x e p) ∙ rw a refl) ∙ h
  | inr ne ↦ sym (ap (stranger_from k) (two_left table k x _ (omega (arith, ne, l, m)) p refl)
      ∙ rw a refl) ∙ h
]

pub last_alone : (table : List Named) (k : ℕ) (x : Named) (found : Option ℕ)
    → k + 1 ≡ length table → slice_get table k ≡ Some x → is_first x ≡ true
    → stranger_from k (drop k table) ≡ found → Some (k + 1) ≡ found
last_alone table k x found e p a h = sym (ap (stranger_from k) (one_left table k x e p)
    ∙ rw a refl) ∙ h

pub last_second : (table : List Named) (k : ℕ) (x y : Named) (found : Option ℕ)
    → k + 2 ≡ length table → slice_get table k ≡ Some x → slice_get table (k + 1) ≡ Some y
    → is_first x ≡ true → is_copy y_letter x y ≡ false → stranger_from k (drop k table) ≡ found
    → Some (k + 1) ≡ found
last_second table k x y found e p q a b h = sym
    (ap (stranger_from k) (two_left table k x y e p (got table (k + 1) y x q))
    ∙ ended (is_first x) (is_copy y_letter x y) k (k + 1) (k + 2) a b) ∙ h where
      ended : (a b : Bool) (k l m : ℕ) → a ≡ true → b ≡ false
          → Some (cond (not a) k (cond (not b) l m)) ≡ Some l
      ended true false k l m e f = refl
      ended true true k l m e f = cc
      ended false b k l m e f = cc

pub last_both : (table : List Named) (k : ℕ) (x y : Named) (found : Option ℕ)
    → k + 2 ≡ length table → slice_get table k ≡ Some x → slice_get table (k + 1) ≡ Some y
    → is_first x ≡ true → is_copy y_letter x y ≡ true → stranger_from k (drop k table) ≡ found
    → Some (k + 2) ≡ found
last_both table k x y found e p q a b h = sym
    (ap (stranger_from k) (two_left table k x y e p (got table (k + 1) y x q))
    ∙ ended (is_first x) (is_copy y_letter x y) k (k + 1) (k + 2) a b) ∙ h where
      ended : (a b : Bool) (k l m : ℕ) → a ≡ true → b ≡ true
          → Some (cond (not a) k (cond (not b) l m)) ≡ Some m
      ended true true k l m e f = refl
      ended true false k l m e f = cc
      ended false b k l m e f = cc
