-- Where a condition holds first.
use Rattle.machine_model.proofs.Common.{◌≡◌, ℕ, ◌+◌, Bool, true, false, not, cond, List, [], ◌∷◌}
use Rattle.machine_model.proofs.Common.{map, length, Option, Some, None, refl, ◌∙◌, ap, arith, ◌||◌}
use Rattle.machine_model.proofs.Common.{prefix_len, find, option_map, bytes_eq, nat_tests, Named}
use Rattle.machine_model.proofs.Common.{has_name}
use Rattle.std.proofs.Common.{position}
use Rattle.std.specs.Prelude.{nat_lt, is_some}
use Rattle.object_alloc.specs.Listed.{look_up}
use Rattle.machine_model.specs.declared.Why.{Why}
use Rattle.machine_model.specs.Refusals.{at_place}

lt-suc : (n len : ℕ) → nat_lt (1 + n) (1 + len) ≡ nat_lt n len
lt-suc n len = grind (arith, nat_tests)

lt-zero : (len : ℕ) → nat_lt 0 (1 + len) ≡ true
lt-zero len = grind (arith, nat_tests)

shifted : (reason : ℕ → Why) (k n : ℕ) (b : Bool) →
    option_map (λ i. reason (k + 1 + i)) (cond b (Some n) None)
    ≡ option_map (λ i. reason (k + i)) (cond b (Some (1 + n)) None)
shifted reason k n true = let e : k + 1 + n ≡ k + (1 + n) = omega arith in
    ap (λ m. Some (reason m)) e
shifted reason k n false = refl

first_here : (reason : ℕ → Why) (k : ℕ) (b : Bool) → b ≡ true
    → Some (reason k) ≡ option_map (λ i. reason (k + i)) (cond b (Some 0) None)
first_here reason k true e = let z : k ≡ k + 0 = omega arith in ap (λ m. Some (reason m)) z
first_here reason k false e = cc

-- the tests of one more element
one_more : (reason : ℕ → Why) (k n len : ℕ) (b : Bool) (rest : Option Why) →
    rest ≡ option_map (λ i. reason (k + 1 + i)) (cond (nat_lt n len) (Some n) None) →
    cond b (Some (reason k)) rest ≡ option_map (λ i.
    reason (k + i)) (cond (nat_lt (cond (not b) (1 + n) 0) (1 + len))
    (Some (cond (not b) (1 + n) 0)) None)
one_more reason k n len true rest e = first_here reason k (nat_lt 0 (1 + len)) (lt-zero len)
one_more reason k n len false rest e = rw (lt-suc n len) (e ∙ shifted reason k n (nat_lt n len))

-- the first place at which a test passes is where a condition holds first
pub at_place-map : {X : Type 0} (reason : ℕ → Why) (k : ℕ) (p : X → Bool) (xs : List X)
    → at_place reason k (map p xs) ≡ option_map (λ i. reason (k + i)) (position p xs)
at_place-map reason k p [] = refl
at_place-map reason k p (x ∷ xs) =
    let e : length (x ∷ xs) ≡ 1 + length xs = omega arith in
    rw e (one_more reason k (prefix_len (λ y. not (p y)) xs) (length xs) (p x)
    (at_place reason (k + 1) (map p xs)) (at_place-map reason (k + 1) p xs))

found_more : {X : Type 0} (f : Named → X) (p : Named) (rest : Option Named) (b r : Bool)
    → is_some (option_map f rest) ≡ r → is_some (option_map f (cond b (Some p) rest)) ≡ (b || r)
found_more f p rest true r e = refl
found_more f p rest false r e = e

-- a name is found where an object has it
pub look_up-some : (pairs : List Named) (name : List ℕ)
    → is_some (look_up pairs name) ≡ has_name pairs name
look_up-some [] name = refl
look_up-some (p ∷ pairs) name = found_more (λ q. q.1) p (find (λ q. bytes_eq q.0 name) pairs)
    (bytes_eq p.0 name) (has_name pairs name) (look_up-some pairs name)
