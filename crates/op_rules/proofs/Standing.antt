-- What the rule machine keeps of the names of an op.
use Rattle.op_rules.proofs.Common.{◌≡◌, ℕ, Bool, true, false, not, ◌||◌, ◌&&◌, List, ◌++◌, refl}
use Rattle.op_rules.proofs.Common.{sym, ap, ◌∙◌, map-append, Param, is_among, kind_among, is_known}
use Rattle.op_rules.specs.Meets.{Context, used, names_of}
use Rattle.op_rules.proofs.Names.{among-append, or_both}
use Rattle.op_rules.proofs.Fitting.{known-among}

-- The names that stand are those used up and the results, and no result is a let.
pub record Standing (stands : List (List ℕ)) (c : Context) : Type 0 where
  pub all : (n : List ℕ) → is_among stands n
      ≡ (is_among (used c) n || is_known (kind_among c.results n))
  pub free : (n : List ℕ) → is_known (kind_among c.results n) ≡ true → is_among c.lets n ≡ false

right_none : (a b : Bool) → b ≡ false → (a || b) ≡ a
right_none true b h = refl
right_none false b h = h

-- a result is used up once it can be read
pub given-at : {stands : List (List ℕ)} {c : Context} → Standing stands c → (n : List ℕ)
    → is_known (kind_among c.results n) ≡ true
    → is_among (used c) n ≡ is_known (kind_among c.known n)
given-at {stands} {c} s n h =
    among-append (names_of c.known) c.lets n
    ∙ right_none (is_among (names_of c.known) n) (is_among c.lets n) (s.free n h)
    ∙ sym (known-among c.known n)

mixed : (k l r d t : Bool) → (((k || l) || r) || (d || t)) ≡ (((k || d) || (l || t)) || r)
mixed false false true false false = refl
mixed false false false false true = refl
mixed false true r true t = refl
mixed _ _ _ _ _ = refl

-- the names of two lists are those of the one and then the other
pub names-append : (ps qs : List Param) → names_of (ps ++ qs) ≡ names_of ps ++ names_of qs
names-append ps qs = map-append (λ (p : Param). p.name) ps qs

abbrev pub more_context : Context → List Param → List (List ℕ) → Context
more_context c ds ts = record { known = c.known ++ ds; lets = c.lets ++ ts; results = c.results }

pub used-more : (c : Context) (ds : List Param) (ts : List (List ℕ)) (n : List ℕ)
    → is_among (used (more_context c ds ts)) n
    ≡ ((is_among (names_of c.known) n || is_among (names_of ds) n)
    || (is_among c.lets n || is_among ts n))
used-more c ds ts n =
    among-append (names_of (c.known ++ ds)) (c.lets ++ ts) n
    ∙ ap (λ x. x || is_among (c.lets ++ ts) n) (ap (λ l. is_among l n) (names-append c.known ds)
    ∙ among-append (names_of c.known) (names_of ds) n)
    ∙ ap (λ x. (is_among (names_of c.known) n || is_among (names_of ds) n)
    || x) (among-append c.lets ts n)

pub standing-more : {stands : List (List ℕ)} {c : Context} → Standing stands c → (ds : List Param)
    (ts after : List (List ℕ)) → ((n : List ℕ) → is_among after n
    ≡ (is_among stands n || (is_among (names_of ds) n || is_among ts n)))
    → ((n : List ℕ) → is_known (kind_among c.results n) ≡ true → is_among ts n ≡ false)
    → Standing after (more_context c ds ts)
standing-more {stands} {c} s ds ts after f g = record {
  all = λ n. let K = is_among (names_of c.known) n in let L = is_among c.lets n in
      let D = is_among (names_of ds) n in let T = is_among ts n in
      let R = is_known (kind_among c.results n) in
      f n ∙ ap (λ x. x || (D || T)) (s.all n
      ∙ ap (λ x. x || R) (among-append (names_of c.known) c.lets n))
      ∙ mixed K L R D T ∙ ap (λ x. x || R) (sym (used-more c ds ts n));
  free = λ n q. among-append c.lets ts n
      ∙ or_both (is_among c.lets n) (is_among ts n) (s.free n q) (g n q);
}

-- a name that is taken neither as the open result nor otherwise
pub word_new : (st a r d : Bool) → st ≡ (a || r) → (r ≡ true → a ≡ d)
    → (st && not (r && not d)) ≡ false → a ≡ false
word_new st a r d e f h = cases a r d f (sym (ap (λ x. x && not (r && not d)) e) ∙ h)
  where
    cases : (a r d : Bool) → (r ≡ true → a ≡ d) → ((a || r) && not (r && not d)) ≡ false → a ≡ false
    cases true true false f h = f refl
    cases false r d f h = refl
    cases _ _ _ f h = cc
