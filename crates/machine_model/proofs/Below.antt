-- Columns of the first banks, and numbers in them.
use Rattle.machine_model.proofs.Common.{◌≡◌, ℕ, zero, suc, ◌+◌, ◌*◌, ◌<◌, ◌≤◌, Bool, true, false}
use Rattle.machine_model.proofs.Common.{not, ◌&&◌, cond, ltb, List, [], ◌∷◌, ◌++◌, length, get_or}
use Rattle.machine_model.proofs.Common.{map, Option, Some, None, refl, sym, ◌∙◌, ap, arith, inl}
use Rattle.machine_model.proofs.Common.{inr, length-append, is_none, range_with_len, find}
use Rattle.machine_model.proofs.Common.{unwrap_or, cases_lt, lt-ltb, nat_tests, map-append, D}
use Rattle.machine_model.proofs.Common.{value, Column, run, Banks, number, Object, has_row, is_free}
use Rattle.machine_model.proofs.Common.{are_free, free, below, WaveJob}
use Rattle.std.proofs.lemmas.Bool.{and_parts}
use Rattle.std.specs.List.{flat_map, list_all}
use Rattle.machine_model.specs.Steps.{through}

map_both : {X Y Z : Type 0} (f : X → Z) (h : Y → X) (g : Y → Z) (ys : List Y)
    → ((y : Y) → f (h y) ≡ g y) → map f (map h ys) ≡ map g ys
map_both f h g [] e = refl
map_both f h g (y ∷ ys) e = rw (e y) (ap (λ zs. g y ∷ zs) (map_both f h g ys e))

range_run : (h : Column → Column) (new old : Banks) (a n : ℕ)
    → ((b : ℕ) → a ≤ b → b < a + n → new b ≡ map h (old b))
    → flat_map new (range_with_len a n) ≡ map h (flat_map old (range_with_len a n))
range_run h new old a zero e = refl
range_run h new old a (suc n) e =
    rw (
      map-append h (old a) (flat_map old (range_with_len (a + 1) n)),
      e a (omega arith) (omega arith),
    ) (ap (λ rest. map h (old a)
    ++ rest) (range_run h new old (a + 1) n (λ b l m. e b (omega arith) (omega arith))))

-- where each of the first banks goes through the same, so do their columns
pub below_run : (h : Column → Column) (new old : Banks) (k : ℕ)
    → ((b : ℕ) → b < k → new b ≡ map h (old b)) → below k new ≡ map h (below k old)
below_run h new old k e = range_run h new old 0 k (λ b l m. e b (omega arith))

range_same : {X : Type 0} (f : Column → X) (new old : Banks) (a n : ℕ)
    → ((b : ℕ) → a ≤ b → b < a + n → map f (new b) ≡ map f (old b))
    → map f (flat_map new (range_with_len a n)) ≡ map f (flat_map old (range_with_len a n))
range_same f new old a zero e = refl
range_same f new old a (suc n) e =
    rw (
      map-append f (new a) (flat_map new (range_with_len (a + 1) n)),
      map-append f (old a) (flat_map old (range_with_len (a + 1) n)),
      e a (omega arith) (omega arith),
      range_same f new old (a + 1) n (λ b l m.
          e b (omega arith) (omega arith)),
    ) refl

pub below_same : {X : Type 0} (f : Column → X) (new old : Banks) (k : ℕ)
    → ((b : ℕ) → b < k → map f (new b) ≡ map f (old b)) → map f (below k new) ≡ map f (below k old)
below_same f new old k e = range_same f new old 0 k (λ b l m. e b (omega arith))

range_length : (w : ℕ) (banks : Banks) (a n : ℕ)
    → ((b : ℕ) → a ≤ b → b < a + n → length (banks b) ≡ w)
    → length (flat_map banks (range_with_len a n)) ≡ w * n
range_length w banks a zero e = omega arith
range_length w banks a (suc n) e =
    let rest = range_length w banks (a + 1) n (λ b l m. e b (omega arith) (omega arith)) in
    let here = e a (omega arith) (omega arith) in
    length-append (banks a) (flat_map banks (range_with_len (a + 1) n)) ∙ omega (arith, rest, here)

pub below_length : (w k : ℕ) (banks : Banks) → ((b : ℕ) → b < k → length (banks b) ≡ w)
    → length (below k banks) ≡ w * k
below_length w k banks e = range_length w banks 0 k (λ b l m. e b (omega arith))

-- a bank of the job
pub through_in : (job : WaveJob) (banks : Banks) (b : ℕ) → b < job.banks
    → through job banks b ≡ map (run job.commands) (banks b)
through_in job banks b h = rw (lt-ltb b job.banks h) refl

same_case : {X : Type 0} (f : Column → X) (h : Column → Column) (t : Bool) (columns : List Column)
    → ((s : Column) → f (h s) ≡ f s) → map f (cond t (map h columns) columns) ≡ map f columns
same_case f h true columns e = map_both f h f columns e
same_case f h false columns e = refl

-- what the job leaves in each column it leaves in each bank
pub through_same : {X : Type 0} (f : Column → X) (job : WaveJob) (banks : Banks) (b : ℕ)
    → ((s : Column) → f (run job.commands s) ≡ f s) → map f (through job banks b) ≡ map f (banks b)
through_same f job banks b e = same_case f (run job.commands) (ltb b job.banks) (banks b) e

rows_same : (s t : Column) (a n : ℕ) → ((row : ℕ) → a ≤ row → row < a + n → t (D row) ≡ s (D row))
    → map (λ row. t (D row)) (range_with_len a n) ≡ map (λ row. s (D row)) (range_with_len a n)
rows_same s t a zero e = refl
rows_same s t a (suc n) e = rw (
  e a (omega arith) (omega arith),
  rows_same s t (a + 1) n (λ row l m. e row (omega arith) (omega arith)),
) refl

-- the same rows spell the same number
pub number_same : (base n : ℕ) (s t : Column)
    → ((row : ℕ) → base ≤ row → row < base + n → t (D row) ≡ s (D row))
    → number base n t ≡ number base n s
number_same base n s t e = ap value (rows_same s t base n e)

-- what holds of a range of rows holds of each of them
pub all_in : (p : ℕ → Bool) (a n c : ℕ) → list_all p (range_with_len a n) ≡ true → a ≤ c → c < a + n
    → p c ≡ true
all_in p a zero c h l m = absurd (omega arith)
all_in p a (suc n) c h l m =
    let both = and_parts (p a) (list_all p (range_with_len (a + 1) n)) h in
    elim (cases_lt a c) [
      | inl lt ↦ all_in p (a + 1) n c both.1 (omega arith) (omega arith)
      | inr ge ↦ let e : a ≡ c = omega arith in ap p (sym e) ∙ both.0
    ]

pub all_get : {X : Type 0} (p : X → Bool) (xs : List X) (i : ℕ) (d : X) → list_all p xs ≡ true
    → i < length xs → p (get_or xs i d) ≡ true
all_get p [] i d h l = absurd (omega arith)
all_get p (x ∷ xs) zero d h l = (and_parts (p x) (list_all p xs) h).0
all_get p (x ∷ xs) (suc i) d h l = all_get p xs i d (and_parts (p x) (list_all p xs) h).1
    (omega arith)

find_case : (p : ℕ → Bool) (a n b : ℕ) (t : Bool) → p a ≡ t
    → (find p (range_with_len (a + 1) n) ≡ Some b → (a + 1 ≤ b) × (b < a + 1 + n) × (p b ≡ true))
    → cond t (Some a) (find p (range_with_len (a + 1) n)) ≡ Some b → (a ≤ b) × (b < a + suc n)
    × (p b ≡ true)
find_case p a n b true e go h = let same : a ≡ b = cc in
    (omega arith, omega arith, ap p (sym same) ∙ e)
find_case p a n b false e go h = let r = go h in (omega (arith, r.0), omega (arith, r.1), r.2)

found_in_range : (p : ℕ → Bool) (a n b : ℕ) → find p (range_with_len a n) ≡ Some b
    → (a ≤ b) × (b < a + n) × (p b ≡ true)
found_in_range p a zero b h = cc
found_in_range p a (suc n) b h = find_case p a n b (p a) refl (found_in_range p (a + 1) n b) h

some_of : (o : Option ℕ) → is_none o ≡ false → o ≡ Some (unwrap_or o 0)
some_of None h = cc
some_of (Some b) h = refl

-- the base that is found is an object row, or the end, and its rows are free
pub base_free : (limit : ℕ) (objects : List Object) (k : ℕ) → is_none (free limit objects k) ≡ false
    → (unwrap_or (free limit objects k) 0 ≤ limit)
    × (are_free limit objects k (unwrap_or (free limit objects k) 0) ≡ true)
unfolding free
base_free limit objects k h =
    let f = found_in_range (are_free limit objects k) 0 (limit + 1) _ (some_of _ h) in
    (omega (arith, f.1), f.2)

-- a free row is an object row, and in no object
pub row_free : (limit : ℕ) (objects : List Object) (row i : ℕ) (d : Object)
    → is_free limit objects row ≡ true → i < length objects
    → (row < limit) × (has_row (get_or objects i d) row ≡ false)
row_free limit objects row i d h l =
    let both = and_parts (ltb row limit) (list_all (λ o. not (has_row o row)) objects) h in
    let none : not (has_row (get_or objects i d) row) ≡ true =
    all_get (λ o. not (has_row o row)) objects i d both.1 l in
    (grind (arith, nat_tests), not_true (has_row (get_or objects i d) row) none) where
      not_true : (b : Bool) → not b ≡ true → b ≡ false
      not_true true h = cc
      not_true false h = refl

-- a free row is one that objects may lie in
pub row_within : (limit : ℕ) (objects : List Object) (row : ℕ) → is_free limit objects row ≡ true
    → row < limit
row_within limit objects row h = let both = and_parts (ltb row limit)
    (list_all (λ o. not (has_row o row)) objects) h in grind (arith, nat_tests)
