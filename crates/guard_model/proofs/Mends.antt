-- What flips and votes leave: the copies are equal, and elements that survive are as they were.
use Rattle.guard_model.proofs.Common.{and_parts, ◌≡◌, ◌≢◌, ℕ, zero, suc, ◌+◌, ◌*◌, ◌<◌, ◌≤◌, Bool}
use Rattle.guard_model.proofs.Common.{true, false, not, ◌&&◌, ◌||◌, cond, ltb, List, [], ◌∷◌, ◌++◌}
use Rattle.guard_model.proofs.Common.{length, get_or, map, refl, sym, ◌∙◌, ap, subst, arith, inl}
use Rattle.guard_model.proofs.Common.{inr, AllByRecursion, range_with_len, flat_map, list_all}
use Rattle.guard_model.proofs.Common.{bytes_eq, cases_lt, length-map, map-append, D, Geometry}
use Rattle.guard_model.proofs.Common.{majority, Column, run, blank, Banks, below, column_count}
use Rattle.guard_model.proofs.Common.{number, Object, Named, segments, columns, Held, table_of}
use Rattle.guard_model.proofs.Common.{through, bytes_same}
use Rattle.std.proofs.Common.{◌-◌}
use Rattle.std.proofs.lemmas.Bool.{lt-ltb}
use Rattle.std.proofs.lemmas.List.{get_or-map, ext_get_or, get_or-append_right}
use Rattle.std.proofs.lemmas.Nat.{mul-le}
use Rattle.machine_model.proofs.Below.{below_length}
use Rattle.machine_model.proofs.Steps.{through_length}
use Rattle.guard_model.specs.declared.Flip.{Flip}
use Rattle.guard_model.specs.Flips.{all_flipped, is_hit, survives}
use Rattle.guard_model.specs.Survival.{Spot, Whole, element_at, survives_in}
use Rattle.guard_model.specs.Triples.{x_letter}
use Rattle.guard_model.specs.Votes.{votes, vote_job, voted}
use Rattle.guard_model.proofs.Flips.{flips_length, not_hit}
use Rattle.guard_model.proofs.Likes.{AllLike, Like, weaken}
use Rattle.guard_model.proofs.Numbers.{bits_of_number, number_of_bits}
use Rattle.guard_model.proofs.Trios.{Trio, place, spread, Separate, TriosApart, OutOf}
use Rattle.guard_model.proofs.Votes.{RowsApart, Voted, most, most_of, votes_others, votes_own}

abbrev pub at : Banks → ℕ → ℕ → Column
at banks bank c = get_or (banks bank) c blank

-- the votes of a trio, on a column of this bank
abbrev vote : Geometry → ℕ → Trio → Column → Column
vote g bank t s = cond (ltb bank (segments g (place t t.x)))
    (run (votes t.x t.y t.z 0 t.width) s) s

-- those of several in turn
abbrev vote_all : Geometry → ℕ → List Trio → Column → Column
vote_all g bank [] s = s
vote_all g bank (t ∷ ts) s = vote_all g bank ts (vote g bank t s)

map_case : (b : Bool) (h : Column → Column) (columns : List Column) (c : ℕ) → c < length columns
    → get_or (cond b (map h columns) columns) c blank
    ≡ cond b (h (get_or columns c blank)) (get_or columns c blank)
map_case true h columns c l = get_or-map h columns c blank blank l
map_case false h columns c l = refl

pub voted_length : (g : Geometry) (ts : List Trio) (now : Banks) (bank : ℕ)
    → length (voted g (table_of (spread ts)) now bank) ≡ length (now bank)
voted_length g [] now bank = refl
voted_length g (t ∷ ts) now bank =
    let job = vote_job g (place t t.x) (place t t.y) (place t t.z) in
    voted_length g ts (through job now) bank ∙ through_length job now bank

voted_at : (g : Geometry) (ts : List Trio) (now : Banks) (bank c : ℕ) → c < length (now bank)
    → at (voted g (table_of (spread ts)) now) bank c ≡ vote_all g bank ts (at now bank c)
voted_at g [] now bank c l = refl
voted_at g (t ∷ ts) now bank c l =
    let job = vote_job g (place t t.x) (place t t.y) (place t t.z) in
    voted_at g ts (through job now) bank c (omega (arith, through_length job now bank))
    ∙ ap (vote_all g bank ts) (map_case (ltb bank (segments g (place t t.x)))
    (run (votes t.x t.y t.z 0 t.width)) (now bank) c l)

-- A row that is in no copy of a trio stays
abbrev Outside : Trio → ℕ → Type 0
Outside t r = (k : ℕ) → k < t.width → (t.x + k ≢ r) × (t.y + k ≢ r) × (t.z + k ≢ r)

out_row : (t : Trio) (o : Object) (k : ℕ) → OutOf t o → k < o.width → Outside t (o.base + k)
out_row t o k out l = λ j m. (out.0 j k m l, out.1 j k m l, out.2 j k m l)

other_case : (b : Bool) (t : Trio) (s : Column) (r : ℕ) → Outside t r
    → (cond b (run (votes t.x t.y t.z 0 t.width) s) s) (D r) ≡ s (D r)
other_case true t s r out =
    votes_others s t.x t.y t.z 0 t.width r (λ k l m. out k (omega arith))
other_case false t s r out = refl

others : (g : Geometry) (bank : ℕ) (ts : List Trio) (s : Column) (r : ℕ)
    → AllByRecursion (λ t. Outside t r) ts → vote_all g bank ts s (D r) ≡ s (D r)
others g bank [] s r out = refl
others g bank (t ∷ ts) s r out =
    others g bank ts (vote g bank t s) r out.1
    ∙ other_case (ltb bank (segments g (place t t.x))) t s r out.0

all_outside : (t : Trio) (ts : List Trio) (r : ℕ) → ((u : Trio) → TriosApart u t → Outside u r)
    → AllByRecursion (λ u. TriosApart u t) ts → AllByRecursion (λ u. Outside u r) ts
all_outside t [] r out h = tt
all_outside t (u ∷ ts) r out h = (out u h.0, all_outside t ts r out h.1)

-- The rows of a trio become their majority
abbrev BecomesMost : Geometry → ℕ → Column → Column → Trio → Type 0
BecomesMost g bank old new t = bank < segments g (place t t.x) → (k : ℕ) → k < t.width
    → Voted new old t.x t.y t.z k

own_case : (b : Bool) (t : Trio) (s : Column) (k : ℕ) → b ≡ true → RowsApart t.x t.y t.z t.width
    → k < t.width → Voted (cond b (run (votes t.x t.y t.z 0 t.width) s) s) s t.x t.y t.z k
own_case true t s k e d l =
    votes_own s t.x t.y t.z 0 t.width t.width k d (omega arith) (omega arith) (omega arith)
own_case false t s k e d l = cc

own_vote : (g : Geometry) (bank : ℕ) (t : Trio) (ts : List Trio) (s : Column)
    → RowsApart t.x t.y t.z t.width → AllByRecursion (λ u. TriosApart u t) ts
    → BecomesMost g bank s (vote_all g bank (t ∷ ts) s) t
own_vote g bank t ts s d apart inside k l =
    let own = own_case (ltb bank (segments g (place t t.x))) t s k (lt-ltb _ _ inside) d l in
    let next = vote g bank t s in (
      others g bank ts next (t.x + k)
          (all_outside t ts (t.x + k) (λ u a. out_row u (place t t.x) k a.0 l) apart) ∙ own.0,
      others g bank ts next (t.y + k)
          (all_outside t ts (t.y + k) (λ u a. out_row u (place t t.y) k a.1 l) apart) ∙ own.1,
      others g bank ts next (t.z + k)
          (all_outside t ts (t.z + k) (λ u a. out_row u (place t t.z) k a.2 l) apart) ∙ own.2,
    )

-- the votes of another trio before leave the rows
earlier_vote : (g : Geometry) (bank : ℕ) (t u : Trio) (s new : Column) → TriosApart t u
    → BecomesMost g bank (vote g bank t s) new u → BecomesMost g bank s new u
earlier_vote g bank t u s new a h inside k l =
    let b = ltb bank (segments g (place t t.x)) in
    let x = other_case b t s (u.x + k) (out_row t (place u u.x) k a.0 l) in
    let y = other_case b t s (u.y + k) (out_row t (place u u.y) k a.1 l) in
    let z = other_case b t s (u.z + k) (out_row t (place u u.z) k a.2 l) in
    let same : most (vote g bank t s) (u.x + k) (u.y + k) (u.z + k)
    ≡ most s (u.x + k) (u.y + k) (u.z + k) = rw (x, y, z) refl in
    let v = h inside k l in
    (v.0 ∙ same, v.1 ∙ same, v.2 ∙ same)

earlier_votes : (g : Geometry) (bank : ℕ) (t : Trio) (ts : List Trio) (s new : Column)
    → AllByRecursion (TriosApart t) ts
    → AllByRecursion (BecomesMost g bank (vote g bank t s) new) ts
    → AllByRecursion (BecomesMost g bank s new) ts
earlier_votes g bank t [] s new a h = tt
earlier_votes g bank t (u ∷ ts) s new a h =
    (earlier_vote g bank t u s new a.0 h.0, earlier_votes g bank t ts s new a.1 h.1)

all_most : (g : Geometry) (bank : ℕ) (ts : List Trio) (s : Column) → Separate ts
    → AllByRecursion (BecomesMost g bank s (vote_all g bank ts s)) ts
all_most g bank [] s sep = tt
all_most g bank (t ∷ ts) s sep = (
  own_vote g bank t ts s sep.0 sep.2,
  earlier_votes g bank t ts s (vote_all g bank ts (vote g bank t s)) sep.1
      (all_most g bank ts (vote g bank t s) sep.3),
)

-- in every column of every bank
abbrev AllBecomeMost : Geometry → Banks → Banks → Trio → Type 0
AllBecomeMost g now new t =
    (bank c : ℕ) → c < length (now bank) → BecomesMost g bank (at now bank c) (at new bank c) t

swap : (P : ℕ → ℕ → Type 0) (Q : ℕ → ℕ → Trio → Type 0) (ts : List Trio)
    → ((bank c : ℕ) → P bank c → AllByRecursion (Q bank c) ts)
    → AllByRecursion (λ t. (bank c : ℕ) → P bank c → Q bank c t) ts
swap P Q [] h = tt
swap P Q (t ∷ ts) h =
    (λ bank c p. (h bank c p).0, swap P Q ts (λ bank c p. (h bank c p).1))

pub banks_become_most : (g : Geometry) (ts : List Trio) (now : Banks) → Separate ts
    → AllByRecursion (AllBecomeMost g now (voted g (table_of (spread ts)) now)) ts
banks_become_most g ts now sep =
    swap (λ bank c. c < length (now bank)) (λ bank c.
    BecomesMost g bank (at now bank c) (at (voted g (table_of (spread ts)) now) bank c)) ts
    (λ bank c l. subst
    (λ (s : Column). AllByRecursion (BecomesMost g bank (at now bank c) s) ts)
    (sym (voted_at g ts now bank c l)) (all_most g bank ts (at now bank c) sep))

-- So the copies are equal
all_same : (f h : Column → ℕ) (xs ys : List Column) → length xs ≡ length ys
    → ((c : ℕ) → c < length xs → f (get_or xs c blank) ≡ h (get_or ys c blank)) → map f xs
    ≡ map h ys
all_same f h xs ys l e = ext_get_or 0 (map f xs) (map h ys) (simp length-map l)
    (λ c m. let n : c < length xs = simp length-map at m in get_or-map f xs c blank 0 n ∙ e c n
    ∙ sym (get_or-map h ys c blank 0 (omega arith)))

range_both : (f h : Column → ℕ) (banks : Banks) (a n : ℕ)
    → ((bank : ℕ) → a ≤ bank → bank < a + n → map f (banks bank) ≡ map h (banks bank)) → map f
    (flat_map banks (range_with_len a n)) ≡ map h (flat_map banks (range_with_len a n))
range_both f h banks a zero e = refl
range_both f h banks a (suc n) e =
    rw (
      map-append f (banks a) (flat_map banks (range_with_len (a + 1) n)),
      map-append h (banks a)
          (flat_map banks (range_with_len (a + 1) n)),
      e a (omega arith)
          (omega arith),
      range_both f h banks (a + 1) n (λ bank l m. e bank (omega arith) (omega arith)),
    ) refl

abbrev pub EqualIn : Geometry → Banks → Trio → Type 0
EqualIn g banks t = (columns g banks (place t t.y) ≡ columns g banks (place t t.x))
    × (columns g banks (place t t.z) ≡ columns g banks (place t t.x))

one_equal : (g : Geometry) (now new : Banks) (t : Trio)
    → ((bank : ℕ) → length (new bank) ≡ length (now bank)) → AllBecomeMost g now new t
    → EqualIn g new t
one_equal g now new t long h = (
  range_both (number t.y t.width) (number t.x t.width) new 0 (segments g (place t t.x))
      (λ bank a l. all_same (number t.y t.width) (number t.x t.width) (new bank) (new bank) refl
      (λ c m. let v = h bank c (omega (arith, long bank)) (omega arith) in
      number_of_bits t.y t.x t.width (at new bank c) (at new bank c)
      (λ k i. (v k i).1 ∙ sym (v k i).0))),
  range_both (number t.z t.width) (number t.x t.width) new 0 (segments g (place t t.x))
      (λ bank a l. all_same (number t.z t.width) (number t.x t.width) (new bank) (new bank) refl
      (λ c m. let v = h bank c (omega (arith, long bank)) (omega arith) in
      number_of_bits t.z t.x t.width (at new bank c) (at new bank c)
      (λ k i. (v k i).2 ∙ sym (v k i).0))),
)

pub all_equal : (g : Geometry) (now new : Banks) (ts : List Trio)
    → ((bank : ℕ) → length (new bank) ≡ length (now bank))
    → AllByRecursion (AllBecomeMost g now new) ts → AllByRecursion (EqualIn g new) ts
all_equal g now new [] long h = tt
all_equal g now new (t ∷ ts) long h =
    (one_equal g now new t long h.0, all_equal g now new ts long h.1)

-- An element that survives keeps its number
range_holds : (p : ℕ → Bool) (a n k : ℕ) → list_all p (range_with_len a n) ≡ true → a ≤ k
    → k < a + n → p k ≡ true
range_holds p a zero k h l m = absurd (omega arith)
range_holds p a (suc n) k h l m =
    let both = and_parts (p a) (list_all p (range_with_len (a + 1) n)) h in
    elim (cases_lt a k) [
      | inl lt ↦ range_holds p (a + 1) n k both.1 (omega arith) (omega arith)
      | inr ge ↦ let e : a ≡ k = omega arith in subst (λ j. p j ≡ true) e both.0
    ]

-- the number of the first copy, where those of the others were the same
pub number_kept : (g : Geometry) (flips : List Flip) (old new : Banks) (bank c : ℕ) (t : Trio)
    → bank < segments g (place t t.x)
    → BecomesMost g bank (at (all_flipped flips old) bank c) (at new bank c) t
    → survives flips bank c (place t t.x) (place t t.y) (place t t.z) ≡ true
    → number t.y t.width (at old bank c) ≡ number t.x t.width (at old bank c)
    → number t.z t.width (at old bank c) ≡ number t.x t.width (at old bank c)
    → number t.x t.width (at new bank c) ≡ number t.x t.width (at old bank c)
number_kept g flips old new bank c t inside becomes safe y z =
    let s = at old bank c in
    number_of_bits t.x t.x t.width (at new bank c) s (λ k l.
    (becomes inside k l).0 ∙ most_of (s (D (t.x + k))) _ _ _
    (is_hit flips bank c (t.x + k)) (is_hit flips bank c (t.y + k)) (is_hit flips bank c (t.z + k))
    (range_holds (λ (j : ℕ). not (majority (is_hit flips bank c (t.x + j))
    (is_hit flips bank c (t.y + j)) (is_hit flips bank c (t.z + j)))) 0 t.width k safe
    (omega arith) (omega arith))
    (λ e. not_hit flips old bank c (t.x + k) e)
    (λ e. not_hit flips old bank c (t.y + k) e ∙ bits_of_number t.y t.x t.width k s s y l)
    (λ e. not_hit flips old bank c (t.z + k) e ∙ bits_of_number t.z t.x t.width k s s z l))

-- Elements by their numbers
past : (xs : List ℕ) (i : ℕ) → length xs ≤ i → get_or xs i 0 ≡ 0
past [] i l = refl
past (x ∷ xs) zero l = absurd (omega arith)
past (x ∷ xs) (suc i) l = past xs i (omega arith)

in_front : (xs ys : List Column) (c : ℕ) → c < length xs
    → get_or (xs ++ ys) c blank ≡ get_or xs c blank
in_front [] ys c l = absurd (omega arith)
in_front (x ∷ xs) ys zero l = refl
in_front (x ∷ xs) ys (suc c) l = in_front xs ys c (omega arith)

range_at : (w : ℕ) (banks : Banks) (a n b c : ℕ) → ((i : ℕ) → i < n → length (banks (a + i)) ≡ w)
    → b < n → c < w
    → get_or (flat_map banks (range_with_len a n)) (b * w + c) blank ≡ at banks (a + b) c
range_at w banks a zero b c long l m = absurd (omega arith)
range_at w banks a (suc n) zero c long l m =
    let z : a + 0 ≡ a = omega arith in
    let i : 0 * w + c ≡ c = omega arith in
    let size : length (banks a) ≡ w = subst (λ k. length (banks k) ≡ w) z (long 0 (omega arith)) in
    ap (λ k. get_or (banks a ++ flat_map banks (range_with_len (a + 1) n)) k blank) i
    ∙ in_front (banks a) (flat_map banks (range_with_len (a + 1) n)) c (omega arith)
    ∙ ap (λ k. at banks k c) (sym z)
range_at w banks a (suc n) (suc b) c long l m =
    let z : a + 0 ≡ a = omega arith in
    let size : length (banks a) ≡ w = subst (λ k. length (banks k) ≡ w) z (long 0 (omega arith)) in
    let i : suc b * w + c - w ≡ b * w + c = omega arith in
    let j : a + 1 + b ≡ a + suc b = omega arith in
    get_or-append_right (banks a) (flat_map banks (range_with_len (a + 1) n)) w (suc b * w + c)
    blank size (omega arith)
    ∙ ap (λ k. get_or (flat_map banks (range_with_len (a + 1) n)) k blank) i
    ∙ range_at w banks (a + 1) n b c (λ k h.
    let e : a + suc k ≡ a + 1 + k = omega arith in
    subst (λ (q : ℕ). length (banks q) ≡ w) e (long (suc k) (omega arith))) (omega arith) m
    ∙ ap (λ k. at banks k c) j

-- how many numbers an object has, and which stands in a column
module _ (g : Geometry) (banks : Banks) (o : Object)
    (long : (bank : ℕ) → bank < segments g o → length (banks bank) ≡ column_count g) where
  pub columns_length : length (columns g banks o) ≡ column_count g * segments g o
  columns_length = length-map (below (segments g o) banks) (number o.base o.width)
      ∙ below_length (column_count g) (segments g o) banks long

  number_at : (spot : Spot) → spot.column < column_count g → spot.bank < segments g o
      → get_or (columns g banks o) (element_at g spot) 0
      ≡ number o.base o.width (at banks spot.bank spot.column)
  number_at spot l m =
      let w = column_count g in
      let n : suc spot.bank * w ≤ segments g o * w =
      mul-le (suc spot.bank) w (segments g o) w (omega arith) (omega arith) in
      let size = below_length w (segments g o) banks long in
      let z : 0 + spot.bank ≡ spot.bank = omega arith in
      get_or-map (number o.base o.width) (below (segments g o) banks) (element_at g spot) blank 0
      (omega (arith, n, size))
      ∙ ap (number o.base o.width) (range_at w banks 0 (segments g o) spot.bank spot.column
      (λ i k. let e : 0 + i ≡ i = omega arith in
      subst (λ (q : ℕ). length (banks q) ≡ w) (sym e) (long i k)) m l
      ∙ ap (λ k. at banks k spot.column) z)

  none_at : (spot : Spot) → segments g o ≤ spot.bank
      → get_or (columns g banks o) (element_at g spot) 0 ≡ 0
  none_at spot m =
      let w = column_count g in
      let n : segments g o * w ≤ spot.bank * w =
      mul-le (segments g o) w spot.bank w m (omega arith) in
      past (columns g banks o) (element_at g spot) (omega (arith, n, columns_length))

-- The copies of trios, as they stand in banks
abbrev pub held : Geometry → Banks → (Trio → ℕ) → Trio → Held
held g banks base t = record {
  name = t.name;
  object = place t (base t);
  numbers = columns g banks (place t (base t));
}

abbrev pub IsLong : Geometry → Banks → Trio → Type 0
IsLong g banks t =
    (bank : ℕ) → bank < segments g (place t t.x) → length (banks bank) ≡ column_count g

-- its banks are among those of the chip
abbrev pub IsWithin : Geometry → Trio → Type 0
IsWithin g t = segments g (place t t.x) ≤ g.banks

-- the first copy of one trio, where it is whole and survives
module _ (g : Geometry) (flips : List Flip) (old new : Banks) (spot : Spot)
    (fits : spot.column < column_count g) (t : Trio) (o : Held) (before : IsLong g old t)
    (after : IsLong g new t)
    (becomes : AllBecomeMost g (all_flipped flips old) new t) where
  one_kept : survives flips spot.bank spot.column (place t t.x) (place t t.y) (place t t.z) ≡ true
      → get_or (columns g old (place t t.y)) (element_at g spot) 0
      ≡ get_or (columns g old (place t t.x)) (element_at g spot) 0
      → get_or (columns g old (place t t.z)) (element_at g spot) 0
      ≡ get_or (columns g old (place t t.x)) (element_at g spot) 0
      → get_or (columns g new (place t t.x)) (element_at g spot) 0
      ≡ get_or (columns g old (place t t.x)) (element_at g spot) 0
  one_kept safe y z = elim (cases_lt spot.bank (segments g (place t t.x))) [
    | inl lt ↦
        let in_x = number_at g old (place t t.x) before spot fits lt in
        let in_y = number_at g old (place t t.y) before spot fits lt in
        let in_z = number_at g old (place t t.z) before spot fits lt in
        let full = flips_length flips old spot.bank in
        number_at g new (place t t.x) after spot fits lt
        ∙ number_kept g flips old new spot.bank spot.column t lt
        (becomes spot.bank spot.column (omega (arith, full, before spot.bank lt))) safe
        (sym in_y ∙ y ∙ in_x) (sym in_z ∙ z ∙ in_x)
        ∙ sym in_x
    | inr ge ↦ none_at g new (place t t.x) after spot ge
        ∙ sym (none_at g old (place t t.x) before spot ge)
  ]

  like_kept : (whole kept : Whole)
      → (kept o.name ≡ true → (whole o.name ≡ true)
      × (survives flips spot.bank spot.column (place t t.x) (place t t.y) (place t t.z) ≡ true))
      → Like (element_at g spot) whole (held g old (λ t. t.x) t) o
      → Like (element_at g spot) whole (held g old (λ t. t.y) t) o
      → Like (element_at g spot) whole (held g old (λ t. t.z) t) o
      → Like (element_at g spot) kept (held g new (λ t. t.x) t) o
  like_kept whole kept both x y z = record {
    name = x.name;
    width = x.width;
    count = x.count;
    numbers = (
      columns_length g new (place t t.x) after ∙ sym (columns_length g old (place t t.x) before)
          ∙ x.numbers.0,
      λ e. let b = both e in
          one_kept b.1 (y.numbers.1 b.0 ∙ sym (x.numbers.1 b.0))
          (z.numbers.1 b.0 ∙ sym (x.numbers.1 b.0)) ∙ x.numbers.1 b.0,
    );
  }

-- what is whole and survives
abbrev pub Kept : List Flip → Spot → List Named → Whole → Whole
Kept flips spot table whole name = whole name && survives_in flips spot table name

pub named_case : (b s : Bool) → b ≡ true → (not b || s) ≡ true → s ≡ true
named_case true s e h = h
named_case false s e h = cc

head_kept : (flips : List Flip) (spot : Spot) (t : Trio) (ts : List Trio) (whole : Whole)
    (name : List ℕ) → t.name ≡ name
    → Kept flips spot (table_of (spread (t ∷ ts))) whole name ≡ true
    → (whole name ≡ true)
    × (survives flips spot.bank spot.column (place t t.x) (place t t.y) (place t t.z) ≡ true)
head_kept flips spot t ts whole name e h =
    let a = and_parts (whole name) (survives_in flips spot (table_of (spread (t ∷ ts))) name) h in
    let is = bytes_eq (x_letter ∷ t.name) (x_letter ∷ name) in
    let safe = survives flips spot.bank spot.column (place t t.x) (place t t.y) (place t t.z) in
    let b = and_parts (not is || safe) (survives_in flips spot (table_of (spread ts)) name) a.1 in (
      a.0,
      named_case is safe (bytes_same (x_letter ∷ t.name) (x_letter ∷ name)
          (ap (λ n. x_letter ∷ n) e)) b.0,
    )

rest_kept : (flips : List Flip) (spot : Spot) (t : Trio) (ts : List Trio) (whole : Whole)
    (name : List ℕ) → Kept flips spot (table_of (spread (t ∷ ts))) whole name ≡ true
    → Kept flips spot (table_of (spread ts)) whole name ≡ true
rest_kept flips spot t ts whole name h =
    let a = and_parts (whole name) (survives_in flips spot (table_of (spread (t ∷ ts))) name) h in
    let is = bytes_eq (x_letter ∷ t.name) (x_letter ∷ name) in
    let safe = survives flips spot.bank spot.column (place t t.x) (place t t.y) (place t t.z) in
    let b = and_parts (not is || safe) (survives_in flips spot (table_of (spread ts)) name) a.1 in
    rw (a.0, b.1) refl

pub all_kept : (g : Geometry) (flips : List Flip) (old new : Banks) (spot : Spot) (whole : Whole)
    (ts : List Trio) (os : List Held) → spot.column < column_count g
    → AllByRecursion (IsLong g old) ts → AllByRecursion (IsLong g new) ts
    → AllByRecursion (AllBecomeMost g (all_flipped flips old) new) ts
    → AllLike (element_at g spot) whole (map (held g old (λ t. t.x)) ts) os
    → AllLike (element_at g spot) whole (map (held g old (λ t. t.y)) ts) os
    → AllLike (element_at g spot) whole (map (held g old (λ t. t.z)) ts) os
    → AllLike (element_at g spot) (Kept flips spot (table_of (spread ts)) whole)
    (map (held g new (λ t. t.x)) ts) os
all_kept g flips old new spot whole [] [] fits before after becomes x y z = tt
all_kept g flips old new spot whole [] (o ∷ os) fits before after becomes x y z = absurd x
all_kept g flips old new spot whole (t ∷ ts) [] fits before after becomes x y z = absurd x
all_kept g flips old new spot whole (t ∷ ts) (o ∷ os) fits before after becomes x y z = (
  like_kept g flips old new spot fits t o before.0 after.0 becomes.0 whole
      (Kept flips spot (table_of (spread (t ∷ ts))) whole)
      (head_kept flips spot t ts whole o.name x.0.name) x.0 y.0 z.0,
  weaken (element_at g spot) (Kept flips spot (table_of (spread ts)) whole)
      (Kept flips spot (table_of (spread (t ∷ ts))) whole) (map (held g new (λ t. t.x)) ts) os
      (rest_kept flips spot t ts whole)
      (all_kept g flips old new spot whole ts os fits before.1 after.1 becomes.1 x.1 y.1 z.1),
)
