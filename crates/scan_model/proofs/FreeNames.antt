-- Names that are free: there are enough, and they differ.
use Rattle.scan_model.proofs.Common.{◌≡◌, ℕ, zero, suc, ◌+◌, ◌^◌, ◌<◌, ◌≤◌, Bool, true, false, not}
use Rattle.scan_model.proofs.Common.{◌&&◌, cond, leb, List, [], ◌∷◌, map, length, get_or, drop}
use Rattle.scan_model.proofs.Common.{refl, sym, ◌∙◌, ap, subst, arith, inl, inr, filter, ◌||◌}
use Rattle.scan_model.proofs.Common.{range_with_len, bytes_eq, nat_tests, fits_name, Named}
use Rattle.scan_model.proofs.Common.{has_name, same_bytes, bytes_differ}
use Rattle.std.proofs.lemmas.Bool.{and_from, or_right, cases_lt}
use Rattle.std.specs.Prelude.{decimal}
use Rattle.std.specs.Char.{is_ascii_digit, digit_value}
use Rattle.std.specs.Str.Parse.{AllDigits}
use Rattle.std.specs.List.{list_all}
use Rattle.text_lex.specs.Bytes.{is_name_start, is_name_byte}
use Rattle.std.proofs.lemmas.Fmt.{decimal_injective, decimal_is_IsNumeral, length-decimal-le}
use Rattle.scan_model.specs.Names.{scan_name, free_among, free_name}
use Rattle.scan_model.specs.Laws.{NamesAreFree, NamesAreCounted}

pub names_are_their_numbers : (i j : ℕ) → i < 2 ^ 64 → j < 2 ^ 64 → scan_name i ≡ scan_name j
    → i ≡ j
names_are_their_numbers i j a b e = decimal_injective i j a b (ap (drop 5) e)

abbrev free_of : List Named → List ℕ → Bool
free_of table name = not (has_name table name)

abbrev among : List Named → ℕ → ℕ → List (List ℕ)
among table a n = filter (free_of table) (map scan_name (range_with_len a n))

all_free : (a n : ℕ) → length (among [] a n) ≡ n
all_free a zero = refl
all_free a (suc n) = let r = all_free (a + 1) n in omega (arith, r)

-- a name that stands before the range is not in it
same_rest : (p : Named) (table : List Named) (i a n : ℕ) → i < a → a + n < 2 ^ 64
    → p.0 ≡ scan_name i → among (p ∷ table) a n ≡ among table a n
same_rest p table i a zero l m e = refl
same_rest p table i a (suc n) l m e =
    let other : bytes_eq p.0 (scan_name a) ≡ false =
    bytes_differ p.0 (scan_name a) (λ f. absurd
    (less i a l (names_are_their_numbers i a (omega (arith, l, m)) (omega (arith, m)) (sym e
    ∙ f)))) in
    rw (other, same_rest p table i (a + 1) n (omega (arith, l)) (omega (arith, m)) e) refl where
      less : (i a : ℕ) → i < a → i ≡ a → ⊥
      less i a l e = absurd (omega (arith, l, e))

-- one object more takes one name at most
one_less : (p : Named) (table : List Named) (a n : ℕ) → a + n < 2 ^ 64
    → length (among table a n) ≤ length (among (p ∷ table) a n) + 1
one_less p table a zero m = omega arith
one_less p table a (suc n) m = by_case (one_less p table (a + 1) n (omega (arith, m)))
    (bytes_eq p.0 (scan_name a)) refl where
      grow : (b : Bool) (x : List ℕ) (xs ys : List (List ℕ)) → length xs ≤ length ys + 1
          → length (cond b (x ∷ xs) xs) ≤ length (cond b (x ∷ ys) ys) + 1
      grow true x xs ys l = omega (arith, l)
      grow false x xs ys l = l

      most : (b : Bool) (x : List ℕ) (xs : List (List ℕ))
          → length (cond b (x ∷ xs) xs) ≤ length xs + 1
      most true x xs = omega arith
      most false x xs = omega arith

      by_case : length (among table (a + 1) n) ≤ length (among (p ∷ table) (a + 1) n) + 1
          → (b : Bool) → bytes_eq p.0 (scan_name a) ≡ b → length (among table a (suc n)) ≤ length
          (among (p ∷ table) a (suc n)) + 1
      by_case go true e =
          rw (
            e,
            same_rest p table a (a + 1) n (omega arith) (omega (arith, m))
                (same_bytes p.0 (scan_name a) e),
          ) (most (free_of table (scan_name a)) (scan_name a)
          (among table (a + 1) n))
      by_case go false e = rw e (grow (free_of table (scan_name a)) (scan_name a)
          (among table (a + 1) n) (among (p ∷ table) (a + 1) n) go)

enough : (table : List Named) (a n : ℕ) → a + n < 2 ^ 64
    → n ≤ length (among table a n) + length table
enough [] a n m = let r = all_free a n in omega (arith, r)
enough (p ∷ table) a n m = let r = enough table a n m in let q = one_less p table a n m in
    omega (arith, r, q)

-- the number of the free name at a place
place : (List ℕ → Bool) → ℕ → ℕ → ℕ → ℕ
place p a zero k = a
place p a (suc n) zero = cond (p (scan_name a)) a (place p (a + 1) n zero)
place p a (suc n) (suc k) = cond (p (scan_name a)) (place p (a + 1) n k)
    (place p (a + 1) n (suc k))

-- what stands at a place of those that pass
record At (p : List ℕ → Bool) (a n k : ℕ) : Type 0 where
  from : a ≤ place p a n k
  below : place p a n k < a + n
  is : get_or (filter p (map scan_name (range_with_len a n))) k [] ≡ scan_name (place p a n k)
  passes : p (scan_name (place p a n k)) ≡ true

at : (p : List ℕ → Bool) (a n k : ℕ) → k < length (filter p (map scan_name (range_with_len a n)))
    → At p a n k
unfolding place
at p a zero k l = absurd (omega (arith, l))
at p a (suc n) zero l = by_case (λ k m. at p (a + 1) n k m) (p (scan_name a)) refl where
  by_case : ((k : ℕ) → k < length (filter p (map scan_name (range_with_len (a + 1) n)))
      → At p (a + 1) n k) → (b : Bool) → p (scan_name a) ≡ b → At p a (suc n) zero
  by_case go true e = record {
    from = rw e (omega arith);
    below = rw e (omega arith);
    is =
        rw e refl;
    passes = rw e e;
  }
  by_case go false e =
      let r = go zero (rw e at l) in
      record {
        from = rw e (omega (arith, r.from));
        below = rw e (omega (arith, r.below));
        is =
            rw e r.is;
        passes = rw e r.passes;
      }
at p a (suc n) (suc k) l = by_case (λ k m. at p (a + 1) n k m) (p (scan_name a)) refl where
  by_case : ((k : ℕ) → k < length (filter p (map scan_name (range_with_len (a + 1) n)))
      → At p (a + 1) n k) → (b : Bool) → p (scan_name a) ≡ b → At p a (suc n) (suc k)
  by_case go true e =
      let m = rw e at l in
      let r = go k (omega (arith, m)) in
      record {
        from = rw e (omega (arith, r.from));
        below = rw e (omega (arith, r.below));
        is =
            rw e r.is;
        passes = rw e r.passes;
      }
  by_case go false e =
      let r = go (suc k) (rw e at l) in
      record {
        from = rw e (omega (arith, r.from));
        below = rw e (omega (arith, r.below));
        is =
            rw e r.is;
        passes = rw e r.passes;
      }

rises : (p : List ℕ → Bool) (a n j k : ℕ) → j < k
    → k < length (filter p (map scan_name (range_with_len a n))) → place p a n j < place p a n k
unfolding place
rises p a zero j k i l = absurd (omega (arith, l))
rises p a (suc n) j zero i l = absurd (omega (arith, i))
rises p a (suc n) zero (suc k) i l = by_case (λ j k i l. rises p (a + 1) n j k i l)
    (p (scan_name a)) refl where
      by_case : ((j k : ℕ) → j < k
          → k < length (filter p (map scan_name (range_with_len (a + 1) n)))
          → place p (a + 1) n j < place p (a + 1) n k) → (b : Bool) → p (scan_name a) ≡ b
          → place p a (suc n) zero < place p a (suc n) (suc k)
      by_case go true e = let m = rw e at l in let r = at p (a + 1) n k (omega (arith, m)) in
          rw e (omega (arith, r.from))
      by_case go false e = rw e (go zero (suc k) i (rw e at l))
rises p a (suc n) (suc j) (suc k) i l = by_case (λ j k i l. rises p (a + 1) n j k i l)
    (p (scan_name a)) refl where
      by_case : ((j k : ℕ) → j < k
          → k < length (filter p (map scan_name (range_with_len (a + 1) n)))
          → place p (a + 1) n j < place p (a + 1) n k) → (b : Bool) → p (scan_name a) ≡ b
          → place p a (suc n) (suc j) < place p a (suc n) (suc k)
      by_case go true e = let m = rw e at l in rw e (go j k (omega (arith, i)) (omega (arith, m)))
      by_case go false e = rw e (go (suc j) (suc k) i (rw e at l))

-- there are more free names than a scan needs
pub many : (table : List Named) (k : ℕ) → length table ≤ 256 → k ≤ 64
    → k < length (free_among table (length table + 65))
many table k few l = let r = enough table 0 (length table + 65) (omega (arith, few)) in
    omega (arith, r, l)

at_name : (table : List Named) (k : ℕ) → length table ≤ 256 → k ≤ 64
    → At (free_of table) 0 (length table + 65) k
at_name table k few l = at (free_of table) 0 (length table + 65) k (many table k few l)

not_true : (b : Bool) → not b ≡ true → b ≡ false
not_true true e = cc
not_true false e = refl

is_free : (table : List Named) (k : ℕ) → length table ≤ 256 → k ≤ 64
    → has_name table (free_name table k) ≡ false
unfolding free_name
is_free table k few l = let r = at_name table k few l in not_true _ (ap (free_of table) r.is
    ∙ r.passes)

no_rise : (table : List Named) (j k : ℕ) → length table ≤ 256 → j < k → k ≤ 64
    → free_name table j ≡ free_name table k → ⊥
unfolding free_name
no_rise table j k few i l e =
    let a = at_name table j few (omega (arith, i, l)) in
    let b = at_name table k few l in
    let r = rises (free_of table) 0 (length table + 65) j k i (many table k few l) in
    let same = names_are_their_numbers _ _ (omega (arith, a.below, few))
    (omega (arith, b.below, few)) (sym a.is ∙ e ∙ b.is) in
    absurd (omega (arith, r, same))

differ_by : (table : List Named) (j k : ℕ) → length table ≤ 256 → j ≤ 64 → k ≤ 64
    → free_name table j ≡ free_name table k → j ≡ k
differ_by table j k few l m e =
    elim (cases_lt j k) [
      | inl lt ↦ absurd (no_rise table j k few lt m e)
      | inr ge ↦ elim (cases_lt k j) [
        | inl lt ↦ absurd (no_rise table k j few lt l (sym e))
        | inr le ↦ omega (arith, ge, le)
      ]
    ]

digit_byte : (c : ℕ) → digit_value c < 10 → is_ascii_digit c ≡ true
digit_byte c h = grind (arith, nat_tests)

digits_fit : (cs : List ℕ) → AllDigits 10 cs → list_all is_name_byte cs ≡ true
digits_fit [] all = refl
digits_fit (c ∷ cs) all = and_from (is_name_byte c) (list_all is_name_byte cs)
    (or_right (is_name_start c) (is_ascii_digit c) (digit_byte c all.0)) (digits_fit cs all.1)

at_most : (a b : ℕ) → a ≤ b → leb a b ≡ true
at_most a b h = grind (arith, nat_tests)

-- the names of a scan's objects are names
pub scan_fits : (i : ℕ) → i < 1000 → fits_name (scan_name i) ≡ true
scan_fits i l =
    let n = decimal_is_IsNumeral i (omega (arith, l)) in
    let long = length-decimal-le 3 i (omega arith) (omega (arith, l)) (omega (arith, l)) in
    and_from (list_all is_name_byte (decimal i)) (leb (length (scan_name i)) 16)
    (digits_fit (decimal i) n.0.1) (at_most (length (scan_name i)) 16 (omega (arith, long)))

name_fits : (table : List Named) (k : ℕ) → length table ≤ 256 → k ≤ 64
    → fits_name (free_name table k) ≡ true
unfolding free_name
name_fits table k few l = let r = at_name table k few l in ap fits_name r.is
    ∙ scan_fits (place (free_of table) 0 (length table + 65) k) (omega (arith, r.below, few))

pub names_are_free : NamesAreFree
names_are_free = record { free = is_free; fit = name_fits; differ = differ_by }

abbrev passing : (List ℕ → Bool) → ℕ → ℕ → List (List ℕ)
passing p a n = filter p (map scan_name (range_with_len a n))

-- the next that passes stands after those before it
next_passing : (p : List ℕ → Bool) (a n i : ℕ) → i < n → p (scan_name (a + i)) ≡ true
    → get_or (passing p a n) (length (passing p a i)) [] ≡ scan_name (a + i)
next_passing p a zero i l e = absurd (omega (arith, l))
next_passing p a (suc n) zero l e =
    let same : a + 0 ≡ a = omega arith in
    let h : p (scan_name a) ≡ true = subst (λ (k : ℕ). p (scan_name k) ≡ true) same e in
    rw h (ap scan_name (sym same))
next_passing p a (suc n) (suc i) l e = step (p (scan_name a)) (ap (λ (k : ℕ). scan_name k) same)
    (next_passing p (a + 1) n i (omega (arith, l))
    (subst (λ (k : ℕ). p (scan_name k) ≡ true) (sym same) e)) where
      same : a + 1 + i ≡ a + suc i
      same = omega arith

      step : (b : Bool) → scan_name (a + 1 + i) ≡ scan_name (a + suc i)
          → get_or (passing p (a + 1) n) (length (passing p (a + 1) i)) [] ≡ scan_name (a + 1 + i)
          → get_or (cond b (scan_name a ∷ passing p (a + 1) n) (passing p (a + 1) n))
          (length (cond b (scan_name a ∷ passing p (a + 1) i) (passing p (a + 1) i))) []
          ≡ scan_name (a + suc i)
      step true s r = r ∙ s
      step false s r = r ∙ s

pub names_are_counted : NamesAreCounted
unfolding free_name
names_are_counted table i l h =
    let same : 0 + i ≡ i = omega arith in
    next_passing (free_of table) 0 (length table + 65) i l
    (subst (λ (k : ℕ). free_of table (scan_name k) ≡ true) (sym same) (ap not h))
    ∙ ap scan_name same
