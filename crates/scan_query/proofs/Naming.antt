-- Free names, gathered one by one, and what is looked up under a name.
use Rattle.scan_query.proofs.Common.{◌≡◌, ℕ, zero, suc, ◌+◌, ◌/◌, ◌^◌, ◌<◌, ◌≤◌, Bool, true, false}
use Rattle.scan_query.proofs.Common.{not, cond, List, [], ◌∷◌, ◌++◌, map, length, take, Option}
use Rattle.scan_query.proofs.Common.{Some, refl, sym, ◌∙◌, ap, arith, get_or, filter, is_none}
use Rattle.scan_query.proofs.Common.{range_with_len, option_map, bytes_eq, map-append, pow_pos}
use Rattle.scan_query.proofs.Common.{pow-le-pow_right, Named, has_name, free_among, free_name}
use Rattle.std.specs.Prelude.{nat_le, nat_lt, nat_eq, ◌||◌}
use Rattle.std.specs.List.{find}
use Rattle.std.proofs.lemmas.Bool.Decides.{nat_tests}
use Rattle.std.proofs.lemmas.List.{get_or-take}
use Rattle.std.proofs.Math.Nat.{div-lt_iff_lt-mul}
use Rattle.object_alloc.specs.Listed.{look_up}
use Rattle.scan_model.specs.Names.{scan_name}

free_case : (b : Bool) (p : Named) (found : Option Named) (rest : Bool)
    → is_none (option_map (λ (q : Named). q.1) found) ≡ not rest
    → is_none (option_map (λ (q : Named). q.1) (cond b (Some p) found)) ≡ not (b || rest)
free_case true p found rest e = refl
free_case false p found rest e = e

pub free_is : (table : List Named) (name : List ℕ)
    → is_none (look_up table name) ≡ not (has_name table name)
free_is [] name = refl
free_is (p ∷ table) name = free_case (bytes_eq p.0 name) p (find (λ q. bytes_eq q.0 name) table)
    (has_name table name) (free_is table name)

-- a short front takes one more
pub take_few : (n : ℕ) (xs : List (List ℕ)) (y : List ℕ) → length (take n xs) < n
    → take n xs ++ y ∷ [] ≡ take n (xs ++ y ∷ [])
take_few zero xs y l = absurd (omega (arith, l))
take_few (suc zero) [] y l = refl
take_few (suc (suc n)) [] y l = refl
take_few (suc n) (x ∷ xs) y l = ap (λ rest. x ∷ rest) (take_few n xs y (omega (arith, l)))

-- a full one none
pub take_full : (n : ℕ) (xs ys : List (List ℕ)) → n ≤ length (take n xs)
    → take n xs ≡ take n (xs ++ ys)
take_full zero xs ys l = refl
take_full (suc n) [] ys l = absurd (omega (arith, l))
take_full (suc n) (x ∷ xs) ys l = ap (λ rest. x ∷ rest) (take_full n xs ys (omega (arith, l)))

pub take_all_of : (n : ℕ) (xs : List (List ℕ)) → n ≤ length xs → length (take n xs) ≡ n
take_all_of zero xs l = refl
take_all_of (suc n) [] l = absurd (omega (arith, l))
take_all_of (suc n) (x ∷ xs) l = let r = take_all_of n xs (omega (arith, l)) in omega (arith, r)

pub range_more : (a n : ℕ) → range_with_len a (suc n) ≡ range_with_len a n ++ (a + n) ∷ []
range_more a zero = let same : a ≡ a + 0 = omega arith in ap (λ k. k ∷ []) same
range_more a (suc n) = let same : a + 1 + n ≡ a + suc n = omega arith in
    ap (λ rest. a ∷ rest) (range_more (a + 1) n
    ∙ ap (λ k. range_with_len (a + 1) n ++ k ∷ []) same)

filter_append : (p : List ℕ → Bool) (xs ys : List (List ℕ))
    → filter p (xs ++ ys) ≡ filter p xs ++ filter p ys
filter_append p [] ys = refl
filter_append p (x ∷ xs) ys = by_case (p x) (filter_append p xs ys) where
  by_case : (b : Bool) → filter p (xs ++ ys) ≡ filter p xs ++ filter p ys
      → cond b (x ∷ filter p (xs ++ ys)) (filter p (xs ++ ys))
      ≡ cond b (x ∷ filter p xs) (filter p xs) ++ filter p ys
  by_case true e = ap (λ rest. x ∷ rest) e
  by_case false e = e

pub free_more : (table : List Named) (n : ℕ) → free_among table (n + 1) ≡ free_among table n
    ++ filter (λ name. not (has_name table name)) (scan_name n ∷ [])
free_more table n =
    let next : n + 1 ≡ suc n = omega arith in
    ap (λ k. free_among table k) next
    ∙ ap (λ ks. filter (λ name. not (has_name table name)) (map scan_name ks)) (range_more 0 n)
    ∙ ap (filter (λ name. not (has_name table name)))
    (map-append scan_name (range_with_len 0 n) ((0 + n) ∷ []))
    ∙ filter_append (λ name. not (has_name table name)) (map scan_name (range_with_len 0 n))
    (scan_name (0 + n) ∷ [])
    ∙ ap (λ k. free_among table n ++ filter (λ name. not (has_name table name))
    (scan_name k ∷ [])) (zero_more n) where
      zero_more : (n : ℕ) → 0 + n ≡ n
      zero_more n = omega arith

low_quotient : (v p q : ℕ) → (q < 1 → v < p) → (v < p → q < 1) → not (nat_eq q 0) ≡ nat_le p v
low_quotient v p zero a b = let l = a (omega arith) in grind (arith, nat_tests)
low_quotient v p (suc q) a b = ap not some ∙ by_case (nat_le p v) refl where
  some : nat_eq (suc q) 0 ≡ false
  some = grind (arith, nat_tests)

  by_case : (t : Bool) → nat_le p v ≡ t → true ≡ nat_le p v
  by_case true e = sym e
  by_case false e = let l : v < p = grind (arith, nat_tests) in absurd (omega (arith, b l))

-- more bits than a width has
pub wider : (v n : ℕ) → not (nat_eq (v / 2 ^ n) 0) ≡ nat_le (2 ^ n) v
wider v n =
    let h = div-lt_iff_lt-mul {k = 2 ^ n} {x = v} {y = 1} (pow_pos n) in
    low_quotient v (2 ^ n) (v / 2 ^ n) (λ l. let m = h.0 l in omega (arith, m))
    (λ l. h.1 (omega (arith, l)))

pub never_wider : (v n : ℕ) → v < 2 ^ 128 → 128 ≤ n → nat_lt n 128 ≡ nat_le (2 ^ n) v
never_wider v n l wide =
    let big : 2 ^ 128 ≤ 2 ^ n = pow-le-pow_right {n = 2} (omega arith) wide in
    not_below n 128 wide ∙ sym (not_less v (2 ^ n) (omega (arith, l, big))) where
      not_less : (v p : ℕ) → v < p → nat_le p v ≡ false
      not_less v p l = grind (arith, nat_tests)

      not_below : (n m : ℕ) → m ≤ n → nat_lt n m ≡ false
      not_below n m l = grind (arith, nat_tests)

pub named_at : (table : List Named) (k : ℕ) → k ≤ 64
    → get_or (take 65 (free_among table (length table + 65))) k [] ≡ free_name table k
unfolding free_name
named_at table k l = get_or-take 65 (free_among table (length table + 65)) k [] (omega (arith, l))
