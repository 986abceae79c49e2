-- A table stays one.
use Rattle.object_alloc.proofs.Common.{false_from_ne_true, ◌≡◌, ◌≢◌, ℕ, ◌+◌, ◌-◌, ◌<◌, ◌≤◌, Bool}
use Rattle.object_alloc.proofs.Common.{true, false, not, List, [], ◌∷◌, ◌++◌, length, get_or, refl}
use Rattle.object_alloc.proofs.Common.{sym, subst, arith, list_all, range_with_len, bytes_eq}
use Rattle.object_alloc.proofs.Common.{nat_tests, list_all_at, All-push, All-filter}
use Rattle.object_alloc.proofs.Common.{bytes_eq-Decides, length-map, get_or-map}
use Rattle.std.proofs.lemmas.Bool.{true_from_ne_false}
use Rattle.std.proofs.Common.{length-append}
use Rattle.std.proofs.lemmas.Bool.Decides.{not_from_Decides}
use Rattle.std.proofs.lemmas.List.Folds.{list_any_at}
use Rattle.std.proofs.lemmas.List.Quantifiers.{all_pairs_push}
use Rattle.std.proofs.lemmas.List.Kept.{AllPairs-filter}
use Rattle.std.proofs.lemmas.List.Filters.{length-filter_both}
use Rattle.object_alloc.specs.declared.table.Object.{Object}
use Rattle.object_alloc.specs.Free.{has_row, is_free, are_free, AreApart, end_of}
use Rattle.object_alloc.specs.Listed.{Named, Listing, IsTable, objects_of, has_name, without}
use Rattle.object_alloc.proofs.Bases.{not_all_range}

-- what holds along a range holds in it
pub in_range : (p : ℕ → Bool) (a n c : ℕ) → list_all p (range_with_len a n) ≡ true → a ≤ c
    → c < a + n → p c ≡ true
in_range p a n c h l m = true_from_ne_false (p c) (λ f. let g = not_all_range p a n c l m f in cc)

-- the rows that a new object takes are in no other
apart_from : (limit : ℕ) (pairs : List Named) (o : Object)
    → are_free limit (objects_of pairs) o.width o.base ≡ true → (k : ℕ) (d : Named)
    → k < length pairs → AreApart (get_or pairs k d).1 o
apart_from limit pairs o h k d l row r = false_from_ne_true (has_row o row) (λ t.
    let rows : (o.base ≤ row) × (row < o.base + o.width) = grind (arith, nat_tests) in
    let free : is_free limit (objects_of pairs) row ≡ true =
    in_range (is_free limit (objects_of pairs)) o.base o.width row h rows.0 rows.1 in
    let clear : list_all (λ p. not (has_row p row)) (objects_of pairs) ≡ true =
    grind (arith, nat_tests) in
    let within : k < length (objects_of pairs) = simp length-map l in
    let at : get_or (objects_of pairs) k d.1 ≡ (get_or pairs k d).1 =
    get_or-map (λ (p : Named). p.1) pairs k d d.1 l in
    let taken : list_all (λ p. not (has_row p row)) (objects_of pairs) ≡ false =
    list_all_at (λ p. not (has_row p row)) (objects_of pairs) k d.1 within (rw at (rw r refl))
    in
    cc)

same_name : (name : List ℕ) → bytes_eq name name ≡ true
same_name name = true_from_ne_false _ (λ f. not_from_Decides _ (bytes_eq-Decides name name) f refl)

name_from : (pairs : List Named) (name : List ℕ) → has_name pairs name ≡ false → (k : ℕ) (d : Named)
    → k < length pairs → (get_or pairs k d).0 ≢ name
name_from pairs name h k d l e =
    let has : has_name pairs name ≡ true = list_any_at (λ p. bytes_eq p.0 name) pairs k d l
    (rw e (same_name name)) in cc

-- one more object
pub IsTable-add : (limit : ℕ) (pairs : List Named) (name : List ℕ) (o : Object)
    → IsTable limit pairs → length pairs < 256 → has_name pairs name ≡ false → 0 < o.width
    → are_free limit (objects_of pairs) o.width o.base ≡ true
    → IsTable limit (pairs ++ (name, o) ∷ [])
IsTable-add limit pairs name o t few new some rows = record {
  few = rw length-append (omega arith);
  within = All-push (λ p. end_of p.1 ≤ limit) pairs (name, o) t.within
      (let last : is_free limit (objects_of pairs) (o.base + o.width - 1)
      ≡ true = in_range (is_free limit (objects_of pairs)) o.base o.width (o.base + o.width - 1)
      rows (omega arith) (omega arith) in grind (arith, nat_tests));
  names = all_pairs_push (λ p q. p.0 ≢ q.0) pairs (name, o) t.names (name_from pairs name new);
  rows = all_pairs_push (λ p q. AreApart p.1 q.1) pairs (
    name,
    o,
  ) t.rows (apart_from limit pairs o rows);
}

-- fewer objects
pub IsTable-without : (limit : ℕ) (pairs : List Named) (name : List ℕ) → IsTable limit pairs
    → IsTable limit (without pairs name)
IsTable-without limit pairs name t = record {
  few = omega (
    arith,
    t.few,
    length-filter_both (λ (p : Named). not (bytes_eq p.0 name))
        (λ (p : Named). not (not (bytes_eq p.0 name))) (λ _. refl) pairs,
  );
  within = All-filter _ (λ p. end_of p.1 ≤ limit) pairs t.within;
  names = AllPairs-filter (λ p q. p.0 ≢ q.0) _ pairs t.names;
  rows = AllPairs-filter (λ p q. AreApart p.1 q.1) _ pairs t.rows;
}

-- the same of a table as it is seen
pub IsTable-added : (limit : ℕ) (pairs : List Named) (seen : Listing)
    → record { limit = limit; pairs = pairs } ≡ seen → (name : List ℕ) (o : Object)
    → IsTable limit pairs → length seen.pairs < 256 → has_name seen.pairs name ≡ false → 0 < o.width
    → are_free seen.limit (objects_of seen.pairs) o.width o.base ≡ true
    → IsTable limit (pairs ++ (name, o) ∷ [])
IsTable-added limit pairs seen e name o t few new some rows =
    IsTable-add limit pairs name o t (subst (λ (v : Listing). length v.pairs < 256) (sym e) few)
    (subst (λ (v : Listing). has_name v.pairs name ≡ false) (sym e) new) some
    (subst (λ (v : Listing). are_free v.limit (objects_of v.pairs) o.width o.base
    ≡ true) (sym e) rows)
