-- The step of a load.
use Rattle.machine_model.proofs.Common.{◌≡◌, ℕ, zero, suc, ◌+◌, ◌-◌, ◌*◌, ◌^◌, ◌<◌, ◌≤◌, true}
use Rattle.machine_model.proofs.Common.{false, not, eqb, leb, List, [], ◌∷◌, length, get_or, map}
use Rattle.machine_model.proofs.Common.{drop, None, refl, sym, ◌∙◌, ap, subst, arith, inl, inr}
use Rattle.machine_model.proofs.Common.{range_with_len, AllByRecursion, replicate, cases_lt}
use Rattle.machine_model.proofs.Common.{nat_tests, map-append, pow_pos, Geometry, Column, Banks}
use Rattle.machine_model.proofs.Common.{after, on_bank_all, number, each_inside, each_after, part}
use Rattle.machine_model.proofs.Common.{all_writes, all_own, Object, has_row, AreApart, Load, Part}
use Rattle.machine_model.proofs.Common.{Place, column_count, padded_to, limit_of, bytes_eq, Bool}
use Rattle.machine_model.proofs.Common.{cond, ◌++◌, Option, Some, length-map, D, below, segments_of}
use Rattle.machine_model.proofs.Common.{writes, taken, taken_before, taken_past, writes_first}
use Rattle.machine_model.proofs.Common.{writes_nothing}
use Rattle.std.specs.List.{flat_map}
use Rattle.std.proofs.lemmas.List.{take_all}
use Rattle.std.proofs.lemmas.Grind.{div_ceil_times}
use Rattle.dram_model.proofs.RowWrites.{writes_numbers, whole, part_length, padded_length}
use Rattle.dram_model.proofs.RowWrites.{all_append, all_take, all_drop, all_zero}
use Rattle.machine_model.specs.declared.Why.{Why}
use Rattle.machine_model.specs.declared.Why.TheVariants as why
use Rattle.machine_model.specs.Columns.{object_size, segments}
use Rattle.machine_model.specs.Routines.{Routines}
use Rattle.machine_model.specs.Refusals.{rows_of, goes_past, is_absent, refusal, when, at_place}
use Rattle.machine_model.specs.Places.{cut, is_past, put, put_all}
use Rattle.machine_model.proofs.Sliced.{replaces, has_from}
use Rattle.machine_model.specs.Columns.{columns}
use Rattle.machine_model.specs.Steps.{table_of, load_events, with_results}
use Rattle.machine_model.specs.Agrees.{Agrees}
use Rattle.machine_model.proofs.Facts.{first_none, when_none, place_none, not_false, operand_is}
use Rattle.machine_model.proofs.Places.{no_one}
use Rattle.machine_model.proofs.Bbops.{placed_at}
use Rattle.machine_model.proofs.Loads.{writes_others, writes_length}
use Rattle.machine_model.proofs.Steps.{StepAgrees, with_results_agrees, operand_within, done_or_not, idle}

-- no value is past the width
all_small : (limit k : ℕ) (w : ℕ → Why) (vs : List ℕ)
    → at_place w k (map (λ v. leb limit v) vs) ≡ None → AllByRecursion (λ v. v < limit) vs
all_small limit k w [] h = tt
all_small limit k w (v ∷ vs) h =
    let here = place_none w k (leb limit v) (map (λ v. leb limit v) vs) h in
    let big : leb limit v ≡ false = here.0 in
    (grind (arith, nat_tests), all_small limit (k + 1) w vs here.1)

same_parts : (f : Column → ℕ) (new old : Banks) (a n : ℕ)
    → ((b : ℕ) → a ≤ b → b < a + n → map f (new b) ≡ map f (old b))
    → map f (flat_map new (range_with_len a n)) ≡ map f (flat_map old (range_with_len a n))
same_parts f new old a zero e = refl
same_parts f new old a (suc n) e =
    rw (
      map-append f (new a) (flat_map new (range_with_len (a + 1) n)),
      map-append f (old a) (flat_map old (range_with_len (a + 1) n)),
      e a (omega arith) (omega arith),
      same_parts f new old (a + 1) n (λ b l m.
          e b (omega arith) (omega arith)),
    ) refl

-- a column with a value in n rows
taken_here : (base v n : ℕ) (s : Column) → v < 2 ^ n → number base n (taken base v 0 n s) ≡ v
taken_here base v n s h =
    ap (λ (xs : List Column). get_or (map (number base n) xs) 0 0) (sym (writes_first 0 base v 0 n [] s []))
    ∙ ap (λ ys. get_or ys 0 0) (writes_numbers 0 base n (v ∷ []) (s ∷ []) refl (h, tt))

outside : (o : Object) (v row : ℕ) (s : Column) → has_row o row ≡ false
    → taken o.base v 0 o.width s (D row) ≡ s (D row)
outside o v row s h = elim (cases_lt row o.base) [
  | inl lt ↦ taken_before o.base v 0 o.width row s (omega arith)
  | inr ge ↦ elim (cases_lt row (o.base + o.width)) [
    | inl lt ↦ let has = has_from o row ge lt in cc
    | inr past ↦ taken_past o.base v 0 o.width row s (omega arith)
  ]
]

-- a column with a value in a part of an object
put_column : (o : Object) (part : Option Part) (v : ℕ) (s : Column) → is_past part o ≡ false
    → v < 2 ^ (cut part o).width
    → number o.base o.width (taken (cut part o).base v 0 (cut part o).width s)
    ≡ put part (number o.base o.width s) v
put_column o None v s h small = taken_here o.base v o.width s small
put_column o (Some p) v s h small =
    replaces o p s (taken (o.base + p.low) v 0 p.size s) h
    (λ row has not. outside (cut (Some p) o) v row s not)
    ∙ ap (put (Some p) (number o.base o.width s)) (taken_here (o.base + p.low) v p.size s small)

bank_put : (bank : ℕ) (o : Object) (part : Option Part) (vs : List ℕ) (columns : List Column)
    → is_past part o ≡ false → length columns ≡ length vs
    → AllByRecursion (λ v. v < 2 ^ (cut part o).width) vs
    → map (number o.base o.width)
    (on_bank_all (writes bank (cut part o).base vs 0 (cut part o).width) columns)
    ≡ put_all part (map (number o.base o.width) columns) vs
bank_put bank o part [] [] h e small =
    rw (writes_nothing bank (cut part o).base 0 (cut part o).width []) refl
bank_put bank o part [] (s ∷ columns) h e small = absurd (omega arith)
bank_put bank o part (v ∷ vs) [] h e small = absurd (omega arith)
bank_put bank o part (v ∷ vs) (s ∷ columns) h e small =
    rw (
      writes_first bank (cut part o).base v 0 (cut part o).width vs s columns,
      put_column o part v s h small.0,
    ) (ap (λ rest. put part (number o.base o.width s) v ∷ rest)
    (bank_put bank o part vs columns h (omega arith) small.1))

put_append : (part : Option Part) (xs us ys vs : List ℕ) → length xs ≡ length us
    → put_all part (xs ++ ys) (us ++ vs) ≡ put_all part xs us ++ put_all part ys vs
put_append part [] [] ys vs e = refl
put_append part [] (u ∷ us) ys vs e = absurd (omega arith)
put_append part (x ∷ xs) [] ys vs e = absurd (omega arith)
put_append part (x ∷ xs) (u ∷ us) ys vs e = ap (λ rest. put part x u ∷ rest)
    (put_append part xs us ys vs (omega arith))

banks_put : (part : Option Part) (f : Column → ℕ) (new old : Banks) (P : ℕ → List ℕ) (a n : ℕ)
    → ((b : ℕ) → a ≤ b → b < a + n → map f (new b) ≡ put_all part (map f (old b)) (P b))
    → ((b : ℕ) → a ≤ b → b < a + n → length (old b) ≡ length (P b))
    → map f (flat_map new (range_with_len a n))
    ≡ put_all part (map f (flat_map old (range_with_len a n))) (flat_map P (range_with_len a n))
banks_put part f new old P a zero e l = refl
banks_put part f new old P a (suc n) e l =
    let long : length (map f (old a)) ≡ length (P a) = simp length-map (l a (omega arith) (omega arith)) in
    rw (
      map-append f (new a) (flat_map new (range_with_len (a + 1) n)),
      map-append f (old a) (flat_map old (range_with_len (a + 1) n)),
      e a (omega arith) (omega arith),
      banks_put part f new old P (a + 1) n (λ b x y. e b (omega arith) (omega arith))
          (λ b x y. l b (omega arith) (omega arith)),
    ) (sym (put_append part (map f (old a)) (P a) (map f (flat_map old (range_with_len (a + 1) n)))
    (flat_map P (range_with_len (a + 1) n)) long))

by_name : (b : Bool) (left olds : List ℕ) (part : Option Part) (news : List ℕ)
    → (b ≡ true → left ≡ put_all part olds news) → (b ≡ false → left ≡ olds)
    → left ≡ cond b (put_all part olds news) olds
by_name true left olds part news x y = x refl
by_name false left olds part news x y = y refl

pub load_agrees : (g : Geometry) (operations : Routines) (meaning : List ℕ → ℕ → List ℕ
    → List ℕ) (place : Place) (vs : _) → 0 < g.words
    → StepAgrees g operations meaning (Load place vs)
load_agrees g operations meaning place vs words banks state a =
    let table = table_of state in
    let o = rows_of table place in
    let w = column_count g in
    let nums = padded_to (object_size g o) vs in
    let new = after (load_events g o vs) banks in
    done_or_not g (refusal g operations table (Load place vs)) _ banks _ state (λ h.
    let c3 = at_place why.Range 1 (map (λ v. leb (2 ^ o.width) v) vs) ∷ [] in
    let is = operand_is (is_absent table place.name) (goes_past table place)
    (when (not (eqb (length vs) o.count)) why.Count ∷ c3) h in
    let count = first_none (when (not (eqb (length vs) o.count)) why.Count) c3 is.2 in
    let range = first_none (at_place why.Range 1 (map (λ v. leb (2 ^ o.width) v) vs)) [] count.1 in
    let inside = operand_within g banks state place a (not_false _ is.0) in
    let tested : eqb (length vs) o.count ≡ true = not_false _ (when_none _ _ count.0) in
    let counted : length vs ≡ o.count = grind (arith, nat_tests) in
    let room : o.count ≤ object_size g o = omega (arith, (div_ceil_times o.count w (omega arith)).0)
    in
    let long : length nums ≡ w * segments g o =
    padded_length (object_size g o) vs (omega (arith, counted, room)) in
    let small : AllByRecursion (λ v. v < 2 ^ o.width) nums =
    all_append (λ v. v < 2 ^ o.width) vs (replicate (object_size g o - length vs) 0)
    (all_small (2 ^ o.width) 1 why.Range vs range.0)
    (all_zero (λ v. v < 2 ^ o.width) (object_size g o - length vs) (pow_pos o.width)) in
    let in_bank : (bank : ℕ) → bank < segments g o
    → new bank ≡ on_bank_all (all_writes w o.base o.width nums bank) (banks bank) =
    λ bank l. each_inside (all_writes w o.base o.width nums) 0 (segments g o) banks bank
    (all_own w o.base o.width nums) (omega arith) (omega arith) in
    let past : (bank : ℕ) → segments g o ≤ bank → new bank ≡ banks bank =
    λ bank l. each_after (all_writes w o.base o.width nums) 0 (segments g o) banks bank
    (all_own w o.base o.width nums) (omega arith) in
    let fits : (bank : ℕ) → bank < segments g o → length (banks bank) ≡ length (part w nums bank) =
    λ bank l. a.shaped bank (omega (arith, l, inside))
    ∙ sym (part_length w (segments g o) nums bank long l) in
    let result : ℕ → List ℕ = λ k. nums in
    let others : (i : ℕ) → i < length state → AreApart (get_or state i no_one).object o
    → columns g new (get_or state i no_one).object ≡ columns g banks (get_or state i no_one).object =
    λ i l apart. let p = (get_or state i no_one).object in
    same_parts (number p.base p.width) new banks 0 (segments g p) (λ b x y.
    elim (cases_lt b (segments g o)) [
      | inl lt ↦ ap (map (number p.base p.width)) (in_bank b lt)
          ∙ writes_others b o.base o.width p (part w nums b) (banks b) (fits b lt)
          (λ row m n out. let free = apart row (has_from p row m n) in row_past o row free out)
      | inr ge ↦ ap (map (number p.base p.width)) (past b ge)
    ]) in
    let own : (i : ℕ) → i < length state → (rows_of table place ≡ cut place.part
    (get_or state i no_one).object) → is_past place.part (get_or state i no_one).object ≡ false
    → (get_or state i no_one).object.count ≡ o.count
    → columns g new (get_or state i no_one).object
    ≡ put_all place.part (columns g banks (get_or state i no_one).object) nums =
    λ i l same ends c. let p = (get_or state i no_one).object in
    ap (λ k. map (number p.base p.width) (below k new)) (ap (segments_of g) c)
    ∙ banks_put place.part (number p.base p.width) new banks (part w nums) 0 (segments g o)
    (λ b x y. ap (map (number p.base p.width)) (in_bank b (omega arith))
    ∙ ap (λ (q : Object). map (number p.base p.width)
    (on_bank_all (writes b q.base (part w nums b) 0 q.width) (banks b))) same
    ∙ bank_put b p place.part (part w nums b) (banks b) ends (fits b (omega arith))
    (subst (λ (q : Object). AllByRecursion (λ v. v < 2 ^ q.width) (part w nums b)) same
    (all_take (λ v. v < 2 ^ o.width) w (drop (b * w) nums)
    (all_drop (λ v. v < 2 ^ o.width) (b * w) nums small))))
    (λ b x y. fits b (omega arith))
    ∙ ap (put_all place.part (map (number p.base p.width) (below (segments g o) banks)))
    (whole w (segments g o) nums ∙ take_all (segments g o * w) nums (omega (arith, long)))
    ∙ ap (λ k. put_all place.part (map (number p.base p.width) (below k banks)) nums)
    (ap (segments_of g) (sym c)) in
    subst (λ (b : Banks). Agrees g (after (load_events g o vs) b)
    (with_results state result (place ∷ []))) (sym (idle [] banks))
    (with_results_agrees g banks new state result (place ∷ []) a
    (λ bank l. elim (cases_lt bank (segments g o)) [
      | inl lt ↦ ap length (in_bank bank lt) ∙ writes_length bank o.base o.width (part w nums bank)
          (banks bank) (fits bank lt) ∙ a.shaped bank l
      | inr ge ↦ ap length (past bank ge) ∙ a.shaped bank l
    ])
    (λ i l. let at = placed_at (limit_of g) state i place a.table l is.1 in
    by_name (bytes_eq (get_or state i no_one).name place.name)
    (columns g new (get_or state i no_one).object) (get_or state i no_one).numbers place.part nums
    (λ e. let q = at.own e in own i l q.0 q.1 q.2
    ∙ ap (λ ns. put_all place.part ns nums) (a.numbers i no_one l))
    (λ e. others i l (at.other e) ∙ a.numbers i no_one l)))) a where
      row_past : (o : Object) (row : ℕ) → has_row o row ≡ false → (row < o.base → ⊥)
          → o.base + o.width ≤ row
      row_past o row h out = elim (cases_lt row (o.base + o.width)) [
        | inl lt ↦ elim (cases_lt row o.base) [
          | inl b ↦ absurd (out b)
          | inr ge ↦ let has = has_from o row ge lt in cc
        ]
        | inr ge ↦ ge
      ]
