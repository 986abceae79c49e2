-- The instructions of one node.
use Rattle.scan_model.proofs.Common.{◌≡◌, ◌≢◌, ℕ, zero, suc, ◌+◌, ◌*◌, ◌^◌, ◌<◌, ◌≤◌, Bool, false}
use Rattle.scan_model.proofs.Common.{not, List, [], ◌∷◌, ◌++◌, map, length, get_or, Option, Some}
use Rattle.scan_model.proofs.Common.{None, refl, sym, ◌∙◌, ap, subst, arith, codes, range_with_len}
use Rattle.scan_model.proofs.Common.{length-range_with_len, length-map, bit_number, WIDTH_MAX, Kind}
use Rattle.scan_model.proofs.Common.{Word, Bit, Geometry, column_count, Object, Part, Place, Bbop}
use Rattle.scan_model.proofs.Common.{Fill, Free, whole, IsWidth, object_size, cut, is_past, seen}
use Rattle.scan_model.proofs.Common.{Routines, refusal, rows_of, Held, table_of, numbers_at}
use Rattle.scan_model.proofs.Common.{with_results, worded}
use Rattle.std.specs.Prelude.{replicate}
use Rattle.std.specs.Int.{div_ceil}
use Rattle.std.proofs.lemmas.List.FromFn.{get_or-map-range_with_len}
use Rattle.std.proofs.lemmas.List.{get_or-replicate, length-replicate}
use Rattle.machine_model.specs.Steps.{computed, new_object}
use Rattle.scan_model.specs.declared.CmpOp.{CmpOp}
use Rattle.scan_model.specs.declared.CmpOp.TheVariants as cmp
use Rattle.scan_model.specs.Queries.{compared}
use Rattle.scan_model.specs.Instructions.{op_for, sources_for, compare_with, join_one, join_two}
use Rattle.scan_model.specs.Laws.{Offers, OffersScan, MeansScan, IsHeld, Leaves}
use Rattle.scan_model.proofs.States.{lookup, at_append, at_last, absent_append, at_object}
use Rattle.scan_model.proofs.States.{place_numbers, whole_numbers, renumbered, with_last, dropped}
use Rattle.scan_model.proofs.States.{dropped-append}
use Rattle.scan_model.proofs.States.{dropped-between, dropped-other}
use Rattle.scan_model.proofs.Goes.{Meaning, Goes, Allowed, one, next}
use Rattle.scan_model.proofs.Refused.{IsUsed, init_allowed, fill_allowed, free_allowed}
use Rattle.scan_model.proofs.Refused.{two_allowed, one_allowed}
use Rattle.scan_model.proofs.Parts.{SomeBits, part_wide, cut_count, seen_at, seen_fits}

pub range_same : {X : Type 0} (f h : ℕ → X) (a n : ℕ) → ((e : ℕ) → a ≤ e → e < a + n → f e ≡ h e)
    → map f (range_with_len a n) ≡ map h (range_with_len a n)
range_same f h a zero same = refl
range_same f h a (suc n) same = rw (
  same a (omega arith) (omega arith),
  range_same f h (a + 1) n (λ e l m. same e (omega (arith, l)) (omega (arith, m))),
) refl

pub range_alike : {X : Type 0} (f h : ℕ → X) (n : ℕ) → ((e : ℕ) → e < n → f e ≡ h e)
    → map f (range_with_len 0 n) ≡ map h (range_with_len 0 n)
range_alike f h n same = range_same f h 0 n (λ e l m. same e (omega (arith, m)))

pub same_size : (g : Geometry) (o p : Object) → o.count ≡ p.count
    → object_size g o ≡ object_size g p
same_size g o p e = ap (λ count. column_count g * div_ceil count (column_count g)) e

-- one bit a column
abbrev pub marks : (ℕ → Bool) → ℕ → List ℕ
marks f size = map (λ e. bit_number (f e)) (range_with_len 0 size)

-- the one number that an operation of one result makes
abbrev alone : Meaning → List ℕ → ℕ → List ℕ → ℕ
alone meaning op n values = get_or (meaning op n values) 0 0

first_of : {xs : List ℕ} {v : ℕ} → xs ≡ v ∷ [] → get_or xs 0 0 ≡ v
first_of e = ap (λ xs. get_or xs 0 0) e

-- what a bbop of one result makes
bbop_worded : (g : Geometry) (operations : Routines) (meaning : Meaning) (s : List Held)
    (op : List ℕ) (kinds : List Kind) (r : Place) (srcs : List Place) (count n : ℕ)
    → Offers operations op kinds
    → worded g operations meaning s (Bbop op r srcs count n)
    ≡ with_results s (λ k. computed (λ vs. get_or (meaning op n vs) k 0) (map (numbers_at s) srcs)
    (object_size g (rows_of (table_of s) r))) (r ∷ [])
bbop_worded g operations meaning s op kinds r srcs count n o = rw (o.there, o.one_result) refl

-- a bbop's result for the last object
result_last : (g : Geometry) (operations : Routines) (meaning : Meaning) (s : List Held)
    (op : List ℕ) (kinds : List Kind) (r0 : Held) (srcs : List Place) (count n : ℕ)
    → Offers operations op kinds → lookup s r0.name ≡ None
    → length r0.numbers ≡ object_size g r0.object → (numbers : List ℕ)
    → computed (alone meaning op n) (map (numbers_at (s ++ r0 ∷ [])) srcs)
    (object_size g r0.object) ≡ numbers
    → worded g operations meaning (s ++ r0 ∷ []) (Bbop op (whole r0.name) srcs count n)
    ≡ s ++ renumbered r0 numbers ∷ []
result_last g operations meaning s op kinds r0 srcs count n o none long numbers is =
    let now : List Held = s ++ r0 ∷ [] in
    let result : ℕ → List ℕ = λ k. computed (λ vs. get_or (meaning op n vs) k 0)
    (map (numbers_at now) srcs) (object_size g r0.object) in
    let size : length (result 0) ≡ object_size g r0.object =
    length-map-range (λ e. alone meaning op n (map (λ ns. get_or ns e 0) (map (numbers_at now) srcs)))
    (object_size g r0.object) in
    bbop_worded g operations meaning now op kinds (whole r0.name) srcs count n o
    ∙ ap (λ (p : Object). with_results now (λ k. computed (λ vs. get_or (meaning op n vs) k 0)
    (map (numbers_at now) srcs) (object_size g p)) (whole r0.name ∷ []))
    (at_object now r0.name r0 (at_last s r0 none))
    ∙ with_last s r0 result none (long ∙ sym size)
    ∙ ap (λ ns. s ++ renumbered r0 ns ∷ []) is where
      length-map-range : (f : ℕ → ℕ) (size : ℕ) → length (map f (range_with_len 0 size)) ≡ size
      length-map-range f size = let l = length-range_with_len 0 size in simp length-map l

offers_for : (operations : Routines) → OffersScan operations → (op : CmpOp)
    → Offers operations (op_for op) (Word ∷ Word ∷ [])
offers_for operations o cmp.Eq = o.equal
offers_for operations o cmp.Gt = o.greater
offers_for operations o cmp.Ge = o.at_least
offers_for operations o cmp.Lt = o.greater
offers_for operations o cmp.Le = o.at_least

two_values : (f : List ℕ → ℕ) (xs ys : List ℕ) (size : ℕ) (h : ℕ → Bool)
    → ((e : ℕ) → e < size → f (get_or xs e 0 ∷ get_or ys e 0 ∷ []) ≡ bit_number (h e))
    → computed f (xs ∷ ys ∷ []) size ≡ marks h size
two_values f xs ys size h same = range_alike _ _ size same

filled_at : (size v e : ℕ) → e < size → get_or (replicate size v) e 0 ≡ v
filled_at size v e l = get_or-replicate size e v 0 l

-- the comparison's numbers, column by column
compare_values : (meaning : Meaning) (op : CmpOp) (n v size : ℕ) (xs cs : List ℕ)
    → MeansScan meaning → ((e : ℕ) → get_or xs e 0 < 2 ^ n) → v < 2 ^ n → cs ≡ replicate size v
    → (numbers : Place → List ℕ) (name c : Place) → numbers name ≡ xs → numbers c ≡ cs
    → computed (alone meaning (op_for op) n) (map numbers (sources_for op name c)) size
    ≡ marks (λ e. compared op (get_or xs e 0) v) size
compare_values meaning cmp.Eq n v size xs cs means small l is numbers name c p q =
    rw (p, q, is) (two_values (alone meaning (codes "s_eq") n) xs (replicate size v) size
    (λ e. compared cmp.Eq (get_or xs e 0) v)
    (λ e m. rw (filled_at size v e m) (first_of
    (means.equal n (get_or xs e 0) v (small e) l))))
compare_values meaning cmp.Gt n v size xs cs means small l is numbers name c p q =
    rw (p, q, is) (two_values (alone meaning (codes "s_gt") n) xs (replicate size v) size
    (λ e. compared cmp.Gt (get_or xs e 0) v)
    (λ e m. rw (filled_at size v e m) (first_of
    (means.greater n (get_or xs e 0) v (small e) l))))
compare_values meaning cmp.Ge n v size xs cs means small l is numbers name c p q =
    rw (p, q, is) (two_values (alone meaning (codes "s_ge") n) xs (replicate size v) size
    (λ e. compared cmp.Ge (get_or xs e 0) v)
    (λ e m. rw (filled_at size v e m) (first_of
    (means.at_least n (get_or xs e 0) v (small e) l))))
compare_values meaning cmp.Lt n v size xs cs means small l is numbers name c p q =
    rw (p, q, is) (two_values (alone meaning (codes "s_gt") n) (replicate size v) xs size
    (λ e. compared cmp.Lt (get_or xs e 0) v)
    (λ e m. rw (filled_at size v e m) (first_of
    (means.greater n v (get_or xs e 0) l (small e)))))
compare_values meaning cmp.Le n v size xs cs means small l is numbers name c p q =
    rw (p, q, is) (two_values (alone meaning (codes "s_ge") n) (replicate size v) xs size
    (λ e. compared cmp.Le (get_or xs e 0) v)
    (λ e m. rw (filled_at size v e m) (first_of
    (means.at_least n v (get_or xs e 0) l (small e)))))

-- a comparison's bbop is allowed
compare_allowed : (g : Geometry) (operations : Routines) (s : List Held) (op : CmpOp)
    (r name c : Place) (count n : ℕ) → OffersScan operations → 0 < n → n ≤ WIDTH_MAX
    → IsUsed s Bit count n r → IsUsed s Word count n name → IsUsed s Word count n c
    → name.name ≢ r.name → c.name ≢ r.name → Allowed (refusal g operations (table_of s)
    (Bbop (op_for op) r (sources_for op name c) count n))
compare_allowed g operations s cmp.Eq r name c count n o some few u v w p q =
    two_allowed g operations s _ r name c Word Word count n o.equal some few u v w p q
compare_allowed g operations s cmp.Gt r name c count n o some few u v w p q =
    two_allowed g operations s _ r name c Word Word count n o.greater some few u v w p q
compare_allowed g operations s cmp.Ge r name c count n o some few u v w p q =
    two_allowed g operations s _ r name c Word Word count n o.at_least some few u v w p q
compare_allowed g operations s cmp.Lt r name c count n o some few u v w p q =
    two_allowed g operations s _ r c name Word Word count n o.greater some few u w v q p
compare_allowed g operations s cmp.Le r name c count n o some few u v w p q =
    two_allowed g operations s _ r c name Word Word count n o.at_least some few u w v q p

-- an object that there is has another name than one that there is not
pub names_part : (s : List Held) (name other : List ℕ) (h : Held) → lookup s name ≡ Some h
    → lookup s other ≡ None → name ≢ other
names_part s name other h p q e = let f = ap (lookup s) e in cc

-- the object that a comparison asks for, and the bits that it looks at
pub record IsAsked (g : Geometry) (s : List Held) (count : ℕ) (p : Place) (v : ℕ)
    (h : Held) : Type 0 where
  pub at : lookup s p.name ≡ Some h
  pub held : IsHeld g h
  pub inside : is_past p.part h.object ≡ false
  pub some : SomeBits p.part
  pub counted : h.object.count ≡ count
  pub small : v < 2 ^ (cut p.part h.object).width

-- what is seen of the object's numbers, element by element
seen_numbers : (op : CmpOp) (part : Option Part) (numbers : List ℕ) (v size : ℕ)
    → marks (λ e. compared op (get_or (map (seen part) numbers) e 0) v) size
    ≡ marks (λ e. compared op (seen part (get_or numbers e 0)) v) size
seen_numbers op part numbers v size = range_alike _ _ size
    (λ e l. ap (λ x. bit_number (compared op x v)) (seen_at part numbers e))

pub compare_goes : (g : Geometry) (operations : Routines) (meaning : Meaning) (s : List Held)
    (c r : List ℕ) (p : Place) (op : CmpOp) (v count : ℕ) (h : Held)
    → OffersScan operations → MeansScan meaning → IsAsked g s count p v h → lookup s c ≡ None
    → lookup s r ≡ None → c ≢ r
    → Goes g operations meaning s (compare_with c r p op v count (cut p.part h.object).width)
    (Leaves g s r count (λ e. compared op (seen p.part (get_or h.numbers e 0)) v))
compare_goes g operations meaning s c r p op v count h offers means asked no_c no_r differ =
    let n = (cut p.part h.object).width in
    let wide : IsWidth n = part_wide p.part h.object asked.inside asked.some
    (asked.held.wide, asked.held.narrow) in
    let oc : Object = new_object g (table_of s) count n in
    let c0 : Held = record { name = c; object = oc; numbers = replicate (object_size g oc) 0 } in
    let s1 : List Held = s ++ c0 ∷ [] in
    let c1 : Held = renumbered c0 (replicate (object_size g oc) v) in
    let s2 : List Held = s ++ c1 ∷ [] in
    let or : Object = new_object g (table_of s2) count 1 in
    let r0 : Held = record { name = r; object = or; numbers = replicate (object_size g or) 0 } in
    let s3 : List Held = s2 ++ r0 ∷ [] in
    let r1 : Held = renumbered r0 (marks (λ e. compared op (seen p.part (get_or h.numbers e 0)) v)
    (object_size g or)) in
    let s4 : List Held = s2 ++ r1 ∷ [] in
    let fits : count ≤ column_count g * g.banks =
    subst (λ k. k ≤ column_count g * g.banks) asked.counted asked.held.fits in
    let c_in1 : lookup s1 c ≡ Some c0 = at_last s c0 no_c in
    let filled : worded g operations meaning s1 (Fill (whole c) v) ≡ s2 =
    ap (λ (o : Object). with_results s1 (λ k. replicate (object_size g o) v) (whole c ∷ []))
    (at_object s1 c c0 c_in1) ∙ with_last s c0 (λ k. replicate (object_size g oc) v) no_c
    (length-replicate (object_size g oc) 0 ∙ sym (length-replicate (object_size g oc) v)) in
    let no_r2 : lookup s2 r ≡ None = absent_append s c1 r no_r differ in
    let c_in3 : lookup s3 c ≡ Some c1 = at_append s2 (r0 ∷ []) c c1 (at_last s c1 no_c) in
    let place_in3 : lookup s3 p.name ≡ Some h = at_append s2 (r0 ∷ []) p.name h
    (at_append s (c1 ∷ []) p.name h asked.at) in
    let r_in3 : lookup s3 r ≡ Some r0 = at_last s2 r0 no_r2 in
    let sizes : object_size g oc ≡ object_size g or = same_size g oc or refl in
    let values = compare_values meaning op n v (object_size g or) (map (seen p.part) h.numbers)
    (replicate (object_size g oc) v) means
    (λ e. subst (λ x. x < 2 ^ n) (sym (seen_at p.part h.numbers e))
    (seen_fits p.part h.object (get_or h.numbers e 0) (asked.held.numbers_fit e))) asked.small
    (ap (λ k. replicate k v) sizes) (numbers_at s3) p (whole c)
    (place_numbers s3 p h place_in3) (whole_numbers s3 c c1 c_in3)
    ∙ seen_numbers op p.part h.numbers v (object_size g or) in
    let done : worded g operations meaning s3 (Bbop (op_for op) (whole r)
    (sources_for op p (whole c)) count n) ≡ s4 =
    result_last g operations meaning s2 (op_for op) (Word ∷ Word ∷ []) r0
    (sources_for op p (whole c)) count n (offers_for operations offers op) no_r2
    (length-replicate (object_size g or) 0) _ values in
    let name_r : p.name ≢ r = names_part s p.name r h asked.at no_r in
    let c_in4 : lookup s4 c ≡ Some c1 = at_append s2 (r1 ∷ []) c c1 (at_last s c1 no_c) in
    next g operations meaning s s1 _ _ _ (init_allowed g operations s c count n no_c fits) refl
    (next g operations meaning s1 s2 _ _ _ (fill_allowed g operations s1 c v c0 c_in1 asked.small)
    filled
    (next g operations meaning s2 s3 _ _ _ (init_allowed g operations s2 r count 1 no_r2 fits)
    refl
    (next g operations meaning s3 s4 _ _ _
    (compare_allowed g operations s3 op (whole r) p (whole c) count n offers wide.0 wide.1
    (record { held = r0; at = r_in3; inside = refl; wide = refl; counted = refl })
    (record {
      held = h;
      at = place_in3;
      inside = asked.inside;
      wide = refl;
      counted = cut_count p.part h.object ∙ asked.counted;
    })
    (record { held = c1; at = c_in3; inside = refl; wide = refl; counted = refl }) name_r differ)
    done
    (one g operations meaning s4 (s ++ r1 ∷ []) (Free c) _
    (free_allowed g operations s4 c c1 c_in4)
    (dropped-between s c1 r1 no_c (λ e. differ (sym e)))
    (record { object = or; counted = refl; narrow = refl; is = refl })))))

-- an object that is 1 exactly where a test holds
abbrev pub marked : Geometry → List ℕ → Object → (ℕ → Bool) → Held
marked g name o f = record { name = name; object = o; numbers = marks f (object_size g o) }

mark_at : (f : ℕ → Bool) (size other e : ℕ) → size ≡ other → e < size
    → get_or (marks f other) e 0 ≡ bit_number (f e)
mark_at f size other e is l = get_or-map-range_with_len (λ e. bit_number (f e)) 0 other e e 0
    (omega (arith, is, l)) (omega arith)

pub not_goes : (g : Geometry) (operations : Routines) (meaning : Meaning) (s : List Held)
    (r a : List ℕ) (count : ℕ) (oa : Object) (fa : ℕ → Bool)
    → OffersScan operations → MeansScan meaning → count ≤ column_count g * g.banks
    → oa.count ≡ count → oa.width ≡ 1 → lookup s a ≡ None → lookup s r ≡ None → a ≢ r
    → Goes g operations meaning (s ++ marked g a oa fa ∷ []) (join_one (codes "s_not") r a count)
    (Leaves g s r count (λ e. not (fa e)))
not_goes g operations meaning s r a count oa fa offers means fits counted narrow no_a no_r differ
    =
    let a1 : Held = marked g a oa fa in
    let s1 : List Held = s ++ a1 ∷ [] in
    let or : Object = new_object g (table_of s1) count 1 in
    let r0 : Held = record { name = r; object = or; numbers = replicate (object_size g or) 0 } in
    let s2 : List Held = s1 ++ r0 ∷ [] in
    let r1 : Held = marked g r or (λ e. not (fa e)) in
    let s3 : List Held = s1 ++ r1 ∷ [] in
    let no_r1 : lookup s1 r ≡ None = absent_append s a1 r no_r differ in
    let a_in1 : lookup s1 a ≡ Some a1 = at_last s a1 no_a in
    let a_in2 : lookup s2 a ≡ Some a1 = at_append s1 (r0 ∷ []) a a1 a_in1 in
    let a_in3 : lookup s3 a ≡ Some a1 = at_append s1 (r1 ∷ []) a a1 a_in1 in
    let r_in2 : lookup s2 r ≡ Some r0 = at_last s1 r0 no_r1 in
    let sizes : object_size g or ≡ object_size g oa = same_size g or oa (sym counted) in
    let values : computed (alone meaning (codes "s_not") 1) (map (numbers_at s2) (whole a ∷ []))
    (object_size g or) ≡ marks (λ e. not (fa e)) (object_size g or) =
    rw (whole_numbers s2 a a1 a_in2) (range_alike
    (λ e. alone meaning (codes "s_not") 1 (get_or (marks fa (object_size g oa)) e 0 ∷ []))
    (λ e. bit_number (not (fa e))) (object_size g or)
    (λ e l. ap (λ x. alone meaning (codes "s_not") 1 (x ∷ []))
    (mark_at fa (object_size g or) (object_size g oa) e sizes l)
    ∙ first_of (means.negation (fa e)))) in
    let done : worded g operations meaning s2 (Bbop (codes "s_not") (whole r) (whole a ∷ []) count
    1) ≡ s3 =
    result_last g operations meaning s1 (codes "s_not") (Bit ∷ []) r0 (whole a ∷ []) count 1
    offers.negation no_r1 (length-replicate (object_size g or) 0) _ values in
    next g operations meaning s1 s2 _ _ _ (init_allowed g operations s1 r count 1 no_r1 fits) refl
    (next g operations meaning s2 s3 _ _ _
    (one_allowed g operations s2 (codes "s_not") (whole r) (whole a) Bit count 1 offers.negation
    (omega arith) (omega arith)
    (record { held = r0; at = r_in2; inside = refl; wide = refl; counted = refl })
    (record { held = a1; at = a_in2; inside = refl; wide = narrow; counted = counted }) differ) done
    (one g operations meaning s3 (s ++ r1 ∷ []) (Free a) _
    (free_allowed g operations s3 a a1 a_in3)
    (dropped-between s a1 r1 no_a (λ e. differ (sym e)))
    (record { object = or; counted = refl; narrow = refl; is = refl })))

-- a join of two, whatever its operation
pub two_goes : (g : Geometry) (operations : Routines) (meaning : Meaning) (op : List ℕ)
    (join : Bool → Bool → Bool) (s : List Held) (r a b : List ℕ) (count : ℕ) (oa ob : Object)
    (fa fb : ℕ → Bool)
    → Offers operations op (Bit ∷ Bit ∷ []) → ((x y : Bool)
    → meaning op 1 (bit_number x ∷ bit_number y ∷ []) ≡ bit_number (join x y) ∷ [])
    → count ≤ column_count g * g.banks → oa.count ≡ count → oa.width ≡ 1 → ob.count ≡ count
    → ob.width ≡ 1
    → lookup s a ≡ None → lookup s b ≡ None → lookup s r ≡ None → a ≢ r → b ≢ r → a ≢ b
    → Goes g operations meaning ((s ++ marked g a oa fa ∷ []) ++ marked g b ob fb ∷ [])
    (join_two op r a b count) (Leaves g s r count (λ e. join (fa e) (fb e)))
two_goes g operations meaning op join s r a b count oa ob fa fb offers means fits counted_a
    narrow_a counted_b narrow_b no_a no_b no_r a_r b_r a_b =
    let a1 : Held = marked g a oa fa in
    let b1 : Held = marked g b ob fb in
    let sa : List Held = s ++ a1 ∷ [] in
    let s1 : List Held = sa ++ b1 ∷ [] in
    let or : Object = new_object g (table_of s1) count 1 in
    let r0 : Held = record { name = r; object = or; numbers = replicate (object_size g or) 0 } in
    let s2 : List Held = s1 ++ r0 ∷ [] in
    let holds : ℕ → Bool = λ e. join (fa e) (fb e) in
    let r1 : Held = marked g r or holds in
    let s3 : List Held = s1 ++ r1 ∷ [] in
    let s4 : List Held = (s ++ b1 ∷ []) ++ r1 ∷ [] in
    let no_rb : lookup sa r ≡ None = absent_append s a1 r no_r a_r in
    let no_ba : lookup sa b ≡ None = absent_append s a1 b no_b a_b in
    let no_r1 : lookup s1 r ≡ None = absent_append sa b1 r no_rb b_r in
    let a_in1 : lookup s1 a ≡ Some a1 = at_append sa (b1 ∷ []) a a1 (at_last s a1 no_a) in
    let b_in1 : lookup s1 b ≡ Some b1 = at_last sa b1 no_ba in
    let a_in2 : lookup s2 a ≡ Some a1 = at_append s1 (r0 ∷ []) a a1 a_in1 in
    let b_in2 : lookup s2 b ≡ Some b1 = at_append s1 (r0 ∷ []) b b1 b_in1 in
    let a_in3 : lookup s3 a ≡ Some a1 = at_append s1 (r1 ∷ []) a a1 a_in1 in
    let b_in4 : lookup s4 b ≡ Some b1 = at_append (s ++ b1 ∷ []) (r1 ∷ []) b b1
    (at_last s b1 no_b) in
    let r_in2 : lookup s2 r ≡ Some r0 = at_last s1 r0 no_r1 in
    let sizes_a : object_size g or ≡ object_size g oa = same_size g or oa (sym counted_a) in
    let sizes_b : object_size g or ≡ object_size g ob = same_size g or ob (sym counted_b) in
    let values : computed (alone meaning op 1) (map (numbers_at s2) (whole a ∷ whole b ∷ []))
    (object_size g or) ≡ marks holds (object_size g or) =
    rw (whole_numbers s2 a a1 a_in2, whole_numbers s2 b b1 b_in2)
    (two_values (alone meaning op 1) (marks fa (object_size g oa))
    (marks fb (object_size g ob)) (object_size g or) holds
    (λ e l. ap (λ x. alone meaning op 1 (x ∷ get_or (marks fb (object_size g ob)) e 0 ∷ []))
    (mark_at fa (object_size g or) (object_size g oa) e sizes_a l)
    ∙ ap (λ y. alone meaning op 1 (bit_number (fa e) ∷ y ∷ []))
    (mark_at fb (object_size g or) (object_size g ob) e sizes_b l)
    ∙ first_of (means (fa e) (fb e)))) in
    let done : worded g operations meaning s2 (Bbop op (whole r) (whole a ∷ whole b ∷ []) count 1)
    ≡ s3 =
    result_last g operations meaning s1 op (Bit ∷ Bit ∷ []) r0 (whole a ∷ whole b ∷ []) count 1
    offers no_r1 (length-replicate (object_size g or) 0) _ values in
    let freed : worded g operations meaning s3 (Free a) ≡ s4 =
    dropped-append s1 (r1 ∷ []) a ∙ ap (λ front. front ++ dropped (r1 ∷ []) a)
    (dropped-between s a1 b1 no_a (λ e. a_b (sym e)))
    ∙ ap (λ back. (s ++ b1 ∷ []) ++ back) (dropped-other r1 a (λ e. a_r (sym e))) in
    next g operations meaning s1 s2 _ _ _ (init_allowed g operations s1 r count 1 no_r1 fits) refl
    (next g operations meaning s2 s3 _ _ _
    (two_allowed g operations s2 op (whole r) (whole a) (whole b) Bit Bit count 1 offers
    (omega arith) (omega arith)
    (record { held = r0; at = r_in2; inside = refl; wide = refl; counted = refl })
    (record { held = a1; at = a_in2; inside = refl; wide = narrow_a; counted = counted_a })
    (record { held = b1; at = b_in2; inside = refl; wide = narrow_b; counted = counted_b }) a_r b_r)
    done
    (next g operations meaning s3 s4 _ _ _ (free_allowed g operations s3 a a1 a_in3) freed
    (one g operations meaning s4 (s ++ r1 ∷ []) (Free b) _
    (free_allowed g operations s4 b b1 b_in4)
    (dropped-between s b1 r1 no_b (λ e. b_r (sym e)))
    (record { object = or; counted = refl; narrow = refl; is = refl }))))
