-- A bbop that is done: its binding fits, each object's columns hold what the word machine gives it,
-- and operands without a row of a destination keep theirs.
use Rattle.machine_model.proofs.Common.{false_from_ne_true, or_parts, ◌≡◌, ◌≢◌, ℕ, zero, suc, ◌+◌}
use Rattle.machine_model.proofs.Common.{◌<◌, ◌≤◌, Bool, true, false, ◌&&◌, List, [], ◌∷◌, length}
use Rattle.machine_model.proofs.Common.{get_or, map, Option, Some, None, refl, sym, ◌∙◌, ap, subst}
use Rattle.machine_model.proofs.Common.{arith, inl, inr, is_none, slice_index, AllByRecursion}
use Rattle.machine_model.proofs.Common.{list_any, unwrap_or, bytes_eq, cases_lt, nat_tests}
use Rattle.machine_model.proofs.Common.{length-map, Geometry, Column, run, blank, Banks, number}
use Rattle.machine_model.proofs.Common.{below, segments_of, column_count, Kind, bound, Keeps}
use Rattle.machine_model.proofs.Common.{issues_of, need, results, width, Fits, IsTouched, Object}
use Rattle.machine_model.proofs.Common.{has_row, is_free, are_free, free, end_of, AreApart, Named}
use Rattle.machine_model.proofs.Common.{IsTable, objects_of, has_name, limit_of, Part, Place}
use Rattle.machine_model.proofs.Common.{WaveJob}
use Rattle.std.proofs.lemmas.List.{get_or-map}
use Rattle.std.proofs.lemmas.List.FromFn.{fill_by_all}
use Rattle.std.proofs.Math.ListN.{get_or-map as get_or-map-all}
use Rattle.uprog_code.specs.Implements.{numbers}
use Rattle.uprog_code.specs.Fits.{AreBelow, ranges, IsInSome, ArePairwiseApart}
use Rattle.uprog_code.specs.Fits.{AreApart as RangesApart}
use Rattle.machine_model.specs.Columns.{object_size, segments, columns}
use Rattle.machine_model.specs.Places.{cut, is_past, seen, share}
use Rattle.machine_model.specs.Routines.{Routine, Performs}
use Rattle.machine_model.specs.Refusals.{object_named, rows_of, goes_past, nothing, dsts_in, srcs_in}
use Rattle.machine_model.specs.Refusals.{meets_one}
use Rattle.machine_model.specs.Steps.{Held, table_of, numbers_at, base_for, computed}
use Rattle.machine_model.specs.Steps.{binding, through, new_numbers}
use Rattle.machine_model.specs.Agrees.{Agrees}
use Rattle.machine_model.proofs.Facts.{IsOperand, AreOperands, none, more, Differ, AreOthers, IsGood}
use Rattle.machine_model.proofs.Places.{IsFound, no_one, entry_of, found, rows_apart, ends_within}
use Rattle.machine_model.proofs.Places.{bytes_same, same_bytes, object_at}
use Rattle.machine_model.proofs.Below.{all_in, base_free, row_free, row_within, below_length}
use Rattle.machine_model.proofs.Below.{below_same, through_same, number_same}
use Rattle.machine_model.proofs.Placed.{IsPlaced, AreResults}
use Rattle.machine_model.proofs.Sliced.{reads, has_from, within, map_cong, map_map}
use Rattle.machine_model.proofs.Merged.{meet, spelled_after}

-- objects at two places have no row in common
pub apart_places : (limit : ℕ) (state : List Held) (i j : ℕ) → IsTable limit (table_of state)
    → i < length state → j < length state → i ≢ j
    → AreApart (get_or state i no_one).object (get_or state j no_one).object
apart_places limit state i j t a b ne row h =
    elim (cases_lt i j) [
      | inl lt ↦ rows_apart limit state t i j no_one lt b row h
      | inr ge ↦ false_from_ne_true _ (λ r. let f = rows_apart limit state t j i no_one (omega arith) a row
          r in cc)
    ]

-- two names that differ stand at two places
places_differ : (state : List Held) (x y : List ℕ) (a : IsFound state x) (b : IsFound state y)
    → (x ≡ y → ⊥) → a.place ≢ b.place
places_differ state x y a b ne e = ne (sym a.named ∙ ap (λ k. (get_or state k no_one).name) e
    ∙ b.named)

-- the objects of two names have no row in common
pub named_apart : (limit : ℕ) (state : List Held) (x y : List ℕ) → IsTable limit (table_of state)
    → IsFound state x → IsFound state y → (x ≡ y → ⊥)
    → AreApart (object_named (table_of state) x) (object_named (table_of state) y)
named_apart limit state x y t a b ne =
    subst (λ (o : Object). AreApart o (object_named (table_of state) y)) (sym a.object)
    (subst (λ (o : Object). AreApart (get_or state a.place no_one).object o) (sym b.object)
    (apart_places limit state a.place b.place t a.within b.within (places_differ state x y a b ne)))

-- an object has no free row
pub not_free : (limit : ℕ) (state : List Held) (k base row j : ℕ)
    → are_free limit (objects_of (table_of state)) k base ≡ true → base ≤ row → row < base + k
    → j < length state → has_row (get_or state j no_one).object row ≡ false
not_free limit state k base row j h a b l =
    let free = all_in (is_free limit (objects_of (table_of state))) base k row h a b in
    let within : j < length (objects_of (table_of state)) = simp (length-map) l in
    let r = (row_free limit (objects_of (table_of state)) row j nothing free within).1 in
    let at : get_or (objects_of (table_of state)) j nothing ≡ (get_or state j no_one).object =
    get_or-map-all (λ (p : Named). p.1) (table_of state) j (entry_of no_one)
    ∙ ap (λ (p : Named). p.1) (get_or-map-all entry_of state j no_one) in
    subst (λ (o : Object). has_row o row ≡ false) at r

named_not_free : (limit : ℕ) (state : List Held) (k base row : ℕ) (name : List ℕ)
    → IsFound state name → are_free limit (objects_of (table_of state)) k base ≡ true → base ≤ row
    → row < base + k → has_row (object_named (table_of state) name) row ≡ false
named_not_free limit state k base row name f h a b =
    subst (λ (o : Object). has_row o row ≡ false) (sym f.object)
    (not_free limit state k base row f.place h a b f.within)

named_within : (limit : ℕ) (state : List Held) (name : List ℕ) → IsTable limit (table_of state)
    → IsFound state name → end_of (object_named (table_of state) name) ≤ limit
named_within limit state name t f = subst (λ (o : Object). end_of o
    ≤ limit) (sym f.object) (ends_within limit state t f.place no_one f.within)

scratch_within : (limit : ℕ) (objects : List Object) (k : ℕ)
    → is_none (free limit objects k) ≡ false → unwrap_or (free limit objects k) 0 + k ≤ limit
scratch_within limit objects zero h = omega (arith, (base_free limit objects 0 h).0)
scratch_within limit objects (suc k) h =
    let base = unwrap_or (free limit objects (suc k)) 0 in
    let all = (base_free limit objects (suc k) h).1 in
    let last : base + k < limit = row_within limit objects (base + k)
    (all_in (is_free limit objects) base (suc k) (base + k) all (omega arith) (omega arith)) in
    omega (arith, last)

-- a part has its object's count
pub part_count : (o : Object) (part : Option Part) → (cut part o).count ≡ o.count
part_count o None = refl
part_count o (Some p) = refl

-- a row of a part is a row of its object
part_row : (o : Object) (part : Option Part) (row : ℕ) → is_past part o ≡ false
    → has_row (cut part o) row ≡ true → has_row o row ≡ true
part_row o None row h has = has
part_row o (Some p) row h has = let inside = within o p h in grind (arith, nat_tests)

-- a part ends within its object
pub part_end : (o : Object) (part : Option Part) → is_past part o ≡ false
    → (cut part o).base + (cut part o).width ≤ o.base + o.width
part_end o None h = omega arith
part_end o (Some p) h = omega (arith, within o p h)

-- what is apart from an object is apart from its parts
by_part : (o p : Object) → AreApart o p → (part : Option Part) → is_past part p ≡ false
    → AreApart o (cut part p)
by_part o p a part h row has = false_from_ne_true (has_row (cut part p) row) (λ also.
    let in_p = part_row p part row h also in
    let not = a row has in
    cc)

-- parts of one object that share no bit are apart
parts_apart : (o : Object) (p q : Option Part) → share p q ≡ false → AreApart (cut p o) (cut q o)
parts_apart o None q h row has = cc
parts_apart o (Some p) None h row has = cc
parts_apart o (Some p) (Some q) h row has = false_from_ne_true (has_row (cut (Some q) o) row) (λ also.
    grind (arith, nat_tests))

-- objects that are apart are so as ranges
ranges_apart : (o p : Object) (v w : ℕ) → AreApart o p → o.width ≡ v → p.width ≡ w
    → RangesApart (record { base = o.base; size = v }) (record { base = p.base; size = w })
ranges_apart o p v w h e f row a b =
    let has = has_from o row a.0 (omega (arith, a.1, e)) in
    let also = has_from p row b.0 (omega (arith, b.1, f)) in
    let not = h row has in
    cc

-- two operands have a bit in common
abbrev pub in_common : Place → Place → Bool
in_common p q = bytes_eq p.name q.name && share p.part q.part

-- operands that have no bit in common have no row in common
pub bits_apart : (limit : ℕ) (state : List Held) (p q : Place) → IsTable limit (table_of state)
    → has_name (table_of state) p.name ≡ true → goes_past (table_of state) p ≡ false
    → has_name (table_of state) q.name ≡ true → goes_past (table_of state) q ≡ false
    → in_common p q ≡ false
    → AreApart (rows_of (table_of state) p) (rows_of (table_of state) q)
bits_apart limit state p q t a inside b also h =
    by_name (bytes_eq p.name q.name) refl h where
      by_name : (same : Bool) → bytes_eq p.name q.name ≡ same → (same && share p.part q.part)
          ≡ false → AreApart (rows_of (table_of state) p) (rows_of (table_of state) q)
      by_name true e h row has =
          subst (λ (name : List ℕ). AreApart (rows_of (table_of state) p)
          (cut q.part (object_named (table_of state) name))) (same_bytes _ _ e)
          (parts_apart (object_named (table_of state) p.name) p.part q.part h) row has
      by_name false e h row has =
          let o = object_named (table_of state) p.name in
          by_part o (object_named (table_of state) q.name)
          (named_apart limit state p.name q.name t (found limit state p.name t a)
          (found limit state q.name t b) (λ same. let s = bytes_same p.name q.name same in cc))
          q.part also row (part_row o p.part row inside has)

-- the row where an operand begins
abbrev pub base_in : List Held → Place → ℕ
base_in state place = (rows_of (table_of state) place).base

-- the number that an operand's rows spell in a column
abbrev read_in : List Held → Column → Place → ℕ
read_in state s place = number (rows_of (table_of state) place).base
    (rows_of (table_of state) place).width s

module _ (g : Geometry) (state : List Held) (count n : ℕ)
    (t : IsTable (limit_of g) (table_of state)) where
  -- operands lie below the spill group
  all_below : (kinds : List Kind) (places : List Place)
      → AreOperands (table_of state) count n kinds places
      → AreBelow g.rows n kinds (map (base_in state) places)
  all_below [] [] none = tt
  all_below [] (p ∷ places) x = elim x [ ]
  all_below (kind ∷ kinds) [] x = elim x [ ]
  all_below (kind ∷ kinds) (p ∷ places) (more _ _ _ _ op rest) =
      let o = object_named (table_of state) p.name in
      let ends : end_of o ≤ limit_of g =
      named_within (limit_of g) state p.name t (found (limit_of g) state p.name t op.present) in
      (omega (arith, ends, op.wide, part_end o p.part op.inside), all_below kinds places rest)

  -- free rows are apart from an operand
  operand_apart : (k base : ℕ) → are_free (limit_of g) (objects_of (table_of state)) k base ≡ true
      → (kind : Kind) (p : Place) → IsOperand (table_of state) count n kind p
      → RangesApart (record { base = base; size = k })
      (record { base = base_in state p; size = width kind n })
  operand_apart k base room kind p op row a b =
      let o = object_named (table_of state) p.name in
      let f = found (limit_of g) state p.name t op.present in
      let has = part_row o p.part row op.inside
      (has_from (rows_of (table_of state) p) row b.0 (omega (arith, b.1, op.wide))) in
      let not = named_not_free (limit_of g) state k base row p.name f room a.0 a.1 in
      cc

  free_apart : (k base : ℕ) → are_free (limit_of g) (objects_of (table_of state)) k base ≡ true
      → (kinds : List Kind) (places : List Place)
      → AreOperands (table_of state) count n kinds places
      → AllByRecursion (RangesApart (record { base = base; size = k }))
      (ranges n kinds (map (base_in state) places))
  free_apart k base room [] [] none = tt
  free_apart k base room [] (p ∷ places) x = elim x [ ]
  free_apart k base room (kind ∷ kinds) [] x = elim x [ ]
  free_apart k base room (kind ∷ kinds) (p ∷ places) (more _ _ _ _ op rest) =
      (operand_apart k base room kind p op, free_apart k base room kinds places rest)

  operands_apart : (kind : Kind) (p : Place) (k : Kind) (q : Place)
      → IsOperand (table_of state) count n kind p → IsOperand (table_of state) count n k q
      → in_common p q ≡ false
      → RangesApart (record { base = base_in state p; size = width kind n })
      (record { base = base_in state q; size = width k n })
  operands_apart kind p k q a b h =
      ranges_apart (rows_of (table_of state) p) (rows_of (table_of state) q) (width kind n)
      (width k n)
      (bits_apart (limit_of g) state p q t a.present a.inside b.present b.inside h) a.wide b.wide

  -- an operand that has no bit of the others is apart from them
  one_apart : (kind : Kind) (p : Place) → IsOperand (table_of state) count n kind p
      → (kinds : List Kind) (places : List Place)
      → AreOperands (table_of state) count n kinds places → meets_one places p ≡ false
      → AllByRecursion (RangesApart (record { base = base_in state p; size = width kind n }))
      (ranges n kinds (map (base_in state) places))
  one_apart kind p op [] [] none h = tt
  one_apart kind p op [] (q ∷ places) x h = elim x [ ]
  one_apart kind p op (k ∷ kinds) [] x h = elim x [ ]
  one_apart kind p op (k ∷ kinds) (q ∷ places) (more _ _ _ _ other rest) h =
      let both = or_parts (in_common p q) (meets_one places p) h in (
        operands_apart kind p k q op other both.0,
        one_apart kind p op kinds places rest both.1,
      )

  -- and so is one before them, as none of them has a bit of one before it
  later_apart : (kind : Kind) (p : Place) → IsOperand (table_of state) count n kind p
      → (before : List Place)
      → ((q : Place) → meets_one before q ≡ false → in_common q p ≡ false)
      → (kinds : List Kind) (places : List Place)
      → AreOperands (table_of state) count n kinds places → Differ before places
      → AllByRecursion (RangesApart (record { base = base_in state p; size = width kind n }))
      (ranges n kinds (map (base_in state) places))
  later_apart kind p op before ne [] [] none h = tt
  later_apart kind p op before ne [] (q ∷ places) x h = elim x [ ]
  later_apart kind p op before ne (k ∷ kinds) [] x h = elim x [ ]
  later_apart kind p op before ne (k ∷ kinds) (q ∷ places) (more _ _ _ _ other rest) h = (
    (λ row a b. operands_apart k q kind p other op (ne q h.0) row b a),
    later_apart kind p op (q ∷ before)
        (λ m r. ne m (or_parts (in_common m q) (meets_one before m) r).1) kinds places rest h.1,
  )

  all_apart : (before : List Place) (kinds : List Kind) (places : List Place)
      → AreOperands (table_of state) count n kinds places → Differ before places
      → ArePairwiseApart (ranges n kinds (map (base_in state) places))
  all_apart before [] [] none h = tt
  all_apart before [] (p ∷ places) x h = elim x [ ]
  all_apart before (kind ∷ kinds) [] x h = elim x [ ]
  all_apart before (kind ∷ kinds) (p ∷ places) (more _ _ _ _ op rest) h = (
    later_apart kind p op (p ∷ before)
        (λ m r. (or_parts (in_common m p) (meets_one before m) r).0) kinds places rest h.1,
    all_apart (p ∷ before) kinds places rest h.1,
  )

  -- sources are apart from destinations and scratch
  sources_apart : (k base : ℕ) → are_free (limit_of g) (objects_of (table_of state)) k base ≡ true
      → (ks : List Kind) (dsts : List Place) → AreOperands (table_of state) count n ks dsts
      → (kinds : List Kind) (places : List Place)
      → AreOperands (table_of state) count n kinds places
      → AreOthers dsts places → AllByRecursion (λ r. AllByRecursion (RangesApart r) (record { base = base; size = k }
      ∷ ranges n ks (map (base_in state) dsts))) (ranges n kinds (map (base_in state) places))
  sources_apart k base room ks dsts all [] [] none h = tt
  sources_apart k base room ks dsts all [] (p ∷ places) x h = elim x [ ]
  sources_apart k base room ks dsts all (kind ∷ kinds) [] x h = elim x [ ]
  sources_apart k base room ks dsts all (kind ∷ kinds) (p ∷ places) (more _ _ _ _ op rest) h = (
    (
      (λ row a b. operand_apart k base room kind p op row b a),
      one_apart kind p op ks dsts all h.0,
    ),
    sources_apart k base room ks dsts all kinds places rest h.1,
  )

-- The binding of a bbop that is not refused fits
pub binding_fits : (g : Geometry) (state : List Held) (o : Routine) (places : List Place)
    (count n : ℕ) → IsTable (limit_of g) (table_of state)
    → IsGood g (table_of state) o places count n
    → Fits g.rows o.shape n (binding g (table_of state) o.shape places n)
binding_fits g state o places count n t good =
    let room = (base_free (limit_of g) (objects_of (table_of state)) (need o.shape n) good.room).1
    in
    record {
      results = all_below g state count n t (results o.shape) (dsts_in o.shape places)
          good.destinations;
      sources = all_below g state count n t o.shape.sources (srcs_in o.shape places) good.sources;
      scratch = λ some. scratch_within (limit_of g) (objects_of (table_of state)) (need o.shape n)
          good.room;
      apart = (
        free_apart g state count n t _ _ room (results o.shape) (dsts_in o.shape places)
            good.destinations,
        all_apart g state count n t [] (results o.shape) (dsts_in o.shape places)
            good.destinations good.differ,
      );
      read = sources_apart g state count n t _ _ room (results o.shape) (dsts_in o.shape places)
          good.destinations o.shape.sources (srcs_in o.shape places) good.sources good.others;
    }

-- a row of no destination is none of the results
pub no_result : (state : List Held) (count n row : ℕ) (kinds : List Kind) (places : List Place)
    → AreOperands (table_of state) count n kinds places
    → list_any (λ p. has_row (rows_of (table_of state) p) row) places ≡ false
    → IsInSome (ranges n kinds (map (base_in state) places)) row → ⊥
no_result state count n row [] [] none h is = is
no_result state count n row [] (p ∷ places) x h is = elim x [ ]
no_result state count n row (kind ∷ kinds) [] x h is = elim x [ ]
no_result state count n row (kind ∷ kinds) (p ∷ places) (more _ _ _ _ op rest) h is =
    let o = rows_of (table_of state) p in
    let parts = or_parts (has_row o row)
    (list_any (λ p. has_row (rows_of (table_of state) p) row) places) h in
    elim is [
      | inl r ↦ let has = has_from o row r.0 (omega (arith, r.1, op.wide)) in
          let not = parts.0 in cc
      | inr r ↦ no_result state count n row kinds places rest parts.1 r
    ]

-- a row of an object that is in no destination is none that the operation may change
untouched : (g : Geometry) (state : List Held) (o : Routine) (places : List Place)
    (count n i row : ℕ) → IsTable (limit_of g) (table_of state)
    → IsGood g (table_of state) o places count n → i < length state
    → has_row (get_or state i no_one).object row ≡ true
    → list_any (λ p. has_row (rows_of (table_of state) p) row) (dsts_in o.shape places) ≡ false
    → IsTouched g.rows o.shape n (binding g (table_of state) o.shape places n) row → ⊥
untouched g state o places count n i row t good l has out (inl result) =
    no_result state count n row (results o.shape) (dsts_in o.shape places) good.destinations out
    result
untouched g state o places count n i row t good l has out (inr (inl scratch)) =
    let room = (base_free (limit_of g) (objects_of (table_of state)) (need o.shape n) good.room).1
    in
    let not = not_free (limit_of g) state (need o.shape n)
    (base_for g (table_of state) (need o.shape n)) row i room scratch.0 scratch.1 l in
    cc
untouched g state o places count n i row t good l has out (inr (inr spill)) =
    let ends = ends_within (limit_of g) state t i no_one l in
    let low = spill.0 in
    grind (arith, nat_tests)

-- the numbers of operands are those that their rows spell
numbers_are : (state : List Held) (count n : ℕ) (s : Column) (kinds : List Kind)
    (places : List Place) → AreOperands (table_of state) count n kinds places
    → numbers n kinds (map (base_in state) places) s ≡ map (read_in state s) places
numbers_are state count n s [] [] none = refl
numbers_are state count n s [] (p ∷ places) x = elim x [ ]
numbers_are state count n s (kind ∷ kinds) [] x = elim x [ ]
numbers_are state count n s (kind ∷ kinds) (p ∷ places) (more _ _ _ _ op rest) =
    rw (numbers_are state count n s kinds places rest)
    (ap (λ w. number (base_in state p) w s ∷ map (read_in state s) places) (sym op.wide))

-- the part of the numbers that columns spell is what its rows spell
pub part_numbers : (o : Object) (part : Option Part) (xs : List Column) → is_past part o ≡ false
    → map (seen part) (map (number o.base o.width) xs)
    ≡ map (number (cut part o).base (cut part o).width) xs
part_numbers o None xs h = map_map (λ v. v) (number o.base o.width) xs
part_numbers o (Some p) xs h = map_map (seen (Some p)) (number o.base o.width) xs
    ∙ map_cong _ _ xs (λ s. sym (reads o p s h))

-- an operand's numbers stand in the columns of its rows
pub operand_columns : (g : Geometry) (banks : Banks) (state : List Held) (p : Place)
    → Agrees g banks state → has_name (table_of state) p.name ≡ true
    → goes_past (table_of state) p ≡ false
    → numbers_at state p ≡ columns g banks (rows_of (table_of state) p)
operand_columns g banks state p a present inside =
    let f = found (limit_of g) state p.name a.table present in
    let o = object_named (table_of state) p.name in
    ap (map (seen p.part)) (f.numbers ∙ sym (a.numbers f.place no_one f.within)
    ∙ ap (columns g banks) (sym f.object))
    ∙ part_numbers o p.part (below (segments g o) banks) inside
    ∙ ap (λ c. map (number (cut p.part o).base (cut p.part o).width) (below (segments_of g c) banks))
    (sym (part_count o p.part))

sources_at : (g : Geometry) (banks : Banks) (state : List Held) (count n e : ℕ) (kinds : List Kind)
    (places : List Place) → Agrees g banks state
    → AreOperands (table_of state) count n kinds places
    → e < length (below (segments_of g count) banks)
    → map (λ ns. get_or ns e 0) (map (numbers_at state) places)
    ≡ map (read_in state (get_or (below (segments_of g count) banks) e blank)) places
sources_at g banks state count n e [] [] a none h = refl
sources_at g banks state count n e [] (p ∷ places) a x h = elim x [ ]
sources_at g banks state count n e (kind ∷ kinds) [] a x h = elim x [ ]
sources_at g banks state count n e (kind ∷ kinds) (p ∷ places) a (more _ _ _ _ op rest) h =
    let o = rows_of (table_of state) p in
    let one : get_or (numbers_at state p) e 0
    ≡ read_in state (get_or (below (segments_of g count) banks) e blank) p =
    ap (λ ns. get_or ns e 0) (operand_columns g banks state p a op.present op.inside
    ∙ ap (λ c. map (number o.base o.width) (below (segments_of g c) banks)) op.counted)
    ∙ get_or-map (number o.base o.width) (below (segments_of g count) banks) e blank 0 h in
    rw (one, sources_at g banks state count n e kinds places a rest h) refl

counts_are : (table : List Named) (count n : ℕ) (kinds : List Kind) (places : List Place)
    → AreOperands table count n kinds places
    → AllByRecursion (λ p. (rows_of table p).count ≡ count) places
counts_are table count n [] [] none = tt
counts_are table count n [] (p ∷ places) x = elim x [ ]
counts_are table count n (kind ∷ kinds) [] x = elim x [ ]
counts_are table count n (kind ∷ kinds) (p ∷ places) (more _ _ _ _ op rest) =
    (op.counted, counts_are table count n kinds places rest)

index_map : (f : Place → ℕ) (places : List Place) (k : ℕ) (d : Place) → k < length places
    → slice_index (map f places) k ≡ f (get_or places k d)
index_map f [] k d l = absurd (omega arith)
index_map f (x ∷ places) zero d l = refl
index_map f (x ∷ places) (suc k) d l = index_map f places k d (omega arith)

results_from : (g : Geometry) (banks : Banks) (rows : Place → Object) (result : ℕ → List ℕ) (j : ℕ)
    (dsts : List Place) (d : Place) → ((k : ℕ) → k < length dsts
    → columns g banks (rows (get_or dsts k d)) ≡ result (j + k))
    → AreResults g banks rows result j dsts
results_from g banks rows result j [] d h = tt
results_from g banks rows result j (x ∷ dsts) d h =
    let z : j + 0 ≡ j = omega arith in (
      h 0 (omega arith) ∙ ap result z,
      results_from g banks rows result (j + 1) dsts d (λ k l.
          let e : j + suc k ≡ j + 1 + k = omega arith in h (suc k) (omega arith) ∙ ap result e),
    )

all_at : {X : Type 0} (P : X → Type 0) (xs : List X) (k : ℕ) (d : X) → k < length xs
    → AllByRecursion P xs → P (get_or xs k d)
all_at P [] k d l h = absurd (omega arith)
all_at P (x ∷ xs) zero d l h = h.0
all_at P (x ∷ xs) (suc k) d l h = all_at P xs k d (omega arith) h.1

-- no object has an absent name
pub absent_is_nothing : (table : List Named) (name : List ℕ) → has_name table name ≡ false
    → object_named table name ≡ nothing
absent_is_nothing [] name h = refl
absent_is_nothing (p ∷ table) name h =
    let both = or_parts (bytes_eq p.0 name) (has_name table name) h in
    rw both.0 (absent_is_nothing table name both.1)

-- the object at a place of a state is apart from that of another name
other_apart : (limit : ℕ) (state : List Held) (i : ℕ) (name : List ℕ)
    → IsTable limit (table_of state) → i < length state
    → bytes_eq (get_or state i no_one).name name ≡ false
    → AreApart (get_or state i no_one).object (object_named (table_of state) name)
other_apart limit state i name t l e =
    by_presence (has_name (table_of state) name) refl where
      no_row : (row : ℕ) → has_row nothing row ≡ false
      no_row row = grind (arith, nat_tests)

      by_presence : (b : Bool) → has_name (table_of state) name ≡ b
          → AreApart (get_or state i no_one).object (object_named (table_of state) name)
      by_presence true h =
          let f = found limit state name t h in
          subst (λ (q : Object). AreApart (get_or state i no_one).object q) (sym f.object)
          (apart_places limit state i f.place t l f.within (λ same.
          let s = bytes_same (get_or state i no_one).name name
          (ap (λ j. (get_or state j no_one).name) same ∙ f.named) in cc))
      by_presence false h = subst (λ (q : Object). AreApart (get_or state i no_one).object q)
          (sym (absent_is_nothing (table_of state) name h)) (λ row has. no_row row)

-- an operand is a part of the object at a place of the state, or apart from it
pub placed_at : (limit : ℕ) (state : List Held) (i : ℕ) (p : Place)
    → IsTable limit (table_of state) → i < length state → goes_past (table_of state) p ≡ false
    → IsPlaced (rows_of (table_of state)) (get_or state i no_one).name (get_or state i no_one).object
    (rows_of (table_of state) p).count p
placed_at limit state i p t l h = let o = object_named (table_of state) p.name in record {
  own = λ e. let same = object_at limit state i p.name t l (same_bytes _ _ e) in (
    ap (cut p.part) same,
    subst (λ (q : Object). is_past p.part q ≡ false) same h,
    ap (λ (q : Object). q.count) (sym same) ∙ sym (part_count o p.part),
  );
  other = λ e. by_part (get_or state i no_one).object o (other_apart limit state i p.name t l e)
      p.part h;
}

placed : (limit : ℕ) (state : List Held) (count n i : ℕ) (kinds : List Kind) (places : List Place)
    → IsTable limit (table_of state) → i < length state
    → AreOperands (table_of state) count n kinds places
    → AllByRecursion (IsPlaced (rows_of (table_of state)) (get_or state i no_one).name
    (get_or state i no_one).object count) places
placed limit state count n i [] [] t l none = tt
placed limit state count n i [] (p ∷ places) t l x = elim x [ ]
placed limit state count n i (kind ∷ kinds) [] t l x = elim x [ ]
placed limit state count n i (kind ∷ kinds) (p ∷ places) t l (more _ _ _ _ op rest) = (
  subst (λ (c : ℕ). IsPlaced (rows_of (table_of state)) (get_or state i no_one).name
      (get_or state i no_one).object c p) op.counted (placed_at limit state i p t l op.inside),
  placed limit state count n i kinds places t l rest,
)

abbrev pub bbop_job : Geometry → List Held → Routine → List Place → ℕ → Object → WaveJob
bbop_job g state o places n first = record {
  commands =
      bound g.rows o.shape n (binding g (table_of state) o.shape places n) (issues_of (o.trace n));
  banks = segments g first;
}

-- A destination's columns hold the numbers of its result, made of the sources' numbers, each at
-- its place
bbop_numbers : (g : Geometry) (banks : Banks) (state : List Held) (o : Routine)
    (places : List Place) (first : Object) (count n : ℕ) (meaning : List ℕ → List ℕ)
    → Agrees g banks state → IsGood g (table_of state) o places count n → first.count ≡ count
    → segments g first ≤ g.banks → Performs o.shape n (issues_of (o.trace n)) meaning
    → (d : Place) (k : ℕ) → k < length (dsts_in o.shape places)
    → columns g (through (bbop_job g state o places n first) banks)
    (rows_of (table_of state) (get_or (dsts_in o.shape places) k d))
    ≡ computed (λ values. slice_index (meaning values) k)
    (map (numbers_at state) (srcs_in o.shape places)) (object_size g first)
bbop_numbers g banks state o places first count n meaning a good counted inside does d k lk =
    let table = table_of state in
    let dsts = dsts_in o.shape places in
    let srcs = srcs_in o.shape places in
    let job = bbop_job g state o places n first in
    let dst = get_or dsts k d in
    let dest = rows_of table dst in
    let cols = below (segments g first) banks in
    let fits = binding_fits g state o places count n a.table good in
    let same : segments g first ≡ segments_of g count = ap (segments_of g) counted in
    let of_count : dest.count ≡ count = all_at (λ (p : Place). (rows_of table p).count ≡ count)
    dsts k d lk (counts_are table count n (results o.shape) dsts good.destinations) in
    let long : length cols ≡ object_size g first =
    below_length (column_count g) (segments g first) banks (λ b h.
    a.shaped b (omega (arith, inside, h))) in
    let meant : (s : Column) → number dest.base dest.width (run job.commands s)
    ≡ slice_index (meaning (map (read_in state s) srcs)) k =
    λ s. sym (index_map (read_in state (run job.commands s)) dsts k d lk)
    ∙ ap (λ xs. slice_index xs k) (sym (numbers_are state count n (run job.commands s)
    (results o.shape) dsts good.destinations)
    ∙ does.gives.value g.rows (binding g table o.shape places n) s fits
    ∙ ap meaning (numbers_are state count n s o.shape.sources srcs good.sources)) in
    let at : (e : ℕ) → e < length cols → map (λ ns. get_or ns e 0) (map (numbers_at state) srcs)
    ≡ map (read_in state (get_or cols e blank)) srcs =
    λ e l. let l' = subst (λ (b : ℕ). e < length (below b banks)) same l in
    sources_at g banks state count n e o.shape.sources srcs a good.sources l'
    ∙ ap (λ b. map (read_in state (get_or (below b banks) e blank)) srcs) (sym same) in
    spelled_after g banks job dest (ap (segments_of g) (of_count ∙ sym counted))
    ∙ map_cong _ _ cols meant
    ∙ fill_by_all (λ e.
    slice_index (meaning (map (λ ns. get_or ns e 0) (map (numbers_at state) srcs))) k)
    (map (λ s. slice_index (meaning (map (read_in state s) srcs)) k) cols) (object_size g first) 0
    (simp length-map long)
    (λ e h. let lt : e < length cols = omega (arith, long, h) in
    get_or-map (λ s. slice_index (meaning (map (read_in state s) srcs)) k) cols e blank 0 lt
    ∙ ap (λ vs. slice_index (meaning vs) k) (sym (at e lt)))

-- Each object's columns hold what the word machine gives it
pub bbop_object : (g : Geometry) (banks : Banks) (state : List Held) (o : Routine)
    (places : List Place) (first : Object) (count n : ℕ) (meaning : List ℕ → List ℕ) (job : WaveJob)
    → Agrees g banks state → IsGood g (table_of state) o places count n → first.count ≡ count
    → segments g first ≤ g.banks
    → Performs o.shape n (issues_of (o.trace n)) meaning → job ≡ bbop_job g state o places n first
    → (i : ℕ) → i < length state
    → columns g (through job banks) (get_or state i no_one).object
    ≡ new_numbers (λ k. computed (λ values. slice_index (meaning values) k)
    (map (numbers_at state) (srcs_in o.shape places)) (object_size g first)) 0
    (dsts_in o.shape places) (get_or state i no_one).name (get_or state i no_one).numbers
bbop_object g banks state o places first count n meaning job a good counted inside does is i l =
    let dsts = dsts_in o.shape places in
    let own = bbop_job g state o places n first in
    let result : ℕ → List ℕ = λ k. computed (λ values. slice_index (meaning values) k)
    (map (numbers_at state) (srcs_in o.shape places)) (object_size g first) in
    let h = get_or state i no_one in
    let fits = binding_fits g state o places count n a.table good in
    let no_place : Place = record { name = []; part = None } in
    ap (λ j. columns g (through j banks) h.object) is
    ∙ meet g banks own (rows_of (table_of state)) result dsts h.name h.object count
    (placed (limit_of g) state count n i (results o.shape) dsts a.table l good.destinations)
    (counts_are (table_of state) count n (results o.shape) dsts good.destinations)
    (ap (segments_of g) counted)
    (λ s row has out. does.keeps.row g.rows (binding g (table_of state) o.shape places n) s fits row
    (untouched g state o places count n i row a.table good l has out))
    (results_from g (through own banks) (rows_of (table_of state)) result 0 dsts no_place (λ k lk.
    let z : k ≡ 0 + k = omega arith in
    bbop_numbers g banks state o places first count n meaning a good counted inside does no_place k
    lk ∙ ap result z))
    ∙ ap (new_numbers result 0 dsts h.name) (a.numbers i no_one l)

-- a row of what is apart from the operands is a row of none
no_row : (rows : Place → Object) (o : Object) (row : ℕ) (places : List Place)
    → AllByRecursion (λ p. AreApart o (rows p)) places → has_row o row ≡ true
    → list_any (λ p. has_row (rows p) row) places ≡ false
no_row rows o row [] h has = refl
no_row rows o row (p ∷ places) h has = rw (h.0 row has) (no_row rows o row places h.1 has)

-- The columns of every operand that has no row of a destination stay
pub bbop_others : (g : Geometry) (banks : Banks) (state : List Held) (o : Routine)
    (places : List Place) (first : Object) (count n : ℕ) (job : WaveJob)
    → IsTable (limit_of g) (table_of state) → IsGood g (table_of state) o places count n
    → Keeps o.shape n (issues_of (o.trace n)) → job ≡ bbop_job g state o places n first
    → (p : Place) → has_name (table_of state) p.name ≡ true → goes_past (table_of state) p ≡ false
    → AllByRecursion (λ d. AreApart (rows_of (table_of state) p) (rows_of (table_of state) d))
    (dsts_in o.shape places)
    → columns g (through job banks) (rows_of (table_of state) p)
    ≡ columns g banks (rows_of (table_of state) p)
bbop_others g banks state o places first count n job t good keeps is p present inside apart =
    let own = bbop_job g state o places n first in
    let rows = rows_of (table_of state) p in
    let object = object_named (table_of state) p.name in
    let f = found (limit_of g) state p.name t present in
    let fits = binding_fits g state o places count n t good in
    let stays : (s : Column) → number rows.base rows.width (run own.commands s)
    ≡ number rows.base rows.width s =
    λ s. number_same rows.base rows.width s (run own.commands s) (λ row x y.
    keeps.row g.rows (binding g (table_of state) o.shape places n) s fits row
    (untouched g state o places count n f.place row t good f.within
    (subst (λ (q : Object). has_row q row ≡ true) f.object
    (part_row object p.part row inside (has_from rows row x y)))
    (no_row (rows_of (table_of state)) rows row (dsts_in o.shape places) apart
    (has_from rows row x y)))) in
    ap (λ j. columns g (through j banks) rows) is
    ∙ below_same (number rows.base rows.width) (through own banks) banks (segments g rows)
    (λ bank h. through_same (number rows.base rows.width) own banks bank stays)

pub first_operand : (table : List Named) (count n : ℕ) (kind : Kind) (kinds : List Kind) (p : Place)
    (places : List Place) → AreOperands table count n (kind ∷ kinds) (p ∷ places)
    → IsOperand table count n kind p
first_operand table count n kind kinds p places (more _ _ _ _ op rest) = op
