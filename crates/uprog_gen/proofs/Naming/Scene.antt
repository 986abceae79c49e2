-- What is true of the names of an operation that meets the rules, where each has its place.
use Rattle.uprog_gen.proofs.Common.{◌≡◌, ℕ, ◌<◌, map, true, false, ◌||◌, cond, List, [], ◌∷◌, ◌++◌}
use Rattle.uprog_gen.proofs.Common.{Option, Some, None, refl, sym, ap, ◌∙◌, subst, arith, bytes_eq}
use Rattle.uprog_gen.proofs.Common.{inl, inr, mul-add-lt, slice_get, option_to_list, Kind, Word}
use Rattle.uprog_gen.proofs.Common.{Bit, Param, Operation, result_names, Each, is_among, kind_among}
use Rattle.uprog_gen.proofs.Common.{width, body_defines, scratch_names, scratch_words, IsNew}
use Rattle.uprog_gen.proofs.Common.{names_of, OperationMeets, all_names, same_name, op_shape}
use Rattle.uprog_gen.proofs.Common.{Source, Slot, IsOwn, spot_in, Slots, slot_spot}
use Rattle.std.specs.Option.{option_map}
use Rattle.op_text.specs.Language.{results}
use Rattle.uprog_code.specs.Shape as shape
use Rattle.uprog_gen.specs.Where.{IsSpot, IsBelow}
use Rattle.uprog_gen.specs.Layout.{Lay, IsLayout, source_lays, place_in, defined_lays, lays, found}
use Rattle.uprog_gen.specs.Laying.{kind_in}
use Rattle.uprog_gen.proofs.Naming.Lays.{lay, by_bool, params_of, found_each, found_apart}
use Rattle.uprog_gen.proofs.Naming.Lays.{found_kind, found_new, found-append, or_else}
use Rattle.uprog_gen.proofs.Naming.Lays.{source_params, lays_params}
use Rattle.uprog_gen.proofs.Naming.Lies.{IsDefinedLay, LiesIn, kinds_of, all_lie, all_apart}
use Rattle.uprog_gen.proofs.Naming.Lies.{own_each}

-- kinds of names in two lists
pub kind_skip : (ps qs : List Param) (name : List ℕ) → is_among (names_of ps) name ≡ false
    → kind_among (ps ++ qs) name ≡ kind_among qs name
kind_skip [] qs name h = refl
kind_skip (p ∷ ps) qs name h = let more = kind_skip ps qs name in grind (arith, h, more)

pub kind_first : (ps qs : List Param) (name : List ℕ) (k : Kind) → kind_among ps name ≡ Some k
    → kind_among (ps ++ qs) name ≡ Some k
kind_first [] qs name k h = absurd (cc)
kind_first (p ∷ ps) qs name k h = let more = kind_first ps qs name k in grind (arith, h, more)

pub kind_known : (ps : List Param) (name : List ℕ) → is_among (names_of ps) name ≡ true
    → (k : Kind) × (kind_among ps name ≡ Some k)
kind_known [] name h = absurd (cc)
kind_known (p ∷ ps) name h = by_bool (λ b. (b || is_among (names_of ps) name) ≡ true
    → (k : Kind) × (cond b (Some p.kind) (kind_among ps name) ≡ Some k)) (bytes_eq p.name name)
    (λ e f. (p.kind, refl)) (λ e f. kind_known ps name f) h

pub known_among : (ps : List Param) (name : List ℕ) (k : Kind) → kind_among ps name ≡ Some k
    → is_among (names_of ps) name ≡ true
known_among [] name k h = absurd (cc)
known_among (p ∷ ps) name k h = let more = known_among ps name k in grind (arith, h, more)

pub width_same : (k : Kind) (n : ℕ) → width n k ≡ shape.width k n
width_same Word n = refl
width_same Bit n = refl

pub kind_back : (o : Option Slot) (k : Kind) → kind_in o ≡ Some k → (x : Slot) × (o ≡ Some x)
    × (x.kind ≡ k)
kind_back None k h = absurd (cc)
kind_back (Some x) k h = (x, refl, cc)

-- the kinds of results
each_known : (params defined ps : List Param) → Each (IsNew (names_of params))
    (map (λ (p : Param). p.name) ps)
    → Each (λ (r : Param). kind_among defined r.name ≡ Some r.kind) ps
    → Each (λ (r : Param). kind_among (params ++ defined) r.name ≡ Some r.kind) ps
each_known params defined [] new given = tt
each_known params defined (p ∷ ps) new given = (
  kind_skip params defined p.name new.0 ∙ given.0,
  each_known params defined ps new.1 given.1,
)

kind_at_place : (all ps : List Param) (name : List ℕ) (k : Kind)
    → Each (λ (r : Param). kind_among all r.name ≡ Some r.kind) ps
    → is_among (map (λ (p : Param). p.name) ps) name ≡ true → kind_among all name ≡ Some k
    → slice_get (kinds_of ps) (place_in (map (λ (p : Param). p.name) ps) name) ≡ Some k
kind_at_place all [] name k known h e = absurd (cc)
kind_at_place all (p ∷ ps) name k known h e =
    let more = kind_at_place all ps name k known.1 in
    let same = λ (s : bytes_eq p.name name ≡ true). ap (kind_among all) (same_name p.name name s) in
    let first = known.0 in grind (arith, h, e, first, same, more)

second_kinds : (o : Option Param) → option_to_list (option_map (λ (p : Param). p.kind) o)
    ≡ kinds_of (option_to_list o)
second_kinds None = refl
second_kinds (Some p) = refl

pub shape_results : (op : Operation) → shape.results (op_shape op) ≡ kinds_of (results op)
shape_results op = ap (λ l. op.result.kind ∷ l) (second_kinds op.second)

defined_own : (op : Operation) (m : Lay) → IsDefinedLay (result_names op) 0 0 (scratch_names Bit op)
    (scratch_names Word op) m → IsOwn m.slot.space
defined_own op m (inl h) = subst IsOwn (sym h.0) tt
defined_own op m (inr (inl h)) = subst IsOwn (sym h.0) tt
defined_own op m (inr (inr h)) = subst IsOwn (sym h.0) tt

module _ (op : Operation) (meets : OperationMeets op) (slots : Slots) (free_bit free_word : ℕ)
    (is : IsLayout op slots free_bit free_word) where
  all_params : params_of (lays op) ≡ all_names op
  all_params = lays_params (result_names op) op.params (body_defines op.params op.body)

  all_kinds : (name : List ℕ) → kind_among (all_names op) name ≡ kind_in (slots name)
  all_kinds name = ap (λ ps. kind_among ps name) (sym all_params) ∙ found_kind (lays op) name
      ∙ ap kind_in (sym (is.at name))

  pub kind_of_slot : (name : List ℕ) (x : Slot) → slots name ≡ Some x
      → kind_among (all_names op) name ≡ Some x.kind
  kind_of_slot name x e = all_kinds name ∙ ap kind_in e

  pub slot_there : (name : List ℕ) (k : Kind) → kind_among (all_names op) name ≡ Some k
      → (x : Slot) × (slots name ≡ Some x) × (x.kind ≡ k)
  slot_there name k h = kind_back (slots name) k (sym (all_kinds name) ∙ h)

  pub slot_none : (name : List ℕ) → is_among (names_of (all_names op)) name ≡ false
      → slots name ≡ None
  slot_none name h = is.at name ∙ found_new (lays op) name
      (ap (λ ps. is_among (names_of ps) name) all_params ∙ h)

  pub slot_lies : (name : List ℕ) (x : Slot) → slots name ≡ Some x → LiesIn op (lay name x)
  slot_lies name x e = found_each (LiesIn op) (lays op) name x (all_lie op) (sym (is.at name) ∙ e)

  pub slots_apart : (a b : List ℕ) (x y : Slot) → slots a ≡ Some x → slots b ≡ Some y
      → x.space ≡ y.space → x.which ≡ y.which → a ≡ b
  slots_apart a b x y e f s w = found_apart (lays op) a b x y (all_apart op) (sym (is.at a)
      ∙ e) (sym (is.at b) ∙ f) s w

  pub slot_own : (name : List ℕ) (x : Slot) → is_among (names_of op.params) name ≡ false
      → slots name ≡ Some x → IsOwn x.space
  slot_own name x h e =
      let own = defined_lays (result_names op) 0 0 (body_defines op.params op.body) in
      let none : found (source_lays 0 op.params) name ≡ None =
      found_new (source_lays 0 op.params) name
      (ap (λ ps. is_among (names_of ps) name) (source_params 0 op.params) ∙ h) in
      let f : found own name ≡ Some x = sym (ap (λ o. or_else o (found own name)) none)
      ∙ sym (found-append (source_lays 0 op.params) own name) ∙ sym (is.at name) ∙ e in
      defined_own op (lay name x) (found_each
      (IsDefinedLay (result_names op) 0 0 (scratch_names Bit op) (scratch_names Word op)) own name
      x (own_each op) f)

  -- the results have their own kinds
  pub results_known : Each (λ (r : Param). kind_among (all_names op) r.name ≡ Some r.kind)
      (results op)
  results_known = each_known op.params (body_defines op.params op.body) (results op)
      meets.results_new meets.results_given

  in_source : (n v : ℕ) (x : Slot) → slice_get (kinds_of op.params) x.which ≡ Some x.kind
      → v < width n x.kind → IsSpot (op_shape op) n (spot_in n Source x.which v)
  in_source n v x e lt = subst (λ (o : Option Kind). IsBelow o n v) (sym e)
      (subst (λ (m : ℕ). v < m) (width_same x.kind n) lt)

  pub slot_spots : (name : List ℕ) (x : Slot) → slots name ≡ Some x → (n v : ℕ) → v < width n x.kind
      → IsSpot (op_shape op) n (slot_spot n x v)
  slot_spots name x e n v lt = by (slot_lies name x e)
    where
      kind : x.which ≡ place_in (result_names op) name → is_among (result_names op) name ≡ true
          → slice_get (shape.results (op_shape op)) x.which ≡ Some x.kind
      kind w m = ap (λ l. slice_get l x.which) (shape_results op)
          ∙ ap (slice_get (kinds_of (results op))) w
          ∙ kind_at_place (all_names op) (results op) name x.kind results_known m
          (kind_of_slot name x e)

      by : LiesIn op (lay name x) → IsSpot (op_shape op) n (spot_in n x.space x.which v)
      by (inl h) = rw (h.0) (in_source n v x h.1 lt)
      by (inr (inl h)) = rw (h.0) (subst (λ (o : Option Kind). IsBelow o n v) (sym (kind h.1 h.2))
          (subst (λ (l : ℕ). v < l) (width_same x.kind n) lt))
      by (inr (inr (inl h))) = rw (h.0) (omega (arith, h.3), refl)
      by (inr (inr (inr h))) = rw (h.0) (
        refl,
        mul-add-lt x.which n v (scratch_words op) (omega (arith, h.3))
            (subst (λ (j : Kind). v < width n j) h.1 lt),
      )
