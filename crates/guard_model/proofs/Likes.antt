-- Objects that are alike in one element, where it is whole; the word machine keeps them so,
-- wherever they lie.
use Rattle.guard_model.proofs.Common.{and_parts, ◌≡◌, ℕ, zero, suc, ◌+◌, Bool, true, false, not}
use Rattle.guard_model.proofs.Common.{◌&&◌, ◌||◌, cond, List, [], ◌∷◌, ◌++◌, length, get_or, map}
use Rattle.guard_model.proofs.Common.{Option, Some, None, refl, sym, ◌∙◌, ap, subst, arith, filter}
use Rattle.guard_model.proofs.Common.{is_none, replicate, slice_index, take, find, list_all}
use Rattle.guard_model.proofs.Common.{range_with_len, option_map, unwrap_or, bytes_eq, length-map}
use Rattle.guard_model.proofs.Common.{Geometry, padded_to, Object, Named, Part, Place, Instruction}
use Rattle.guard_model.proofs.Common.{Init, Bbop, Load, Fill, Print, Free, Order, object_size}
use Rattle.guard_model.proofs.Common.{put_all, seen, object_named, rows_of, nothing, Routines, Held}
use Rattle.guard_model.proofs.Common.{table_of, numbers_named, numbers_at, computed, worded}
use Rattle.guard_model.proofs.Common.{with_results, new_numbers, dsts_of, srcs_of, part_count}
use Rattle.guard_model.proofs.Common.{same_bytes}
use Rattle.dram_model.specs.Elements.{size_of}
use Rattle.machine_model.specs.Places.{put}
use Rattle.guard_model.specs.Survival.{Whole, whole_done, whole_written}
use Rattle.guard_model.proofs.Trios.{unplaced}

-- numbers that are as many, and where this holds the same in one element
abbrev pub AreLike : ℕ → Bool → List ℕ → List ℕ → Type 0
AreLike at right xs ys = (length xs ≡ length ys)
    × (right ≡ true → get_or xs at 0 ≡ get_or ys at 0)

pub record Like (at : ℕ) (whole : Whole) (h o : Held) : Type 0 where
  pub name : h.name ≡ o.name
  pub width : h.object.width ≡ o.object.width
  pub count : h.object.count ≡ o.object.count
  pub numbers : AreLike at (whole o.name) h.numbers o.numbers

abbrev pub AllLike : ℕ → Whole → List Held → List Held → Type 0
AllLike at whole [] [] = Unit {0}
AllLike at whole [] (o ∷ os) = ⊥
AllLike at whole (h ∷ hs) [] = ⊥
AllLike at whole (h ∷ hs) (o ∷ os) = Like at whole h o × AllLike at whole hs os

-- it is so where fewer are whole
pub weaken_one : (at : ℕ) (v w : Whole) (h o : Held) → (w o.name ≡ true → v o.name ≡ true)
    → Like at v h o → Like at w h o
weaken_one at v w h o sub l = record {
  name = l.name;
  width = l.width;
  count = l.count;
  numbers = (l.numbers.0, λ e. l.numbers.1 (sub e));
}

pub weaken : (at : ℕ) (v w : Whole) (hs os : List Held)
    → ((name : List ℕ) → w name ≡ true → v name ≡ true) → AllLike at v hs os → AllLike at w hs os
weaken at v w [] [] sub a = tt
weaken at v w [] (o ∷ os) sub a = absurd a
weaken at v w (h ∷ hs) [] sub a = absurd a
weaken at v w (h ∷ hs) (o ∷ os) sub a =
    (weaken_one at v w h o (sub o.name) a.0, weaken at v w hs os sub a.1)

-- and wherever the objects lie
to_unplaced : (at : ℕ) (whole : Whole) (hs os : List Held) → AllLike at whole hs os
    → AllLike at whole (map unplaced hs) os
to_unplaced at whole [] [] a = tt
to_unplaced at whole [] (o ∷ os) a = absurd a
to_unplaced at whole (h ∷ hs) [] a = absurd a
to_unplaced at whole (h ∷ hs) (o ∷ os) a = (
  record { name = a.0.name; width = a.0.width; count = a.0.count; numbers = a.0.numbers },
  to_unplaced at whole hs os a.1,
)

from_unplaced : (at : ℕ) (whole : Whole) (hs os : List Held)
    → AllLike at whole (map unplaced hs) os → AllLike at whole hs os
from_unplaced at whole [] [] a = tt
from_unplaced at whole [] (o ∷ os) a = absurd a
from_unplaced at whole (h ∷ hs) [] a = absurd a
from_unplaced at whole (h ∷ hs) (o ∷ os) a = (
  record { name = a.0.name; width = a.0.width; count = a.0.count; numbers = a.0.numbers },
  from_unplaced at whole hs os a.1,
)

pub elsewhere : (at : ℕ) (whole : Whole) (hs is os : List Held) → map unplaced hs ≡ map unplaced is
    → AllLike at whole is os → AllLike at whole hs os
elsewhere at whole hs is os e a = from_unplaced at whole hs os
    (subst (λ (l : List Held). AllLike at whole l os) (sym e) (to_unplaced at whole is os a))

-- What is found by a name
abbrev numbers_in : Option Held → List ℕ
numbers_in found = unwrap_or (option_map (λ (h : Held). h.numbers) found) []

named_case : (at : ℕ) (whole : Whole) (h o : Held) (name : List ℕ) (b : Bool) (r s : Option Held)
    → bytes_eq o.name name ≡ b → Like at whole h o
    → AreLike at (whole name) (numbers_in r) (numbers_in s)
    → AreLike at (whole name) (numbers_in (cond b (Some h) r)) (numbers_in (cond b (Some o) s))
named_case at whole h o name true r s e l rest =
    (l.numbers.0, λ w. l.numbers.1 (ap whole (same_bytes o.name name e) ∙ w))
named_case at whole h o name false r s e l rest = rest

pub named_like : (at : ℕ) (whole : Whole) (hs os : List Held) (name : List ℕ)
    → AllLike at whole hs os
    → AreLike at (whole name) (numbers_named hs name) (numbers_named os name)
named_like at whole [] [] name a = (refl, λ e. refl)
named_like at whole [] (o ∷ os) name a = absurd a
named_like at whole (h ∷ hs) [] name a = absurd a
named_like at whole (h ∷ hs) (o ∷ os) name a =
    subst (λ (m : List ℕ). AreLike at (whole name)
    (numbers_in (cond (bytes_eq m name) (Some h) (find (λ (x : Held). bytes_eq x.name name) hs)))
    (numbers_named (o ∷ os) name)) (sym a.0.name)
    (named_case at whole h o name (bytes_eq o.name name) _ _ refl a.0
    (named_like at whole hs os name a.1))

abbrev object_in : Option Named → Object
object_in found = unwrap_or (option_map (λ (p : Named). p.1) found) nothing

count_case : (h o : Held) (b : Bool) (r s : Option Named) → h.object.count ≡ o.object.count
    → (object_in r).count ≡ (object_in s).count
    → (object_in (cond b (Some (h.name, h.object)) r)).count
    ≡ (object_in (cond b (Some (o.name, o.object)) s)).count
count_case h o true r s e rest = e
count_case h o false r s e rest = rest

named_count : (at : ℕ) (whole : Whole) (hs os : List Held) (name : List ℕ)
    → AllLike at whole hs os
    → (object_named (table_of hs) name).count ≡ (object_named (table_of os) name).count
named_count at whole [] [] name a = refl
named_count at whole [] (o ∷ os) name a = absurd a
named_count at whole (h ∷ hs) [] name a = absurd a
named_count at whole (h ∷ hs) (o ∷ os) name a =
    subst (λ (m : List ℕ). (object_in (cond (bytes_eq m name) (Some (h.name, h.object))
    (find (λ (p : Named). bytes_eq p.0 name) (table_of hs)))).count
    ≡ (object_named (table_of (o ∷ os)) name).count) (sym a.0.name)
    (count_case h o (bytes_eq o.name name) _ _ a.0.count (named_count at whole hs os name a.1))

pub count_like : (at : ℕ) (whole : Whole) (hs os : List Held) (p : Place) → AllLike at whole hs os
    → (rows_of (table_of hs) p).count ≡ (rows_of (table_of os) p).count
count_like at whole hs os p a =
    part_count (object_named (table_of hs) p.name) p.part ∙ named_count at whole hs os p.name a
    ∙ sym (part_count (object_named (table_of os) p.name) p.part)

-- Numbers of parts
map_at : (f : ℕ → ℕ) (at : ℕ) (xs ys : List ℕ) → length xs ≡ length ys
    → get_or xs at 0 ≡ get_or ys at 0 → get_or (map f xs) at 0 ≡ get_or (map f ys) at 0
map_at f at [] [] l e = refl
map_at f at [] (y ∷ ys) l e = absurd (omega arith)
map_at f at (x ∷ xs) [] l e = absurd (omega arith)
map_at f zero (x ∷ xs) (y ∷ ys) l e = ap f e
map_at f (suc at) (x ∷ xs) (y ∷ ys) l e = map_at f at xs ys (omega arith) e

pub place_like : (at : ℕ) (whole : Whole) (hs os : List Held) (p : Place) → AllLike at whole hs os
    → AreLike at (whole p.name) (numbers_at hs p) (numbers_at os p)
place_like at whole hs os p a =
    let n = named_like at whole hs os p.name a in (
      length-map (numbers_named hs p.name) (seen p.part) ∙ n.0
          ∙ sym (length-map (numbers_named os p.name) (seen p.part)),
      λ w. map_at (seen p.part) at (numbers_named hs p.name) (numbers_named os p.name) n.0 (n.1 w),
    )

pub take_at : (n at : ℕ) (xs ys : List ℕ) → length xs ≡ length ys → get_or xs at 0 ≡ get_or ys at 0
    → get_or (take n xs) at 0 ≡ get_or (take n ys) at 0
take_at zero at xs ys l e = refl
take_at (suc n) at [] [] l e = refl
take_at (suc n) at [] (y ∷ ys) l e = absurd (omega arith)
take_at (suc n) at (x ∷ xs) [] l e = absurd (omega arith)
take_at (suc n) zero (x ∷ xs) (y ∷ ys) l e = e
take_at (suc n) (suc at) (x ∷ xs) (y ∷ ys) l e = take_at n at xs ys (omega arith) e

put_case : (part : Option Part) (was : Bool) (x y r s : ℕ) → (is_none part || was) ≡ true
    → (was ≡ true → x ≡ y) → r ≡ s → put part x r ≡ put part y s
put_case None was x y r s b e f = f
put_case (Some p) was x y r s b e f = rw (e b, f) refl

put_at : (part : Option Part) (was : Bool) (at : ℕ) (xs ys rs ss : List ℕ)
    → length xs ≡ length ys → length rs ≡ length ss → (is_none part || was) ≡ true
    → (was ≡ true → get_or xs at 0 ≡ get_or ys at 0) → get_or rs at 0 ≡ get_or ss at 0
    → get_or (put_all part xs rs) at 0 ≡ get_or (put_all part ys ss) at 0
put_at part was at [] [] rs ss l m b e f = refl
put_at part was at [] (y ∷ ys) rs ss l m b e f = absurd (omega arith)
put_at part was at (x ∷ xs) [] rs ss l m b e f = absurd (omega arith)
put_at part was at (x ∷ xs) (y ∷ ys) [] [] l m b e f = refl
put_at part was at (x ∷ xs) (y ∷ ys) [] (s ∷ ss) l m b e f = absurd (omega arith)
put_at part was at (x ∷ xs) (y ∷ ys) (r ∷ rs) [] l m b e f = absurd (omega arith)
put_at part was zero (x ∷ xs) (y ∷ ys) (r ∷ rs) (s ∷ ss) l m b e f =
    put_case part was x y r s b e f
put_at part was (suc at) (x ∷ xs) (y ∷ ys) (r ∷ rs) (s ∷ ss) l m b e f =
    put_at part was at xs ys rs ss (omega arith) (omega arith) b e f

put_size : (part : Option Part) (xs ys rs ss : List ℕ) → length xs ≡ length ys
    → length rs ≡ length ss → length (put_all part xs rs) ≡ length (put_all part ys ss)
put_size part [] [] rs ss l m = refl
put_size part [] (y ∷ ys) rs ss l m = absurd (omega arith)
put_size part (x ∷ xs) [] rs ss l m = absurd (omega arith)
put_size part (x ∷ xs) (y ∷ ys) [] [] l m = refl
put_size part (x ∷ xs) (y ∷ ys) [] (s ∷ ss) l m = absurd (omega arith)
put_size part (x ∷ xs) (y ∷ ys) (r ∷ rs) [] l m = absurd (omega arith)
put_size part (x ∷ xs) (y ∷ ys) (r ∷ rs) (s ∷ ss) l m =
    ap suc (put_size part xs ys rs ss (omega arith) (omega arith))

written_case : (at : ℕ) (right was b : Bool) (part : Option Part) (xs ys rs ss : List ℕ)
    → AreLike at was xs ys → AreLike at right rs ss
    → AreLike at (cond b (right && (is_none part || was)) was) (cond b (put_all part xs rs) xs)
    (cond b (put_all part ys ss) ys)
written_case at right was true part xs ys rs ss a r = (
  put_size part xs ys rs ss a.0 r.0,
  λ e.
      let both = and_parts right (is_none part || was) e in
      put_at part was at xs ys rs ss a.0 r.0 both.1 a.1 (r.1 both.0),
)
written_case at right was false part xs ys rs ss a r = a

-- results that are alike where they are right
abbrev ResultsLike : ℕ → Bool → (ℕ → List ℕ) → (ℕ → List ℕ) → Type 0
ResultsLike at right f g = (k : ℕ) → AreLike at right (f k) (g k)

new_like : (at : ℕ) (right : Bool) (f g : ℕ → List ℕ) → ResultsLike at right f g
    → (k : ℕ) (dsts : List Place) (name : List ℕ) (was : Bool) (xs ys : List ℕ)
    → AreLike at was xs ys
    → AreLike at (whole_written right dsts name was) (new_numbers f k dsts name xs)
    (new_numbers g k dsts name ys)
new_like at right f g r k [] name was xs ys a = a
new_like at right f g r k (dst ∷ dsts) name was xs ys a =
    new_like at right f g r (k + 1) dsts name _ _ _
    (written_case at right was (bytes_eq name dst.name) dst.part xs ys (f k) (g k) a (r k))

results_like : (at : ℕ) (right : Bool) (whole : Whole) (f g : ℕ → List ℕ) (dsts : List Place)
    (hs os : List Held) → ResultsLike at right f g → AllLike at whole hs os
    → AllLike at (λ name. whole_written right dsts name (whole name)) (with_results hs f dsts)
    (with_results os g dsts)
results_like at right whole f g dsts [] [] r a = tt
results_like at right whole f g dsts [] (o ∷ os) r a = absurd a
results_like at right whole f g dsts (h ∷ hs) [] r a = absurd a
results_like at right whole f g dsts (h ∷ hs) (o ∷ os) r a = (
  record {
    name = a.0.name;
    width = a.0.width;
    count = a.0.count;
    numbers = subst (λ (m : List ℕ). AreLike at
        (whole_written right dsts o.name (whole o.name)) (new_numbers f 0 dsts m h.numbers)
        (new_numbers g 0 dsts o.name o.numbers)) (sym a.0.name)
        (new_like at right f g r 0 dsts o.name (whole o.name) h.numbers o.numbers a.0.numbers);
  },
  results_like at right whole f g dsts hs os r a.1,
)

-- What is computed of sources
cons_same : (a b : ℕ) (r s : List ℕ) → a ≡ b → r ≡ s → a ∷ r ≡ b ∷ s
cons_same a b r s e f = rw (e, f) refl

sources_like : (at : ℕ) (whole : Whole) (hs os : List Held) (places : List Place)
    → AllLike at whole hs os → list_all (λ (p : Place). whole p.name) places ≡ true
    → map (λ (ns : List ℕ). slice_index ns at) (map (numbers_at hs) places)
    ≡ map (λ (ns : List ℕ). slice_index ns at) (map (numbers_at os) places)
sources_like at whole hs os [] a e = refl
sources_like at whole hs os (p ∷ places) a e =
    let both = and_parts (whole p.name) (list_all (λ (p : Place). whole p.name) places) e in
    cons_same _ _ _ _ ((place_like at whole hs os p a).1 both.0)
    (sources_like at whole hs os places a both.1)

range_at : (f g : ℕ → ℕ) (a n i : ℕ) → f (a + i) ≡ g (a + i)
    → get_or (map f (range_with_len a n)) i 0 ≡ get_or (map g (range_with_len a n)) i 0
range_at f g a zero i e = refl
range_at f g a (suc n) zero e = let z : a + 0 ≡ a = omega arith in subst (λ j. f j ≡ g j) z e
range_at f g a (suc n) (suc i) e =
    let z : a + suc i ≡ a + 1 + i = omega arith in
    range_at f g (a + 1) n i (subst (λ j. f j ≡ g j) z e)

range_size : (f g : ℕ → ℕ) (a n : ℕ)
    → length (map f (range_with_len a n)) ≡ length (map g (range_with_len a n))
range_size f g a n =
    length-map (range_with_len a n) f ∙ sym (length-map (range_with_len a n) g)

computed_like : (at : ℕ) (whole : Whole) (hs os : List Held) (meaning : List ℕ → ℕ)
    (places : List Place) (n m : ℕ) → n ≡ m → AllLike at whole hs os
    → AreLike at (list_all (λ (p : Place). whole p.name) places)
    (computed meaning (map (numbers_at hs) places) n)
    (computed meaning (map (numbers_at os) places) m)
computed_like at whole hs os meaning places n m e a =
    let values = λ (state : List Held) (j : ℕ). meaning
    (map (λ (ns : List ℕ). slice_index ns j) (map (numbers_at state) places)) in
    subst (λ (k : ℕ). AreLike at (list_all (λ (p : Place). whole p.name) places)
    (computed meaning (map (numbers_at hs) places) n)
    (computed meaning (map (numbers_at os) places) k)) e (
      range_size (values hs) (values os) 0 n,
      λ w. let z : at ≡ 0 + at = omega arith in
          range_at (values hs) (values os) 0 n at (subst (λ j. values hs j ≡ values os j) z
          (ap meaning (sources_like at whole hs os places a w))),
    )

same_like : (at : ℕ) (right : Bool) (xs ys : List ℕ) → xs ≡ ys → AreLike at right xs ys
same_like at right xs ys e = (ap length e, λ w. ap (λ (l : List ℕ). get_or l at 0) e)

-- Objects that come and go
push_like : (at : ℕ) (whole : Whole) (h o : Held) (hs os : List Held) → Like at whole h o
    → AllLike at whole hs os → AllLike at whole (hs ++ h ∷ []) (os ++ o ∷ [])
push_like at whole h o [] [] l a = (l, tt)
push_like at whole h o [] (p ∷ os) l a = absurd a
push_like at whole h o (p ∷ hs) [] l a = absurd a
push_like at whole h o (p ∷ hs) (q ∷ os) l a = (a.0, push_like at whole h o hs os l a.1)

abbrev is_other : List ℕ → Held → Bool
is_other name h = not (bytes_eq h.name name)

abbrev freed : List ℕ → Whole → Whole
freed name whole other = bytes_eq other name || whole other

whole_other : (b w : Bool) → b ≡ false → (b || w) ≡ true → w ≡ true
whole_other true w e h = cc
whole_other false w e h = h

free_case : (at : ℕ) (whole : Whole) (name : List ℕ) (h o : Held) (b : Bool) (r s : List Held)
    → bytes_eq o.name name ≡ b → Like at whole h o → AllLike at (freed name whole) r s
    → AllLike at (freed name whole) (cond (not b) (h ∷ r) r) (cond (not b) (o ∷ s) s)
free_case at whole name h o true r s e l a = a
free_case at whole name h o false r s e l a =
    (weaken_one at whole (freed name whole) h o (whole_other _ _ e) l, a)

free_like : (at : ℕ) (whole : Whole) (name : List ℕ) (hs os : List Held) → AllLike at whole hs os
    → AllLike at (freed name whole) (filter (is_other name) hs) (filter (is_other name) os)
free_like at whole name [] [] a = tt
free_like at whole name [] (o ∷ os) a = absurd a
free_like at whole name (h ∷ hs) [] a = absurd a
free_like at whole name (h ∷ hs) (o ∷ os) a =
    subst (λ (m : List ℕ). AllLike at (freed name whole)
    (cond (not (bytes_eq m name)) (h ∷ filter (is_other name) hs) (filter (is_other name) hs))
    (filter (is_other name) (o ∷ os))) (sym a.0.name)
    (free_case at whole name h o (bytes_eq o.name name) _ _ refl a.0
    (free_like at whole name hs os a.1))

-- The word machine keeps objects alike
module _ (g : Geometry) (operations : Routines) (meaning : List ℕ → ℕ → List ℕ → List ℕ) (at : ℕ)
    (whole : Whole) (hs os : List Held) (a : AllLike at whole hs os) where
  sizes : (p : Place)
      → object_size g (rows_of (table_of hs) p) ≡ object_size g (rows_of (table_of os) p)
  sizes p = ap (size_of g) (count_like at whole hs os p a)

  pub worded_like : (instr : Instruction) → AllLike at (whole_done operations instr whole)
      (worded g operations meaning hs instr) (worded g operations meaning os instr)
  worded_like (Init name count n) =
      weaken at whole (whole_done operations (Init name count n) whole) _ _ (λ m e. e)
      (push_like at whole _ _ hs os
      (record { name = refl; width = refl; count = refl; numbers = (refl, λ e. refl) }) a)
  worded_like (Bbop op dst srcs count n) =
      let places = srcs_of (operations op) (dst ∷ srcs) in
      let right = list_all (λ (p : Place). whole p.name) places in
      let dsts = dsts_of (operations op) (dst ∷ srcs) in
      weaken at (λ name. whole_written right dsts name (whole name))
      (whole_done operations (Bbop op dst srcs count n) whole) _ _ (λ m e. e)
      (results_like at right whole _ _ dsts hs os (λ k.
      computed_like at whole hs os (λ vs. slice_index (meaning op n vs) k) places _ _ (sizes dst) a)
      a)
  worded_like (Load place values) =
      weaken at (λ name. whole_written true (place ∷ []) name (whole name))
      (whole_done operations (Load place values) whole) _ _ (λ m e. e)
      (results_like at true whole _ _ (place ∷ []) hs os (λ k.
      same_like at true _ _ (ap (λ size. padded_to size values) (sizes place))) a)
  worded_like (Fill place value) =
      weaken at (λ name. whole_written true (place ∷ []) name (whole name))
      (whole_done operations (Fill place value) whole) _ _ (λ m e. e)
      (results_like at true whole _ _ (place ∷ []) hs os (λ k.
      same_like at true _ _ (ap (λ size. replicate size value) (sizes place))) a)
  worded_like (Print place) =
      weaken at whole (whole_done operations (Print place) whole) hs os (λ m e. e) a
  worded_like (Free name) =
      weaken at (freed name whole) (whole_done operations (Free name) whole) _ _ (λ m e. e)
      (free_like at whole name hs os a)
  worded_like (Order order) =
      weaken at whole (whole_done operations (Order order) whole) hs os (λ m e. e) a
