-- Whole guarded scripts.
use Rattle.guard_model.proofs.Common.{and_parts, ◌≡◌, ℕ, ◌+◌, ◌<◌, ◌≤◌, Bool, true, false, not}
use Rattle.guard_model.proofs.Common.{◌&&◌, ◌||◌, cond, eqb, List, [], ◌∷◌, ◌++◌, length, map, drop}
use Rattle.guard_model.proofs.Common.{Option, Some, None, refl, sym, ◌∙◌, ap, subst, arith, ◌⊎◌}
use Rattle.guard_model.proofs.Common.{slice_index, take, AllByRecursion, bytes_eq, length-map}
use Rattle.guard_model.proofs.Common.{Geometry, Banks, below, column_count, number, Object, Named}
use Rattle.guard_model.proofs.Common.{limit_of, Place, Instruction, Init, Bbop, Load, Fill, Print}
use Rattle.guard_model.proofs.Common.{Free, Order, Why, columns, segments, seen, Routines, refusal}
use Rattle.guard_model.proofs.Common.{rows_of, goes_past, is_absent, Held, table_of, numbers_at}
use Rattle.guard_model.proofs.Common.{table_after, worded, if_done, reply_by, is_refused}
use Rattle.guard_model.proofs.Common.{bytes_same, nat_tests, flat_map, Counts}
use Rattle.std.proofs.lemmas.Grind.{div_ceil_times}
use Rattle.std.proofs.lemmas.List.{length-take-le}
use Rattle.std.proofs.lemmas.List.Elements.{All-from_recursion, recursion_from_All}
use Rattle.dram_model.specs.Elements.{segments_of}
use Rattle.object_alloc.specs.Listed.{IsTable}
use Rattle.machine_model.specs.Agrees.{Agrees, DoesAll, IsPlain}
use Rattle.machine_model.proofs.Whole.{rows_give_words}
use Rattle.machine_model.specs.Opened.{Image, opened, objects_held}
use Rattle.machine_model.specs.Routines.{routines_of, meaning_in}
use Rattle.machine_model.proofs.Opened.{opened_agrees}
use Rattle.machine_model.proofs.Texts.{does_all}
use Rattle.dram_model.specs.Geometry.{is_geometry}
use Rattle.machine_model.proofs.Bbops.{operand_columns}
use Rattle.machine_model.proofs.Facts.{not_false, operand_is}
use Rattle.machine_model.proofs.Steps.{operand_within}
use Rattle.guard_model.specs.declared.Flip.{Flip}
use Rattle.guard_model.specs.Flips.{all_flipped, due}
use Rattle.guard_model.specs.Triples.{x_letter, y_letter, z_letter, first_copies, first_stranger}
use Rattle.guard_model.specs.Triples.{stranger_from}
use Rattle.guard_model.specs.Guarded.{place_on, plain_ones, plain_script, done_ones, removal}
use Rattle.guard_model.specs.Guarded.{joined}
use Rattle.guard_model.specs.Guarded.{guarded_reply, guarded_table, guarded_rows, lone_words}
use Rattle.guard_model.specs.Guarded.{mended}
use Rattle.guard_model.specs.Survival.{HoldsWhole, IsWholeCopy, PrintsWhole, Spot, Whole}
use Rattle.guard_model.specs.Survival.{element_at, whole_after, whole_done, whole_first}
use Rattle.guard_model.specs.Survival.{whole_mended}
use Rattle.guard_model.specs.Laws.{HasName, IsGuarded, GuardedGivesWords, GuardedTextGivesWords}
use Rattle.guard_model.specs.Laws.{TriplesKept, RefusedStays, AllOrNone}
use Rattle.guard_model.proofs.Trios.{Trio, alone, entry, equal_tested, place, spread}
use Rattle.guard_model.proofs.Trios.{separate_of, triple, trio_of, trios_of, trios_spread}
use Rattle.guard_model.proofs.Trios.{no_stranger, HaveNames}
use Rattle.guard_model.proofs.Flips.{flips_length}
use Rattle.guard_model.proofs.Likes.{AllLike, AreLike, Like, count_like, elsewhere, place_like}
use Rattle.guard_model.proofs.Likes.{take_at, weaken, worded_like}
use Rattle.guard_model.proofs.Mends.{EqualIn, IsLong, IsWithin, Kept, all_equal, all_kept}
use Rattle.guard_model.proofs.Mends.{banks_become_most, columns_length, held, named_case}
use Rattle.guard_model.proofs.Mends.{voted_length}
use Rattle.guard_model.proofs.Names.{copies_like as like_copies, copy_numbers, is_x}
use Rattle.guard_model.proofs.Runs.{guarded_words, none_yet, script_by, table_steps}
use Rattle.guard_model.proofs.Changes.{step}

ones_plain : (instr : Instruction) → IsPlain instr → AllByRecursion IsPlain (plain_ones instr)
ones_plain (Init name count n) h = (h, (h, (h, tt)))
ones_plain (Bbop op dst srcs count n) h = (h, (h, (h, tt)))
ones_plain (Load place values) h = (tt, (tt, (tt, tt)))
ones_plain (Fill place value) h = (tt, (tt, (tt, tt)))
ones_plain (Print place) h = (tt, tt)
ones_plain (Free name) h = (tt, (tt, (tt, tt)))
ones_plain (Order o) h = (tt, tt)

done_case : (r : Option Why) (i : Instruction) (rest : List Instruction) → IsPlain i
    → AllByRecursion IsPlain rest → AllByRecursion IsPlain (if_done r (i ∷ rest) [])
done_case None i rest h k = (h, k)
done_case (Some w) i rest h k = tt

done_plain : (g : Geometry) (operations : Routines) (table : List Named)
    (script : List Instruction) → AllByRecursion IsPlain script → AllByRecursion IsPlain
    (done_ones g operations table script)
done_plain g operations table [] h = tt
done_plain g operations table (i ∷ rest) h = done_case (refusal g operations table i) i _ h.0
    (done_plain g operations (table_after g operations table i) rest h.1)

removal_plain : (i : Instruction) (rest : List Instruction) → AllByRecursion IsPlain rest
    → AllByRecursion IsPlain (removal i ++ rest)
removal_plain (Init name count n) rest h = (tt, h)
removal_plain (Bbop op dst srcs count n) rest h = h
removal_plain (Load place values) rest h = h
removal_plain (Fill place value) rest h = h
removal_plain (Print place) rest h = h
removal_plain (Free name) rest h = h
removal_plain (Order o) rest h = h

removals_plain : (script : List Instruction) → AllByRecursion IsPlain (flat_map removal script)
removals_plain [] = tt
removals_plain (i ∷ script) = removal_plain i (flat_map removal script) (removals_plain script)

both_plain : (a b : List Instruction) → AllByRecursion IsPlain a → AllByRecursion IsPlain b
    → AllByRecursion IsPlain (a ++ b)
both_plain [] b h k = k
both_plain (i ∷ a) b h k = (h.0, both_plain a b h.1 k)

script_plain : (b : Bool) (done : List Instruction) → AllByRecursion IsPlain done
    → AllByRecursion IsPlain (script_by b done)
script_plain true done h = both_plain done (flat_map removal done) h (removals_plain done)
script_plain false done h = h

all_plain : (g : Geometry) (operations : Routines) (table : List Named) (instr : Instruction)
    → IsPlain instr → AllByRecursion IsPlain (plain_script g operations table instr)
all_plain g operations table instr h = script_plain
    (is_refused (guarded_reply g operations table instr)) _
    (done_plain g operations table (plain_ones instr) (ones_plain instr h))

-- The step of the rows gives the guarded word machine's step
pub guarded_agrees : (g : Geometry) (operations : Routines)
    (meaning : List ℕ → ℕ → List ℕ → List ℕ) (instr : Instruction) → 0 < g.words
    → DoesAll operations meaning → IsPlain instr → (banks : Banks) (state : List Held)
    → Agrees g banks state
    → Agrees g (guarded_rows g operations (table_of state) banks instr)
    (guarded_words g operations meaning state instr)
guarded_agrees g operations meaning instr words does plain banks state a =
    rows_give_words g operations meaning
    (plain_script g operations (table_of state) instr) words does
    (all_plain g operations (table_of state) instr plain) banks state a

-- its table goes its own way
pub guarded_table_is : (g : Geometry) (operations : Routines)
    (meaning : List ℕ → ℕ → List ℕ → List ℕ) (state : List Held) (instr : Instruction) → table_of
    (guarded_words g operations meaning state instr) ≡ guarded_table g operations
    (table_of state) instr
guarded_table_is g operations meaning state instr = table_steps g operations meaning state
    (plain_script g operations (table_of state) instr)

-- Copies that stand in the banks, of which the whole elements are those of these objects. They may
-- differ, as at the start
pub record Stands (g : Geometry) (at : ℕ) (banks : Banks) (whole : Whole) (table : List Named)
    (lone : List Held) : Type 0 where
  pub trios : List Trio
  pub named : HaveNames trios
  pub table_is : table_of (spread trios) ≡ table
  pub shaped : (bank : ℕ) → bank < g.banks → length (banks bank) ≡ column_count g
  pub rows : IsTable (limit_of g) table
  pub within : AllByRecursion (IsWithin g) trios
  pub x : AllLike at whole (map (held g banks (λ t. t.x)) trios) lone
  pub y : AllLike at whole (map (held g banks (λ t. t.y)) trios) lone
  pub z : AllLike at whole (map (held g banks (λ t. t.z)) trios) lone

-- and such as are equal
pub record Even (g : Geometry) (at : ℕ) (banks : Banks) (whole : Whole) (table : List Named)
    (lone : List Held) : Type 0 where
  pub trios : List Trio
  pub named : HaveNames trios
  pub table_is : table_of (spread trios) ≡ table
  pub agrees : Agrees g banks (spread trios)
  pub like : AllLike at whole (map alone trios) lone

-- each copy has the trio's numbers
abbrev Holds : Geometry → Banks → Trio → Type 0
Holds g banks t = (columns g banks (place t t.x) ≡ t.numbers)
    × (columns g banks (place t t.y) ≡ t.numbers) × (columns g banks (place t t.z) ≡ t.numbers)

abbrev Right : Geometry → Banks → Held → Type 0
Right g banks h = columns g banks h.object ≡ h.numbers

holds_each : (g : Geometry) (banks : Banks) (ts : List Trio) → AllByRecursion (Right g banks)
    (spread ts) → AllByRecursion (Holds g banks) ts
holds_each g banks [] h = tt
holds_each g banks (t ∷ ts) h = ((h.0, h.1.0, h.1.1.0), holds_each g banks ts h.1.1.1)

each_holds : (g : Geometry) (banks : Banks) (ts : List Trio) → AllByRecursion (Holds g banks) ts
    → AllByRecursion (Right g banks) (spread ts)
each_holds g banks [] h = tt
each_holds g banks (t ∷ ts) h = (h.0.0, (h.0.1, (h.0.2, each_holds g banks ts h.1)))

abbrev Fits : Geometry → Held → Type 0
Fits g h = segments g h.object ≤ g.banks

within_each : (g : Geometry) (ts : List Trio) → AllByRecursion (Fits g) (spread ts)
    → AllByRecursion (IsWithin g) ts
within_each g [] h = tt
within_each g (t ∷ ts) h = (h.0, within_each g ts h.1.1.1)

each_within : (g : Geometry) (ts : List Trio) → AllByRecursion (IsWithin g) ts
    → AllByRecursion (Fits g) (spread ts)
each_within g [] h = tt
each_within g (t ∷ ts) h = (h.0, (h.0, (h.0, each_within g ts h.1)))

-- the copies in the banks are like the trios
copies_like : (g : Geometry) (at : ℕ) (banks : Banks) (whole : Whole) (base : Trio → ℕ)
    (ts : List Trio) (lone : List Held)
    → ((t : Trio) → Holds g banks t → columns g banks (place t (base t)) ≡ t.numbers)
    → AllByRecursion (Holds g banks) ts → AllLike at whole (map alone ts) lone
    → AllLike at whole (map (held g banks base) ts) lone
copies_like g at banks whole base [] [] is h a = tt
copies_like g at banks whole base [] (o ∷ os) is h a = absurd a
copies_like g at banks whole base (t ∷ ts) [] is h a = absurd a
copies_like g at banks whole base (t ∷ ts) (o ∷ os) is h a = (
  record {
    name = a.0.name;
    width = a.0.width;
    count = a.0.count;
    numbers = subst (λ ns. AreLike at (whole o.name) ns o.numbers) (sym (is t h.0)) a.0.numbers;
  },
  copies_like g at banks whole base ts os is h.1 a.1,
)

stands : (g : Geometry) (at : ℕ) (banks : Banks) (whole : Whole) (table : List Named)
    (lone : List Held) → Even g at banks whole table lone → Stands g at banks whole table lone
stands g at banks whole table lone e =
    let h = holds_each g banks e.trios
    (recursion_from_All (Right g banks) (spread e.trios) e.agrees.numbers) in
    record {
      trios = e.trios;
      named = e.named;
      table_is = e.table_is;
      shaped = e.agrees.shaped;
      rows = subst (IsTable (limit_of g)) e.table_is e.agrees.table;
      within = within_each g e.trios
          (recursion_from_All (Fits g) (spread e.trios) e.agrees.within);
      x = copies_like g at banks whole (λ t. t.x) e.trios lone (λ t i. i.0) h e.like;
      y = copies_like g at banks whole (λ t. t.y) e.trios lone (λ t i. i.1) h e.like;
      z = copies_like g at banks whole (λ t. t.z) e.trios lone (λ t i. i.2) h e.like;
    }

-- Flips and votes make them equal again
abbrev filled : Geometry → Banks → Trio → Trio
filled g banks t = record {
  name = t.name;
  x = t.x;
  y = t.y;
  z = t.z;
  width = t.width;
  count = t.count;
  numbers = columns g banks (place t t.x);
}

filled_table : (g : Geometry) (banks : Banks) (ts : List Trio)
    → table_of (spread (map (filled g banks) ts)) ≡ table_of (spread ts)
filled_table g banks [] = refl
filled_table g banks (t ∷ ts) =
    ap (λ (r : List Named). (x_letter ∷ t.name, place t t.x) ∷ (y_letter ∷ t.name, place t t.y)
    ∷ (z_letter ∷ t.name, place t t.z) ∷ r) (filled_table g banks ts)

filled_named : (g : Geometry) (banks : Banks) (ts : List Trio) → HaveNames ts
    → HaveNames (map (filled g banks) ts)
filled_named g banks [] h = tt
filled_named g banks (t ∷ ts) h = (h.0, filled_named g banks ts h.1)

filled_within : (g : Geometry) (banks : Banks) (ts : List Trio) → AllByRecursion (IsWithin g) ts
    → AllByRecursion (IsWithin g) (map (filled g banks) ts)
filled_within g banks [] h = tt
filled_within g banks (t ∷ ts) h = (h.0, filled_within g banks ts h.1)

filled_holds : (g : Geometry) (banks : Banks) (ts : List Trio)
    → AllByRecursion (EqualIn g banks) ts
    → AllByRecursion (Holds g banks) (map (filled g banks) ts)
filled_holds g banks [] h = tt
filled_holds g banks (t ∷ ts) h = ((refl, h.0.0, h.0.1), filled_holds g banks ts h.1)

filled_alone : (g : Geometry) (banks : Banks) (ts : List Trio)
    → map (held g banks (λ t. t.x)) ts ≡ map alone (map (filled g banks) ts)
filled_alone g banks [] = refl
filled_alone g banks (t ∷ ts) = ap (λ r. held g banks (λ t. t.x) t ∷ r) (filled_alone g banks ts)

all_long : (g : Geometry) (banks : Banks) (ts : List Trio)
    → ((bank : ℕ) → bank < g.banks → length (banks bank) ≡ column_count g)
    → AllByRecursion (IsWithin g) ts → AllByRecursion (IsLong g banks) ts
all_long g banks [] long h = tt
all_long g banks (t ∷ ts) long h =
    (λ bank l. long bank (omega (arith, h.0)), all_long g banks ts long h.1)

mend_trios : (g : Geometry) (flips : List Flip) (k : ℕ) (spot : Spot) (whole : Whole)
    (banks : Banks) (ts : List Trio) (lone : List Held) → spot.column < column_count g
    → HaveNames ts → ((bank : ℕ) → bank < g.banks → length (banks bank) ≡ column_count g)
    → IsTable (limit_of g) (table_of (spread ts)) → AllByRecursion (IsWithin g) ts
    → AllLike (element_at g spot) whole (map (held g banks (λ t. t.x)) ts) lone
    → AllLike (element_at g spot) whole (map (held g banks (λ t. t.y)) ts) lone
    → AllLike (element_at g spot) whole (map (held g banks (λ t. t.z)) ts) lone
    → Even g (element_at g spot) (mended g flips k (table_of (spread ts)) banks)
    (whole_mended flips k spot (table_of (spread ts)) whole) (table_of (spread ts)) lone
mend_trios g flips k spot whole banks ts lone fits have long rows within x y z =
    let at = element_at g spot in
    let now = all_flipped (due k flips) banks in
    let new = mended g flips k (table_of (spread ts)) banks in
    let same : (bank : ℕ) → length (new bank) ≡ length (now bank) = voted_length g ts now in
    let shaped : (bank : ℕ) → bank < g.banks → length (new bank) ≡ column_count g = λ bank l.
    same bank ∙ flips_length (due k flips) banks bank ∙ long bank l in
    let become = banks_become_most g ts now (separate_of ts rows.rows) in
    let table = filled_table g new ts in
    let like = all_kept g (due k flips) banks new spot whole ts lone fits
    (all_long g banks ts long within) (all_long g new ts shaped within) become x y z in
    record {
      trios = map (filled g new) ts;
      named = filled_named g new ts have;
      table_is = table;
      agrees = record {
        shaped = shaped;
        table = subst (IsTable (limit_of g)) (sym table) rows;
        within = All-from_recursion (Fits g) (spread (map (filled g new) ts))
            (each_within g (map (filled g new) ts) (filled_within g new ts within));
        numbers = All-from_recursion (Right g new) (spread (map (filled g new) ts))
            (each_holds g new (map (filled g new) ts)
            (filled_holds g new ts (all_equal g now new ts same become)));
      };
      like = subst (λ l. AllLike at (whole_mended flips k spot (table_of (spread ts)) whole) l lone)
          (filled_alone g new ts)
          (weaken at (Kept (due k flips) spot (table_of (spread ts)) whole)
          (whole_mended flips k spot (table_of (spread ts)) whole) _ lone (λ name e. e) like);
    }

mend : (g : Geometry) (flips : List Flip) (k : ℕ) (spot : Spot) (whole : Whole)
    (banks : Banks) (table : List Named) (lone : List Held) → spot.column < column_count g
    → Stands g (element_at g spot) banks whole table lone
    → Even g (element_at g spot) (mended g flips k table banks)
    (whole_mended flips k spot table whole) table lone
mend g flips k spot whole banks table lone fits s =
    subst (λ (t : List Named). Even g (element_at g spot) (mended g flips k t banks)
    (whole_mended flips k spot t whole) t lone) s.table_is
    (mend_trios g flips k spot whole banks s.trios lone fits s.named s.shaped
    (subst (IsTable (limit_of g)) (sym s.table_is) s.rows) s.within s.x s.y s.z)

-- An instruction keeps them so, and prints what the objects have
module _ (g : Geometry) (operations : Routines) (meaning : List ℕ → ℕ → List ℕ → List ℕ)
    (words : 0 < g.words) (does : DoesAll operations meaning) (spot : Spot) where
  like_case : (b : Bool) (whole : Whole) (ts : List Trio) (lone : List Held) (instr : Instruction)
      → AllLike (element_at g spot) whole (map alone ts) lone
      → AllLike (element_at g spot) (cond b whole (whole_done operations instr whole))
      (cond b (map alone ts) (worded g operations meaning (map alone ts) instr))
      (cond b lone (worded g operations meaning lone instr))
  like_case true whole ts lone instr a = a
  like_case false whole ts lone instr a =
      worded_like g operations meaning (element_at g spot) whole (map alone ts) lone a instr

  pub next : (banks : Banks) (whole : Whole) (ts : List Trio) (lone : List Held)
      (instr : Instruction) → IsPlain instr → HasName instr → HaveNames ts
      → Agrees g banks (spread ts) → AllLike (element_at g spot) whole (map alone ts) lone
      → Even g (element_at g spot)
      (guarded_rows g operations (table_of (spread ts)) banks instr)
      (whole_after g operations (table_of (spread ts)) instr whole)
      (guarded_table g operations (table_of (spread ts)) instr)
      (lone_words g operations meaning (table_of (spread ts)) lone instr)
  next banks whole ts lone instr plain name have a like =
      let st = step g operations meaning ts instr have name in
      let b = is_refused (guarded_reply g operations (table_of (spread ts)) instr) in
      record {
        trios = st.trios;
        named = st.named;
        table_is = sym (sym (guarded_table_is g operations meaning (spread ts) instr)
            ∙ ap table_of st.words);
        agrees = subst (Agrees g (guarded_rows g operations (table_of (spread ts)) banks instr))
            st.words (guarded_agrees g operations meaning instr words does plain banks (spread ts)
            a);
        like = weaken (element_at g spot) (cond b whole (whole_done operations instr whole))
            (whole_after g operations (table_of (spread ts)) instr whole) _ _
            (λ m e. e)
            (elsewhere (element_at g spot) (cond b whole (whole_done operations instr whole))
            (map alone st.trios)
            (cond b (map alone ts) (worded g operations meaning (map alone ts) instr)) _ st.alone
            (like_case b whole ts lone instr like));
      }

  done_only : (r : Option Why) (c : Counts)
      → is_refused (joined none_yet (reply_by r c ∷ [])) ≡ false → r ≡ None
  done_only None c done = refl
  done_only (Some why) c done = absurd (cc)

  print_right : (banks : Banks) (whole : Whole) (ts : List Trio) (lone : List Held) (p : Place)
      → Agrees g banks (spread ts) → AllLike (element_at g spot) whole (map alone ts) lone
      → PrintsWhole g operations spot whole (table_of (spread ts)) banks lone (Print p)
  print_right banks whole ts lone p a like done =
      let at = element_at g spot in
      let first = place_on x_letter p in
      let table = table_of (spread ts) in
      let o = rows_of table first in
      let e = done_only (refusal g operations table (Print first)) _ done in
      let is = operand_is (is_absent table first.name) (goes_past table first) [] e in
      let inside = operand_within g banks (spread ts) first a (not_false _ is.0) in
      let size = columns_length g banks o (λ bank l. a.shaped bank (omega (arith, l, inside))) in
      let room = (div_ceil_times o.count (column_count g) (omega (arith, words))).0 in
      let column = operand_columns g banks (spread ts) first a (not_false _ is.0) is.1 in
      let copies = ap (map (seen p.part)) (copy_numbers x_letter (λ t. t.x) ts p.name is_x) in
      let counts = (like_copies x_letter (λ t. t.x) ts is_x).counted p
      ∙ count_like at whole (map alone ts) lone p like in
      let n = place_like at whole (map alone ts) lone p like in (
        length-take-le o.count (columns g banks o) (omega (arith, size, room)) ∙ counts,
        λ w. ap (λ (ns : List ℕ). slice_index (take o.count ns) at) (sym column ∙ copies)
            ∙ take_at o.count at (numbers_at (map alone ts) p) (numbers_at lone p) n.0 (n.1 w)
            ∙ ap (λ c. slice_index (take c (numbers_at lone p)) at) counts,
      )

  pub prints : (banks : Banks) (whole : Whole) (ts : List Trio) (lone : List Held)
      (instr : Instruction)
      → Agrees g banks (spread ts) → AllLike (element_at g spot) whole (map alone ts) lone
      → PrintsWhole g operations spot whole (table_of (spread ts)) banks lone instr
  prints banks whole ts lone (Print p) a like =
      print_right banks whole ts lone p a like
  prints banks whole ts lone (Init name count n) a like = tt
  prints banks whole ts lone (Bbop op dst srcs count n) a like = tt
  prints banks whole ts lone (Load p values) a like = tt
  prints banks whole ts lone (Fill p value) a like = tt
  prints banks whole ts lone (Free name) a like = tt
  prints banks whole ts lone (Order o) a like = tt

-- At the end
copy_right : (g : Geometry) (banks : Banks) (spot : Spot) (whole : Whole) (letter : ℕ)
    (base : Trio → ℕ) (t : Trio) (o : Held)
    → Like (element_at g spot) whole (held g banks base t) o
    → IsWholeCopy g banks spot whole letter (letter ∷ t.name, place t (base t)) o
copy_right g banks spot whole letter base t o l = record {
  name = ap (λ n. letter ∷ n) l.name;
  width = l.width;
  count = l.count;
  number = l.numbers.1;
}

all_right : (g : Geometry) (banks : Banks) (spot : Spot) (whole : Whole) (ts : List Trio)
    (os : List Held)
    → AllLike (element_at g spot) whole (map (held g banks (λ t. t.x)) ts) os
    → AllLike (element_at g spot) whole (map (held g banks (λ t. t.y)) ts) os
    → AllLike (element_at g spot) whole (map (held g banks (λ t. t.z)) ts) os
    → HoldsWhole g banks spot whole (table_of (spread ts)) os
all_right g banks spot whole [] [] x y z = tt
all_right g banks spot whole [] (o ∷ os) x y z = absurd x
all_right g banks spot whole (t ∷ ts) [] x y z = absurd x
all_right g banks spot whole (t ∷ ts) (o ∷ os) x y z = (
  copy_right g banks spot whole x_letter (λ t. t.x) t o x.0,
  copy_right g banks spot whole y_letter (λ t. t.y) t o y.0,
  copy_right g banks spot whole z_letter (λ t. t.z) t o z.0,
  all_right g banks spot whole ts os x.1 y.1 z.1,
)

holds_whole : (g : Geometry) (banks : Banks) (spot : Spot) (whole : Whole) (table : List Named)
    (lone : List Held) → Stands g (element_at g spot) banks whole table lone
    → HoldsWhole g banks spot whole table lone
holds_whole g banks spot whole table lone s =
    subst (λ (t : List Named). HoldsWhole g banks spot whole t lone) s.table_is
    (all_right g banks spot whole s.trios lone s.x s.y s.z)

-- A whole script
guarded_from : (g : Geometry) (operations : Routines) (meaning : List ℕ → ℕ → List ℕ → List ℕ)
    (flips : List Flip) (k : ℕ) (script : List Instruction) → 0 < g.words
    → DoesAll operations meaning → AllByRecursion IsPlain script → AllByRecursion HasName script
    → (spot : Spot) → spot.column < column_count g
    → (banks : Banks) (whole : Whole) (table : List Named) (lone : List Held)
    → Stands g (element_at g spot) banks whole table lone
    → IsGuarded g operations meaning flips k spot whole table banks lone script
guarded_from g operations meaning flips k [] words does plain names spot fits banks whole table
    lone s =
    record {
      holds = holds_whole g _ spot _ table lone (stands g _ _ _ table lone
          (mend g flips k spot whole banks table lone fits s));
      prints = tt;
    }
guarded_from g operations meaning flips k (instr ∷ script) words does plain names spot fits banks
    whole table lone s =
    let now = mended g flips k table banks in
    let kept = whole_mended flips k spot table whole in
    let e = mend g flips k spot whole banks table lone fits s in
    let after = subst (λ (t : List Named). Even g (element_at g spot)
    (guarded_rows g operations t now instr) (whole_after g operations t instr kept)
    (guarded_table g operations t instr) (lone_words g operations meaning t lone instr)) e.table_is
    (next g operations meaning words does spot now kept e.trios lone instr plain.0 names.0 e.named
    e.agrees e.like) in
    let rest = guarded_from g operations meaning flips (k + 1) script words does plain.1 names.1
    spot fits _ _ _ _ (stands g _ _ _ _ _ after) in
    record {
      holds = rest.holds;
      prints = (
        subst (λ (t : List Named). PrintsWhole g operations spot kept t now lone instr) e.table_is
            (prints g operations meaning words does spot now kept e.trios lone instr e.agrees
            e.like),
        rest.prints,
      );
    }

-- At the start: the copies are those of a state, and what is equal is whole
start_within : (g : Geometry) (state : List Held) → AllByRecursion (Fits g) state
    → AllByRecursion (IsWithin g) (trios_of state)
start_within g [] h = tt
start_within g (x ∷ []) h = tt
start_within g (x ∷ y ∷ []) h = tt
start_within g (x ∷ y ∷ z ∷ rest) h = (h.0, start_within g rest h.1.1.1)

same_columns : (g : Geometry) (banks : Banks) (o : Object) (w c : ℕ) → o.width ≡ w → o.count ≡ c
    → columns g banks (record { base = o.base; width = w; count = c }) ≡ columns g banks o
same_columns g banks o w c e f = rw (sym e, sym f) refl

columns_size : (g : Geometry) (banks : Banks) (o p : Object) → o.count ≡ p.count
    → length (columns g banks o) ≡ length (columns g banks p)
columns_size g banks o p e =
    length-map (below (segments g o) banks) (number o.base o.width)
    ∙ ap (λ c. length (below (segments_of g c) banks)) e
    ∙ sym (length-map (below (segments g p) banks) (number p.base p.width))

first_head : (g : Geometry) (spot : Spot) (x y z : Held) (rest : List Held)
    → x.name ≡ x_letter ∷ drop 1 x.name
    → whole_first g spot (x ∷ y ∷ z ∷ rest) (drop 1 x.name) ≡ true
    → (slice_index y.numbers (element_at g spot) ≡ slice_index x.numbers (element_at g spot))
    × (slice_index z.numbers (element_at g spot) ≡ slice_index x.numbers (element_at g spot))
first_head g spot x y z rest n h =
    let at = element_at g spot in
    let p = eqb (slice_index y.numbers at) (slice_index x.numbers at) in
    let q = eqb (slice_index z.numbers at) (slice_index x.numbers at) in
    let is = bytes_eq x.name (x_letter ∷ drop 1 x.name) in
    let a = and_parts (not is || (p && q)) (whole_first g spot rest (drop 1 x.name)) h in
    let b = and_parts p q (named_case is (p && q)
    (bytes_same x.name (x_letter ∷ drop 1 x.name) n) a.0) in
    (equal_tested _ _ b.0, equal_tested _ _ b.1)

first_rest : (g : Geometry) (spot : Spot) (x y z : Held) (rest : List Held) (name : List ℕ)
    → whole_first g spot (x ∷ y ∷ z ∷ rest) name ≡ true
    → whole_first g spot rest name ≡ true
first_rest g spot x y z rest name h =
    let at = element_at g spot in
    let p = eqb (slice_index y.numbers at) (slice_index x.numbers at) in
    let q = eqb (slice_index z.numbers at) (slice_index x.numbers at) in
    (and_parts (not (bytes_eq x.name (x_letter ∷ name)) || (p && q))
    (whole_first g spot rest name) h).1

module _ (g : Geometry) (banks : Banks) (spot : Spot) where
  -- which copy it is, and that it stands where its trio says
  start_copy : (x y z c : Held) (rest : List Held) (base : Trio → ℕ)
      → base (trio_of x y z) ≡ c.object.base
      → c.object.width ≡ x.object.width → c.object.count ≡ x.object.count → Right g banks x
      → Right g banks c
      → (whole_first g spot (x ∷ y ∷ z ∷ rest) (drop 1 x.name) ≡ true
      → slice_index c.numbers (element_at g spot) ≡ slice_index x.numbers (element_at g spot))
      → Like (element_at g spot) (whole_first g spot (x ∷ y ∷ z ∷ rest))
      (held g banks base (trio_of x y z))
      (record { name = drop 1 x.name; object = x.object; numbers = x.numbers })
  start_copy x y z c rest base b w n right own same =
      let t = trio_of x y z in
      let is : columns g banks (place t (base t)) ≡ c.numbers =
      ap (λ i. columns g banks (place t i)) b
      ∙ same_columns g banks c.object x.object.width x.object.count w n ∙ own in
      record {
        name = refl;
        width = refl;
        count = refl;
        numbers = (
          ap length is ∙ sym (ap length own) ∙ columns_size g banks c.object x.object n
              ∙ ap length right,
          λ e. ap (λ (ns : List ℕ). slice_index ns (element_at g spot)) is ∙ same e,
        );
      }

  abbrev Copies : (Trio → ℕ) → List Held → Type 0
  Copies base state = AllLike (element_at g spot) (whole_first g spot state)
      (map (held g banks base) (trios_of state)) (first_copies state)

  start_like : (state : List Held) (k : ℕ) → stranger_from k (table_of state) ≡ None
      → AllByRecursion (Right g banks) state
      → Copies (λ t. t.x) state × Copies (λ t. t.y) state × Copies (λ t. t.z) state
  start_like [] k none h = (tt, tt, tt)
  start_like (x ∷ []) k none h = cc
  start_like (x ∷ y ∷ []) k none h = cc
  start_like (x ∷ y ∷ z ∷ rest) k none h =
      let t = triple (entry x) (entry y) (entry z) (table_of rest) k none in
      let more = start_like rest (k + 3) t.1 h.1.1.1 in
      let at = element_at g spot in
      let whole = whole_first g spot (x ∷ y ∷ z ∷ rest) in
      let later = λ (base : Trio → ℕ) (a : Copies base rest). weaken at (whole_first g spot rest)
      whole (map (held g banks base) (trios_of rest)) (first_copies rest)
      (first_rest g spot x y z rest) a in
      let same = first_head g spot x y z rest t.0.first in (
        (
          start_copy x y z x rest (λ t. t.x) refl refl refl h.0 h.0 (λ e. refl),
          later (λ t. t.x) more.0,
        ),
        (
          start_copy x y z y rest (λ t. t.y) refl t.0.second.1 t.0.second.2 h.0 h.1.0
              (λ e. (same e).0),
          later (λ t. t.y) more.1,
        ),
        (
          start_copy x y z z rest (λ t. t.z) refl t.0.third.1 t.0.third.2 h.0 h.1.1.0
              (λ e. (same e).1),
          later (λ t. t.z) more.2,
        ),
      )

start : (g : Geometry) (banks : Banks) (spot : Spot) (state : List Held) → Agrees g banks state
    → first_stranger (table_of state) ≡ None
    → Stands g (element_at g spot) banks (whole_first g spot state) (table_of state)
    (first_copies state)
start g banks spot state a none =
    let s = trios_spread state 0 none in
    let like = start_like g banks spot state 0 none
    (recursion_from_All (Right g banks) state a.numbers) in
    record {
      trios = trios_of state;
      named = s.1;
      table_is = s.0;
      shaped = a.shaped;
      rows = a.table;
      within = start_within g state (recursion_from_All (Fits g) state a.within);
      x = like.0;
      y = like.1;
      z = like.2;
    }

pub guarded_gives_words : GuardedGivesWords
guarded_gives_words g operations meaning flips k script words does plain names banks state a none
    spot fits =
    guarded_from g operations meaning flips k script words does plain names spot fits banks
    (whole_first g spot state) (table_of state) (first_copies state)
    (start g banks spot state a none)

-- A table alone, as the state of objects without numbers
abbrev bare : Named → Held
bare p = record { name = p.0; object = p.1; numbers = [] }

bare_table : (table : List Named) → table_of (map bare table) ≡ table
bare_table [] = refl
bare_table (p ∷ table) = ap (λ r. p ∷ r) (bare_table table)

kept_from : (g : Geometry) (operations : Routines) (ts : List Trio) (instr : Instruction)
    → HaveNames ts → HasName instr → first_stranger
    (guarded_table g operations (table_of (spread ts)) instr) ≡ None
kept_from g operations ts instr have name =
    let meaning : List ℕ → ℕ → List ℕ → List ℕ = λ op n values. [] in
    let st = step g operations meaning ts instr have name in
    let e : guarded_table g operations (table_of (spread ts)) instr ≡ table_of (spread st.trios) =
    sym (guarded_table_is g operations meaning (spread ts) instr) ∙ ap table_of st.words in
    ap first_stranger e ∙ no_stranger st.trios 0 st.named

-- So it is with tables
on_table : (g : Geometry) (operations : Routines) (table : List Named) (P : List Named → Type 0)
    → first_stranger table ≡ None → ((ts : List Trio) → HaveNames ts → P (table_of (spread ts)))
    → P table
on_table g operations table P triples h =
    let s = trios_spread (map bare table) 0 (ap first_stranger (bare_table table) ∙ triples) in
    subst P (s.0 ∙ bare_table table) (h (trios_of (map bare table)) s.1)

abbrev no_meaning : List ℕ → ℕ → List ℕ → List ℕ
no_meaning op n values = []

pub refused_stays : RefusedStays
refused_stays g operations table instr name triples =
    on_table g operations table (λ t. is_refused (guarded_reply g operations t instr) ≡ true
    → guarded_table g operations t instr ≡ t) triples (λ ts have refused.
    let st = step g operations no_meaning ts instr have name in
    sym (guarded_table_is g operations no_meaning (spread ts) instr) ∙ ap table_of st.words ∙ ap
    (λ (us : List Trio). table_of (spread us)) (st.stays refused))

pub all_or_none : AllOrNone
all_or_none g operations table instr plain name triples =
    on_table g operations table (λ t. (plain_script g operations t instr ≡ plain_ones instr) ⊎
    (plain_script g operations t instr ≡ [])) triples
    (λ ts have. (step g operations no_meaning ts instr have name).even plain)

-- a guarded instruction keeps the table one of triples
pub triples_kept : TriplesKept
triples_kept g operations table instr name triples = on_table g operations table
    (λ t. first_stranger (guarded_table g operations t instr) ≡ None) triples
    (λ ts have. kept_from g operations ts instr have name)

words_pos : (g : Geometry) → is_geometry g ≡ true → 0 < g.words
words_pos g h = grind (arith, nat_tests, and_parts)

held_table : (i : Image) (table : List Named) → table_of
    (map (λ (p : Named). record {
      name = p.0;
      object = p.1;
      numbers = columns i.geometry
          (opened i) p.1;
    }) table) ≡ table
held_table i [] = refl
held_table i (p ∷ table) = ap (λ r. p ∷ r) (held_table i table)

-- a guarded run by a text ends as the word machine without flips
pub guarded_text : GuardedTextGivesWords
guarded_text p t i flips script good does plain names triples spot fits =
    let table : table_of (objects_held i) ≡ i.table = held_table i i.table in
    subst (λ (named : List Named). IsGuarded i.geometry (routines_of t p) (meaning_in t) flips 1 spot
    (whole_first i.geometry spot (objects_held i)) named (opened i) (first_copies (objects_held i))
    script) table
    (guarded_gives_words i.geometry (routines_of t p) (meaning_in t) flips 1 script
    (words_pos i.geometry good.geometry) (does_all p t does) plain names (opened i) (objects_held i)
    (opened_agrees i (words_pos i.geometry good.geometry) good)
    (ap first_stranger table ∙ triples) spot fits)
