-- A scan in the rows.
use Rattle.scan_model.proofs.Common.{◌≡◌, ℕ, zero, suc, ◌+◌, ◌^◌, ◌<◌, ◌≤◌, ◌==◌, Bool, true, false}
use Rattle.scan_model.proofs.Common.{cond, List, [], ◌∷◌, ◌++◌, map, length, get_or, None, refl}
use Rattle.scan_model.proofs.Common.{sym, ◌∙◌, ap, subst, arith, All, count_by, AllByRecursion}
use Rattle.scan_model.proofs.Common.{range_with_len, length-map, map-append, sum_by-cons}
use Rattle.scan_model.proofs.Common.{length-range_with_len, pow_pos, bit_number, Geometry, Column}
use Rattle.scan_model.proofs.Common.{Banks, number, below, Object, Named, IsObject, segments}
use Rattle.scan_model.proofs.Common.{columns, routines_of, meaning_in, object_named, rows_of, Held}
use Rattle.scan_model.proofs.Common.{table_of, Agrees, IsPlain, IsWidth, banks_at_end, entry_of}
use Rattle.std.proofs.lemmas.List.FromFn.{take-map-range_with_len}
use Rattle.bit_rows.proofs.Words.{value-below}
use Rattle.dram_model.specs.declared.address.Cell.TheVariants.{D}
use Rattle.machine_model.proofs.Whole.{text_gives_words}
use Rattle.scan_model.specs.Queries.{Query, HasParts, Node, Test, Not, And, Or, matches, size}
use Rattle.scan_model.specs.Queries.{nodes_of}
use Rattle.scan_model.specs.Names.{free_name}
use Rattle.scan_model.specs.Instructions.{node_instructions, script_from, scan_script, count_of}
use Rattle.scan_model.specs.Checks.{check_test, checked_from, checked}
use Rattle.scan_model.specs.Operations.{scan_text}
use Rattle.scan_model.specs.Laws.{IsHeld, ScanInRows, OnesAreFound, element}
use Rattle.scan_model.proofs.States.{has_at, at_object, at_all}
use Rattle.scan_model.proofs.Goes.{table_end}
use Rattle.scan_model.proofs.Counted.{all_append}
use Rattle.scan_model.proofs.Meant.{text_means, text_offers}
use Rattle.scan_model.proofs.Trees.{asked_some}
use Rattle.scan_model.proofs.Parts.{LooksAtSome, nodes_some, part_wide}
use Rattle.scan_model.proofs.Whole.{or_later_none, test_checked, asked, scan_in_words}

tail_all : {X : Type 0} (P : X → Type 0) (x : X) (xs : List X) → All P (x ∷ xs) → All P xs
tail_all P x xs a k d l = a (suc k) d (omega (arith, l))

-- the last of a list, and those before it
all_last : {X : Type 0} (P : X → Type 0) (xs : List X) (x : X) → All P (xs ++ x ∷ []) → P x
all_last P [] x a = a 0 x (omega arith)
all_last P (y ∷ xs) x a = all_last P xs x (tail_all P y (xs ++ x ∷ []) a)

all_front : {X : Type 0} (P : X → Type 0) (xs : List X) (x : X) → All P (xs ++ x ∷ [])
    → AllByRecursion P xs
all_front P [] x a = tt
all_front P (y ∷ xs) x a = (a 0 y (omega arith), all_front P xs x (tail_all P y (xs ++ x ∷ []) a))

number_fits : (base n : ℕ) (s : Column) → number base n s < 2 ^ n
number_fits base n s = subst (λ k. number base n s < 2 ^ k) (same base n s)
    (value-below (map (λ row. s (D row)) (range_with_len base n))) where
      same : (base n : ℕ) (s : Column) → length (map (λ row. s (D row)) (range_with_len base n)) ≡ n
      same base n s = let l = length-range_with_len base n in simp length-map l

at_fits : (f : Column → ℕ) (limit : ℕ) (xs : List Column) (e : ℕ) → ((s : Column) → f s < limit)
    → 0 < limit → get_or (map f xs) e 0 < limit
at_fits f limit [] e h l = l
at_fits f limit (x ∷ xs) zero h l = h x
at_fits f limit (x ∷ xs) (suc e) h l = at_fits f limit xs e h l

held : (g : Geometry) (banks : Banks) (h : Held) → IsObject g h.object
    → columns g banks h.object ≡ h.numbers → IsHeld g h
held g banks h o is = record {
  wide = o.wide;
  narrow = o.narrow;
  some = o.some;
  fits = o.fits;
  numbers_fit = λ e. subst (λ xs. get_or xs e 0 < 2 ^ h.object.width) is
      (at_fits (number h.object.base h.object.width) (2 ^ h.object.width)
      (below (segments g h.object) banks) e (number_fits h.object.base h.object.width)
      (pow_pos h.object.width));
}

all_held : (g : Geometry) (banks : Banks) (state : List Held)
    → AllByRecursion (λ h. IsObject g h.object) state
    → All (λ h. columns g banks h.object ≡ h.numbers) state → AllByRecursion (IsHeld g) state
all_held g banks [] o is = tt
all_held g banks (h ∷ state) o is = (
  held g banks h o.0 (is 0 h (omega arith)),
  all_held g banks state o.1 (tail_all (λ h. columns g banks h.object ≡ h.numbers) h state is),
)

-- a query's instructions have widths from 1 to 64
one_wide : IsWidth 1
one_wide = (omega arith, omega arith)

node_plain : (g : Geometry) (state : List Held) (names : ℕ → List ℕ) (count k j : ℕ) (node : Node)
    → 0 < count → AllByRecursion (λ h. IsObject g h.object) state → LooksAtSome node
    → checked_from (table_of state) count j (node ∷ []) ≡ None
    → AllByRecursion IsPlain (node_instructions (table_of state) names count k node)
node_plain g state names count k j (Test op p v) l all some e =
    let c = test_checked (table_of state) count p v
    (or_later_none (check_test (table_of state) count p v) j None e).0 in
    let h = has_at state p.name c.present in
    let o = at_all (λ h. IsObject g h.object) state p.name h.0 all h.1 in
    let w : IsWidth (rows_of (table_of state) p).width =
    part_wide p.part (object_named (table_of state) p.name) c.inside some
    (subst (λ (o : Object). IsWidth o.width) (sym (at_object state p.name h.0 h.1))
    (o.wide, o.narrow)) in
    ((l, w), (tt, ((l, one_wide), (w, (tt, tt)))))
node_plain g state names count k j (Not a) l all some e = ((l, one_wide), (one_wide, (tt, tt)))
node_plain g state names count k j (And a b) l all some e =
    ((l, one_wide), (one_wide, (tt, (tt, tt))))
node_plain g state names count k j (Or a b) l all some e =
    ((l, one_wide), (one_wide, (tt, (tt, tt))))

-- the first and the others are checked
split_checked : (table : List Named) (count j : ℕ) (node : Node) (nodes : List Node)
    → checked_from table count j (node ∷ nodes) ≡ None
    → (checked_from table count j (node ∷ []) ≡ None) × (i : ℕ)
    × (checked_from table count i nodes ≡ None)
split_checked table count j (Test op p v) nodes e =
    let r = or_later_none (check_test table count p v) j
    (checked_from table count (j + 1) nodes) e in
    (rw (r.0) refl, j + 1, r.1)
split_checked table count j (Not a) nodes e = (refl, j, e)
split_checked table count j (And a b) nodes e = (refl, j, e)
split_checked table count j (Or a b) nodes e = (refl, j, e)

script_plain : (g : Geometry) (state : List Held) (names : ℕ
    → List ℕ) (count k j : ℕ) (nodes : List Node) → 0 < count
    → AllByRecursion (λ h. IsObject g h.object) state → AllByRecursion LooksAtSome nodes
    → checked_from (table_of state) count j nodes ≡ None
    → AllByRecursion IsPlain (script_from (table_of state) names count k nodes)
script_plain g state names count k j [] l all some e = tt
script_plain g state names count k j (node ∷ nodes) l all some e =
    let r = split_checked (table_of state) count j node nodes e in
    all_append IsPlain (node_instructions (table_of state) names count k node) _
    (node_plain g state names count k j node l all some.0 r.0)
    (script_plain g state names count (k + 1) r.1 nodes l all some.1 r.2)

-- a query that passes the checks asks for objects with some element
count_some : (g : Geometry) (banks : Banks) (state : List Held) (q : Query)
    → AllByRecursion (λ h. IsObject g h.object) state
    → All (λ h. columns g banks h.object ≡ h.numbers) state → HasParts q
    → checked (table_of state) (nodes_of q) ≡ None → 0 < count_of (table_of state) (nodes_of q)
count_some g banks state q objects numbers parts e =
    asked_some g state (count_of (table_of state) (nodes_of q)) q
    (asked g state (count_of (table_of state) (nodes_of q))
    (all_held g banks state objects numbers) 0 0 q parts e)

pub query_plain : (g : Geometry) (banks : Banks) (state : List Held) (q : Query)
    → AllByRecursion (λ h. IsObject g h.object) state
    → All (λ h. columns g banks h.object ≡ h.numbers) state → HasParts q
    → checked (table_of state) (nodes_of q) ≡ None
    → AllByRecursion IsPlain (scan_script (table_of state) (nodes_of q))
query_plain g banks state q objects numbers parts e =
    script_plain g state (free_name (table_of state)) (count_of (table_of state) (nodes_of q)) 0 0
    (nodes_of q) (count_some g banks state q objects numbers parts e) objects
    (nodes_some 0 q parts) e

pub scan_in_rows : ScanInRows
scan_in_rows g p banks state q words i objects a small parts checks none =
    let operations = routines_of scan_text p in
    let script = scan_script (table_of state) (nodes_of q) in
    let few : length state ≤ 256 = simp length-map at a.table.few in
    let scans = scan_in_words g operations (meaning_in scan_text) state q (text_offers p i)
    text_means (all_held g banks state objects a.numbers) few small parts checks in
    let left = scans.counts none in
    let plain = query_plain g banks state q objects a.numbers parts checks in
    let new = banks_at_end g operations (table_of state) banks script in
    let agrees = subst (λ s. Agrees g new s) left.is
    (text_gives_words g p scan_text script words i plain banks state a) in
    record {
      object = left.object;
      counted = left.counted;
      narrow = left.narrow;
      table = sym (table_end g operations (meaning_in scan_text) state script)
          ∙ ap table_of left.is ∙ map-append entry_of state _;
      marked = all_last (λ h. columns g new h.object ≡ h.numbers) state _ agrees.numbers;
      kept = all_front (λ h. columns g new h.object ≡ h.numbers) state _ agrees.numbers;
    }

abbrev as_one : Bool → ℕ
as_one b = cond b 1 0

one_bit : (b : Bool) → as_one (bit_number b == 1) ≡ as_one b
one_bit true = refl
one_bit false = refl

count_marks : (f : ℕ → Bool) (a n : ℕ) → count_by (λ v. v == 1)
    (map (λ e. bit_number (f e)) (range_with_len a n)) ≡ count_by f (range_with_len a n)
count_marks f a zero = refl
count_marks f a (suc n) =
    sum_by-cons (λ (v : ℕ). as_one (v == 1)) (bit_number (f a))
    (map (λ e. bit_number (f e)) (range_with_len (a + 1) n))
    ∙ ap (λ (k : ℕ). k + count_by (λ v. v == 1)
    (map (λ e. bit_number (f e)) (range_with_len (a + 1) n))) (one_bit (f a))
    ∙ ap (λ (k : ℕ). as_one (f a) + k) (count_marks f (a + 1) n)
    ∙ sym (sum_by-cons (λ e. as_one (f e)) a (range_with_len (a + 1) n))

pub ones_are_found : OnesAreFound
ones_are_found state q count size l =
    ap (count_by (λ v. v == 1)) (take-map-range_with_len
    (λ e. bit_number (matches q (element state e))) 0 size count l)
    ∙ count_marks (λ e. matches q (element state e)) 0 count
