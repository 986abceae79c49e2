-- The whole of a query.
use Rattle.scan_model.proofs.Common.{◌≡◌, ℕ, ◌+◌, ◌^◌, ◌<◌, ◌≤◌, Bool, true, false, not, cond, eqb}
use Rattle.scan_model.proofs.Common.{leb, List, [], ◌∷◌, ◌++◌, length, Option, Some, None, refl}
use Rattle.scan_model.proofs.Common.{sym, ◌∙◌, ap, subst, arith, AllByRecursion, option_map}
use Rattle.scan_model.proofs.Common.{nat_tests, length-map, Geometry, Named, has_name, Why}
use Rattle.scan_model.proofs.Common.{Routines, Place, cut, is_past, rows_of, goes_past, Held}
use Rattle.scan_model.proofs.Common.{table_of, table_at_end}
use Rattle.scan_model.specs.declared.ScanWhy.TheVariants as scan
use Rattle.scan_model.specs.Queries.{Query, Compare, Negate, Both, Either, Node, Test, Not, And}
use Rattle.scan_model.specs.Queries.{Or, HasParts, place_of, matches, size, nodes_from, nodes_of}
use Rattle.scan_model.specs.Names.{free_name}
use Rattle.scan_model.specs.Instructions.{node_instructions, script_from, scan_script, count_of}
use Rattle.scan_model.specs.Checks.{check_test, checked_from, or_later, or_else, refused_in}
use Rattle.scan_model.specs.Checks.{refused_from}
use Rattle.scan_model.specs.Laws.{IsHeld, Leaves, Scans, ScanInWords, scan_refused, element}
use Rattle.scan_model.specs.Laws.{IsRoom}
use Rattle.scan_model.proofs.States.{has_at, at_all, at_object, has_absent}
use Rattle.scan_model.proofs.Goes.{Goes, ends, stops, refused-append}
use Rattle.scan_model.proofs.Trees.{Asked, tree_goes}
use Rattle.scan_model.proofs.FreeNames.{names_are_free}
use Rattle.scan_model.proofs.Parts.{part_some, cut_count}

pub or_later_none : {R : Type 0} (a : Option R) (k : ℕ) (b : Option (R × ℕ))
    → or_later a k b ≡ None → (a ≡ None) × (b ≡ None)
or_later_none None k b e = (refl, e)
or_later_none (Some r) k b e = cc

-- what stands after is checked too, from some number on
checked-append : (table : List Named) (count k : ℕ) (xs ys : List Node)
    → checked_from table count k (xs ++ ys) ≡ None → (checked_from table count k xs ≡ None)
    × (m : ℕ) × (checked_from table count m ys ≡ None)
checked-append table count k [] ys e = (refl, k, e)
checked-append table count k (Test op p v ∷ xs) ys e =
    let s = or_later_none (check_test table count p v) k
    (checked_from table count (k + 1) (xs ++ ys)) e in
    let r = checked-append table count (k + 1) xs ys s.1 in
    (ap (λ a. or_later a k (checked_from table count (k + 1) xs)) s.0 ∙ r.0, r.1, r.2)
checked-append table count k (Not a ∷ xs) ys e = checked-append table count k xs ys e
checked-append table count k (And a b ∷ xs) ys e = checked-append table count k xs ys e
checked-append table count k (Or a b ∷ xs) ys e = checked-append table count k xs ys e

pub record IsChecked (table : List Named) (count : ℕ) (p : Place) (v : ℕ) : Type 0 where
  pub present : has_name table p.name ≡ true
  pub inside : goes_past table p ≡ false
  pub counted : (rows_of table p).count ≡ count
  pub small : v < 2 ^ (rows_of table p).width

test_case : (a b c d : Bool) → cond (not a) (Some scan.NoObject) (cond b (Some scan.Slice)
    (cond (not c) (Some scan.Count) (cond d (Some scan.Range) None))) ≡ None → (a ≡ true)
    × (b ≡ false) × (c ≡ true) × (d ≡ false)
test_case true false true true e = cc
test_case true false true false e = (refl, refl, refl, refl)
test_case true false false d e = cc
test_case true true c d e = cc
test_case false b c d e = cc

equal_tested : (a b : ℕ) → eqb a b ≡ true → a ≡ b
equal_tested a b h = grind (arith, nat_tests)

less_tested : (a b : ℕ) → leb a b ≡ false → b < a
less_tested a b h = grind (arith, nat_tests)

pub test_checked : (table : List Named) (count : ℕ) (p : Place) (v : ℕ)
    → check_test table count p v ≡ None → IsChecked table count p v
test_checked table count p v e =
    let r = test_case (has_name table p.name) (goes_past table p)
    (eqb (rows_of table p).count count) (leb (2 ^ (rows_of table p).width) v) e in
    record {
      present = r.0;
      inside = r.1;
      counted = equal_tested _ _ r.2;
      small = less_tested _ _ r.3;
    }

pub asked : (g : Geometry) (start : List Held) (count : ℕ) → AllByRecursion (IsHeld g) start
    → (k j : ℕ) (q : Query) → HasParts q
    → checked_from (table_of start) count k (nodes_from j q) ≡ None → Asked g start count q
asked g start count all k j (Compare op operand v) parts e =
    let p = place_of operand in
    let r = or_later_none (check_test (table_of start) count p v) k None e in
    let c = test_checked (table_of start) count p v r.0 in
    let h = has_at start p.name c.present in
    let o = at_object start p.name h.0 h.1 in (
      h.0,
      record {
        at = h.1;
        held = at_all (IsHeld g) start p.name h.0 all h.1;
        inside = subst (λ o. is_past p.part o ≡ false) o c.inside;
        some = part_some operand parts;
        counted = sym (cut_count p.part h.0.object) ∙ sym (ap (λ o. (cut p.part o).count) o)
            ∙ c.counted;
        small = subst (λ o. v < 2 ^ (cut p.part o).width) o c.small;
      },
    )
asked g start count all k j (Negate a) parts e = asked g start count all k j a parts
    (checked-append (table_of start) count k (nodes_from j a) _ e).0
asked g start count all k j (Both a b) parts e =
    let r = checked-append (table_of start) count k (nodes_from j a) _ e in
    let s = checked-append (table_of start) count r.1 (nodes_from (j + size a) b) _ r.2 in (
      asked g start count all k j a parts.0 r.0,
      asked g start count all r.1 (j + size a) b parts.1
          s.0,
    )
asked g start count all k j (Either a b) parts e =
    let r = checked-append (table_of start) count k (nodes_from j a) _ e in
    let s = checked-append (table_of start) count r.1 (nodes_from (j + size a) b) _ r.2 in (
      asked g start count all k j a parts.0 r.0,
      asked g start count all r.1 (j + size a) b parts.1
          s.0,
    )

-- the first refused node is that of the first refused instruction
by_nodes_case : (a rest : Option Why) (k : ℕ) (later : Option (Why × ℕ))
    → rest ≡ option_map (λ p. p.0) later → or_else a rest
    ≡ option_map (λ p. p.0) (or_later a k later)
by_nodes_case None rest k later e = e
by_nodes_case (Some w) rest k later e = refl

pub by_nodes : (g : Geometry) (operations : Routines) (start table : List Named) (names : ℕ
    → List ℕ) (count k : ℕ) (nodes : List Node)
    → refused_in g operations table (script_from start names count k nodes)
    ≡ option_map (λ p. p.0) (refused_from g operations start table names count k nodes)
by_nodes g operations start table names count k [] = refl
by_nodes g operations start table names count k (node ∷ nodes) =
    refused-append g operations table (node_instructions start names count k node)
    (script_from start names count (k + 1) nodes)
    ∙ by_nodes_case (refused_in g operations table (node_instructions start names count k node)) _
    k _
    (by_nodes g operations start (table_at_end g operations table
    (node_instructions start names count k node)) names count (k + 1) nodes)

same_why : (v w : Why) → Some v ≡ Some w → v ≡ w
same_why v w e = cc

pub scan_in_words : ScanInWords
scan_in_words g operations meaning state q offers means all few small parts checks =
    by_goes goes where
      count : ℕ
      count = count_of (table_of state) (nodes_of q)

      short : length (table_of state) ≤ 256
      short = simp length-map few

      differ : (i j : ℕ) → i ≤ 64 → j ≤ 64 → free_name (table_of state) i
          ≡ free_name (table_of state) j → i ≡ j
      differ i j a b e = names_are_free.differ (table_of state) i j short a b e

      goes : Goes g operations meaning state (scan_script (table_of state) (nodes_of q))
          (Leaves g state (free_name (table_of state) (size q))
          (count_of (table_of state) (nodes_of q)) (λ e. matches q (element state e)))
      goes =
          let go = tree_goes g operations meaning state (free_name (table_of state))
          (count_of (table_of state) (nodes_of q)) 64 offers means differ q
          (asked g state (count_of (table_of state) (nodes_of q)) all 0 0 q parts checks) 0 state
          (omega (arith, small))
          (record {
            old = λ name h e. e;
            first = has_absent state _ (names_are_free.free (table_of state) 0 short (omega arith));
            later = λ i l m. has_absent state _ (names_are_free.free (table_of state) i short m);
          }) in
          subst (λ i. Goes g operations meaning state (scan_script (table_of state) (nodes_of q))
          (Leaves g state (free_name (table_of state) i) (count_of (table_of state) (nodes_of q))
          (λ e. matches q (element state e)))) (omega arith) go

      refused : refused_in g operations (table_of state) (scan_script (table_of state) (nodes_of q))
          ≡ option_map (λ p. p.0) (scan_refused g operations (table_of state) q)
      refused = by_nodes g operations (table_of state) (table_of state) (free_name (table_of state))
          (count_of (table_of state) (nodes_of q)) 0 (nodes_of q)

      by_goes : Goes g operations meaning state (scan_script (table_of state) (nodes_of q))
          (Leaves g state (free_name (table_of state) (size q))
          (count_of (table_of state) (nodes_of q)) (λ e. matches q (element state e)))
          → Scans g operations meaning state q
      by_goes (ends e p) = record {
        counts = λ none. p;
        room = λ w k is. let f = refused ∙ ap (option_map (λ p. p.0)) is in cc;
      }
      by_goes (stops w e room) = record {
        counts = λ none. let f = refused ∙ ap (option_map (λ p. p.0)) none in cc;
        room = λ v k is. subst IsRoom (same_why w v (sym e ∙ refused ∙ ap (option_map (λ p. p.0)) is))
            room;
      }
