-- The instructions of a query, by its tree: each subquery leaves one object after what stood
-- before it.
use Rattle.scan_model.proofs.Common.{◌≡◌, ◌≢◌, ℕ, ◌+◌, ◌*◌, ◌<◌, ◌≤◌, Bool, not, ◌&&◌, List, []}
use Rattle.scan_model.proofs.Common.{◌∷◌, ◌++◌, length, Some, None, refl, sym, ◌∙◌, ap, subst}
use Rattle.scan_model.proofs.Common.{arith, append-nil, ◌||◌, codes, Bit, bit_number, Geometry}
use Rattle.scan_model.proofs.Common.{column_count, Object, Place, Instruction, Routines, Held}
use Rattle.scan_model.proofs.Common.{table_of}
use Rattle.std.proofs.Common.{length-append, append_assoc}
use Rattle.scan_model.specs.declared.CmpOp.{CmpOp}
use Rattle.scan_model.specs.Queries.{Query, Compare, Negate, Both, Either, Node, Test, Not, And}
use Rattle.scan_model.specs.Queries.{Or, Operand, place_of, matches, size, nodes_from, last_from}
use Rattle.scan_model.specs.Instructions.{node_instructions, script_from, join_two, join_one}
use Rattle.scan_model.specs.Laws.{Offers, OffersScan, MeansScan, Leaves, element}
use Rattle.scan_model.proofs.States.{lookup, at_append, absent_append, at_object, at_numbers}
use Rattle.scan_model.proofs.Goes.{Meaning, Goes, then}
use Rattle.scan_model.proofs.Nodes.{IsAsked, marked, compare_goes, not_goes, two_goes}

-- a query has some node
pub size_some : (q : Query) → 1 ≤ size q
size_some (Compare op o v) = omega arith
size_some (Negate a) = omega arith
size_some (Both a b) = omega arith
size_some (Either a b) = omega arith

two_sizes : (xs ys : List Node) (n : Node) (a b : ℕ) → length xs ≡ a → length ys ≡ b
    → length (xs ++ (ys ++ n ∷ [])) ≡ a + b + 1
two_sizes xs ys n a b e f = let u = length-append xs (ys ++ n ∷ []) in let v =
    length-append ys (n ∷ []) in omega (arith, u, v, e, f)

-- a query has as many nodes in postorder as in its tree
pub size_is : (k : ℕ) (q : Query) → length (nodes_from k q) ≡ size q
size_is k (Compare op o v) = refl
size_is k (Negate a) = let u = length-append (nodes_from k a) (Not (last_from k a) ∷ []) in
    omega (arith, u, size_is k a)
size_is k (Both a b) = two_sizes (nodes_from k a) (nodes_from (k + size a) b) _ (size a) (size b)
    (size_is k a) (size_is (k + size a) b)
size_is k (Either a b) = two_sizes (nodes_from k a) (nodes_from (k + size a) b) _ (size a)
    (size b) (size_is k a) (size_is (k + size a) b)

-- what a query asks of the objects that stand at its start
abbrev pub Asked : Geometry → List Held → ℕ → Query → Type 0
Asked g start count (Compare op o v) = (h : Held) × IsAsked g start count (place_of o) v h
Asked g start count (Negate a) = Asked g start count a
Asked g start count (Both a b) = Asked g start count a × Asked g start count b
Asked g start count (Either a b) = Asked g start count a × Asked g start count b

pub asked_fits : (g : Geometry) (start : List Held) (count : ℕ) (q : Query)
    → Asked g start count q → count ≤ column_count g * g.banks
asked_fits g start count (Compare op o v) a =
    subst (λ k. k ≤ column_count g * g.banks) a.1.counted a.1.held.fits
asked_fits g start count (Negate q) a = asked_fits g start count q a
asked_fits g start count (Both p q) a = asked_fits g start count p a.0
asked_fits g start count (Either p q) a = asked_fits g start count p a.0

pub asked_some : (g : Geometry) (start : List Held) (count : ℕ) (q : Query)
    → Asked g start count q → 0 < count
asked_some g start count (Compare op o v) a = subst (λ k. 0 < k) a.1.counted a.1.held.some
asked_some g start count (Negate q) a = asked_some g start count q a
asked_some g start count (Both p q) a = asked_some g start count p a.0
asked_some g start count (Either p q) a = asked_some g start count p a.0

module _ (g : Geometry) (operations : Routines) (meaning : Meaning) (start : List Held)
    (names : ℕ → List ℕ) (count limit : ℕ) where
  abbrev pub script : ℕ → List Node → List Instruction
  script k nodes = script_from (table_of start) names count k nodes

  pub script-append : (k m : ℕ) (xs ys : List Node) → k + length xs ≡ m
      → script k (xs ++ ys) ≡ script k xs ++ script m ys
  script-append k m [] ys e = ap (λ j. script j ys) (omega (arith, e))
  script-append k m (x ∷ xs) ys e =
      ap (λ rest. node_instructions (table_of start) names count k x ++ rest)
      (script-append (k + 1) m xs ys (omega (arith, e)))
      ∙ sym (append_assoc (node_instructions (table_of start) names count k x) (script (k + 1) xs)
      (script m ys))

  pub script-one : (k : ℕ) (n : Node) → script k (n ∷ []) ≡ node_instructions (table_of start)
      names count k n
  script-one k n = append-nil (node_instructions (table_of start) names count k n)

  -- what stood at the start stands, and the names from number k on are free
  pub record Stands (k : ℕ) (s : List Held) : Type 0 where
    pub old : (name : List ℕ) (h : Held) → lookup start name ≡ Some h → lookup s name ≡ Some h
    pub first : lookup s (names 0) ≡ None
    pub later : (i : ℕ) → k < i → i ≤ limit → lookup s (names i) ≡ None

  abbrev pub Tree : Query → Type 0
  Tree q = (k : ℕ) (s : List Held) → k + size q ≤ limit → Stands k s
      → Goes g operations meaning s (script k (nodes_from k q))
      (Leaves g s (names (k + size q)) count (λ e. matches q (element start e)))

  abbrev pub Differ : Type 0
  Differ = (i j : ℕ) → i ≤ limit → j ≤ limit → names i ≡ names j → i ≡ j

  names_part : Differ → (i j : ℕ) → i ≤ limit → j ≤ limit → i ≢ j → names i ≢ names j
  names_part differ i j a b n e = n (differ i j a b e)

  next_stands : Differ → (k : ℕ) (s : List Held) (m : ℕ) (o : Object) (f : ℕ → Bool) → k < m
      → m ≤ limit → Stands k s → Stands m (s ++ marked g (names m) o f ∷ [])
  next_stands differ k s m o f l w st = record {
    old = λ name h e. at_append s (marked g (names m) o f ∷ []) name h (st.old name h e);
    first = absent_append s (marked g (names m) o f) (names 0) st.first
        (names_part differ m 0 w (omega arith) (omega (arith, l)));
    later = λ i u v. absent_append s (marked g (names m) o f) (names i)
        (st.later i (omega (arith, l, u)) v) (names_part differ m i w v (omega (arith, u)));
  }

  asked_later : (k : ℕ) (s : List Held) (p : Place) (v : ℕ) (h : Held) → Stands k s
      → IsAsked g start count p v h → IsAsked g s count p v h
  asked_later k s p v h st a = record {
    at = st.old p.name h a.at;
    held = a.held;
    inside = a.inside;
    some = a.some;
    counted = a.counted;
    small = a.small;
  }

  tree_compare : OffersScan operations → MeansScan meaning → Differ
      → (op : CmpOp) (o : Operand) (v : ℕ) → Asked g start count (Compare op o v)
      → Tree (Compare op o v)
  tree_compare offers means differ op o v (h, a) k s fit st =
      let p = place_of o in
      let goes = compare_goes g operations meaning s (names 0) (names (k + 1)) p op v count h
      offers means (asked_later k s p v h st a) st.first
      (st.later (k + 1) (omega arith) fit)
      (names_part differ 0 (k + 1) (omega arith) fit (omega arith)) in
      rw (
        script-one k (Test op p v),
        at_object start p.name h a.at,
        at_numbers start p.name h a.at,
      ) goes

  tree_not : OffersScan operations → MeansScan meaning → Differ → (a : Query)
      → count ≤ column_count g * g.banks → Tree a → Tree (Negate a)
  tree_not offers means differ a fits go k s fit st =
      let some = size_some a in
      let m = k + size a in
      let fa : ℕ → Bool = λ e. matches a (element start e) in
      let is : script k (nodes_from k (Negate a)) ≡ script k (nodes_from k a)
      ++ join_one (codes "s_not") (names (k + (size a + 1))) (names m) count =
      script-append k m (nodes_from k a) (Not (last_from k a) ∷ [])
      (ap (λ n. k + n) (size_is k a))
      ∙ ap (λ rest. script k (nodes_from k a) ++ rest) (script-one m (Not (last_from k a))
      ∙ ap (λ i. join_one (codes "s_not") (names i) (names (last_from k a + 1)) count)
      (omega arith)
      ∙ ap (λ i. join_one (codes "s_not") (names (k + (size a + 1))) (names i) count)
      (omega (arith, some))) in
      subst (λ xs. Goes g operations meaning s xs
      (Leaves g s (names (k + (size a + 1))) count (λ e. not (fa e)))) (sym is)
      (then g operations meaning s (script k (nodes_from k a))
      (join_one (codes "s_not") (names (k + (size a + 1))) (names m) count) _ _
      (go k s (omega (arith, fit)) st)
      (λ t left. subst (λ u. Goes g operations meaning u
      (join_one (codes "s_not") (names (k + (size a + 1))) (names m) count)
      (Leaves g s (names (k + (size a + 1))) count (λ e. not (fa e)))) (sym left.is)
      (not_goes g operations meaning s (names (k + (size a + 1))) (names m) count left.object fa
      offers means fits left.counted left.narrow
      (st.later m (omega (arith, some)) (omega (arith, fit)))
      (st.later (k + (size a + 1)) (omega arith) fit)
      (names_part differ m (k + (size a + 1)) (omega (arith, fit)) fit (omega arith)))))

  tree_two : (op : List ℕ) (join : Bool → Bool → Bool) → Offers operations op (Bit ∷ Bit ∷ [])
      → ((x y : Bool) → meaning op 1 (bit_number x ∷ bit_number y ∷ []) ≡ bit_number (join x y)
      ∷ []) → Differ → (a b : Query) → count ≤ column_count g * g.banks → Tree a → Tree b
      → (node : ℕ → ℕ → Node) → ((i x y : ℕ) → node_instructions (table_of start) names count i
      (node x y) ≡ join_two op (names (i + 1)) (names (x + 1)) (names (y + 1)) count)
      → (k : ℕ) (s : List Held) → k + (size a + size b + 1) ≤ limit → Stands k s
      → Goes g operations meaning s (script k
      (nodes_from k a ++ (nodes_from (k + size a) b
      ++ node (last_from k a) (last_from (k + size a) b) ∷ [])))
      (Leaves g s (names (k + (size a + size b + 1))) count
      (λ e. join (matches a (element start e)) (matches b (element start e))))
  tree_two op join offers means differ a b fits go_a go_b node coded k s fit st =
      let some_a = size_some a in
      let some_b = size_some b in
      let m = k + size a in
      let n = m + size b in
      let r = k + (size a + size b + 1) in
      let fa : ℕ → Bool = λ e. matches a (element start e) in
      let fb : ℕ → Bool = λ e. matches b (element start e) in
      let last = join_two op (names r) (names m) (names n) count in
      let P : List Held → Type 0 = Leaves g s (names r) count (λ e. join (fa e) (fb e)) in
      let is : script k (nodes_from k a ++ (nodes_from m b ++ node (last_from k a) (last_from m b)
      ∷ [])) ≡ script k (nodes_from k a) ++ (script m (nodes_from m b) ++ last) =
      script-append k m (nodes_from k a) (nodes_from m b ++ node (last_from k a) (last_from m b)
      ∷ []) (ap (λ i. k + i) (size_is k a))
      ∙ ap (λ rest. script k (nodes_from k a) ++ rest)
      (script-append m n (nodes_from m b) (node (last_from k a) (last_from m b) ∷ [])
      (ap (λ i. m + i) (size_is m b))
      ∙ ap (λ rest. script m (nodes_from m b) ++ rest)
      (script-one n (node (last_from k a) (last_from m b))
      ∙ coded n (last_from k a) (last_from m b)
      ∙ ap (λ i. join_two op (names i) (names (last_from k a + 1)) (names (last_from m b + 1))
      count) (omega arith)
      ∙ ap (λ i. join_two op (names r) (names i) (names (last_from m b + 1)) count)
      (omega (arith, some_a))
      ∙ ap (λ i. join_two op (names r) (names m) (names i) count) (omega (arith, some_b)))) in
      subst (λ xs. Goes g operations meaning s xs P) (sym is)
      (then g operations meaning s (script k (nodes_from k a)) (script m (nodes_from m b) ++ last)
      _ P (go_a k s (omega (arith, fit)) st)
      (λ t left. subst (λ u. Goes g operations meaning u (script m (nodes_from m b) ++ last) P)
      (sym left.is)
      (then g operations meaning (s ++ marked g (names m) left.object fa ∷ [])
      (script m (nodes_from m b)) last _ P
      (go_b m (s ++ marked g (names m) left.object fa ∷ []) (omega (arith, fit))
      (next_stands differ k s m left.object fa (omega (arith, some_a)) (omega (arith, fit))
      st))
      (λ t2 left2. subst (λ u. Goes g operations meaning u last P) (sym left2.is)
      (two_goes g operations meaning op join s (names r) (names m) (names n) count left.object
      left2.object fa fb offers means fits left.counted left.narrow left2.counted left2.narrow
      (st.later m (omega (arith, some_a)) (omega (arith, fit)))
      (st.later n (omega (arith, some_a)) (omega (arith, fit))) (st.later r (omega arith) fit)
      (names_part differ m r (omega (arith, fit)) fit (omega arith))
      (names_part differ n r (omega (arith, fit)) fit (omega arith))
      (names_part differ m n (omega (arith, fit)) (omega (arith, fit))
      (omega (arith, some_b))))))))

  pub tree_goes : OffersScan operations → MeansScan meaning → Differ → (q : Query)
      → Asked g start count q → Tree q
  tree_goes offers means differ (Compare op o v) a =
      tree_compare offers means differ op o v a
  tree_goes offers means differ (Negate q) a =
      tree_not offers means differ q (asked_fits g start count q a)
      (tree_goes offers means differ q a)
  tree_goes offers means differ (Both p q) a =
      tree_two (codes "s_and") (λ x y. x && y) offers.conjunction means.conjunction differ p q
      (asked_fits g start count p a.0) (tree_goes offers means differ p a.0)
      (tree_goes offers means differ q a.1) And (λ i x y. refl)
  tree_goes offers means differ (Either p q) a =
      tree_two (codes "s_or") (λ x y. x || y) offers.disjunction means.disjunction differ p q
      (asked_fits g start count p a.0) (tree_goes offers means differ p a.0)
      (tree_goes offers means differ q a.1) Or (λ i x y. refl)
