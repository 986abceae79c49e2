-- A query's instructions, node by node.
use Rattle.scan_query.proofs.Common.{◌≡◌, ℕ, zero, suc, ◌+◌, ◌*◌, ◌<◌, ◌≤◌, ◌^◌, List, [], ◌∷◌}
use Rattle.scan_query.proofs.Common.{◌++◌, map, length, length-append, get_or, take, drop, Option}
use Rattle.scan_query.proofs.Common.{Some, None, refl, sym, ◌∙◌, ap, subst, arith, append-nil}
use Rattle.scan_query.proofs.Common.{append_assoc, slice_get, AllByRecursion, map-append}
use Rattle.scan_query.proofs.Common.{length-map, Geometry, ChipView, WALK_MAX, Named, Instruction}
use Rattle.scan_query.proofs.Common.{Why, Routines, table_at_end, Machine, geometry_of}
use Rattle.scan_query.proofs.Common.{operations_by, program_of, table_in, refused_in, refused_from}
use Rattle.scan_query.proofs.Common.{node_instructions, script_from, free_name, Node, Test}
use Rattle.std.proofs.Math.Nat.{mul-le-mul_right}
use Rattle.scan_model.specs.Checks.{or_later}
use Rattle.scan_model.specs.Queries.{Not, And, Or}
use Rattle.scan_query.specs.Queries.{instructions_for, names_in, sources_fit, width_in}
use Rattle.scan_query.specs.Running.{Ran, AreBelow}
use Rattle.scan_query.proofs.Running.{ran_then}

-- the names that a scan takes
abbrev pub AreFree : List (List ℕ) → List Named → Type 0
AreFree names table = (k : ℕ) → k ≤ 64 → names_in names k ≡ free_name table k

pub same_instructions : (names : List (List ℕ)) (start : List Named) (count width k : ℕ)
    (node : Node) → AreFree names start → k < 64 → sources_fit 64 node
    → width ≡ width_in start node
    → instructions_for (names_in names) count width k node
    ≡ node_instructions start (free_name start) count k node
same_instructions names start count width k (Test op place v) free l s e =
    rw (free 0 (omega arith), free (k + 1) (omega (arith, l)), e) refl
same_instructions names start count width k (Not a) free l s e =
    rw (free (k + 1) (omega (arith, l)), free (a + 1) (omega (arith, s))) refl
same_instructions names start count width k (And a b) free l s e =
    rw (
      free (k + 1) (omega (arith, l)),
      free (a + 1) (omega (arith, s.0)),
      free (b + 1) (omega (arith, s.1)),
    ) refl
same_instructions names start count width k (Or a b) free l s e =
    rw (
      free (k + 1) (omega (arith, l)),
      free (a + 1) (omega (arith, s.0)),
      free (b + 1) (omega (arith, s.1)),
    ) refl

-- those of one node more
pub script_snoc : (start : List Named) (names : ℕ → List ℕ) (count k : ℕ) (xs : List Node)
    (node : Node)
    → script_from start names count k xs ++ node_instructions start names count (k + length xs)
    node ≡ script_from start names count k (xs ++ node ∷ [])
script_snoc start names count k [] node =
    let same : k + 0 ≡ k = omega arith in
    ap (λ i. node_instructions start names count i node) same
    ∙ sym (append-nil (node_instructions start names count k node))
script_snoc start names count k (x ∷ xs) node =
    let same : k + length (x ∷ xs) ≡ k + 1 + length xs = omega arith in
    append_assoc (node_instructions start names count k x)
    (script_from start names count (k + 1) xs)
    (node_instructions start names count (k + length (x ∷ xs)) node)
    ∙ ap (λ i. node_instructions start names count k x
    ++ (script_from start names count (k + 1) xs ++ node_instructions start names count i
    node)) same
    ∙ ap (λ rest. node_instructions start names count k x ++ rest)
    (script_snoc start names count (k + 1) xs node)

-- the list before a place and after it
some_same : {X : Type 0} (y x : X) → Some y ≡ Some x → y ≡ x
some_same y x e = cc

drops : {X : Type 0} (xs : List X) (j : ℕ) (x : X) → slice_get xs j ≡ Some x
    → drop j xs ≡ x ∷ drop (suc j) xs
drops [] j x e = cc
drops (y ∷ xs) zero x e = ap (λ z. z ∷ xs) (some_same y x e)
drops (y ∷ xs) (suc j) x e = drops xs j x e

takes : {X : Type 0} (xs : List X) (j : ℕ) (x : X) → slice_get xs j ≡ Some x
    → take (suc j) xs ≡ take j xs ++ x ∷ []
takes [] j x e = cc
takes (y ∷ xs) zero x e = ap (λ z. z ∷ []) (some_same y x e)
takes (y ∷ xs) (suc j) x e = ap (λ rest. y ∷ rest) (takes xs j x e)

taken : {X : Type 0} (xs : List X) (j : ℕ) (x : X) → slice_get xs j ≡ Some x
    → length (take j xs) ≡ j
taken [] j x e = cc
taken (y ∷ xs) zero x e = refl
taken (y ∷ xs) (suc j) x e = let r = taken xs j x e in omega (arith, r)

pub left_with : {X : Type 0} {Y : Type 0} (f : X → Y) (xs : List X) (j : ℕ) (x : X)
    → slice_get xs j ≡ Some x → map f (drop j xs) ≡ f x ∷ map f (drop (j + 1) xs)
left_with f xs j x e = let next : suc j ≡ j + 1 = omega arith in ap (map f) (drops xs j x e)
    ∙ ap (λ n. f x ∷ map f (drop n xs)) next

pub front_with : {X : Type 0} {Y : Type 0} (f : X → Y) (xs : List X) (j : ℕ) (x : X)
    → slice_get xs j ≡ Some x → map f (take j xs) ++ f x ∷ [] ≡ map f (take (j + 1) xs)
front_with f xs j x e = let next : suc j ≡ j + 1 = omega arith in
    sym (ap (λ n. map f (take n xs)) (sym next) ∙ ap (map f) (takes xs j x e)
    ∙ map-append f (take j xs) (x ∷ []))

pub front_length : {X : Type 0} {Y : Type 0} (f : X → Y) (xs : List X) (j : ℕ) (x : X)
    → slice_get xs j ≡ Some x → length (map f (take j xs)) ≡ j
front_length f xs j x e = length-map (take j xs) f ∙ taken xs j x e

pub all_front : (P : Instruction → Type 0) (xs ys : List Instruction)
    → AllByRecursion P (xs ++ ys) → AllByRecursion P xs
all_front P [] ys all = tt
all_front P (x ∷ xs) ys all = (all.0, all_front P xs ys all.1)

pub all_back : (P : Instruction → Type 0) (xs ys : List Instruction) → AllByRecursion P (xs ++ ys)
    → AllByRecursion P ys
all_back P [] ys all = all
all_back P (x ∷ xs) ys all = all_back P xs ys all.1

five : (start : List Named) (names : ℕ → List ℕ) (count k : ℕ) (node : Node)
    → length (node_instructions start names count k node) ≤ 5
five start names count k (Test op place v) = omega arith
five start names count k (Not a) = omega arith
five start names count k (And a b) = omega arith
five start names count k (Or a b) = omega arith

pub script_length : (start : List Named) (names : ℕ → List ℕ) (count k : ℕ) (nodes : List Node)
    → length (script_from start names count k nodes) ≤ 5 * length nodes
script_length start names count k [] = omega arith
script_length start names count k (node ∷ nodes) =
    let a = five start names count k node in
    let b = script_length start names count (k + 1) nodes in
    let c = length-append (node_instructions start names count k node)
    (script_from start names count (k + 1) nodes) in
    omega (arith, a, b, c)

-- a node that is done leaves the refusals of those after it
pub allowed_on : (g : Geometry) (ops : Routines) (start table : List Named) (names : ℕ
    → List ℕ) (count k : ℕ) (node : Node) (nodes : List Node)
    → refused_in g ops table (node_instructions start names count k node) ≡ None
    → refused_from g ops start table names count k (node ∷ nodes)
    ≡ refused_from g ops start (table_at_end g ops table
    (node_instructions start names count k node)) names count (k + 1) nodes
allowed_on g ops start table names count k node nodes e =
    ap (λ r. or_later r k (refused_from g ops start
    (table_at_end g ops table (node_instructions start names count k node)) names count
    (k + 1) nodes)) e

pub refused_on : (g : Geometry) (ops : Routines) (start table : List Named) (names : ℕ
    → List ℕ) (count k : ℕ) (node : Node) (nodes : List Node) (why : Why)
    → refused_in g ops table (node_instructions start names count k node) ≡ Some why
    → refused_from g ops start table names count k (node ∷ nodes) ≡ Some (why, k)
refused_on g ops start table names count k node nodes why e =
    ap (λ r. or_later r k (refused_from g ops start
    (table_at_end g ops table (node_instructions start names count k node)) names count
    (k + 1) nodes)) e

-- the nodes before and this one were done
pub node_done : (start : List Named) (names : ℕ → List ℕ) (count j : ℕ) (front : List Node)
    (node : Node) (a b c : Machine) (s t u : ChipView) → length front ≡ j
    → Ran (script_from start names count 0 front) a b s t
    → Ran (node_instructions start names count j node) b c t u
    → Ran (script_from start names count 0 (front ++ node ∷ [])) a c s u
node_done start names count j front node a b c s t u l p q =
    let same : j ≡ 0 + length front = omega (arith, l) in
    subst (λ (xs : List Instruction). Ran xs a c s u) (script_snoc start names count 0 front node)
    (ran_then (script_from start names count 0 front)
    (node_instructions start names count (0 + length front) node) a b c s t u p
    (subst (λ i. Ran (node_instructions start names count i node) b c t u) same q))

-- so a refusal is one of those after it
pub node_allowed : (start : List Named) (names : ℕ
    → List ℕ) (count j : ℕ) (front back : List Node) (node : Node) (a b c : Machine)
    (s t u : ChipView) (r : Option (Why × ℕ))
    → r ≡ refused_from (geometry_of a) (operations_by a) start (table_in b) names count j
    (node ∷ back)
    → Ran (script_from start names count 0 front) a b s t
    → Ran (node_instructions start names count j node) b c t u
    → r ≡ refused_from (geometry_of a) (operations_by a) start (table_in c) names count (j + 1)
    back
node_allowed start names count j front back node a b c s t u r e p q =
    let g = geometry_of a in
    let ops = operations_by a in
    let allowed = rw (ap geometry_of p.machine, ap program_of p.machine) at q.allowed in
    let table = rw (ap geometry_of p.machine, ap program_of p.machine) at (ap table_in q.machine) in
    e ∙ allowed_on g ops start (table_in b) names count j node back allowed
    ∙ ap (λ (t : List Named). refused_from g ops start t names count (j + 1) back) (sym table)

-- or it is this one's
pub node_refused : (start : List Named) (names : ℕ
    → List ℕ) (count j : ℕ) (front back : List Node) (node : Node) (a b : Machine)
    (s t : ChipView) (r : Option (Why × ℕ)) (why : Why)
    → r ≡ refused_from (geometry_of a) (operations_by a) start (table_in b) names count j
    (node ∷ back)
    → Ran (script_from start names count 0 front) a b s t
    → refused_in (geometry_of b) (operations_by b) (table_in b)
    (node_instructions start names count j node) ≡ Some why
    → r ≡ Some (why, j)
node_refused start names count j front back node a b s t r why e p q =
    let refused = rw (ap geometry_of p.machine, ap program_of p.machine) at q in
    e ∙ refused_on (geometry_of a) (operations_by a) start (table_in b) names count j node back
    why refused

-- there is room for a node more
pub node_room : (start : List Named) (names : ℕ → List ℕ) (count : ℕ) (front : List Node)
    (a b : Machine) (s t : ChipView) → length front ≤ 64
    → Ran (script_from start names count 0 front) a b s t → AreBelow (2 ^ 62) s.counters
    → AreBelow (2 ^ 62 + 2 ^ 59) t.counters
node_room start names count front a b s t l p r =
    let n = script_length start names count 0 front in
    let m : length (script_from start names count 0 front) * (16 * WALK_MAX) ≤ 320
    * (16 * WALK_MAX) = mul-le-mul_right {m = length (script_from start names count 0 front)}
    {n = 320} (16 * WALK_MAX) (omega (arith, n, l)) in
    record {
      aap = omega (arith, p.rises.aap, r.aap, m);
      ap = omega (arith, p.rises.ap, r.ap, m);
      writes = omega (arith, p.rises.writes, r.writes, m);
      reads = omega (arith, p.rises.reads, r.reads, m);
    }

-- a node's width, among those of all
pub width_at : {X : Type 0} {Y : Type 0} (f : Y → ℕ) (h : X → Y) (xs : List X) (j : ℕ) (x : X)
    → slice_get xs j ≡ Some x → get_or (map f (map h xs)) j 0 ≡ f (h x)
width_at f h [] j x e = cc
width_at f h (y ∷ xs) zero x e = ap (λ z. f (h z)) (some_same y x e)
width_at f h (y ∷ xs) (suc j) x e = width_at f h xs j x e

-- the instructions that the code does for the next node
pub next_instructions : {X : Type 0} (h : X → Node) (xs : List X) (j k : ℕ) (x : X)
    (names : List (List ℕ)) (widths : List ℕ) (start : List Named) (count counted at : ℕ)
    → slice_get xs j ≡ Some x → j < 64 → k ≡ j → at ≡ k → AreFree names start
    → widths ≡ map (width_in start) (map h xs) → counted ≡ count → sources_fit 64 (h x)
    → instructions_for (names_in names) counted (get_or widths at 0) k (h x)
    ≡ node_instructions start (free_name start) count j (h x)
next_instructions h xs j k x names widths start count counted at e l p a free w c s =
    let width : get_or widths at 0 ≡ width_in start (h x) =
    ap (λ i. get_or widths i 0) (a ∙ p) ∙ ap (λ (ws : List ℕ). get_or ws j 0) w
    ∙ width_at (width_in start) h xs j x e in
    same_instructions names start counted (get_or widths at 0) k (h x) free (omega (arith, l, p))
    s width
    ∙ ap (λ n. node_instructions start (free_name start) n k (h x)) c
    ∙ ap (λ i. node_instructions start (free_name start) count i (h x)) p

pub at_of : {X : Type 0} (xs : List X) (j : ℕ) (x d : X) → j < length xs → x ≡ get_or xs j d
    → slice_get xs j ≡ Some x
at_of [] j x d l e = absurd (omega (arith, l))
at_of (y ∷ xs) zero x d l e = ap (λ z. Some z) (sym e)
at_of (y ∷ xs) (suc j) x d l e = at_of xs j x d (omega (arith, l)) e
