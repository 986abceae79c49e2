-- The names of a body, and how many there are of a kind.
use Rattle.std.proofs.Common.{◌≡◌, ℕ, suc, ◌+◌, ◌-◌, ◌≤◌, length, take, get_or, lit≤, Bool, true}
use Rattle.std.proofs.Common.{false, cond, not, ◌&&◌, ◌||◌, min, map, filter, count_by, List, []}
use Rattle.std.proofs.Common.{◌∷◌, ◌++◌, Option, Some, None, refl, sym, ap, ◌∙◌, bytes_eq}
use Rattle.std.proofs.Common.{append_assoc, append-nil, zero-add, arith}
use Rattle.std.proofs.lemmas.List.{map-append}
use Rattle.std.proofs.Math.Seq.{take-suc, take-length}
use Rattle.std.proofs.lemmas.List.Sums.{sum_by-append, sum_by-cons}
use Rattle.std.proofs.lemmas.Slice.Eq.{bytes_eq-Decides}
use Rattle.op_text.specs.declared.tree.Kind.{Kind}
use Rattle.op_text.specs.declared.tree.Kind.TheVariants.{Word, Bit}
use Rattle.op_text.specs.declared.tree.Param.{Param}
use Rattle.op_text.specs.declared.tree.State.{State}
use Rattle.op_text.specs.declared.tree.Assign.{Assign}
use Rattle.op_text.specs.declared.tree.Stmt.{Stmt}
use Rattle.op_text.specs.declared.tree.Op.{Op}
use Rattle.op_text.specs.declared.word_ops.WordOp.{WordOp}
use Rattle.op_text.specs.declared.word_ops.WordOp.TheVariants as o
use Rattle.op_text.specs.Language.{Equation, Statement, Compute, Visit, equation, statement}
use Rattle.op_text.specs.Language.{operation, result_names}
use Rattle.op_text.specs.Rules.{is_among, kind_among}
use Rattle.op_text.specs.Scratch.{param, defines, body_defines, greatest, need_inside, bits_inside}
use Rattle.op_text.specs.Scratch.{words_inside}
use Rattle.std.specs.List.{list_any}
use Rattle.std.proofs.lemmas.Bool.Decides.{nat_tests}
use Rattle.op_lang.specs.Counting.{known_after, is_counted, need_of, rows_needed}

found_step : (b : Bool) (j k : Kind) (x y : Option Kind) → (x ≡ Some k → y ≡ Some k)
    → cond b (Some j) x ≡ Some k → cond b (Some j) y ≡ Some k
found_step true j k x y f h = h
found_step false j k x y f h = f h

among_found : (xs ys : List Param) (n : List ℕ) (k : Kind) → kind_among xs n ≡ Some k
    → kind_among (xs ++ ys) n ≡ Some k
among_found [] ys n k h = cc
among_found (x ∷ xs) ys n k h = found_step (bytes_eq x.name n) x.kind k (kind_among xs n)
    (kind_among (xs ++ ys) n) (among_found xs ys n k) h

missed_step : (b : Bool) (j : Kind) (x y z : Option Kind) → (x ≡ None → y ≡ z)
    → cond b (Some j) x ≡ None → cond b (Some j) y ≡ z
missed_step true j x y z f h = cc
missed_step false j x y z f h = f h

among_missed : (xs ys : List Param) (n : List ℕ) → kind_among xs n ≡ None
    → kind_among (xs ++ ys) n ≡ kind_among ys n
among_missed [] ys n h = refl
among_missed (x ∷ xs) ys n h = missed_step (bytes_eq x.name n) x.kind (kind_among xs n)
    (kind_among (xs ++ ys) n) (kind_among ys n) (among_missed xs ys n) h

body-snoc : (known : List Param) (b : List Statement) (s : Statement)
    → body_defines known (b ++ s ∷ []) ≡ body_defines known b
    ++ defines (known ++ body_defines known b) s
body-snoc known [] s = append-nil (defines known s) ∙ ap (λ k. defines k s) (sym (append-nil known))
body-snoc known (x ∷ b) s =
    ap (λ l. defines known x ++ l) (body-snoc (known ++ defines known x) b s
    ∙ ap (λ k. body_defines (known ++ defines known x) b
    ++ defines k s) (append_assoc known (defines known x)
    (body_defines (known ++ defines known x) b)))
    ∙ sym (append_assoc (defines known x) (body_defines (known ++ defines known x) b)
    (defines (known ++ (defines known x ++ body_defines (known ++ defines known x) b)) s))

known-snoc : (ps : List Param) (before front : List Stmt) (last : Stmt)
    → before ≡ front ++ last ∷ []
    → known_after ps (map statement before) ≡ known_after ps (map statement front)
    ++ defines (known_after ps (map statement front)) (statement last)
known-snoc ps before front last e =
    ap (λ l. known_after ps (map statement l)) e
    ∙ ap (known_after ps) (map-append statement front (last ∷ []))
    ∙ ap (λ l. ps ++ l) (body-snoc ps (map statement front) (statement last))
    ∙ sym (append_assoc ps (body_defines ps (map statement front))
    (defines (known_after ps (map statement front)) (statement last)))

pub after_found : (ps : List Param) (before front : List Stmt) (last : Stmt) (n : List ℕ)
    (k : Kind) → before ≡ front ++ last ∷ [] → Some k
    ≡ kind_among (known_after ps (map statement front)) n
    → Some k ≡ kind_among (known_after ps (map statement before)) n
after_found ps before front last n k e h =
    sym (among_found (known_after ps (map statement front))
    (defines (known_after ps (map statement front)) (statement last)) n k (sym h))
    ∙ ap (λ l. kind_among l n) (sym (known-snoc ps before front last e))

pub after_missed : (ps : List Param) (before front : List Stmt) (last : Stmt) (n : List ℕ)
    → before ≡ front ++ last ∷ [] → None ≡ kind_among (known_after ps (map statement front)) n
    → kind_among (defines (known_after ps (map statement front)) (statement last)) n
    ≡ kind_among (known_after ps (map statement before)) n
after_missed ps before front last n e h =
    sym (among_missed (known_after ps (map statement front))
    (defines (known_after ps (map statement front)) (statement last)) n (sym h))
    ∙ ap (λ l. kind_among l n) (sym (known-snoc ps before front last e))

-- the names of a block
has_step : (b m : Bool) (k : Kind) (x : Option Kind) → (m ≡ true → x ≡ Some k) → (b || m) ≡ true
    → cond b (Some k) x ≡ Some k
has_step true m k x f h = refl
has_step false m k x f h = f h

none_step : (b m : Bool) (k : Kind) (x y : Option Kind) → (m ≡ false → x ≡ y) → (b || m) ≡ false
    → cond b (Some k) x ≡ y
none_step true m k x y f h = cc
none_step false m k x y f h = f h

pub states_have : (ns : List (List ℕ)) (k : Kind) (ys : List Param) (n : List ℕ)
    → is_among ns n ≡ true → kind_among (map (λ m. param m k) ns ++ ys) n ≡ Some k
states_have [] k ys n h = cc
states_have (m ∷ ns) k ys n h = has_step (bytes_eq m n) (is_among ns n) k
    (kind_among (map (λ m. param m k) ns ++ ys) n) (states_have ns k ys n) h

pub states_lack : (ns : List (List ℕ)) (k : Kind) (ys : List Param) (n : List ℕ)
    → is_among ns n ≡ false → kind_among (map (λ m. param m k) ns ++ ys) n ≡ kind_among ys n
states_lack [] k ys n h = refl
states_lack (m ∷ ns) k ys n h = none_step (bytes_eq m n) (is_among ns n) k
    (kind_among (map (λ m. param m k) ns ++ ys) n) (kind_among ys n) (states_lack ns k ys n) h

words_step : (q : List ℕ → Bool) (m : List ℕ) (ns : List (List ℕ)) (n : List ℕ) (b c : Bool)
    → bytes_eq m n ≡ b → q m ≡ c → q n ≡ true
    → (is_among ns n ≡ true → kind_among (map (λ j. param j Word) (filter q ns)) n ≡ Some Word)
    → (b || is_among ns n) ≡ true
    → kind_among (map (λ j. param j Word) (cond c (m ∷ filter q ns) (filter q ns))) n ≡ Some Word
words_step q m ns n true true e g h f i = rw e refl
words_step q m ns n true false e g h f i = let s : m ≡ n = (bytes_eq-Decides m n).0 e in
    absurd (no (q n) h (ap q (sym s) ∙ g))
  where
    no : (x : Bool) → x ≡ true → x ≡ false → ⊥
    no true a b = cc
    no false a b = cc
words_step q m ns n false true e g h f i = rw e (f i)
words_step q m ns n false false e g h f i = f i

words_have : (q : List ℕ → Bool) (ns : List (List ℕ)) (n : List ℕ) → q n ≡ true
    → is_among ns n ≡ true → kind_among (map (λ m. param m Word) (filter q ns)) n ≡ Some Word
words_have q [] n h i = cc
words_have q (m ∷ ns) n h i = words_step q m ns n (bytes_eq m n) (q m) refl refl h
    (words_have q ns n h) i

lack_step : (q : List ℕ → Bool) (m : List ℕ) (ns : List (List ℕ)) (n : List ℕ) (b c : Bool)
    → bytes_eq m n ≡ b → (is_among ns n ≡ false
    → kind_among (map (λ j. param j Word) (filter q ns)) n ≡ None)
    → (b || is_among ns n) ≡ false
    → kind_among (map (λ j. param j Word) (cond c (m ∷ filter q ns) (filter q ns))) n ≡ None
lack_step q m ns n true c e f i = cc
lack_step q m ns n false true e f i = rw e (f i)
lack_step q m ns n false false e f i = f i

words_lack : (q : List ℕ → Bool) (ns : List (List ℕ)) (n : List ℕ) → is_among ns n ≡ false
    → kind_among (map (λ m. param m Word) (filter q ns)) n ≡ None
words_lack q [] n h = refl
words_lack q (m ∷ ns) n h = lack_step q m ns n (bytes_eq m n) (q m) refl (words_lack q ns n) h

names-equations : (assigns : List Assign) → map (λ (e : Equation). e.name) (map equation assigns)
    ≡ map (λ (a : Assign). a.name) assigns
names-equations [] = refl
names-equations (a ∷ assigns) = ap (λ l. a.name ∷ l) (names-equations assigns)

-- a name among those of states, or of assignments
pub any_state : (states : List State) (n : List ℕ)
    → is_among (map (λ (s : State). s.name) states) n
    ≡ list_any (λ (s : State). bytes_eq s.name n) states
any_state [] n = refl
any_state (s ∷ states) n = ap (λ b. bytes_eq s.name n || b) (any_state states n)

any_target : (assigns : List Assign) (n : List ℕ)
    → is_among (map (λ (a : Assign). a.name) assigns) n
    ≡ list_any (λ (a : Assign). bytes_eq a.name n) assigns
any_target [] n = refl
any_target (a ∷ assigns) n = ap (λ b. bytes_eq a.name n || b) (any_target assigns n)

abbrev pub defined_in : List State → List Assign → List Param
defined_in states assigns =
    map (λ m. param m Bit) (map (λ (s : State). s.name) states)
    ++ map (λ m. param m Word) (filter (λ m. not (is_among (map (λ (s : State). s.name) states) m))
    (map (λ (e : Equation). e.name) (map equation assigns)))

pub state_has : (states : List State) (assigns : List Assign) (n : List ℕ)
    → true ≡ list_any (λ (s : State). bytes_eq s.name n) states
    → Some Bit ≡ kind_among (defined_in states assigns) n
state_has states assigns n h =
    sym (states_have (map (λ (s : State). s.name) states) Bit _ n (any_state states n ∙ sym h))

pub target_has : (states : List State) (assigns : List Assign) (n : List ℕ)
    → false ≡ list_any (λ (s : State). bytes_eq s.name n) states
    → true ≡ list_any (λ (a : Assign). bytes_eq a.name n) assigns
    → Some Word ≡ kind_among (defined_in states assigns) n
target_has states assigns n h i =
    let S = map (λ (s : State). s.name) states in
    let e : is_among S n ≡ false = any_state states n ∙ sym h in
    sym (states_lack S Bit _ n e
    ∙ ap (λ l. kind_among (map (λ m. param m Word) (filter (λ m. not (is_among S m)) l)) n)
    (names-equations assigns)
    ∙ words_have (λ m. not (is_among S m)) (map (λ (a : Assign). a.name) assigns) n (rw e refl)
    (any_target assigns n ∙ sym i))

pub block_lacks : (states : List State) (assigns : List Assign) (n : List ℕ)
    → false ≡ list_any (λ (s : State). bytes_eq s.name n) states
    → false ≡ list_any (λ (a : Assign). bytes_eq a.name n) assigns
    → None ≡ kind_among (defined_in states assigns) n
block_lacks states assigns n h i =
    let S = map (λ (s : State). s.name) states in
    sym (states_lack S Bit _ n (any_state states n ∙ sym h)
    ∙ ap (λ l. kind_among (map (λ m. param m Word) (filter (λ m. not (is_among S m)) l)) n)
    (names-equations assigns)
    ∙ words_lack (λ m. not (is_among S m)) (map (λ (a : Assign). a.name) assigns) n
    (any_target assigns n ∙ sym i))

-- counts
pub count-append : (p : Param → Bool) (xs ys : List Param)
    → count_by p (xs ++ ys) ≡ count_by p xs + count_by p ys
count-append p xs ys = sum_by-append (λ x. cond (p x) 1 0) xs ys

pub count-cons : {X : Type 0} (p : X → Bool) (x : X) (xs : List X)
    → count_by p (x ∷ xs) ≡ cond (p x) 1 0 + count_by p xs
count-cons p x xs = sum_by-cons (λ y. cond (p y) 1 0) x xs

count_bits : (rs : List (List ℕ)) (states : List State)
    → count_by (is_counted Bit rs) (map (λ m. param m Bit) (map (λ (s : State). s.name) states))
    ≡ count_by (λ (s : State). not (is_among rs s.name)) states
count_bits rs [] = refl
count_bits rs (s ∷ states) =
    count-cons (is_counted Bit rs) (param s.name Bit)
    (map (λ m. param m Bit) (map (λ (s : State). s.name) states))
    ∙ ap (λ n. cond (not (is_among rs s.name)) 1 0 + n) (count_bits rs states)
    ∙ sym (count-cons (λ (s : State). not (is_among rs s.name)) s states)

no_words : (rs : List (List ℕ)) (ns : List (List ℕ)) → count_by (is_counted Bit rs)
    (map (λ m. param m Word) ns) ≡ 0
no_words rs [] = refl
no_words rs (n ∷ ns) = count-cons (is_counted Bit rs) (param n Word) (map (λ m. param m Word) ns)
    ∙ zero-add _ ∙ no_words rs ns

no_bits : (rs : List (List ℕ)) (ns : List (List ℕ)) → count_by (is_counted Word rs)
    (map (λ m. param m Bit) ns) ≡ 0
no_bits rs [] = refl
no_bits rs (n ∷ ns) = count-cons (is_counted Word rs) (param n Bit) (map (λ m. param m Bit) ns)
    ∙ zero-add _ ∙ no_bits rs ns

chosen_words : (b : Bool) (rs : List (List ℕ)) (m : List ℕ) (ms : List (List ℕ)) (n : ℕ)
    → count_by (is_counted Word rs) (map (λ j. param j Word) ms) ≡ n
    → count_by (is_counted Word rs) (map (λ j. param j Word) (cond b (m ∷ ms) ms))
    ≡ cond (b && not (is_among rs m)) 1 0 + n
chosen_words true rs m ms n h = count-cons (is_counted Word rs) (param m Word)
    (map (λ j. param j Word) ms) ∙ ap (λ k. cond (not (is_among rs m)) 1 0 + k) h
chosen_words false rs m ms n h = h ∙ sym (zero-add n)

abbrev pub is_fresh : List State → List (List ℕ) → Assign → Bool
is_fresh states rs a = not (list_any (λ (s : State). bytes_eq s.name a.name) states)
    && not (is_among rs a.name)

count_targets : (rs : List (List ℕ)) (states : List State) (assigns : List Assign)
    → count_by (is_counted Word rs) (map (λ m.
    param m Word) (filter (λ m. not (is_among (map (λ (s : State). s.name) states) m))
    (map (λ (e : Equation). e.name) (map equation assigns))))
    ≡ count_by (is_fresh states rs) assigns
count_targets rs states [] = refl
count_targets rs states (a ∷ assigns) =
    let q : List ℕ → Bool = λ m. not (is_among (map (λ (s : State). s.name) states) m) in
    chosen_words (q a.name) rs a.name (filter q
    (map (λ (e : Equation). e.name) (map equation assigns)))
    (count_by (is_fresh states rs) assigns) (count_targets rs states assigns)
    ∙ ap (λ b. cond (not b && not (is_among rs a.name)) 1 0 + count_by (is_fresh states rs) assigns)
    (any_state states a.name)
    ∙ sym (count-cons (is_fresh states rs) a assigns)

pub bits_counted : (rs : List (List ℕ)) (states : List State) (assigns : List Assign)
    → count_by (λ (s : State). not (is_among rs s.name)) states
    ≡ count_by (is_counted Bit rs) (defined_in states assigns)
bits_counted rs states assigns =
    let ws = filter (λ m. not (is_among (map (λ (s : State). s.name) states) m))
    (map (λ (e : Equation). e.name) (map equation assigns)) in
    let a = count-append (is_counted Bit rs) (map (λ m.
    param m Bit) (map (λ (s : State). s.name) states)) (map (λ m. param m Word) ws) in
    let b = count_bits rs states in
    let d = no_words rs ws in
    omega arith

pub words_counted : (rs : List (List ℕ)) (states : List State) (assigns : List Assign)
    → count_by (is_fresh states rs) assigns ≡ count_by (is_counted Word rs)
    (defined_in states assigns)
words_counted rs states assigns =
    let ws = filter (λ m. not (is_among (map (λ (s : State). s.name) states) m))
    (map (λ (e : Equation). e.name) (map equation assigns)) in
    let a = count-append (is_counted Word rs) (map (λ m.
    param m Bit) (map (λ (s : State). s.name) states)) (map (λ m. param m Word) ws) in
    let b = no_bits rs (map (λ (s : State). s.name) states) in
    let d = count_targets rs states assigns in
    omega arith

pub names-snoc : (p : Param → Bool) (ps : List Param) (body front : List Stmt) (last : Stmt)
    → body ≡ front ++ last ∷ []
    → count_by p (body_defines ps (map statement body))
    ≡ count_by p (body_defines ps (map statement front))
    + count_by p (defines (known_after ps (map statement front)) (statement last))
names-snoc p ps body front last e =
    ap (λ l. count_by p (body_defines ps (map statement l))) e
    ∙ ap (λ l. count_by p (body_defines ps l)) (map-append statement front (last ∷ []))
    ∙ ap (count_by p) (body-snoc ps (map statement front) (statement last))
    ∙ count-append p (body_defines ps (map statement front))
    (defines (known_after ps (map statement front)) (statement last))

-- numbers that stay at their greatest
pub capped_twice : (a b : ℕ) → min (min a 65535 + min b 65535) 65535 ≡ min (a + b) 65535
capped_twice a b = grind (arith, nat_tests)

pub last_split : (xs : List Stmt) (x : Stmt) → 1 ≤ length xs → x ≡ get_or xs (length xs - 1) x
    → xs ≡ take (length xs - 1) xs ++ x ∷ []
last_split xs x h e =
    let k : suc (length xs - 1) ≡ length xs = omega arith in
    sym (take-length xs) ∙ ap (λ n. take n xs) (sym k) ∙ take-suc xs (length xs - 1) x (omega arith)
    ∙ ap (λ y. take (length xs - 1) xs ++ y ∷ []) (sym e)

pub counted_sum : (p : Param → Bool) (ps : List Param) (body : List Stmt) (last : Stmt)
    → 1 ≤ length body → last ≡ get_or body (length body - 1) last → (a b c n : ℕ)
    → a ≡ min (count_by p (body_defines ps (map statement (take (length body - 1) body)))) 65535
    → n ≡ count_by p (defines (known_after ps (map statement (take (length body - 1) body)))
    (statement last))
    → b ≡ min n 65535 → c ≡ min (a + b) 65535
    → c ≡ min (count_by p (body_defines ps (map statement body))) 65535
counted_sum p ps body last h e a b c n f g i j =
    j ∙ ap (λ x. min x 65535) (rw (f, i) refl)
    ∙ capped_twice (count_by p (body_defines ps (map statement (take (length body - 1) body))))
    n
    ∙ ap (λ x. min x 65535) (ap (λ m. count_by p
    (body_defines ps (map statement (take (length body - 1) body))) + m) g
    ∙ sym (names-snoc p ps body (take (length body - 1) body) last (last_split body last h e)))

pub capped_more : (a b : ℕ) → b ≤ 2 → min (min a 65535 + b) 65535 ≡ min (a + b) 65535
capped_more a b h = grind (arith, nat_tests)

pub small_need : (f : WordOp → ℕ) (body : List Statement) → ((p : WordOp) → f p ≤ 2)
    → greatest (map (need_inside f) body) ≤ 2
small_need f [] h = omega arith
small_need f (Compute target second p args ∷ body) h = let k = small_need f body h in let m = h p in
    grind (arith, nat_tests)
small_need f (Visit b ∷ body) h = let k = small_need f body h in grind (arith, nat_tests)

pub few_bits : (p : WordOp) → bits_inside p ≤ 2
few_bits o.Not = lit≤ tt
few_bits p = lit≤ tt

pub few_words : (p : WordOp) → words_inside p ≤ 2
few_words o.Not = lit≤ tt
few_words p = lit≤ tt

pub rows_of_kind : (k : Kind) (op : Op) (a b c : ℕ)
    → a ≡ min (count_by (is_counted k (result_names (operation op)))
    (body_defines op.params.items (map statement op.body.items))) 65535
    → b ≡ greatest (map (need_of k) (map statement op.body.items)) → c ≡ min (a + b) 65535
    → c ≡ min (rows_needed k (operation op)) 65535
rows_of_kind Bit op a b c f g h = h ∙ rw (f, g)
    (capped_more (count_by (is_counted Bit (result_names (operation op)))
    (body_defines op.params.items (map statement op.body.items)))
    (greatest (map (need_inside bits_inside) (map statement op.body.items)))
    (small_need bits_inside (map statement op.body.items) few_bits))
rows_of_kind Word op a b c f g h = h ∙ rw (
  f,
  g,
) (capped_more (count_by (is_counted Word (result_names (operation op)))
    (body_defines op.params.items (map statement op.body.items)))
    (greatest (map (need_inside words_inside) (map statement op.body.items)))
    (small_need words_inside (map statement op.body.items) few_words))
