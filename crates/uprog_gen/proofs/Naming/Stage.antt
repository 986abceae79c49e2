-- What stands before a statement of an operation that meets the rules, and what the statement reads
-- and sets.
use Rattle.uprog_gen.proofs.Common.{◌≡◌, ℕ, ◌+◌, ◌≤◌, Bool, true, false, not, List, [], ◌∷◌, ◌++◌}
use Rattle.uprog_gen.proofs.Common.{map, Option, Some, None, refl, sym, ap, ◌∙◌, subst, arith}
use Rattle.uprog_gen.proofs.Common.{bytes_eq, ⊎_elim, append_assoc, append-nil, Kind, Word, Bit}
use Rattle.uprog_gen.proofs.Common.{Param, Term, Nought, Unity, Named, Negation, Conjunction}
use Rattle.uprog_gen.proofs.Common.{Disjunction, Parity, Majority, Equation, Statement, Compute}
use Rattle.uprog_gen.proofs.Common.{Visit, Operation, is_among, kind_among, is_known, param}
use Rattle.uprog_gen.proofs.Common.{state_names, word_names, defines, body_defines, kind_of}
use Rattle.uprog_gen.proofs.Common.{greatest, need_inside, bits_inside, words_inside, Each}
use Rattle.uprog_gen.proofs.Common.{TermMeets, IsNew, IsNewOf, IsKnown, names_of, let_names}
use Rattle.uprog_gen.proofs.Common.{targets, used, can_read, LetsRead, Context, next_context}
use Rattle.uprog_gen.proofs.Common.{at_start, StatementMeets, BodyMeets, OperationMeets}
use Rattle.uprog_gen.proofs.Common.{second_kind, all_names, same_name, new-left, new-right}
use Rattle.uprog_gen.proofs.Common.{new-append, among-append, names-append, Slot, IsOwn, Slots}
use Rattle.uprog_gen.proofs.Common.{targets_of, block_reads, read_names, written_names}
use Rattle.std.proofs.lemmas.Bool.{not-true}
use Rattle.op_text.specs.Language.{Block}
use Rattle.op_rules.specs.Meets.{SecondMeets}
use Rattle.op_rules.proofs.Blocks.{block_names}
use Rattle.loop_ir.specs.Statements.{term_names, equation_names}
use Rattle.uprog_gen.specs.Layout.{IsLayout}
use Rattle.uprog_gen.proofs.Naming.Among.{each_among, among_left, among_split, filter_among}
use Rattle.uprog_gen.proofs.Naming.Among.{one_kind}
use Rattle.uprog_gen.proofs.Naming.Scene.{kind_skip, kind_first, kind_known, slot_there, slot_own}

-- this context stands before the rest of the body
pub record Stage (op : Operation) (c : Context) (rest : List Statement) : Type 0 where
  pub before : List Param
  pub known : c.known ≡ op.params ++ before
  pub all : all_names op ≡ c.known ++ body_defines c.known rest
  pub bits : greatest (map (need_inside bits_inside) rest)
      ≤ greatest (map (need_inside bits_inside) op.body)
  pub words : greatest (map (need_inside words_inside) rest)
      ≤ greatest (map (need_inside words_inside) op.body)
  pub body : BodyMeets c rest

pub first_stage : (op : Operation) → OperationMeets op → Stage op (at_start op) op.body
first_stage op meets = record {
  before = [];
  known = sym (append-nil op.params);
  all = refl;
  bits = omega arith;
  words = omega arith;
  body = meets.body;
}

pub next_stage : (op : Operation) (c : Context) (s : Statement) (rest : List Statement)
    → Stage op c (s ∷ rest) → Stage op (next_context c s) rest
next_stage op c s rest st = record {
  before = st.before ++ defines c.known s;
  known = ap (λ l. l ++ defines c.known s) st.known
      ∙ append_assoc op.params st.before (defines c.known s);
  all = st.all ∙ sym (append_assoc c.known (defines c.known s)
      (body_defines (c.known ++ defines c.known s) rest));
  bits = grind (arith, st.bits);
  words = grind (arith, st.words);
  body = st.body.1;
}

-- the need of the statement is no more than the greatest
pub bits_need : (op : Operation) (c : Context) (s : Statement) (rest : List Statement)
    → Stage op c (s ∷ rest) → need_inside bits_inside s
    ≤ greatest (map (need_inside bits_inside) op.body)
bits_need op c s rest st = grind (arith, st.bits)

pub words_need : (op : Operation) (c : Context) (s : Statement) (rest : List Statement)
    → Stage op c (s ∷ rest) → need_inside words_inside s
    ≤ greatest (map (need_inside words_inside) op.body)
words_need op c s rest st = grind (arith, st.words)

-- what a statement sets is what it defines
pub written_defined : (known : List Param) (s : Statement) (name : List ℕ)
    → is_among (names_of (defines known s)) name ≡ is_among (written_names s) name
written_defined known (Compute target None p args) name = refl
written_defined known (Compute target (Some x) p args) name = refl
written_defined known (Visit b) name = ap (λ l.
    is_among l name) (block_names (state_names b) (word_names b))

pub word_other : (b : Block) (name : List ℕ) → is_among (word_names b) name ≡ true
    → is_among (state_names b) name ≡ false
word_other b name h = not-true (is_among (state_names b) name)
    (filter_among (λ n. not (is_among (state_names b) n)) (targets b) name h).1

second_new : (c : Context) (target name : List ℕ) (k : Option Kind)
    → SecondMeets c target (Some name) k → IsNew (used c) name
second_new c target name None h = absurd h
second_new c target name (Some k) h = h.gives.new

first_new : (c : Context) (target name : List ℕ) → IsNew (used c) target
    → bytes_eq target name ≡ true → IsNew (used c) name
first_new c target name new f = subst (IsNew (used c)) (same_name target name f) new

-- what it sets is new
pub written_new : (c : Context) (s : Statement) (name : List ℕ) → StatementMeets c s
    → is_among (written_names s) name ≡ true → is_among (used c) name ≡ false
written_new c (Compute target None p args) name h e =
    let new = first_new c target name h.gives.new in grind (arith, e, new)
written_new c (Compute target (Some x) p args) name h e =
    let new = first_new c target name h.gives.new in
    let more = first_new c x name (second_new c target x (second_kind p) h.others) in
    grind (arith, e, new, more)
written_new c (Visit b) name h e =
    let state = λ (f : is_among (state_names b) name ≡ true).
    (each_among (IsNewOf (used c) c.results Bit) (state_names b) name h.states f).new in
    let word = λ (f : is_among (word_names b) name ≡ true). new-left (used c) (let_names b) name
    (each_among (IsNewOf (used c ++ let_names b) c.results Word) (word_names b) name h.words f).new
    in let both = among-append (state_names b) (word_names b) name in
    grind (arith, e, both, state, word)

pub written_unknown : (c : Context) (s : Statement) (name : List ℕ) → StatementMeets c s
    → is_among (written_names s) name ≡ true → is_among (names_of c.known) name ≡ false
written_unknown c s name h e = new-left (names_of c.known) c.lets name (written_new c s name h e)

-- the kind of a name that a block sets
pub state_kind : (known : List Param) (b : Block) (name : List ℕ)
    → is_among (state_names b) name ≡ true → kind_among (defines known (Visit b)) name ≡ Some Bit
state_kind known b name h = kind_first (map (λ n. param n Bit) (state_names b))
    (map (λ n. param n Word) (word_names b)) name Bit (one_kind Bit (state_names b) name h)

names_param : (k : Kind) (ns : List (List ℕ)) → names_of (map (λ n. param n k) ns) ≡ ns
names_param k [] = refl
names_param k (n ∷ ns) = ap (λ l. n ∷ l) (names_param k ns)

pub word_kind : (known : List Param) (b : Block) (name : List ℕ)
    → is_among (word_names b) name ≡ true → kind_among (defines known (Visit b)) name ≡ Some Word
word_kind known b name h =
    kind_skip (map (λ n. param n Bit) (state_names b)) (map (λ n. param n Word) (word_names b)) name
    (ap (λ l. is_among l name) (names_param Bit (state_names b)) ∙ word_other b name h)
    ∙ one_kind Word (word_names b) name h

-- what holds where a name is in either list
in_either : {P : Type 0} (xs ys : List (List ℕ)) (name : List ℕ) → (is_among xs name ≡ true → P)
    → (is_among ys name ≡ true → P) → is_among (xs ++ ys) name ≡ true → P
in_either xs ys name f g h = ⊎_elim f g (among_split xs ys name h)

-- an expression reads what it can
pub term_reads : (readable : List ℕ → Bool) (depth : ℕ) (t : Term) (name : List ℕ)
    → TermMeets readable depth t → is_among (term_names t) name ≡ true → readable name ≡ true
term_reads readable depth Nought name h e = absurd (cc)
term_reads readable depth Unity name h e = absurd (cc)
term_reads readable depth (Named m) name h e =
    let same = λ (f : bytes_eq m name ≡ true). ap readable (same_name m name f) in
    let reads = h.1 in grind (arith, e, same, reads)
term_reads readable depth (Negation a) name h e = term_reads readable (depth + 1) a name h.1 e
term_reads readable depth (Conjunction a b) name h e = in_either (term_names a) (term_names b) name
    (term_reads readable (depth + 1) a name h.1) (term_reads readable (depth + 1) b name h.2) e
term_reads readable depth (Disjunction a b) name h e = in_either (term_names a) (term_names b) name
    (term_reads readable (depth + 1) a name h.1) (term_reads readable (depth + 1) b name h.2) e
term_reads readable depth (Parity a b) name h e = in_either (term_names a) (term_names b) name
    (term_reads readable (depth + 1) a name h.1) (term_reads readable (depth + 1) b name h.2) e
term_reads readable depth (Majority a b d) name h e =
    in_either (term_names a ++ term_names b) (term_names d) name
    (in_either (term_names a) (term_names b) name (term_reads readable (depth + 1) a name h.1)
    (term_reads readable (depth + 1) b name h.2)) (term_reads readable (depth + 1) d name h.3) e

pub lets_stand : (known : List Param) (inside : List (List ℕ)) (lets : List Equation)
    (name : List ℕ) → LetsRead known inside lets → is_among (equation_names lets) name ≡ true
    → can_read known (inside ++ map (λ (e : Equation). e.name) lets) name ≡ true
lets_stand known inside [] name h e = absurd (cc)
lets_stand known inside (l ∷ lets) name h e =
    let rest = map (λ (e : Equation). e.name) lets in
    let more = among_left inside (l.name ∷ rest) name in
    in_either (term_names l.value) (equation_names lets) name
    (λ f. let reads = term_reads (can_read known inside) 0 l.value name h.0 f in
    grind (arith, reads, more)) (λ f. rw (← append_assoc inside (l.name ∷ []) rest)
    (lets_stand known (inside ++ l.name ∷ []) lets name h.1 f)) e

pub values_stand : (known : List Param) (inside : List (List ℕ)) (es : List Equation)
    (name : List ℕ) → Each (λ (e : Equation). TermMeets (can_read known inside) 0 e.value) es
    → is_among (equation_names es) name ≡ true → can_read known inside name ≡ true
values_stand known inside [] name h e = absurd (cc)
values_stand known inside (l ∷ es) name h e =
    in_either (term_names l.value) (equation_names es) name
    (term_reads (can_read known inside) 0 l.value name h.0) (values_stand known inside es name h.1) e

pub known_kind : (o : Option Kind) → is_known o ≡ true → (k : Kind) × (o ≡ Some k)
known_kind None h = absurd (cc)
known_kind (Some k) h = (k, refl)

-- the names other than lets that a block's expressions read
pub block_stand : (c : Context) (b : Block) (name : List ℕ) → StatementMeets c (Visit b)
    → is_among (block_reads b) name ≡ true → can_read c.known (state_names b) name ≡ true
block_stand c b name h e =
    let f = filter_among (λ n. not (is_among (targets_of b.lets) n)) (equation_names b.lets
    ++ equation_names b.assigns) name e in
    let g = in_either (equation_names b.lets) (equation_names b.assigns) name
    (lets_stand c.known (state_names b) b.lets name h.lets_read)
    (values_stand c.known (state_names b ++ let_names b) b.assigns name h.values_read) f.0 in
    let out = f.1 in let both = among-append (state_names b) (let_names b) name in
    grind (arith, g, both, out)

-- what a statement reads is known
pub read_known : (c : Context) (s : Statement) (name : List ℕ) → StatementMeets c s
    → is_among (read_names s) name ≡ true → (k : Kind) × (kind_among c.known name ≡ Some k)
read_known c (Compute target second p args) name h e =
    (kind_of c.known name, each_among (IsKnown c.known) args name h.known e)
read_known c (Visit b) name h e =
    let f = filter_among (λ n. not (is_among (state_names b) n)) (block_reads b) name e in
    let reads = block_stand c b name h f.0 in let out = f.1 in
    known_kind (kind_among c.known name) (grind (arith, reads, out))

-- lets stay: no later name is one of them
lets_unset : (c : Context) (s : Statement) (name : List ℕ) → StatementMeets c s
    → is_among c.lets name ≡ true → is_among (names_of (defines c.known s)) name ≡ false
lets_unset c s name h e =
    let new = λ (f : is_among (written_names s) name ≡ true).
    new-right (names_of c.known) c.lets name (written_new c s name h f) in
    let same = written_defined c.known s name in grind (arith, e, new, same)

pub lets_stay : (c : Context) (rest : List Statement) (name : List ℕ) → BodyMeets c rest
    → is_among c.lets name ≡ true → is_among (names_of (body_defines c.known rest)) name ≡ false
lets_stay c [] name h e = refl
lets_stay c (s ∷ rest) name h e = ap (λ l. is_among l name) (names-append (defines c.known s)
    (body_defines (c.known ++ defines c.known s) rest)) ∙ new-append (names_of (defines c.known s))
    (names_of (body_defines (c.known ++ defines c.known s) rest)) name (lets_unset c s name h.0 e)
    (lets_stay (next_context c s) rest name h.1 (among_left c.lets _ name e))

module _ (op : Operation) (meets : OperationMeets op) (slots : Slots) (free_bit free_word : ℕ)
    (is : IsLayout op slots free_bit free_word) (c : Context) (s : Statement)
    (rest : List Statement) (st : Stage op c (s ∷ rest)) where
  -- the places of known and of new names
  pub known_slot : (name : List ℕ) (k : Kind) → kind_among c.known name ≡ Some k
      → (x : Slot) × (slots name ≡ Some x) × (x.kind ≡ k)
  known_slot name k h = slot_there _ meets _ _ _ is name k
      (ap (λ ps. kind_among ps name) st.all ∙ kind_first c.known (body_defines c.known (s ∷ rest))
      name k h)

  pub defined_slot : (name : List ℕ) (k : Kind) → is_among (written_names s) name ≡ true
      → kind_among (defines c.known s) name ≡ Some k → (x : Slot) × (slots name ≡ Some x)
      × (x.kind ≡ k)
  defined_slot name k w h =
      let u = written_unknown c s name st.body.0 w in
      slot_there _ meets _ _ _ is name k
      (ap (λ ps. kind_among ps name) st.all ∙ kind_skip c.known (body_defines c.known (s ∷ rest))
      name u ∙ kind_first (defines c.known s) (body_defines (c.known ++ defines c.known s) rest)
      name k h)

  pub written_slot : (name : List ℕ) → is_among (written_names s) name ≡ true
      → (x : Slot) × (slots name ≡ Some x)
  written_slot name w =
      let k = kind_known (defines c.known s) name (written_defined c.known s name ∙ w) in
      let x = defined_slot name k.0 w k.1 in
      (x.0, x.1)

  pub read_slot : (name : List ℕ) → is_among (read_names s) name ≡ true
      → (x : Slot) × (slots name ≡ Some x)
  read_slot name r = let k = read_known c s name st.body.0 r in let x = known_slot name k.0 k.1 in
      (x.0, x.1)

  pub written_own : (name : List ℕ) (x : Slot) → is_among (written_names s) name ≡ true
      → slots name ≡ Some x → IsOwn x.space
  written_own name x w e =
      let u = written_unknown c s name st.body.0 w in
      let v : is_among (names_of op.params ++ names_of st.before) name ≡ false =
      ap (λ l. is_among l name) (sym (names-append op.params st.before))
      ∙ ap (λ ps. is_among (names_of ps) name) (sym st.known) ∙ u in
      slot_own _ meets _ _ _ is name x (new-left (names_of op.params) (names_of st.before) name v) e
