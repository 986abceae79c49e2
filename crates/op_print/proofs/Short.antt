-- The canonical text is short.
use Rattle.std.proofs.Common.{◌≡◌, ℕ, zero, suc, ◌+◌, ◌*◌, ◌<◌, ◌≤◌, ◌^◌, Bool, true, false, ◌&&◌}
use Rattle.std.proofs.Common.{nat_le, List, [], ◌∷◌, ◌++◌, length, map, Some, None, cond}
use Rattle.std.proofs.Common.{refl, ap, arith, codes, length-append}
use Rattle.std.specs.List.{flat_map, sum}
use Rattle.std.proofs.Math.Nat.{mul-le-mul_right}
use Rattle.std.proofs.lemmas.List.Sums.{sum_by-cons}
use Rattle.std.proofs.lemmas.List.Concat.{flat_map-cons}
use Rattle.std.proofs.lemmas.Bool.Decides.{nat_tests}
use Rattle.text_lex.specs.Spelled.{fits_name}
use Rattle.text_lex.specs.Lexical.{is_token}
use Rattle.text_lex.specs.declared.token.TokenKind.TheVariants as kinds
use Rattle.op_text.specs.declared.tree.Kind.{Kind}
use Rattle.op_text.specs.declared.tree.Kind.TheVariants.{Word, Bit}
use Rattle.op_text.specs.declared.tree.Op.{Op}
use Rattle.op_text.specs.declared.tree.Param.{Param}
use Rattle.op_text.specs.declared.tree.State.{State}
use Rattle.op_text.specs.declared.word_ops.WordOp.{WordOp}
use Rattle.op_text.specs.declared.word_ops.WordOp.TheVariants as o
use Rattle.op_text.specs.declared.word_ops.Signature.{Signature}
use Rattle.op_text.specs.declared.word_ops.Signature.TheVariants as signs
use Rattle.op_text.specs.WordOps.{Form, row_of, signature_forms, op_text, forms, filled, lacks}
use Rattle.op_text.specs.WordOps.{is_whole, same_kind}
use Rattle.op_text.specs.Scratch.{term_weight, kind_of}
use Rattle.op_text.specs.Language.{Term, Nought, Unity, Named, Negation, Conjunction, Disjunction}
use Rattle.op_text.specs.Language.{Parity, Majority, Equation, Block, Statement, Compute, Visit}
use Rattle.op_text.specs.Language.{Operation, operation}
use Rattle.op_text.specs.Spelling.{TermMeets, is_good, kind_text, direction_text, start_text, Each}
use Rattle.op_text.specs.Spelling.{IfThere}
use Rattle.std.specs.Option.{option_to_list}
use Rattle.std.proofs.Common.{Option, Some, None}
use Rattle.op_text.specs.Spelling.{IsName, HasParam, HasState, HasEquation, HasStatement}
use Rattle.op_text.specs.Spelling.{HasOperation}
use Rattle.op_rules.specs.Meets.{Context, LetsRead, WordMeets, BlockMeets, StatementMeets}
use Rattle.op_rules.specs.Meets.{BodyMeets, OperationMeets, OpsMeet, next_context}
use Rattle.op_print.specs.Canonical.{after_comma, listed, spelled, value_text, param_text}
use Rattle.op_print.specs.Canonical.{state_text, equation_text, let_text}
use Rattle.op_print.specs.Canonical.{line, statement_lines, op_lines, canonical_text}

and_second : (a b : Bool) → (a && b) ≡ true → b ≡ true
and_second true b h = h
and_second false b h = cc

and_first : (a b : Bool) → (a && b) ≡ true → a ≡ true
and_first true b h = refl
and_first false b h = cc

name_short : (name : List ℕ) → fits_name name ≡ true → length name ≤ 16
name_short name h =
    let e : nat_le (length name) 16 ≡ true =
    and_second (is_token kinds.Name name) (nat_le (length name) 16) h in
    grind (arith, nat_tests, e)

good_short : (name : List ℕ) → is_good name ≡ true → length name ≤ 16
good_short name h = name_short name (and_first (fits_name name) _ h)

-- what a value of this weight may take below so many gates
abbrev room : ℕ → ℕ → ℕ
room weight left = (1 + 2 * weight) * (16 + 8 * left)

leaf_fits : (l left : ℕ) → l ≤ 16 → l ≤ room 0 left
leaf_fits l left h = omega arith

one_fits : (w l left : ℕ) → l ≤ room w left → 5 + l ≤ room w (suc left)
one_fits w l left h = omega arith

two_fit : (p q v l m left : ℕ) → 1 + p + q ≤ v → l ≤ room p left → m ≤ room q left
    → 7 + l + m ≤ room v (suc left)
two_fit p q v l m left h k j =
    let e : (2 + 2 * p + 2 * q) * (16 + 8 * suc left) ≤ (1 + 2 * v) * (16 + 8 * suc left) =
    mul-le-mul_right (16 + 8 * suc left) (omega arith) in
    omega arith

three_fit : (p q r v l m n left : ℕ) → 1 + p + q + r ≤ v → l ≤ room p left → m ≤ room q left
    → n ≤ room r left → 9 + l + m + n ≤ room v (suc left)
three_fit p q r v l m n left h k j i =
    let e : (3 + 2 * p + 2 * q + 2 * r) * (16 + 8 * suc left) ≤ (1 + 2 * v) * (16 + 8 * suc left) =
    mul-le-mul_right (16 + 8 * suc left) (omega arith) in
    omega arith

-- a gate's text
one_long : (front a : List ℕ) → length (front ++ a ++ codes ")") ≡ length front + length a + 1
one_long front a = simp length-append (omega arith)

two_long : (front a b : List ℕ) → length (front ++ a ++ codes ", " ++ b ++ codes ")")
    ≡ length front + length a + length b + 3
two_long front a b = simp length-append (omega arith)

three_long : (front a b c : List ℕ)
    → length (front ++ a ++ codes ", " ++ b ++ codes ", " ++ c ++ codes ")")
    ≡ length front + length a + length b + length c + 5
three_long front a b c = simp length-append (omega arith)

value_short : (can_read : List ℕ → Bool) (depth left : ℕ) (e : Term) → depth + left ≡ 32
    → TermMeets can_read depth e → length (value_text e) ≤ room (term_weight e) left
value_short r depth left Nought d h = omega arith
value_short r depth left Unity d h = omega arith
value_short r depth left (Named name) d h = leaf_fits (length name) left (good_short name h.0)
value_short r depth zero (Negation a) d h = absurd (omega (arith, h.0))
value_short r depth zero (Conjunction a b) d h = absurd (omega (arith, h.0))
value_short r depth zero (Disjunction a b) d h = absurd (omega (arith, h.0))
value_short r depth zero (Parity a b) d h = absurd (omega (arith, h.0))
value_short r depth zero (Majority a b c) d h = absurd (omega (arith, h.0))
value_short r depth (suc left) (Negation a) d h =
    let f = one_fits (term_weight a) (length (value_text a)) left
    (value_short r (depth + 1) left a (omega (arith, d)) h.1) in
    omega (arith, f, one_long (codes "not(") (value_text a))
value_short r depth (suc left) (Conjunction a b) d h =
    let f = two_fit (term_weight a) (term_weight b) (1 + term_weight a + term_weight b)
    (length (value_text a)) (length (value_text b)) left (omega arith)
    (value_short r (depth + 1) left a (omega (arith, d)) h.1)
    (value_short r (depth + 1) left b (omega (arith, d)) h.2) in
    omega (arith, f, two_long (codes "and(") (value_text a) (value_text b))
value_short r depth (suc left) (Disjunction a b) d h =
    let f = two_fit (term_weight a) (term_weight b) (1 + term_weight a + term_weight b)
    (length (value_text a)) (length (value_text b)) left (omega arith)
    (value_short r (depth + 1) left a (omega (arith, d)) h.1)
    (value_short r (depth + 1) left b (omega (arith, d)) h.2) in
    omega (arith, f, two_long (codes "or(") (value_text a) (value_text b))
value_short r depth (suc left) (Parity a b) d h =
    let f = two_fit (term_weight a) (term_weight b) (3 + term_weight a + term_weight b)
    (length (value_text a)) (length (value_text b)) left (omega arith)
    (value_short r (depth + 1) left a (omega (arith, d)) h.1)
    (value_short r (depth + 1) left b (omega (arith, d)) h.2) in
    omega (arith, f, two_long (codes "xor(") (value_text a) (value_text b))
value_short r depth (suc left) (Majority a b c) d h =
    let f = three_fit (term_weight a) (term_weight b) (term_weight c)
    (1 + term_weight a + term_weight b + term_weight c) (length (value_text a))
    (length (value_text b)) (length (value_text c)) left (omega arith)
    (value_short r (depth + 1) left a (omega (arith, d)) h.1)
    (value_short r (depth + 1) left b (omega (arith, d)) h.2)
    (value_short r (depth + 1) left c (omega (arith, d)) h.3) in
    omega (arith, f, three_long (codes "maj(") (value_text a) (value_text b) (value_text c))

-- a list of short parts
abbrev Short : {A : Type 0} → (A → List ℕ) → ℕ → A → Type 0
Short text c a = length (text a) ≤ c

flat_short : {A : Type 0} (text : A → List ℕ) (c : ℕ) (xs : List A) → Each (Short text c) xs
    → length (flat_map text xs) ≤ length xs * c
flat_short text c [] h = omega arith
flat_short text c (x ∷ xs) h = simp length-append (omega (
  arith,
  h.0,
  flat_short text c xs h.1,
  ap length (flat_map-cons text x xs),
))

after_short : {A : Type 0} (text : A → List ℕ) (c : ℕ) (xs : List A) → Each (Short text c) xs
    → Each (Short (after_comma text) (c + 2)) xs
after_short text c [] h = tt
after_short text c (x ∷ xs) h =
    (simp length-append (omega (arith, h.0)), after_short text c xs h.1)

listed_short : {A : Type 0} (text : A → List ℕ) (c : ℕ) (xs : List A) → Each (Short text c) xs
    → length (listed text xs) ≤ length xs * (c + 2)
listed_short text c [] h = omega arith
listed_short text c (x ∷ xs) h = simp length-append
    (omega (arith, h.0, flat_short (after_comma text) (c + 2) xs (after_short text c xs h.1)))

times : (n m c : ℕ) → n ≤ m → n * c ≤ m * c
times n m c h = mul-le-mul_right c h

each_short : {A : Type 0} (ok : A → Type 0) (text : A → List ℕ) (c : ℕ) → ((a : A) → ok a
    → Short text c a) → (xs : List A) → Each ok xs → Each (Short text c) xs
each_short ok text c f [] h = tt
each_short ok text c f (x ∷ xs) h = (f x h.0, each_short ok text c f xs h.1)

kind_short : (k : Kind) → length (kind_text k) ≤ 4
kind_short Word = omega arith
kind_short Bit = omega arith

param_short : (p : Param) → HasParam p → Short param_text 22 p
param_short p h = simp length-append (omega (arith, name_short p.name h, kind_short p.kind))

start_short : (b : Bool) → length (start_text b) ≡ 1
start_short false = refl
start_short true = refl

state_short : (s : State) → HasState s → Short state_text 20 s
state_short s h = simp length-append (omega (arith, name_short s.name h, start_short s.start))

-- an equation whose value has this weight
abbrev IsShort : Equation → Type 0
IsShort e = length (equation_text e) ≤ 292 + 544 * term_weight e.value

equation_short : (can_read : List ℕ → Bool) (e : Equation) → IsName e.name
    → TermMeets can_read 0 e.value → IsShort e
equation_short r e h v =
    let f = value_short r 0 32 e.value refl v in
    simp length-append (omega (arith, f, name_short e.name h))

abbrev weights : List Equation → ℕ
weights es = sum (map (λ (e : Equation). term_weight e.value) es)

weights-cons : (e : Equation) (es : List Equation)
    → weights (e ∷ es) ≡ term_weight e.value + weights es
weights-cons e es = sum_by-cons (λ (x : ℕ). x) (term_weight e.value)
    (map (λ (e : Equation). term_weight e.value) es)

line_long : (indent text : List ℕ) → length (line indent text) ≡ length indent + length text + 1
line_long indent text = simp length-append (omega arith)

abbrev let_line : Equation → List ℕ
let_line e = line (codes "    ") (let_text e)

abbrev assign_line : Equation → List ℕ
assign_line e = line (codes "    ") (equation_text e)

lines_short : (text : Equation → List ℕ) → ((e : Equation) → IsShort e
    → length (text e) ≤ 301 + 544 * term_weight e.value) → (es : List Equation)
    → Each IsShort es → length (flat_map text es) ≤ 301 * length es + 544 * weights es
lines_short text f [] h = omega arith
lines_short text f (e ∷ es) h = simp length-append
    (omega (
      arith,
      f e h.0,
      lines_short text f es h.1,
      weights-cons e es,
      ap length (flat_map-cons text e es),
    ))

let_long : (text : List ℕ) → length (line (codes "    ") (codes "let " ++ text))
    ≡ length text + 9
let_long text = simp length-append (omega arith)

let_short : (e : Equation) → IsShort e → length (let_line e) ≤ 301 + 544 * term_weight e.value
let_short e h = omega (arith, h, let_long (equation_text e))

assign_short : (e : Equation) → IsShort e
    → length (assign_line e) ≤ 301 + 544 * term_weight e.value
assign_short e h = omega (arith, h, line_long (codes "    ") (equation_text e))

lets_are_short : (known : List Param) (inside : List (List ℕ)) (es : List Equation)
    → Each HasEquation es → LetsRead known inside es → Each IsShort es
lets_are_short known inside [] h r = tt
lets_are_short known inside (e ∷ es) h r =
    (equation_short _ e h.0.0 r.0, lets_are_short known (inside ++ e.name ∷ []) es h.1 r.1)

assigns_are_short : (can_read : List ℕ → Bool) (es : List Equation) → Each HasEquation es
    → Each (λ (e : Equation). TermMeets can_read 0 e.value) es → Each IsShort es
assigns_are_short r [] h v = tt
assigns_are_short r (e ∷ es) h v =
    (equation_short r e h.0.0 v.0, assigns_are_short r es h.1 v.1)

direction_short : (b : Bool) → length (direction_text b) ≤ 4
direction_short false = omega arith
direction_short true = omega arith

block_short : (c : Context) (b : Block) → HasStatement (Visit b) → BlockMeets c b
    → length (statement_lines (Visit b)) ≤ 20500
block_short c b h m =
    let lets = flat_map let_line b.lets in
    let assigns = flat_map assign_line b.assigns in
    let last = line (codes "  ") (codes "}") in
    let states = listed state_text b.states in
    simp length-append (omega (
      arith,
      direction_short b.down,
      listed_short state_text 20 b.states (each_short HasState state_text 20 state_short b.states
          h.0),
      times (length b.states) 8 22 m.few_states,
      lines_short let_line let_short b.lets (lets_are_short c.known _ b.lets h.1 m.lets_read),
      lines_short assign_line assign_short b.assigns
          (assigns_are_short _ b.assigns h.2 m.values_read),
      m.few_lets,
      m.few_assigns,
      m.light,
    ))

-- an operation takes three arguments at most
abbrev HasFew : Form → Type 0
HasFew f = length f.takes ≤ 3

lacks_none : (given takes : List Kind) → is_whole (lacks given takes) ≡ true
    → length given ≡ length takes
lacks_none [] [] h = refl
lacks_none [] (j ∷ js) h = cc
lacks_none (k ∷ ks) [] h = cc
lacks_none (k ∷ ks) (j ∷ js) h = at (same_kind k j) (lacks_none ks js) h
  where
    at : (b : Bool) → (is_whole (lacks ks js) ≡ true → length ks ≡ length js)
        → is_whole (cond b (lacks ks js) None) ≡ true → length (k ∷ ks) ≡ length (j ∷ js)
    at true f g = ap suc (f g)
    at false f g = cc

filled_few : (fs : List Form) (given : List Kind) (k : Kind) → Each HasFew fs
    → filled fs given ≡ Some k → length given ≤ 3
filled_few [] given k h e = cc
filled_few (f ∷ fs) given k h e = at (is_whole (lacks given f.takes)) refl
    (filled_few fs given k h.1) e
  where
    at : (b : Bool) → is_whole (lacks given f.takes) ≡ b
        → (filled fs given ≡ Some k → length given ≤ 3)
        → cond b (Some f.gives) (filled fs given) ≡ Some k → length given ≤ 3
    at true i r g = omega (arith, h.0, lacks_none given f.takes i)
    at false i r g = r g

forms_few : (p : WordOp) → Each HasFew (forms p)
forms_few p = of (row_of p).signature
  where
    of : (s : Signature) → Each HasFew (signature_forms s)
    of signs.OneOf = (omega arith, (omega arith, tt))
    of signs.TwoOf = (omega arith, (omega arith, tt))
    of signs.Choice = (omega arith, (omega arith, tt))
    of s = (omega arith, tt)

op_short : (p : WordOp) → length (op_text p) ≤ 8
op_short o.Not = omega arith
op_short p = omega arith

names_short : (args : List (List ℕ)) → Each IsName args → Each (Short spelled 16) args
names_short args h = each_short IsName spelled 16 name_short args h

length-map : {A B : Type 0} (f : A → B) (xs : List A) → length (map f xs) ≡ length xs
length-map f [] = refl
length-map f (x ∷ xs) = ap suc (length-map f xs)

-- a second part, if there is one
second_short : {A : Type 0} (ok : A → Type 0) (text : A → List ℕ) (c : ℕ) → ((a : A) → ok a
    → Short text c a) → (second : Option A) → IfThere ok second
    → length (flat_map (after_comma text) (option_to_list second)) ≤ c + 2
second_short ok text c f None k = omega arith
second_short ok text c f (Some b) k = let h =
    flat_short (after_comma text) (c + 2) (b ∷ []) (after_short text c (b ∷ []) (f b k, tt)) in
    omega arith

word_short : (c : Context) (target : List ℕ) (second : Option (List ℕ)) (p : WordOp)
    (args : List (List ℕ)) → HasStatement (Compute target second p args)
    → WordMeets c target second p args
    → length (statement_lines (Compute target second p args)) ≤ 20500
word_short c target second p args h m =
    let few = filled_few (forms p) (map (kind_of c.known) args) _ (forms_few p) m.takes in
    let list = listed spelled args in
    simp length-append (omega (
      arith,
      few,
      length-map (kind_of c.known) args,
      listed_short spelled 16 args (names_short args h.2),
      times (length args) 3 18 (omega (arith, few, length-map (kind_of c.known) args)),
      op_short p,
      name_short target h.0,
      second_short IsName spelled 16 name_short second h.1,
    ))

statement_short : (c : Context) (s : Statement) → HasStatement s → StatementMeets c s
    → Short statement_lines 20500 s
statement_short c (Compute target second p args) h m = word_short c target second p args h m
statement_short c (Visit b) h m = block_short c b h m

body_short : (c : Context) (body : List Statement) → Each HasStatement body → BodyMeets c body
    → Each (Short statement_lines 20500) body
body_short c [] h m = tt
body_short c (s ∷ body) h m =
    (statement_short c s h.0 m.0, body_short (next_context c s) body h.1 m.1)

op_is_short : (op : Operation) → HasOperation op → OperationMeets op → Short op_lines 330000 op
op_is_short op h m =
    let params = listed param_text op.params in
    let body = flat_map statement_lines op.body in
    let last = line [] (codes "}") in
    simp length-append (omega (
      arith,
      name_short op.name h.name,
      listed_short param_text 22 op.params (each_short HasParam param_text 22 param_short
          op.params h.params),
      times (length op.params) 4 24 m.few_params,
      name_short op.result.name h.result,
      kind_short op.result.kind,
      second_short HasParam param_text 22 param_short op.second h.second,
      flat_short statement_lines 20500 op.body (body_short _ op.body h.body m.body),
      times (length op.body) 16 20500 m.few_statements,
    ))

ops_short : (all : List Operation) → Each HasOperation all → Each OperationMeets all
    → Each (Short op_lines 330000) all
ops_short [] h m = tt
ops_short (op ∷ all) h m = (op_is_short op h.0 m.0, ops_short all h.1 m.1)

canonical_short : (all : List Operation) → Each HasOperation all → OpsMeet all
    → length (canonical_text all) < 2 ^ 32
canonical_short all h m = omega (
  arith,
  flat_short op_lines 330000 all (ops_short all h m.each),
  times (length all) 32 330000 m.few_ops,
)

-- where a text is begun empty, and these ops are written to it
pub short_text : (ops given : List Op) (text before : List ℕ) → given ≡ ops
    → Each HasOperation (map operation ops) → OpsMeet (map operation ops) → before ≡ []
    → text ≡ before ++ canonical_text (map operation given) → length text < 2 ^ 32
short_text ops given text before same named meets blank written =
    let is : text ≡ canonical_text (map operation ops) = rw (written, blank, same) refl in
    rw is (canonical_short (map operation ops) named meets)
