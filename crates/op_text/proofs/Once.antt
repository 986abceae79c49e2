-- No two lists of ops are spelled alike.
use Rattle.std.proofs.Common.{◌≡◌, ℕ, Bool, true, false, List, [], ◌∷◌, Option, Some, None, refl}
use Rattle.std.proofs.Common.{sym, ap, ◌∙◌, codes, arith}
use Rattle.text_lex.specs.Spelled.{fits_name}
use Rattle.op_text.specs.declared.tree.Kind.{Kind}
use Rattle.op_text.specs.declared.tree.Kind.TheVariants.{Word, Bit}
use Rattle.op_text.specs.declared.tree.Param.{Param}
use Rattle.op_text.specs.declared.tree.State.{State}
use Rattle.op_text.specs.declared.word_ops.WordOp.{WordOp}
use Rattle.op_text.specs.WordOps.{op_text, op_named}
use Rattle.op_text.specs.Language.{Equation, Block, Compute, Visit, Operation}
use Rattle.op_text.specs.Spelling.{IsShut, after_commas, between_commas}
use Rattle.op_text.specs.Spelling.{in_turn, kind_text, direction_text, start_text, name_text}
use Rattle.op_text.specs.Spelling.{param_text, state_text, equation_text, let_text, statement_text}
use Rattle.op_text.specs.Spelling.{after_comma, operation_text, IsName, HasParam, HasState}
use Rattle.op_text.specs.Spelling.{IfThere}
use Rattle.op_text.specs.Spelling.{HasEquation, HasStatement, HasOperation, Each, OpsSpelledOnce}
use Rattle.op_text.proofs.Rows.{op_is_named}
use Rattle.op_text.proofs.Unique.{spelled_once}

-- the first byte of the first token, and of the second
abbrev first : List (List ℕ) → ℕ
first [] = 0
first ([] ∷ xs) = 0
first ((b ∷ bs) ∷ xs) = b

no_name : (n d : List ℕ) → n ≡ d → fits_name n ≡ true → fits_name d ≡ false → ⊥
no_name n d e h k = let h' = rw e at h in cc

heads : (m n : List ℕ) (x y : List (List ℕ)) → m ∷ x ≡ n ∷ y → m ≡ n
heads m n x y e = cc

tails : (m n : List ℕ) (x y : List (List ℕ)) → m ∷ x ≡ n ∷ y → x ≡ y
tails m n x y e = cc

kind_once : (j k : Kind) → kind_text j ≡ kind_text k → j ≡ k
kind_once Word Word e = refl
kind_once Bit Bit e = refl
kind_once Word Bit e = absurd (omega (arith, ap (λ x. first (x ∷ [])) e))
kind_once Bit Word e = absurd (omega (arith, ap (λ x. first (x ∷ [])) e))

direction_once : (a b : Bool) → direction_text a ≡ direction_text b → a ≡ b
direction_once true true e = refl
direction_once false false e = refl
direction_once true false e = absurd (omega (arith, ap (λ x. first (x ∷ [])) e))
direction_once false true e = absurd (omega (arith, ap (λ x. first (x ∷ [])) e))

start_once : (a b : Bool) → start_text a ≡ start_text b → a ≡ b
start_once true true e = refl
start_once false false e = refl
start_once true false e = absurd (omega (arith, ap (λ x. first (x ∷ [])) e))
start_once false true e = absurd (omega (arith, ap (λ x. first (x ∷ [])) e))

op_once : (p q : WordOp) → op_text p ≡ op_text q → p ≡ q
op_once p q e = let s : Some p ≡ Some q = sym (op_is_named p) ∙ ap op_named e ∙ op_is_named q in cc

semi_shut : (x : List (List ℕ)) → IsShut (codes ";" ∷ x)
semi_shut x y e = omega (arith, ap first e)

param_is : (p q : Param) → p.name ≡ q.name → p.kind ≡ q.kind → p ≡ q
param_is p q e f = rw (← e, ← f) refl

state_is : (s t : State) → s.name ≡ t.name → s.start ≡ t.start → s ≡ t
state_is s t e f = rw (← e, ← f) refl

equation_is : (d e : Equation) → d.name ≡ e.name → d.value ≡ e.value → d ≡ e
equation_is d e f g = rw (← f, ← g) refl

-- a part that is spelled in one way, whatever follows it
abbrev Once : {A : Type 0} → (A → List (List ℕ) → List (List ℕ)) → (A → Type 0) → Type 0
Once {A} spell ok = (a b : A) (x y : List (List ℕ)) → ok a → ok b → spell a x ≡ spell b y
    → (a ≡ b) × (x ≡ y)

name_once : Once name_text IsName
name_once a b x y f g e = (heads a b x y e, tails a b x y e)

param_once : Once param_text HasParam
param_once p q x y f g e =
    let t = tails p.name q.name _ _ e in
    let k = tails (codes ":") (codes ":") _ _ t in (
      param_is p q (heads p.name q.name _ _ e)
          (kind_once p.kind q.kind (heads (kind_text p.kind) (kind_text q.kind) x y k)),
      tails (kind_text p.kind) (kind_text q.kind) x y k,
    )

state_once : Once state_text HasState
state_once s t x y f g e =
    let d = tails s.name t.name _ _ e in
    let k = tails (codes "=") (codes "=") _ _ d in (
      state_is s t (heads s.name t.name _ _ e)
          (start_once s.start t.start (heads (start_text s.start) (start_text t.start) x y k)),
      tails (start_text s.start) (start_text t.start) x y k,
    )

equation_once : Once equation_text HasEquation
equation_once a b x y f g e =
    let d = tails a.name b.name _ _ e in
    let k = tails (codes "=") (codes "=") _ _ d in
    let v = spelled_once a.value b.value (codes ";" ∷ x) (codes ";" ∷ y) f.1 g.1 (semi_shut x)
    (semi_shut y) k in
    (equation_is a b (heads a.name b.name _ _ e) v.0, tails (codes ";") (codes ";") x y v.1)

let_once : Once let_text HasEquation
let_once a b x y f g e = equation_once a b x y f g (tails (codes "let") (codes "let") _ _ e)

cons_is : {A : Type 0} (a b : A) (x y : List A) → a ≡ b → x ≡ y → a ∷ x ≡ b ∷ y
cons_is a b x y e f = rw (e, f) refl

-- parts with commas, up to a parenthesis
after_once : {A : Type 0} (spell : A → List (List ℕ) → List (List ℕ)) (ok : A → Type 0)
    → Once spell ok → (xs ys : List A) (x y : List (List ℕ)) → Each ok xs → Each ok ys
    → after_commas spell xs (codes ")" ∷ x) ≡ after_commas spell ys (codes ")" ∷ y)
    → (xs ≡ ys) × (x ≡ y)
after_once spell ok once [] [] x y f g e = (refl, tails (codes ")") (codes ")") x y e)
after_once spell ok once [] (b ∷ ys) x y f g e = absurd (omega (arith, ap first e))
after_once spell ok once (a ∷ xs) [] x y f g e = absurd (omega (arith, ap first e))
after_once spell ok once (a ∷ xs) (b ∷ ys) x y f g e =
    let h = once a b (after_commas spell xs (codes ")" ∷ x))
    (after_commas spell ys (codes ")" ∷ y)) f.0 g.0 (tails (codes ",") (codes ",") _ _ e) in
    let k = after_once spell ok once xs ys x y f.1 g.1 h.1 in
    (cons_is a b xs ys h.0 k.0, k.1)

-- a part that doesn't begin with a parenthesis
abbrev Opens : {A : Type 0} → (A → List (List ℕ) → List (List ℕ)) → (A → Type 0) → Type 0
Opens {A} spell ok = (a : A) (x y : List (List ℕ)) → ok a → spell a x ≡ codes ")" ∷ y → ⊥

between_once : {A : Type 0} (spell : A → List (List ℕ) → List (List ℕ)) (ok : A → Type 0)
    → Once spell ok → Opens spell ok → (xs ys : List A) (x y : List (List ℕ)) → Each ok xs
    → Each ok ys
    → between_commas spell xs (codes ")" ∷ x) ≡ between_commas spell ys (codes ")" ∷ y)
    → (xs ≡ ys) × (x ≡ y)
between_once spell ok once opens [] [] x y f g e = (refl, tails (codes ")") (codes ")") x y e)
between_once spell ok once opens [] (b ∷ ys) x y f g e = absurd (opens b _ x g.0 (sym e))
between_once spell ok once opens (a ∷ xs) [] x y f g e = absurd (opens a _ y f.0 e)
between_once spell ok once opens (a ∷ xs) (b ∷ ys) x y f g e =
    let h = once a b (after_commas spell xs (codes ")" ∷ x))
    (after_commas spell ys (codes ")" ∷ y)) f.0 g.0 e in
    let k = after_once spell ok once xs ys x y f.1 g.1 h.1 in
    (cons_is a b xs ys h.0 k.0, k.1)

name_opens : Opens name_text IsName
name_opens a x y f e = no_name a (codes ")") (heads a (codes ")") x y e) f refl

param_opens : Opens param_text HasParam
param_opens p x y f e = no_name p.name (codes ")") (heads p.name (codes ")") _ y e) f refl

state_opens : Opens state_text HasState
state_opens s x y f e = no_name s.name (codes ")") (heads s.name (codes ")") _ y e) f refl

-- parts in turn, up to what begins none
abbrev Ends : {A : Type 0} → (A → List (List ℕ) → List (List ℕ)) → (A → Type 0) → List (List ℕ)
    → Type 0
Ends {A} spell ok end = (a : A) (x : List (List ℕ)) → ok a → spell a x ≡ end → ⊥

turn_once : {A : Type 0} (spell : A → List (List ℕ) → List (List ℕ)) (ok : A → Type 0)
    → Once spell ok → (xs ys : List A) (x y : List (List ℕ)) → Ends spell ok x → Ends spell ok y
    → Each ok xs → Each ok ys
    → in_turn spell xs x ≡ in_turn spell ys y → (xs ≡ ys) × (x ≡ y)
turn_once spell ok once [] [] x y i j f g e = (refl, e)
turn_once spell ok once [] (b ∷ ys) x y i j f g e = absurd (i b _ g.0 (sym e))
turn_once spell ok once (a ∷ xs) [] x y i j f g e = absurd (j a _ f.0 e)
turn_once spell ok once (a ∷ xs) (b ∷ ys) x y i j f g e =
    let h = once a b (in_turn spell xs x) (in_turn spell ys y) f.0 g.0 e in
    let k = turn_once spell ok once xs ys x y i j f.1 g.1 h.1 in
    (cons_is a b xs ys h.0 k.0, k.1)

equation_ends : (x : List (List ℕ)) → Ends equation_text HasEquation (codes "}" ∷ x)
equation_ends x a y f e = no_name a.name (codes "}") (heads a.name (codes "}") _ x e) f.0 refl

-- the assignments of a block begin with no let
let_ends : (assigns : List Equation) (x : List (List ℕ)) → Each HasEquation assigns
    → Ends let_text HasEquation (in_turn equation_text assigns (codes "}" ∷ x))
let_ends [] x h a y f e = absurd (omega (arith, ap first e))
let_ends (b ∷ assigns) x h a y f e = no_name a.name (codes "=")
    (heads a.name (codes "=") _ _ (tails (codes "let") b.name _ _ e)) f.0 refl

block_is : (b d : Block) → b.down ≡ d.down → b.states ≡ d.states → b.lets ≡ d.lets
    → b.assigns ≡ d.assigns → b ≡ d
block_is b d e f g h = rw (← e, ← f, ← g, ← h) refl

compute_is : (m n : List ℕ) (c d : Option (List ℕ)) (p q : WordOp) (a b : List (List ℕ)) → m ≡ n
    → c ≡ d → p ≡ q → a ≡ b → Compute m c p a ≡ Compute n d q b
compute_is m n c d p q a b e h f g = rw (e, h, f, g) refl

-- a part after a comma, up to a mark that is another
comma_once : {A : Type 0} (spell : A → List (List ℕ) → List (List ℕ)) (ok : A → Type 0)
    → Once spell ok → (end : List ℕ) → (codes "," ≡ end → ⊥) → (a b : Option A)
    (x y : List (List ℕ)) → IfThere ok a → IfThere ok b
    → after_comma spell a (end ∷ x) ≡ after_comma spell b (end ∷ y) → (a ≡ b) × (x ≡ y)
comma_once spell ok once end other None None x y f g e = (refl, tails end end x y e)
comma_once spell ok once end other None (Some b) x y f g e =
    absurd (other (sym (heads end (codes ",") x (spell b (end ∷ y)) e)))
comma_once spell ok once end other (Some a) None x y f g e =
    absurd (other (heads (codes ",") end (spell a (end ∷ x)) y e))
comma_once spell ok once end other (Some a) (Some b) x y f g e =
    let h = once a b (end ∷ x) (end ∷ y) f g (tails (codes ",") (codes ",") _ _ e) in
    (ap Some h.0, tails end end x y h.1)

comma_equals : codes "," ≡ codes "=" → ⊥
comma_equals e = omega (arith, ap (λ x. first (x ∷ [])) e)

comma_begins : codes "," ≡ codes "{" → ⊥
comma_begins e = omega (arith, ap (λ x. first (x ∷ [])) e)

-- after a word statement's first target stands a comma or "="
no_target : (down : Bool) (c : Option (List ℕ)) (x y : List (List ℕ))
    → after_comma name_text c (codes "=" ∷ x) ≡ direction_text down ∷ y → ⊥
no_target true None x y e = omega (arith, ap first e)
no_target false None x y e = omega (arith, ap first e)
no_target true (Some n) x y e = omega (arith, ap first e)
no_target false (Some n) x y e = omega (arith, ap first e)

statement_once : Once statement_text HasStatement
statement_once (Compute m c p a) (Compute n d q b) x y f g e =
    let t1 = tails m n _ _ e in
    let t2 = comma_once name_text IsName name_once (codes "=") comma_equals c d _ _ f.1 g.1 t1 in
    let t3 = tails (op_text p) (op_text q) _ _ t2.1 in
    let t4 = tails (codes "(") (codes "(") _ _ t3 in
    let k = between_once name_text IsName name_once name_opens a b (codes ";" ∷ x) (codes ";"
    ∷ y) f.2 g.2 t4 in (
      compute_is m n c d p q a b (heads m n _ _ e) t2.0
          (op_once p q (heads (op_text p) (op_text q) _ _ t2.1)) k.0,
      tails (codes ";") (codes ";") x y k.1,
    )
statement_once (Compute m c p a) (Visit d) x y f g e =
    absurd (no_target d.down c _ _ (tails m (codes "serial") _ _ e))
statement_once (Visit b) (Compute n c q a) x y f g e =
    absurd (no_target b.down c _ _ (sym (tails (codes "serial") n _ _ e)))
statement_once (Visit b) (Visit d) x y f g e =
    let t1 = tails (codes "serial") (codes "serial") _ _ e in
    let t2 = tails (direction_text b.down) (direction_text d.down) _ _ t1 in
    let t3 = tails (codes "(") (codes "(") _ _ t2 in
    let s = between_once state_text HasState state_once state_opens b.states d.states _ _ f.0 g.0 t3
    in
    let t4 = tails (codes "{") (codes "{") _ _ s.1 in
    let l = turn_once let_text HasEquation let_once b.lets d.lets
    (in_turn equation_text b.assigns (codes "}" ∷ x))
    (in_turn equation_text d.assigns (codes "}" ∷ y)) (let_ends b.assigns x f.2)
    (let_ends d.assigns y g.2) f.1 g.1 t4 in
    let a = turn_once equation_text HasEquation equation_once b.assigns d.assigns (codes "}"
    ∷ x) (codes "}" ∷ y) (equation_ends x) (equation_ends y) f.2 g.2 l.1 in (
      ap Visit (block_is b d (direction_once b.down d.down
          (heads (direction_text b.down) (direction_text d.down) _ _ t1)) s.0 l.0 a.0),
      tails (codes "}") (codes "}") x y a.1,
    )

statement_ends : (x : List (List ℕ)) → Ends statement_text HasStatement (codes "}" ∷ x)
statement_ends x (Compute m c p a) y f e =
    no_name m (codes "}") (heads m (codes "}") _ x e) f.0 refl
statement_ends x (Visit b) y f e = omega (arith, ap first e)

operation_is : (a b : Operation) → a.name ≡ b.name → a.params ≡ b.params → a.result ≡ b.result
    → a.second ≡ b.second → a.body ≡ b.body → a ≡ b
operation_is a b e f g i h = rw (← e, ← f, ← g, ← i, ← h) refl

operation_once : Once operation_text HasOperation
operation_once a b x y f g e =
    let t1 = tails (codes "op") (codes "op") _ _ e in
    let t2 = tails a.name b.name _ _ t1 in
    let t3 = tails (codes "(") (codes "(") _ _ t2 in
    let p = between_once param_text HasParam param_once param_opens a.params b.params _ _ f.params
    g.params t3 in
    let t4 = tails (codes "->") (codes "->") _ _ p.1 in
    let r = param_once a.result b.result _ _ f.result g.result t4 in
    let c = comma_once param_text HasParam param_once (codes "{") comma_begins a.second b.second _ _
    f.second g.second r.1 in
    let s = turn_once statement_text HasStatement statement_once a.body b.body (codes "}"
    ∷ x) (codes "}" ∷ y) (statement_ends x) (statement_ends y) f.body g.body c.1 in (
      operation_is a b (heads a.name b.name _ _ t1) p.0 r.0 c.0 s.0,
      tails (codes "}") (codes "}") x y s.1,
    )

text_ends : Ends operation_text HasOperation []
text_ends a x f e = cc

pub ops_spelled_once : OpsSpelledOnce
ops_spelled_once a b f g e =
    (turn_once operation_text HasOperation operation_once a b [] [] text_ends text_ends f g e).0
