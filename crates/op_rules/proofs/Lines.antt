-- The lets and assignments of a block.
use Rattle.op_rules.proofs.Common.{◌≡◌, ℕ, ◌+◌, ◌<◌, ◌≤◌, Bool, false, not, ◌&&◌, nat_le, List, []}
use Rattle.op_rules.proofs.Common.{◌∷◌, ◌++◌, map, length, arith, Some, None, refl, sym, ◌∙◌, codes}
use Rattle.op_rules.proofs.Common.{append_assoc, append-nil, sum, length-append, sum_by-cons, Item}
use Rattle.op_rules.proofs.Common.{Spelling, Wanted, spelling_of, let_or_assign, is_among, after}
use Rattle.op_rules.proofs.Common.{Equation, term_weight, items_spelled, term_text, in_turn}
use Rattle.op_rules.proofs.Common.{let_text, equation_text, Each, HasEquation, TermMeets, Equals}
use Rattle.op_rules.proofs.Common.{Scope, breach_of, is_bad, is_taken_target, is_bit_result, step}
use Rattle.grammar.specs.Machine as machine
use Rattle.op_text.specs.declared.fault.OpsKind.TheVariants as why
use Rattle.op_text.specs.declared.terminal.Terminal.TheVariants as t
use Rattle.op_text.specs.declared.terminal.Spelling.TheVariants as sp
use Rattle.op_text.specs.declared.wanted.Wanted.TheVariants.{Lets, LetName, LetEnd, AssignEnd}
use Rattle.op_text.specs.declared.wanted.Wanted.TheVariants.{Assigns, Value}
use Rattle.op_rules.specs.Meets.{IsGood, LetsRead, can_read}
use Rattle.op_rules.proofs.Names.{AllFresh, or_first}
use Rattle.op_rules.proofs.Tokens.{goes, name_lexeme, named, one_rule, two_rules, four_rules}
use Rattle.op_rules.proofs.Tokens.{not_bad, le_no}
use Rattle.op_rules.proofs.Terms.{term_peels}

abbrev pub names_in : List Equation → List (List ℕ)
names_in es = map (λ (e : Equation). e.name) es

abbrev pub weights : List Equation → ℕ
weights es = sum (map (λ (e : Equation). term_weight e.value) es)

pub weights-cons : (e : Equation) (es : List Equation)
    → weights (e ∷ es) ≡ term_weight e.value + weights es
weights-cons e es = sum_by-cons (λ (x : ℕ). x) (term_weight e.value)
    (map (λ (e : Equation). term_weight e.value) es)

-- the scope in a block, after its states
abbrev pub in_lines : Scope → List (List ℕ) → List (List ℕ) → List (List ℕ) → ℕ → List (List ℕ) → ℕ
    → Scope
in_lines s stands states readable lets targets weight = record s {
  op = record s.op { stands = stands };
  block = record {
    states = states;
    readable = readable;
    lets = lets;
    targets = targets;
    weight = weight;
    missing = [];
  };
  naming = None;
}

abbrev pub naming : Scope → List ℕ → Scope
naming s n = record s { naming = Some n }

-- one let
record OneLet (s : Scope) (stands states readable : List (List ℕ)) (count weight : ℕ) (e : Equation)
    (wanted : List Wanted) (rest : List (List ℕ)) : Type 0 where
  good : IsGood e.name
  fresh : is_among stands e.name ≡ false
  few : count < 16
  reads : TermMeets (can_read s.op.defined readable) 0 e.value
  light : weight + term_weight e.value ≤ 24
  then : breach_of (Lets ∷ wanted) (in_lines s (stands ++ e.name ∷ []) states (readable ++ e.name
      ∷ []) (count + 1) [] (weight + term_weight e.value)) (items_spelled rest) ≡ None

let_peels : (s : Scope) (stands states readable : List (List ℕ)) (count weight : ℕ) (e : Equation)
    (wanted : List Wanted) (rest : List (List ℕ)) → HasEquation e → weight ≤ 24
    → breach_of (Lets ∷ wanted) (in_lines s stands states readable count [] weight)
    (items_spelled (let_text e rest)) ≡ None
    → OneLet s stands states readable count weight e wanted rest
unfolding machine.breach_of
let_peels s stands states readable count weight e wanted rest n l h =
    let value = codes "=" ∷ term_text e.value (codes ";" ∷ rest) in
    let s1 = in_lines s stands states readable (count + 1) [] weight in
    let a = one_rule (nat_le 16 count) why.TooMany s1 (LetName ∷ Equals ∷ Value ∷ LetEnd ∷ Lets
    ∷ []) (name_lexeme (codes "let")) (goes wanted (e.name ∷ value)) h in
    let g = sym (named LetName (Equals ∷ Value ∷ LetEnd ∷ Lets ∷ wanted) s1 e.name value n.0)
    ∙ a.1 in
    let s2 = naming (in_lines s (stands ++ e.name ∷ []) states readable (count + 1) [] weight)
    e.name in
    let b = two_rules (is_bad (spelling_of e.name) e.name) (is_among stands e.name) why.BadName
    why.Twice s2 [] (name_lexeme e.name) (goes (Equals ∷ Value ∷ LetEnd ∷ Lets ∷ wanted) value)
    g in
    let v = term_peels e.value s2 0 (LetEnd ∷ Lets ∷ wanted) (codes ";" ∷ rest) n.1 refl refl l b.2
    in
    record {
      good = not_bad e.name b.0;
      fresh = b.1;
      few = le_no 16 count a.0;
      reads = v.meets;
      light = v.light;
      then = v.then;
    }

pub record AllLets (s : Scope) (stands states readable : List (List ℕ)) (count weight : ℕ)
    (es : List Equation) (wanted : List Wanted) (rest : List (List ℕ)) : Type 0 where
  pub good : Each IsGood (names_in es)
  pub fresh : AllFresh stands (names_in es)
  pub few : count + length es ≤ 16
  pub reads : LetsRead s.op.defined readable es
  pub light : weight + weights es ≤ 24
  pub then : breach_of (Lets ∷ wanted) (in_lines s (stands ++ names_in es) states (readable
      ++ names_in es) (count + length es) [] (weight + weights es)) (items_spelled rest) ≡ None

pub lets_move : (s : Scope) (states a b p q : List (List ℕ)) (i j v w : ℕ) → a ≡ b → p ≡ q → i ≡ j
    → v ≡ w → (wanted : List Wanted) (items : List Item)
    → breach_of wanted (in_lines s a states p i [] v) items ≡ None
    → breach_of wanted (in_lines s b states q j [] w) items ≡ None
lets_move s states a b p q i j v w e f g k wanted items h = rw (← e, ← f, ← g, ← k) h

pub lets_peel : (es : List Equation) (s : Scope) (stands states readable : List (List ℕ))
    (count weight : ℕ) (wanted : List Wanted) (rest : List (List ℕ)) → Each HasEquation es
    → count ≤ 16 → weight ≤ 24
    → breach_of (Lets ∷ wanted) (in_lines s stands states readable count [] weight)
    (items_spelled (in_turn let_text es rest)) ≡ None
    → AllLets s stands states readable count weight es wanted rest
lets_peel [] s stands states readable count weight wanted rest n c l h = record {
  good = tt;
  fresh = tt;
  few = omega arith;
  reads = tt;
  light = omega arith;
  then = lets_move s states stands (stands ++ []) readable (readable ++ []) count (count + 0) weight
      (weight + 0) (sym (append-nil stands)) (sym (append-nil readable)) (omega arith) (omega arith)
      (Lets ∷ wanted) (items_spelled rest) h;
}
lets_peel (e ∷ es) s stands states readable count weight wanted rest n c l h =
    let more = in_turn let_text es rest in
    let p = let_peels s stands states readable count weight e wanted more n.0 l h in
    let q = lets_peel es s (stands ++ e.name ∷ []) states (readable ++ e.name ∷ []) (count + 1)
    (weight + term_weight e.value) wanted rest n.1 (let i = p.few in
    omega arith) p.light p.then in
    let w = weights-cons e es in
    record {
      good = (p.good, q.good);
      fresh = (p.fresh, q.fresh);
      few = let i = q.few in omega arith;
      reads = (p.reads, q.reads);
      light = let i = q.light in omega arith;
      then = lets_move s states _ (stands ++ names_in (e ∷ es)) _ (readable ++ names_in (e ∷ es))
          (count + 1 + length es) (count + length (e ∷ es)) (weight + term_weight e.value
          + weights es) (weight + weights (e ∷ es))
          (append_assoc stands (e.name ∷ []) (names_in es))
          (append_assoc readable (e.name ∷ []) (names_in es)) (omega arith) (omega (arith, w))
          (Lets ∷ wanted) (items_spelled rest) q.then;
    }

-- the first assignment stands where a let could
not_let : (n : Spelling) (s : Scope) (name : List ℕ) (o : Bool) (wanted : List Wanted)
    (rest : List (List ℕ))
    → after (step Lets s (t.Name n) name o) (name_lexeme name) (goes wanted (codes "=" ∷ rest))
    ≡ None → after (step Assigns s (t.Name n) name o) (name_lexeme name)
    (goes wanted (codes "=" ∷ rest)) ≡ None
unfolding machine.breach_of
not_let sp.Let s name o wanted rest h =
    let k = one_rule (nat_le 16 s.block.lets) why.TooMany
    (record s { block = record s.block { lets = s.block.lets + 1 } }) (let_or_assign sp.Let)
    (name_lexeme name) (goes wanted (codes "=" ∷ rest)) h in
    let e = k.1 in cc
not_let sp.Plain s name o wanted rest h = h
not_let sp.Op s name o wanted rest h = h
not_let sp.Word s name o wanted rest h = h
not_let sp.Bit s name o wanted rest h = h
not_let sp.Serial s name o wanted rest h = h
not_let sp.Up s name o wanted rest h = h
not_let sp.Down s name o wanted rest h = h

-- what the rules say of a target
pub record TargetFacts (s : Scope) (n : List ℕ) : Type 0 where
  pub good : IsGood n
  pub free : is_taken_target s n ≡ false
  pub kind : (is_bit_result s n && not (is_among s.block.states n)) ≡ false

record OneAssign (s : Scope) (stands states readable : List (List ℕ)) (lets : ℕ)
    (done : List (List ℕ)) (weight : ℕ) (e : Equation) (wanted : List Wanted)
    (rest : List (List ℕ)) : Type 0 where
  facts : TargetFacts (in_lines s stands states readable lets done weight) e.name
  few : length done < 8
  reads : TermMeets (can_read s.op.defined readable) 0 e.value
  light : weight + term_weight e.value ≤ 24
  then : breach_of (Assigns ∷ wanted) (in_lines s stands states readable lets (done ++ e.name
      ∷ []) (weight + term_weight e.value)) (items_spelled rest) ≡ None

assign_peels : (s : Scope) (stands states readable : List (List ℕ)) (lets : ℕ)
    (done : List (List ℕ)) (weight : ℕ) (e : Equation) (wanted : List Wanted) (rest : List (List ℕ))
    → HasEquation e → weight ≤ 24
    → after (step Assigns (in_lines s stands states readable lets done weight)
    (t.Name (spelling_of e.name)) e.name false) (name_lexeme e.name)
    (goes wanted (codes "=" ∷ term_text e.value (codes ";" ∷ rest))) ≡ None
    → OneAssign s stands states readable lets done weight e wanted rest
unfolding machine.breach_of
assign_peels s stands states readable lets done weight e wanted rest n l h =
    let s0 = in_lines s stands states readable lets done weight in
    let s1 = in_lines s stands states readable lets (done ++ e.name ∷ []) weight in
    let value = codes "=" ∷ term_text e.value (codes ";" ∷ rest) in
    let b =
    four_rules (is_bad (spelling_of e.name) e.name) (is_taken_target s0 e.name)
    (is_bit_result s0 e.name && not (is_among states e.name)) (nat_le 8 (length done))
    why.BadName why.Twice why.Kind why.TooMany
    s1 (Equals ∷ Value ∷ AssignEnd ∷ Assigns ∷ []) (name_lexeme e.name) (goes wanted value) h in
    let v = term_peels e.value s1 0 (AssignEnd ∷ Assigns ∷ wanted) (codes ";" ∷ rest) n.1 refl refl
    l b.4 in
    record {
      facts = record { good = not_bad e.name b.0; free = b.1; kind = b.2 };
      few = le_no 8 (length done) b.3;
      reads = v.meets;
      light = v.light;
      then = v.then;
    }

-- what each target is, by the rules
abbrev pub Reading : Scope → List (List ℕ) → List (List ℕ) → List (List ℕ) → ℕ → (List ℕ → Type 0)
    → Type 0
Reading s stands states readable lets P = (done : List (List ℕ)) (weight : ℕ) (n : List ℕ)
    → TargetFacts (in_lines s stands states readable lets done weight) n → P n

pub record AllAssigns (s : Scope) (stands states readable : List (List ℕ)) (lets : ℕ)
    (done : List (List ℕ)) (weight : ℕ) (es : List Equation) (wanted : List Wanted)
    (rest : List (List ℕ)) (P : List ℕ → Type 0) : Type 0 where
  pub are : Each P (names_in es)
  pub fresh : AllFresh done (names_in es)
  pub few : length done + length es ≤ 8
  pub reads : Each (λ (e : Equation). TermMeets (can_read s.op.defined readable) 0 e.value) es
  pub light : weight + weights es ≤ 24
  pub then : breach_of (Assigns ∷ wanted) (in_lines s stands states readable lets (done
      ++ names_in es) (weight + weights es)) (items_spelled rest) ≡ None

pub assigns_move : (s : Scope) (stands states readable : List (List ℕ)) (lets : ℕ)
    (a b : List (List ℕ)) (v w : ℕ) → a ≡ b → v ≡ w → (wanted : List Wanted) (items : List Item)
    → breach_of wanted (in_lines s stands states readable lets a v) items ≡ None
    → breach_of wanted (in_lines s stands states readable lets b w) items ≡ None
assigns_move s stands states readable lets a b v w e k wanted items h = rw (← e, ← k) h

-- all assignments from one on
assigns_from : (s : Scope) (stands states readable : List (List ℕ)) (lets : ℕ)
    (done : List (List ℕ)) (weight : ℕ) (e : Equation) (es : List Equation) (wanted : List Wanted)
    (rest : List (List ℕ)) (P : List ℕ → Type 0)
    → Reading s stands states readable lets P
    → OneAssign s stands states readable lets done weight e wanted
    (in_turn equation_text es rest)
    → AllAssigns s stands states readable lets (done ++ e.name ∷ []) (weight + term_weight e.value)
    es wanted rest P → AllAssigns s stands states readable lets done weight (e ∷ es) wanted rest
    P
assigns_from s stands states readable lets done weight e es wanted rest P f p q =
    let w = weights-cons e es in
    let l = length-append done (e.name ∷ []) in
    record {
      are = (f done weight e.name p.facts, q.are);
      fresh = (or_first (is_among done e.name) _ p.facts.free, q.fresh);
      few = let i = q.few in omega arith;
      reads = (p.reads, q.reads);
      light = let i = q.light in omega arith;
      then = assigns_move s stands states readable lets _ (done ++ names_in (e ∷ es)) (weight
          + term_weight e.value + weights es) (weight + weights (e ∷ es))
          (append_assoc done (e.name ∷ []) (names_in es)) (omega (arith, w)) (Assigns
          ∷ wanted) (items_spelled rest) q.then;
    }

assigns_after : (es : List Equation) (s : Scope) (stands states readable : List (List ℕ))
    (lets : ℕ) (done : List (List ℕ)) (weight : ℕ) (wanted : List Wanted) (rest : List (List ℕ))
    (P : List ℕ → Type 0)
    → Reading s stands states readable lets P → Each HasEquation es → length done ≤ 8 → weight ≤ 24
    → breach_of (Assigns ∷ wanted) (in_lines s stands states readable lets done weight)
    (items_spelled (in_turn equation_text es rest)) ≡ None
    → AllAssigns s stands states readable lets done weight es wanted rest P
assigns_after [] s stands states readable lets done weight wanted rest P f n c l h = record {
  are = tt;
  fresh = tt;
  few = omega arith;
  reads = tt;
  light = omega arith;
  then = assigns_move s stands states readable lets done (done ++ []) weight (weight + 0)
      (sym (append-nil done)) (omega arith) (Assigns ∷ wanted) (items_spelled rest) h;
}
assigns_after (e ∷ es) s stands states readable lets done weight wanted rest P f n c l h =
    let more = in_turn equation_text es rest in
    let p =
    assign_peels s stands states readable lets done weight e wanted more n.0 l
    (sym (named Assigns wanted (in_lines s stands states readable lets done weight) e.name
    (codes "=" ∷ term_text e.value (codes ";" ∷ more)) n.0.0) ∙ h) in
    let k = length-append done (e.name ∷ []) in
    let i = p.few in
    assigns_from s stands states readable lets done weight e es wanted rest P f p
    (assigns_after es s stands states readable lets (done ++ e.name
    ∷ []) (weight + term_weight e.value) wanted rest P f n.1 (omega arith) p.light p.then)

-- The assignments of a block, of which there is one at least.
pub assigns_peel : (es : List Equation) (s : Scope) (stands states readable : List (List ℕ))
    (lets weight : ℕ) (wanted : List Wanted) (rest : List (List ℕ)) (P : List ℕ → Type 0)
    → Reading s stands states readable lets P → Each HasEquation es → weight ≤ 24
    → breach_of (Lets ∷ wanted) (in_lines s stands states readable lets [] weight)
    (items_spelled (in_turn equation_text es (codes "}" ∷ rest))) ≡ None
    → (1 ≤ length es) × AllAssigns s stands states readable lets [] weight es wanted (codes "}"
    ∷ rest) P
unfolding machine.breach_of
assigns_peel [] s stands states readable lets weight wanted rest P f n l h = cc
assigns_peel (e ∷ es) s stands states readable lets weight wanted rest P f n l h =
    let more = in_turn equation_text es (codes "}" ∷ rest) in
    let s0 = in_lines s stands states readable lets [] weight in
    let g = sym (named Lets wanted s0 e.name (codes "=" ∷ term_text e.value (codes ";" ∷ more))
    n.0.0) ∙ h in
    let p = assign_peels s stands states readable lets [] weight e wanted more n.0 l
    (not_let (spelling_of e.name) s0 e.name false wanted (term_text e.value (codes ";" ∷ more))
    g) in
    let i = p.few in (
      omega arith,
      assigns_from s stands states readable lets [] weight e es wanted (codes "}" ∷ rest) P f p
          (assigns_after es s stands states readable lets (e.name
          ∷ []) (weight + term_weight e.value) wanted (codes "}" ∷ rest) P f n.1 (omega arith)
          p.light p.then),
    )
