-- An expression that breaks no rule meets the rules.
use Rattle.op_rules.proofs.Common.{◌≡◌, ℕ, zero, suc, ◌+◌, ◌-◌, ◌<◌, ◌≤◌, length, arith, Bool, true}
use Rattle.op_rules.proofs.Common.{false, not, ◌||◌, nat_lt, nat_le, List, [], ◌∷◌, Some, None, Ok}
use Rattle.op_rules.proofs.Common.{refl, sym, ◌∙◌, codes, subst, Item, Lexeme, Wanted, opens}
use Rattle.op_rules.proofs.Common.{spelling_of, terminal_of, is_opening, after, Term, Nought, Unity}
use Rattle.op_rules.proofs.Common.{Named, Negation, Conjunction, Disjunction, Parity, Majority}
use Rattle.op_rules.proofs.Common.{term_weight, is_good, term_text, items_spelled, kind_of_text}
use Rattle.op_rules.proofs.Common.{TermMeets, HasNames, Scope, gate_arguments, gate_weight, is_bad}
use Rattle.op_rules.proofs.Common.{is_readable, breach_of, with_rules, unless, step}
use Rattle.grammar.specs.Machine as machine
use Rattle.op_text.specs.declared.fault.OpsKind.TheVariants as why
use Rattle.op_text.specs.declared.terminal.Terminal.TheVariants as t
use Rattle.op_text.specs.declared.gate.Gate.{Gate}
use Rattle.op_text.specs.declared.gate.Gate.TheVariants as gates
use Rattle.op_text.specs.declared.wanted.Wanted.TheVariants.{Value, GateOpen, More}
use Rattle.op_rules.proofs.Names.{or_first, or_second}
use Rattle.op_rules.proofs.Tokens.{goes, name_lexeme, named, one_rule, two_rules, not_bad, le_no}
use Rattle.op_rules.proofs.Tokens.{lt_no, not_not}

-- whether the next spelling is the opening parenthesis, which makes the name before it a gate
abbrev pub opens_next : List (List ℕ) → Bool
opens_next [] = false
opens_next (text ∷ rest) = is_opening (terminal_of (kind_of_text text) text)

pub opens_same : (rest : List (List ℕ)) → opens (items_spelled rest) ≡ opens_next rest
opens_same [] = refl
opens_same (x ∷ rest) = refl

-- the scope of a block whose gates weigh so much more
abbrev pub heavier : Scope → ℕ → Scope
heavier s w = record s { block = record s.block { weight = s.block.weight + w } }

-- what stands after an expression, and that it is light enough
pub record AfterTerm (e : Term) (s : Scope) (depth : ℕ) (wanted : List Wanted)
    (rest : List (List ℕ)) : Type 0 where
  pub meets : TermMeets (is_readable s) depth e
  pub light : s.block.weight + term_weight e ≤ 24
  pub then : breach_of wanted (heavier s (term_weight e)) (items_spelled rest) ≡ None

abbrev pub weighing : Scope → List ℕ → ℕ → Scope
weighing s m w = record s { block = record s.block { weight = w; missing = m } }

weighs : (s : Scope) (m : List ℕ) (v w : ℕ) → v ≡ w → (wanted : List Wanted) (items : List Item)
    → breach_of wanted (weighing s m v) items ≡ None
    → breach_of wanted (weighing s m w) items ≡ None
weighs s m v w e wanted items h = subst (λ (x : ℕ). breach_of wanted (weighing s m x) items
    ≡ None) e h

-- after the name of a gate and "("
record InGate (s : Scope) (depth a w : ℕ) (wanted : List Wanted) (rest : List (List ℕ)) : Type 0
  where
    deep : depth < 32
    light : s.block.weight + w ≤ 24
    then : breach_of (Value ∷ More ∷ wanted) (weighing s ((a - 1) ∷ s.block.missing) (s.block.weight
        + w)) (items_spelled rest) ≡ None

gate_after : (s : Scope) (depth : ℕ) (g : Gate) (wanted : List Wanted) (rest : List (List ℕ))
    → length s.block.missing ≡ depth
    → (nat_lt 24 (s.block.weight + gate_weight g) || nat_le 32 (length s.block.missing)) ≡ false
    → breach_of (Value ∷ More ∷ wanted) (weighing s ((gate_arguments g - 1) ∷ s.block.missing)
    (s.block.weight + gate_weight g)) (items_spelled rest) ≡ None
    → InGate s depth (gate_arguments g) (gate_weight g) wanted rest
gate_after s depth g wanted rest e h k =
    let light = lt_no 24 (s.block.weight + gate_weight g)
    (or_first (nat_lt 24 (s.block.weight + gate_weight g)) (nat_le 32 (length s.block.missing))
    h) in
    let deep = le_no 32 (length s.block.missing)
    (or_second (nat_lt 24 (s.block.weight + gate_weight g)) (nat_le 32 (length s.block.missing))
    h) in
    record { deep = omega arith; light = light; then = k }

abbrev gate_text : Gate → List ℕ
gate_text gates.Not = codes "not"
gate_text gates.And = codes "and"
gate_text gates.Or = codes "or"
gate_text gates.Xor = codes "xor"
gate_text gates.Maj = codes "maj"

abbrev gate_lexeme : Gate → Lexeme
gate_lexeme g = name_lexeme (gate_text g)

gate_rule : (s : Scope) (depth : ℕ) (g : Gate) (wanted : List Wanted) (rest : List (List ℕ))
    → length s.block.missing ≡ depth
    → after
    (with_rules (Some (GateOpen ∷ Value ∷ More ∷ []))
    (unless (nat_lt 24 (s.block.weight + gate_weight g) || nat_le 32 (length s.block.missing))
    why.TooMany (Ok (weighing s ((gate_arguments g - 1) ∷ s.block.missing) (s.block.weight
    + gate_weight g)))))
    (gate_lexeme g) (goes wanted (codes "(" ∷ rest)) ≡ None
    → InGate s depth (gate_arguments g) (gate_weight g) wanted rest
unfolding machine.breach_of
gate_rule s depth g wanted rest e h =
    let k =
    one_rule (nat_lt 24 (s.block.weight + gate_weight g) || nat_le 32 (length s.block.missing))
    why.TooMany (weighing s ((gate_arguments g - 1) ∷ s.block.missing) (s.block.weight
    + gate_weight g))
    (GateOpen ∷ Value ∷ More ∷ []) (gate_lexeme g) (goes wanted (codes "(" ∷ rest)) h in
    gate_after s depth g wanted rest e k.0 k.1

gate_peels : (s : Scope) (depth : ℕ) (g : Gate) (wanted : List Wanted) (rest : List (List ℕ))
    → length s.block.missing ≡ depth
    → breach_of (Value ∷ wanted) s (items_spelled (gate_text g ∷ codes "(" ∷ rest)) ≡ None
    → InGate s depth (gate_arguments g) (gate_weight g) wanted rest
unfolding machine.breach_of
gate_peels s depth gates.Not wanted rest e h = gate_rule s depth gates.Not wanted rest e h
gate_peels s depth gates.And wanted rest e h = gate_rule s depth gates.And wanted rest e h
gate_peels s depth gates.Or wanted rest e h = gate_rule s depth gates.Or wanted rest e h
gate_peels s depth gates.Xor wanted rest e h = gate_rule s depth gates.Xor wanted rest e h
gate_peels s depth gates.Maj wanted rest e h = gate_rule s depth gates.Maj wanted rest e h

-- after an argument
comma_peels : (s : Scope) (n : ℕ) (outer : List ℕ) (w : ℕ) (wanted : List Wanted)
    (rest : List (List ℕ))
    → breach_of (More ∷ wanted) (weighing s (suc n ∷ outer) w) (items_spelled (codes "," ∷ rest))
    ≡ None → breach_of (Value ∷ More ∷ wanted) (weighing s (n ∷ outer) w) (items_spelled rest)
    ≡ None
unfolding machine.breach_of
comma_peels s n outer w wanted rest h = h

close_peels : (s : Scope) (outer : List ℕ) (w : ℕ) (wanted : List Wanted) (rest : List (List ℕ))
    → breach_of (More ∷ wanted) (weighing s (zero ∷ outer) w) (items_spelled (codes ")" ∷ rest))
    ≡ None → breach_of wanted (weighing s outer w) (items_spelled rest) ≡ None
unfolding machine.breach_of
close_peels s outer w wanted rest h = h

name_peels : (s : Scope) (name : List ℕ) (wanted : List Wanted) (rest : List (List ℕ)) (o : Bool)
    → o ≡ false
    → after (step Value s (t.Name (spelling_of name)) name o) (name_lexeme name) (goes wanted rest)
    ≡ None
    → (is_good name ≡ true) × (is_readable s name ≡ true)
    × (breach_of wanted s (items_spelled rest) ≡ None)
name_peels s name wanted rest true e h = cc
name_peels s name wanted rest false e h =
    let k = two_rules (is_bad (spelling_of name) name) (not (is_readable s name)) why.BadName
    why.Unknown s [] (name_lexeme name) (goes wanted rest) h in
    (not_bad name k.0, not_not (is_readable s name) k.1, k.2)

pub term_peels : (e : Term) (s : Scope) (depth : ℕ) (wanted : List Wanted) (rest : List (List ℕ))
    → HasNames e → opens_next rest ≡ false → length s.block.missing ≡ depth
    → s.block.weight ≤ 24 → breach_of (Value ∷ wanted) s (items_spelled (term_text e rest)) ≡ None
    → AfterTerm e s depth wanted rest
unfolding machine.breach_of
term_peels Nought s depth wanted rest n o d k h =
    record {
      meets = tt;
      light = omega arith;
      then = weighs s s.block.missing s.block.weight (s.block.weight + 0) (omega arith) wanted
          (items_spelled rest) h;
    }
term_peels Unity s depth wanted rest n o d k h =
    record {
      meets = tt;
      light = omega arith;
      then = weighs s s.block.missing s.block.weight (s.block.weight + 0) (omega arith) wanted
          (items_spelled rest) h;
    }
term_peels (Named name) s depth wanted rest n o d k h =
    let p = name_peels s name wanted rest (opens (items_spelled rest)) (opens_same rest
    ∙ o) (sym (named Value wanted s name rest n) ∙ h) in
    record {
      meets = (p.0, p.1);
      light = omega arith;
      then = weighs s s.block.missing s.block.weight (s.block.weight + 0) (omega arith) wanted
          (items_spelled rest) p.2;
    }
term_peels (Negation a) s depth wanted rest n o d k h =
    let m = s.block.missing in
    let v = s.block.weight in
    let g = gate_peels s depth gates.Not wanted (term_text a (codes ")" ∷ rest)) d h in
    let x = term_peels a (weighing s (0 ∷ m) (v + 0)) (depth + 1) (More ∷ wanted) (codes ")"
    ∷ rest) n refl (omega (arith, d)) g.light g.then in
    record {
      meets = (g.deep, x.meets);
      light = let i = x.light in omega arith;
      then = weighs s m (v + 0 + term_weight a) (v + term_weight a) (omega arith) wanted
          (items_spelled rest) (close_peels s m (v + 0 + term_weight a) wanted rest x.then);
    }
term_peels (Conjunction a b) s depth wanted rest n o d k h =
    let m = s.block.missing in
    let v = s.block.weight in
    let g = gate_peels s depth gates.And wanted
    (term_text a (codes "," ∷ term_text b (codes ")" ∷ rest))) d h in
    let x = term_peels a (weighing s (1 ∷ m) (v + 1)) (depth + 1) (More ∷ wanted) (codes ","
    ∷ term_text b (codes ")" ∷ rest)) n.0 refl (omega (arith, d)) g.light g.then in
    let y = term_peels b (weighing s (0 ∷ m) (v + 1 + term_weight a)) (depth + 1) (More
    ∷ wanted) (codes ")" ∷ rest) n.1 refl (omega (arith, d)) x.light
    (comma_peels s 0 m (v + 1 + term_weight a) wanted (term_text b (codes ")" ∷ rest)) x.then)
    in
    record {
      meets = (g.deep, x.meets, y.meets);
      light = let i = y.light in omega arith;
      then = weighs s m (v + 1 + term_weight a + term_weight b) (v
          + (1 + term_weight a + term_weight b)) (omega arith) wanted (items_spelled rest)
          (close_peels s m (v + 1 + term_weight a + term_weight b) wanted rest y.then);
    }
term_peels (Disjunction a b) s depth wanted rest n o d k h =
    let m = s.block.missing in
    let v = s.block.weight in
    let g = gate_peels s depth gates.Or wanted
    (term_text a (codes "," ∷ term_text b (codes ")" ∷ rest))) d h in
    let x = term_peels a (weighing s (1 ∷ m) (v + 1)) (depth + 1) (More ∷ wanted) (codes ","
    ∷ term_text b (codes ")" ∷ rest)) n.0 refl (omega (arith, d)) g.light g.then in
    let y = term_peels b (weighing s (0 ∷ m) (v + 1 + term_weight a)) (depth + 1) (More
    ∷ wanted) (codes ")" ∷ rest) n.1 refl (omega (arith, d)) x.light
    (comma_peels s 0 m (v + 1 + term_weight a) wanted (term_text b (codes ")" ∷ rest)) x.then)
    in
    record {
      meets = (g.deep, x.meets, y.meets);
      light = let i = y.light in omega arith;
      then = weighs s m (v + 1 + term_weight a + term_weight b) (v
          + (1 + term_weight a + term_weight b)) (omega arith) wanted (items_spelled rest)
          (close_peels s m (v + 1 + term_weight a + term_weight b) wanted rest y.then);
    }
term_peels (Parity a b) s depth wanted rest n o d k h =
    let m = s.block.missing in
    let v = s.block.weight in
    let g = gate_peels s depth gates.Xor wanted
    (term_text a (codes "," ∷ term_text b (codes ")" ∷ rest))) d h in
    let x = term_peels a (weighing s (1 ∷ m) (v + 3)) (depth + 1) (More ∷ wanted) (codes ","
    ∷ term_text b (codes ")" ∷ rest)) n.0 refl (omega (arith, d)) g.light g.then in
    let y = term_peels b (weighing s (0 ∷ m) (v + 3 + term_weight a)) (depth + 1) (More
    ∷ wanted) (codes ")" ∷ rest) n.1 refl (omega (arith, d)) x.light
    (comma_peels s 0 m (v + 3 + term_weight a) wanted (term_text b (codes ")" ∷ rest)) x.then)
    in
    record {
      meets = (g.deep, x.meets, y.meets);
      light = let i = y.light in omega arith;
      then = weighs s m (v + 3 + term_weight a + term_weight b) (v
          + (3 + term_weight a + term_weight b)) (omega arith) wanted (items_spelled rest)
          (close_peels s m (v + 3 + term_weight a + term_weight b) wanted rest y.then);
    }
term_peels (Majority a b c) s depth wanted rest n o d k h =
    let m = s.block.missing in
    let v = s.block.weight in
    let g = gate_peels s depth gates.Maj wanted
    (term_text a (codes "," ∷ term_text b (codes "," ∷ term_text c (codes ")" ∷ rest)))) d h in
    let x = term_peels a (weighing s (2 ∷ m) (v + 1)) (depth + 1) (More ∷ wanted) (codes ","
    ∷ term_text b (codes "," ∷ term_text c (codes ")" ∷ rest))) n.0 refl (omega (arith, d))
    g.light g.then in
    let y = term_peels b (weighing s (1 ∷ m) (v + 1 + term_weight a)) (depth + 1) (More
    ∷ wanted) (codes "," ∷ term_text c (codes ")" ∷ rest)) n.1 refl (omega (arith, d)) x.light
    (comma_peels s 1 m (v + 1 + term_weight a) wanted
    (term_text b (codes "," ∷ term_text c (codes ")" ∷ rest))) x.then) in
    let z = term_peels c (weighing s (0 ∷ m) (v + 1 + term_weight a + term_weight b)) (depth + 1)
    (More ∷ wanted) (codes ")" ∷ rest) n.2 refl (omega (arith, d)) y.light
    (comma_peels s 0 m (v + 1 + term_weight a + term_weight b) wanted
    (term_text c (codes ")" ∷ rest)) y.then) in
    record {
      meets = (g.deep, x.meets, y.meets, z.meets);
      light = let i = z.light in omega arith;
      then = weighs s m (v + 1 + term_weight a + term_weight b + term_weight c) (v
          + (1 + term_weight a + term_weight b + term_weight c)) (omega arith) wanted
          (items_spelled rest) (close_peels s m (v + 1 + term_weight a + term_weight b
          + term_weight c) wanted rest z.then);
    }
