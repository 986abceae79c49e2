-- A block that breaks no rule meets the rules.
use Rattle.op_rules.proofs.Common.{◌≡◌, ℕ, ◌+◌, Bool, true, false, not, ◌||◌, ◌&&◌, nat_le, List}
use Rattle.op_rules.proofs.Common.{[], ◌∷◌, ◌++◌, map, length, arith, None, refl, sym, ap, ◌∙◌}
use Rattle.op_rules.proofs.Common.{codes, subst, append_assoc, append-nil, bytes_eq, cond, filter}
use Rattle.op_rules.proofs.Common.{Item, Kind, Word, Bit, Param, Wanted, is_among, Block, Visit}
use Rattle.op_rules.proofs.Common.{param, state_names, word_names, items_spelled, between_commas}
use Rattle.op_rules.proofs.Common.{in_turn, state_text, let_text, equation_text, statement_text}
use Rattle.op_rules.proofs.Common.{Each, HasStatement, Open, Scope, breach_of, kind_among, is_known}
use Rattle.op_text.specs.declared.wanted.Wanted.TheVariants.{Stmts, States, Direction, Begin, Lets}
use Rattle.op_text.specs.Spelling.{direction_text}
use Rattle.grammar.specs.Machine as machine
use Rattle.op_text.specs.declared.fault.OpsKind.TheVariants as why
use Rattle.op_rules.specs.Meets.{IsGood, IsNew, IsNewOf, IsNewLet, Context, used, names_of}
use Rattle.op_rules.specs.Meets.{let_names}
use Rattle.op_rules.proofs.Names.{same_name, among-append, or_first, or_second, or_both, each_both}
use Rattle.op_rules.proofs.Names.{fresh-new, fresh-differ}
use Rattle.op_rules.proofs.Fitting.{known-among, word_fits}
use Rattle.op_rules.proofs.Tokens.{goes, name_lexeme, one_rule, le_no}
use Rattle.op_rules.proofs.Standing.{Standing, given-at, standing-more, names-append, more_context}
use Rattle.op_rules.proofs.Words.{at_statement, AfterStatement}
use Rattle.op_rules.proofs.States.{before_block, states_peel}
use Rattle.op_rules.proofs.Lines.{names_in, weights, in_lines, lets_peel, assigns_peel, TargetFacts}

pub direction_moves : (down : Bool) (s : Scope) (wanted : List Wanted) (rest : List (List ℕ))
    → breach_of (Direction ∷ Open ∷ wanted) s
    (items_spelled (direction_text down ∷ codes "(" ∷ rest))
    ≡ breach_of wanted s (items_spelled rest)
unfolding machine.breach_of
direction_moves false s wanted rest = refl
direction_moves true s wanted rest = refl

-- a target that is no state of the block
target_new : (st u r s t d g : Bool) → st ≡ (((u || r) || s) || t) → (r ≡ true → u ≡ d)
    → (r ≡ true → t ≡ false) → s ≡ false → (g || (st && not s && not (r && not d))) ≡ false
    → (u || t) ≡ false
target_new st u r s t d g e f k z h =
    cases u r t d f k (sym (ap (λ x. x && not s && not (r && not d)) e
    ∙ ap (λ x. (((u || r) || x) || t) && not x && not (r && not d)) z)
    ∙ or_second g (st && not s && not (r && not d)) h)
  where
    cases : (u r t d : Bool) → (r ≡ true → u ≡ d) → (r ≡ true → t ≡ false)
        → ((((u || r) || false) || t) && not false && not (r && not d)) ≡ false → (u || t) ≡ false
    cases true true t false f k h = let e = f refl in cc
    cases false true t d f k h = k refl
    cases false false false d f k h = refl
    cases _ _ _ _ f k h = cc

pub no_other : (b : Bool) → (b ≡ true → ⊥) → b ≡ false
no_other true f = absurd (f refl)
no_other false f = refl

pub not_both : (b : Bool) → b ≡ true → b ≡ false → ⊥
not_both true g h = cc
not_both false g h = cc

-- names that are new beside others are none of these
pub not_among : (names xs : List (List ℕ)) → Each (IsNew names) xs → (n : List ℕ)
    → is_among names n ≡ true → IsNew xs n
not_among names [] h n e = refl
not_among names (x ∷ xs) h n e =
    or_both (bytes_eq x n) (is_among xs n) (no_other (bytes_eq x n) (λ q.
    not_both (is_among names n) e (ap (is_among names) (sym (same_name x n q)) ∙ h.0)))
    (not_among names xs h.1 n e)

pub each_filter : (q : List ℕ → Bool) (P : List ℕ → Type 0) (ns : List (List ℕ))
    → Each (λ n. q n ≡ false → P n) ns → Each P (filter (λ n. not (q n)) ns)
each_filter q P [] h = tt
each_filter q P (n ∷ ns) h = chosen (q n) (λ e. h.0 e) (each_filter q P ns h.1)
  where
    chosen : (b : Bool) → (b ≡ false → P n) → Each P (filter (λ n. not (q n)) ns)
        → Each P (cond (not b) (n ∷ filter (λ n. not (q n)) ns) (filter (λ n. not (q n)) ns))
    chosen true f r = r
    chosen false f r = (f refl, r)

names_of-param : (k : Kind) (ns : List (List ℕ)) → names_of (map (λ n. param n k) ns) ≡ ns
names_of-param k [] = refl
names_of-param k (n ∷ ns) = ap (λ l. n ∷ l) (names_of-param k ns)

-- the names of a block's states and words are these
pub block_names : (S W : List (List ℕ)) → names_of (map (λ n. param n Bit) S
    ++ map (λ n. param n Word) W) ≡ S ++ W
block_names S W =
    names-append (map (λ n. param n Bit) S) (map (λ n. param n Word) W)
    ∙ ap (λ l. l ++ names_of (map (λ n. param n Word) W)) (names_of-param Bit S)
    ∙ ap (λ l. S ++ l) (names_of-param Word W)

other_names : (a s t w : Bool) → ((a || s) || t) || w ≡ a || ((s || w) || t)
other_names false false true true = refl
other_names false false false true = refl
other_names false true t w = refl
other_names _ _ _ _ = refl

or_true : (a b : Bool) → b ≡ true → (a || b) ≡ true
or_true true b h = refl
or_true false b h = h

pub or_left : (a b : Bool) → a ≡ true → (a || b) ≡ true
or_left true b h = refl
or_left false b h = cc

-- no let is a result
pub lets_other : {stands : List (List ℕ)} {c : Context} → Standing stands c → (S T : List (List ℕ))
    → Each (IsNew (stands ++ S)) T
    → (n : List ℕ) → is_known (kind_among c.results n) ≡ true → IsNew T n
lets_other {stands} {c} st S T h n q =
    not_among (stands ++ S) T h n (among-append stands S n
    ∙ or_left (is_among stands n) (is_among S n) (st.all n
    ∙ or_true (is_among (used c) n) (is_known (kind_among c.results n)) q))

pub block_standing : {stands : List (List ℕ)} {c : Context} → Standing stands c
    → (S T W : List (List ℕ)) → Each (IsNew (stands ++ S)) T
    → Standing (((stands ++ S) ++ T) ++ W) (more_context c (map (λ n. param n Bit) S
    ++ map (λ n. param n Word) W) T)
block_standing {stands} {c} st S T W h =
    let ds = map (λ n. param n Bit) S ++ map (λ n. param n Word) W in
    let e : (n : List ℕ) → is_among (names_of ds) n ≡ (is_among S n || is_among W n) =
    λ n. ap (λ l. is_among l n) (block_names S W) ∙ among-append S W n in
    standing-more st ds T (((stands ++ S) ++ T) ++ W)
    (λ n. among-append ((stands ++ S) ++ T) W n
    ∙ ap (λ x. x || is_among W n) (among-append (stands ++ S) T n
    ∙ ap (λ x. x || is_among T n) (among-append stands S n))
    ∙ other_names (is_among stands n) (is_among S n) (is_among T n) (is_among W n)
    ∙ ap (λ x. is_among stands n || (x || is_among T n)) (sym (e n)))
    (lets_other st S T h)

let_facts : {stands : List (List ℕ)} {c : Context} → Standing stands c
    → (S : List (List ℕ)) (n : List ℕ) → IsGood n → IsNew (stands ++ S) n
    → IsNewLet (used c ++ S) c.results n
let_facts {stands} {c} st S n g h =
    let k = sym (among-append stands S n ∙ ap (λ x. x || is_among S n) (st.all n)) ∙ h in
    let r = is_known (kind_among c.results n) in
    let i = or_first (is_among (used c) n || r) (is_among S n) k in
    record {
      good = g;
      new = among-append (used c) S n ∙ or_both (is_among (used c) n) (is_among S n)
          (or_first (is_among (used c) n) r i)
          (or_second (is_among (used c) n || r) (is_among S n) k);
      other = sym (known-among c.results n) ∙ or_second (is_among (used c) n) r i;
    }

target_facts : {stands : List (List ℕ)} {c : Context} → Standing stands c
    → (ops : List (List ℕ)) (count : ℕ) (S T : List (List ℕ)) → Each (IsNew (stands ++ S)) T
    → (lets : ℕ) (done : List (List ℕ)) (weight : ℕ) (n : List ℕ)
    → TargetFacts (in_lines (before_block ops stands c count) ((stands ++ S) ++ T) S (S
    ++ T) lets done weight) n
    → is_among S n ≡ false → IsNewOf (used c ++ T) c.results Word n
target_facts {stands} {c} st ops count S T h lets done weight n f z =
    let o = kind_among c.results n in
    let e =
    among-append (stands ++ S) T n ∙ ap (λ x. x || is_among T n) (among-append stands S n
    ∙ ap (λ x. x || is_among S n) (st.all n)) in
    record {
      good = f.good;
      new = among-append (used c) T n ∙ target_new (is_among ((stands ++ S) ++ T) n)
          (is_among (used c) n) (is_known o) (is_among S n) (is_among T n)
          (is_known (kind_among c.known n)) (is_among done n) e
          (given-at st n) (lets_other st S T h n) z f.free;
      fits = word_fits o (is_among S n) z f.kind;
    }

pub stands_move : (s : Scope) (a b : List (List ℕ)) → a ≡ b
    → (wanted : List Wanted) (items : List Item)
    → breach_of wanted (record s { op = record s.op { stands = a } }) items ≡ None
    → breach_of wanted (record s { op = record s.op { stands = b } }) items ≡ None
stands_move s a b e wanted items h =
    subst (λ (x : List (List ℕ)). breach_of wanted (record s { op = record s.op { stands = x } })
    items ≡ None) e h

pub known_moves : (s : Scope) (a b : List Param) → a ≡ b
    → (wanted : List Wanted) (items : List Item)
    → breach_of wanted (record s { op = record s.op { defined = a } }) items ≡ None
    → breach_of wanted (record s { op = record s.op { defined = b } }) items ≡ None
known_moves s a b e wanted items h =
    subst (λ (x : List Param). breach_of wanted (record s { op = record s.op { defined = x } })
    items ≡ None) e h

pub block_peels : (b : Block) (ops stands : List (List ℕ)) (c : Context)
    (count : ℕ) (wanted : List Wanted) (rest : List (List ℕ))
    → HasStatement (Visit b) → Standing stands c
    → breach_of (Stmts ∷ wanted) (at_statement ops stands c count)
    (items_spelled (statement_text (Visit b) rest)) ≡ None
    → AfterStatement (Visit b) ops c count wanted rest
unfolding machine.breach_of
block_peels b ops stands c count wanted rest n st h =
    let here = before_block ops stands c count in
    let S = state_names b in
    let T = let_names b in
    let W = word_names b in
    let assigns = in_turn equation_text b.assigns (codes "}" ∷ rest) in
    let lines = in_turn let_text b.lets assigns in
    let states = between_commas state_text b.states (codes ")" ∷ codes "{" ∷ lines) in
    let a = one_rule (nat_le 16 count) why.TooMany here (Direction ∷ Open ∷ States ∷ Begin ∷ Lets
    ∷ Stmts ∷ []) (name_lexeme (codes "serial"))
    (goes wanted (direction_text b.down ∷ codes "(" ∷ states)) h in
    let d = sym (direction_moves b.down here (States ∷ Begin ∷ Lets ∷ Stmts ∷ wanted) states)
    ∙ a.1 in
    let d' = stands_move here stands (stands ++ []) (sym (append-nil stands)) (States ∷ Begin ∷ Lets
    ∷ Stmts ∷ wanted) (items_spelled states) d in
    let q = states_peel b.states ops stands c count (Begin ∷ Lets ∷ Stmts
    ∷ wanted) (codes "{" ∷ lines) n.0 st d' in
    let l = lets_peel b.lets here (stands ++ S) S S 0 0 (Stmts ∷ wanted) assigns n.1 (omega arith)
    (omega arith) q.then in
    let new = fresh-new (stands ++ S) T l.fresh in
    let P : List ℕ → Type 0 = λ n. is_among S n ≡ false → IsNewOf (used c ++ T) c.results Word n in
    let e =
    assigns_peel b.assigns here ((stands ++ S) ++ T) S (S ++ T) (0 + length b.lets) (0
    + weights b.lets) (Stmts ∷ wanted) rest P
    (λ done weight n f. target_facts st ops count S T new (0 + length b.lets) done weight n f) n.2
    l.light l.then in
    let g = e.1 in
    record {
      meets = record {
        few_states = let i = q.few in omega arith;
        few_lets = let i = l.few in omega arith;
        has_assigns = e.0;
        few_assigns = let i = g.few in omega arith;
        light = let i = g.light in omega arith;
        states = q.are;
        states_differ = fresh-differ [] S q.fresh;
        lets = each_both IsGood (IsNew (stands ++ S)) (IsNewLet (used c ++ S) c.results) (λ n g k.
            let_facts st S n g k) T l.good new;
        lets_differ = fresh-differ (stands ++ S) T l.fresh;
        lets_read = l.reads;
        words = each_filter (is_among S) (IsNewOf (used c ++ T) c.results Word) (names_in b.assigns)
            g.are;
        targets_differ = fresh-differ [] (names_in b.assigns) g.fresh;
        values_read = g.reads;
      };
      few = le_no 16 count a.0;
      stands = ((stands ++ S) ++ T) ++ W;
      standing = block_standing st S T W new;
      then = known_moves (at_statement ops (((stands ++ S) ++ T) ++ W) c (count + 1)) _ _
          (append_assoc c.known (map (λ n. param n Bit) S) (map (λ n. param n Word) W)) (Stmts
          ∷ wanted) (items_spelled rest) g.then;
    }
