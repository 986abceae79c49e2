-- The states of a block.
use Rattle.op_rules.proofs.Common.{◌≡◌, ℕ, ◌+◌, ◌<◌, ◌≤◌, Bool, true, false, ◌||◌, ◌&&◌, nat_le}
use Rattle.op_rules.proofs.Common.{List, [], ◌∷◌, ◌++◌, map, length, arith, Some, None, refl, sym}
use Rattle.op_rules.proofs.Common.{ap, ◌∙◌, codes, subst, append_assoc, append-nil, cond}
use Rattle.op_rules.proofs.Common.{length-append, Item, Bit, State, Wanted, spelling_of, is_among}
use Rattle.op_rules.proofs.Common.{after, items_spelled, start_text, between_commas, after_commas}
use Rattle.op_rules.proofs.Common.{state_text, Each, HasState, Equals, Scope, breach_of, is_bad}
use Rattle.op_rules.proofs.Common.{is_taken_state, step, with_rules, state_rules, kind_among}
use Rattle.op_rules.proofs.Common.{is_known, is_of_kind}
use Rattle.op_text.specs.declared.wanted.Wanted.TheVariants.{States, StateName, Start, MoreStates}
use Rattle.grammar.specs.Machine as machine
use Rattle.op_text.specs.declared.terminal.Terminal.TheVariants as t
use Rattle.op_text.specs.declared.fault.OpsKind.TheVariants as why
use Rattle.op_rules.specs.Meets.{Context, IsNewOf, IsNew, used}
use Rattle.op_rules.proofs.Names.{AllFresh, among-append}
use Rattle.op_rules.proofs.Tokens.{goes, name_lexeme, named, three_rules, not_bad, le_no}
use Rattle.op_rules.proofs.Standing.{Standing, given-at}
use Rattle.op_rules.proofs.Fitting.{of_known, fits_of}
use Rattle.op_rules.proofs.Words.{at_statement}

abbrev pub state_names_of : List State → List (List ℕ)
state_names_of ss = map (λ (s : State). s.name) ss

-- the scope among the states of a block, of which these stand already
abbrev pub in_states : Scope → List (List ℕ) → List (List ℕ) → Scope
in_states s stands done = record s {
  op = record s.op { stands = stands ++ done };
  block = record {
    states = done;
    readable = done;
    lets = 0;
    targets = [];
    weight = 0;
    missing = [];
  };
}

state_new : (st a r b d m : Bool) → st ≡ ((a || r) || m) → (r ≡ true → a ≡ d)
    → cond (r && b) (d || m) st ≡ false → (a ≡ false) × (m ≡ false) × (r ≡ true → b ≡ true)
state_new st a r b d m e f h = cases a r b d m f (sym (ap (cond (r && b) (d || m)) e) ∙ h)
  where
    cases : (a r b d m : Bool) → (r ≡ true → a ≡ d) → cond (r && b) (d || m) ((a || r) || m) ≡ false
        → (a ≡ false) × (m ≡ false) × (r ≡ true → b ≡ true)
    cases a true true false false f h = (f refl, refl, λ q. refl)
    cases true true false d m f h = cc
    cases false false b d false f h = (refl, refl, λ q. cc)
    cases _ _ _ _ _ f h = cc

-- the context of a block, and the scope before it
abbrev pub before_block : List (List ℕ) → List (List ℕ) → Context → ℕ → Scope
before_block ops stands c count = at_statement ops stands c (count + 1)

pub state_moves : (s : Scope) (stands done : List (List ℕ)) (n : List ℕ) (wanted : List Wanted)
    (items : List Item)
    → breach_of wanted (record (in_states s stands done) {
      op = record s.op { stands = (stands ++ done) ++ n ∷ [] };
      block = (in_states s stands (done ++ n ∷ [])).block;
    }) items ≡ None
    → breach_of wanted (in_states s stands (done ++ n ∷ [])) items ≡ None
state_moves s stands done n wanted items h =
    subst (λ (x : List (List ℕ)). breach_of wanted (record s {
      op = record s.op { stands = x };
      block = (in_states s stands (done ++ n ∷ [])).block;
    }) items
    ≡ None) (append_assoc stands done (n ∷ [])) h

pub start_moves : (b : Bool) (s : Scope) (wanted : List Wanted) (rest : List (List ℕ))
    → breach_of (Equals ∷ Start ∷ wanted) s (items_spelled (codes "=" ∷ start_text b ∷ rest))
    ≡ breach_of wanted s (items_spelled rest)
unfolding machine.breach_of
start_moves false s wanted rest = refl
start_moves true s wanted rest = refl

state_facts : (ops stands : List (List ℕ)) (c : Context) (count : ℕ)
    (done : List (List ℕ)) (n : List ℕ) → Standing stands c
    → is_bad (spelling_of n) n ≡ false
    → is_taken_state (in_states (before_block ops stands c count) stands done) n
    ≡ false
    → IsNewOf (used c) c.results Bit n × IsNew done n
state_facts ops stands c count done n st g t =
    let o = kind_among c.results n in
    let st' = is_among (stands ++ done) n in
    let d = is_known (kind_among c.known n) in
    let k =
    state_new st' (is_among (used c) n) (is_known o) (is_of_kind o Bit) d (is_among done n)
    (among-append stands done n ∙ ap (λ x. x || is_among done n) (st.all n)) (given-at st n)
    (ap (λ x. cond x (d || is_among done n) st') (sym (of_known o Bit)) ∙ t) in (
      record { good = not_bad n g; new = k.0; fits = fits_of o Bit k.2 },
      k.1,
    )

-- a state that is wanted at the start of the list, or after a comma
state_peels : (w : Wanted) (front : List Wanted)
    → ((s : Scope) (n : List ℕ) (o : Bool) → step w s (t.Name (spelling_of n)) n o
    ≡ with_rules (Some front) (state_rules s (spelling_of n) n))
    → (ops stands : List (List ℕ)) (c : Context) (count : ℕ)
    (done : List (List ℕ)) (s : State) (wanted : List Wanted) (rest : List (List ℕ))
    → HasState s → Standing stands c
    → breach_of (w ∷ wanted) (in_states (before_block ops stands c count) stands done)
    (items_spelled (state_text s rest)) ≡ None
    → IsNewOf (used c) c.results Bit s.name × IsNew done s.name × (length done < 8)
    × (breach_of (front ++ wanted) (in_states (before_block ops stands c count) stands
    (done ++ s.name ∷ [])) (items_spelled (codes "=" ∷ start_text s.start ∷ rest)) ≡ None)
state_peels w front same ops stands c count done s wanted rest n st h =
    let here = in_states (before_block ops stands c count) stands done in
    let more = codes "=" ∷ start_text s.start ∷ rest in
    let g = sym (ap (λ x. after x (name_lexeme s.name) (goes wanted more)) (same here s.name _))
    ∙ sym (named w wanted here s.name more n) ∙ h in
    let k =
    three_rules (is_bad (spelling_of s.name) s.name) (is_taken_state here s.name)
    (nat_le 8 (length done)) why.BadName why.Twice why.TooMany
    (record here {
      op = record here.op { stands = (stands ++ done) ++ s.name ∷ [] };
      block = (in_states here stands (done ++ s.name ∷ [])).block;
    }) front (name_lexeme s.name)
    (goes wanted more) g in
    let f = state_facts ops stands c count done s.name st k.0 k.1 in (
      f.0,
      f.1,
      le_no 8 (length done) k.2,
      state_moves (before_block ops stands c count)
          stands done s.name (front ++ wanted) (items_spelled more) k.3,
    )

pub record AllStates (ops stands : List (List ℕ)) (c : Context) (count : ℕ)
    (done : List (List ℕ)) (ss : List State) (wanted : List Wanted) (rest : List (List ℕ)) : Type 0
  where
    pub are : Each (IsNewOf (used c) c.results Bit) (state_names_of ss)
    pub fresh : AllFresh done (state_names_of ss)
    pub few : length done + length ss ≤ 8
    pub then : breach_of wanted (in_states (before_block ops stands c count) stands (done
        ++ state_names_of ss)) (items_spelled rest) ≡ None

pub done_moves : (s : Scope) (stands a b : List (List ℕ)) → a ≡ b
    → (wanted : List Wanted) (items : List Item)
    → breach_of wanted (in_states s stands a) items ≡ None
    → breach_of wanted (in_states s stands b) items ≡ None
done_moves s stands a b e wanted items h = subst
    (λ (x : List (List ℕ)). breach_of wanted (in_states s stands x) items ≡ None) e h

length-more : (done : List (List ℕ)) (n : List ℕ) → length (done ++ n ∷ []) ≡ length done + 1
length-more done n = length-append done (n ∷ [])

states_after : (ss : List State) (ops stands : List (List ℕ)) (c : Context)
    (count : ℕ) (done : List (List ℕ)) (wanted : List Wanted) (rest : List (List ℕ))
    → Each HasState ss → Standing stands c
    → length done ≤ 8
    → breach_of (MoreStates ∷ wanted) (in_states (before_block ops stands c count) stands
    done) (items_spelled (after_commas state_text ss (codes ")" ∷ rest))) ≡ None
    → AllStates ops stands c count done ss wanted rest
unfolding machine.breach_of
states_after [] ops stands c count done wanted rest n st l h =
    record {
      are = tt;
      fresh = tt;
      few = omega arith;
      then = done_moves (before_block ops stands c count) stands done (done
          ++ []) (sym (append-nil done)) wanted (items_spelled rest) h;
    }
states_after (s ∷ ss) ops stands c count done wanted rest n st l h =
    let more = after_commas state_text ss (codes ")" ∷ rest) in
    let here = before_block ops stands c count in
    let p = state_peels StateName [] (λ s n o. refl) ops stands c count done s (Equals
    ∷ Start ∷ MoreStates ∷ wanted) more n.0 st h in
    let e = length-more done s.name in
    let q = states_after ss ops stands c count (done ++ s.name ∷ []) wanted rest n.1 st
    (let i = p.2 in omega arith)
    (sym (start_moves s.start (in_states here stands (done ++ s.name ∷ [])) (MoreStates
    ∷ wanted) more) ∙ p.3) in
    record {
      are = (p.0, q.are);
      fresh = (p.1, q.fresh);
      few = let i = q.few in omega arith;
      then = done_moves here stands _ (done ++ state_names_of (s ∷ ss))
          (append_assoc done (s.name ∷ []) (state_names_of ss)) wanted (items_spelled rest) q.then;
    }

pub states_peel : (ss : List State) (ops stands : List (List ℕ)) (c : Context)
    (count : ℕ) (wanted : List Wanted) (rest : List (List ℕ)) → Each HasState ss
    → Standing stands c
    → breach_of (States ∷ wanted) (in_states (before_block ops stands c count) stands [])
    (items_spelled (between_commas state_text ss (codes ")" ∷ rest))) ≡ None
    → AllStates ops stands c count [] ss wanted rest
unfolding machine.breach_of
states_peel [] ops stands c count wanted rest n st h =
    record { are = tt; fresh = tt; few = omega arith; then = h }
states_peel (s ∷ ss) ops stands c count wanted rest n st h =
    let more = after_commas state_text ss (codes ")" ∷ rest) in
    let here = before_block ops stands c count in
    let p = state_peels States (Equals ∷ Start ∷ MoreStates ∷ []) (λ s n o. refl) ops stands c
    count [] s wanted more n.0 st h in
    let q = states_after ss ops stands c count (s.name ∷ []) wanted rest n.1 st
    (omega arith) (sym (start_moves s.start (in_states here stands (s.name ∷ [])) (MoreStates
    ∷ wanted) more) ∙ p.3) in
    record {
      are = (p.0, q.are);
      fresh = (p.1, q.fresh);
      few = let i = q.few in
          omega arith;
      then = q.then;
    }
