-- Tokens that break no rule, and the token that breaks one.
use Rattle.std.proofs.Common.{◌≡◌, ℕ, Bool, true, false, List, [], ◌∷◌, ◌++◌, Option, Some, None}
use Rattle.std.proofs.Common.{Result, Ok, Err, option_and_then, refl, sym, ap, ◌∙◌, subst}
use Rattle.std.proofs.Common.{append_assoc}
use Rattle.std.specs.Prelude.{reverse}
use Rattle.std.proofs.lemmas.List.{reverse-append}
use Rattle.text_lex.specs.declared.token.LexFault.{LexFault}
use Rattle.text_lex.specs.Lexical.{Item, Lexeme, Whole, Bad}
use Rattle.grammar.specs.declared.Breach.{Breach}
use Rattle.grammar.specs.Machine.{Language, at_token, at_byte, at_end, opens_next, with_rules, step}
use Rattle.grammar.specs.Machine.{ends, after, breach_of, opens_or, allowed}
use Rattle.grammar.specs.Laws.{whole, all_seen}

-- what a step comes to
pub data StepIs {W U S K : Type 0} (l : Language W U S K) (w : W) (s : S) (u : Lexeme) (o : Bool)
    : Result (List W × S) K → Type 0 where
  Refused : l.follow w (l.seen u) o ≡ None → StepIs l w s u o (Err l.syntax)
  Broken : (front : List W) (k : K) → l.follow w (l.seen u) o ≡ Some front
      → l.rules w s u o ≡ Err k → StepIs l w s u o (Err k)
  Taken : (front : List W) (s' : S) → l.follow w (l.seen u) o ≡ Some front
      → l.rules w s u o ≡ Ok s' → StepIs l w s u o (Ok (front, s'))

pub step_is : {W U S K : Type 0} (l : Language W U S K) (w : W) (s : S) (u : Lexeme) (o : Bool)
    → StepIs l w s u o (step l w s u o)
step_is {W} {U} {S} {K} l w s u o = by (l.follow w (l.seen u) o) (l.rules w s u o) refl refl where
  by : (f : Option (List W)) (r : Result S K) → l.follow w (l.seen u) o ≡ f
      → l.rules w s u o ≡ r → StepIs l w s u o (with_rules l.syntax f r)
  by None r e g = Refused e
  by (Some front) (Err k) e g = Broken front k e g
  by (Some front) (Ok s') e g = Taken front s' e g

abbrev pub on_step : {W S K : Type 0} → Result (List W × S) K
    → (List W → S → Option (List W × S)) → Option (List W × S)
on_step (Ok r) go = go r.0 r.1
on_step (Err k) go = None

-- what is wanted and what stands after tokens that break no rule; the flag says whether an opening
-- one follows
unfoldable pub walk : {W U S K : Type 0} → Language W U S K → Bool → List W → S → List Lexeme
    → Option (List W × S)
walk l o wanted s [] = Some (wanted, s)
walk l o [] s (u ∷ us) = None
walk l o (w ∷ wanted) s (u ∷ us) = on_step (step l w s u (opens_or l o (all_seen l us)))
    (λ front s'. walk l o (front ++ wanted) s' us)

pub opens_before : {W U S K : Type 0} (l : Language W U S K) (us : List Lexeme) (items : List Item)
    → opens_next l (whole us ++ items) ≡ opens_or l (opens_next l items) (all_seen l us)
opens_before l [] items = refl
opens_before l (u ∷ us) items = refl

pub opens_whole : {W U S K : Type 0} (l : Language W U S K) (us : List Lexeme)
    → opens_next l (whole us) ≡ opens_or l false (all_seen l us)
opens_whole l [] = refl
opens_whole l (u ∷ us) = refl

pub some_same : {A : Type 0} (a b : A) → Some a ≡ Some b → a ≡ b
some_same a b e = cc

-- tokens that break no rule are passed
pub passes : {W U S K : Type 0} (l : Language W U S K) (us : List Lexeme) (rest : List Item)
    (ws : List W) (s : S) (p : List W × S) → walk l (opens_next l rest) ws s us ≡ Some p
    → breach_of l ws s (whole us ++ rest) ≡ breach_of l p.0 p.1 rest
unfolding breach_of walk
passes l [] rest ws s p h =
    ap (λ (q : List _ × _). breach_of l q.0 q.1 rest) (some_same (ws, s) p h)
passes l (u ∷ us) rest [] s p h = cc
passes {W} {U} {S} {K} l (u ∷ us) rest (w ∷ ws) s p h =
    rw (opens_before l us rest) (by (step l w s u (opens_or l (opens_next l rest) (all_seen l us)))
    (λ front s' g. passes l us rest (front ++ ws) s' p g) h)
  where
    by : (r : Result (List W × S) K) → ((front : List W) (s' : S)
        → walk l (opens_next l rest) (front ++ ws) s' us ≡ Some p
        → breach_of l (front ++ ws) s' (whole us ++ rest) ≡ breach_of l p.0 p.1 rest)
        → on_step r (λ front s'. walk l (opens_next l rest) (front ++ ws) s' us) ≡ Some p
        → after r u (λ front s'. breach_of l (front ++ ws) s' (whole us ++ rest))
        ≡ breach_of l p.0 p.1 rest
    by (Err k) go h = cc
    by (Ok r) go h = go r.0 r.1 h

-- and the grammar allows them
pub walk_allowed : {W U S K : Type 0} (l : Language W U S K) (o : Bool) (us : List Lexeme)
    (ws : List W) (s : S) (p : List W × S) → walk l o ws s us ≡ Some p
    → allowed l o ws (all_seen l us) ≡ Some p.0
unfolding allowed walk
walk_allowed l o [] ws s p h = ap (λ (q : List _ × _). Some q.0) (some_same (ws, s) p h)
walk_allowed l o (u ∷ us) [] s p h = cc
walk_allowed {W} {U} {S} {K} l o (u ∷ us) (w ∷ ws) s p h =
    by (step l w s u (opens_or l o (all_seen l us)))
    (step_is l w s u (opens_or l o (all_seen l us)))
    (λ front s' g. walk_allowed l o us (front ++ ws) s' p g) h
  where
    by : (r : Result (List W × S) K) → StepIs l w s u (opens_or l o (all_seen l us)) r
        → ((front : List W) (s' : S) → walk l o (front ++ ws) s' us ≡ Some p
        → allowed l o (front ++ ws) (all_seen l us) ≡ Some p.0)
        → on_step r (λ front s'. walk l o (front ++ ws) s' us) ≡ Some p
        → option_and_then (λ front. allowed l o (front ++ ws) (all_seen l us))
        (l.follow w (l.seen u) (opens_or l o (all_seen l us))) ≡ Some p.0
    by _ (Refused e) go h = cc
    by _ (Broken front k e g) go h = cc
    by _ (Taken front s' e g) go h = rw e (go front s' h)

-- ---- where a text stops

-- a token that breaks a rule
pub data Breaks {W U S K : Type 0} (l : Language W U S K)
    : List W → S → Lexeme → Bool → K → Type 0 where
  Spare : (s : S) (u : Lexeme) (o : Bool) → Breaks l [] s u o l.syntax
  NotAllowed : (w : W) (ws : List W) (s : S) (u : Lexeme) (o : Bool)
      → l.follow w (l.seen u) o ≡ None → Breaks l (w ∷ ws) s u o l.syntax
  NotRight : (w : W) (ws front : List W) (s : S) (u : Lexeme) (o : Bool) (k : K)
      → l.follow w (l.seen u) o ≡ Some front → l.rules w s u o ≡ Err k
      → Breaks l (w ∷ ws) s u o k

-- the first breach, by what stands before it
pub data Stops {W U S K : Type 0} (l : Language W U S K) (ws : List W) (s : S)
    : List Item → Option (Breach K) → Type 0 where
  Ended : (us : List Lexeme) (end : List W) (s' : S) → walk l false ws s us ≡ Some (end, s')
      → Stops l ws s (whole us) (ends l end)
  AtByte : (before : List Lexeme) (f : LexFault) (following : List Item) (stack : List W) (s' : S)
      → walk l false ws s before ≡ Some (stack, s')
      → Stops l ws s (whole before ++ (Bad f ∷ following)) (Some (at_byte f l.lex))
  AtToken : (before : List Lexeme) (u : Lexeme) (following : List Item) (stack : List W) (s' : S)
      (k : K) → walk l (l.opens (l.seen u)) ws s before ≡ Some (stack, s')
      → Breaks l stack s' u (opens_next l following) k
      → Stops l ws s (whole before ++ (Whole u ∷ following)) (Some (at_token u k))

later : {W U S K : Type 0} (l : Language W U S K) (w : W) (ws front : List W) (s s' : S)
    (u : Lexeme) (items : List Item) (found : Option (Breach K))
    → step l w s u (opens_next l items) ≡ Ok (front, s') → Stops l (front ++ ws) s' items found
    → Stops l (w ∷ ws) s (Whole u ∷ items) found
unfolding walk
later l w ws front s s' u _ _ e (Ended us end t h) =
    Ended (u ∷ us) end t (rw (← opens_whole l us, e) h)
later l w ws front s s' u _ _ e (AtByte before f following stack t h) =
    AtByte (u ∷ before) f following stack t
    (rw (← opens_before l before (Bad f ∷ following), e) h)
later l w ws front s s' u _ _ e (AtToken before v following stack t k h b) =
    AtToken (u ∷ before) v following stack t k
    (rw (← opens_before l before (Whole v ∷ following), e) h) b

pub stops : {W U S K : Type 0} (l : Language W U S K) (items : List Item) (ws : List W) (s : S)
    → Stops l ws s items (breach_of l ws s items)
unfolding breach_of walk
stops l [] ws s = Ended [] ws s refl
stops l (Bad f ∷ items) ws s = AtByte [] f items ws s refl
stops l (Whole u ∷ items) [] s = AtToken [] u items [] s l.syntax refl (Spare s u _)
stops {W} {U} {S} {K} l (Whole u ∷ items) (w ∷ ws) s =
    by (step l w s u (opens_next l items)) refl (step_is l w s u (opens_next l items))
    (λ front s'. stops l items (front ++ ws) s') where
      by : (r : Result (List W × S) K) → step l w s u (opens_next l items) ≡ r
          → StepIs l w s u (opens_next l items) r
          → ((front : List W) (s' : S)
          → Stops l (front ++ ws) s' items (breach_of l (front ++ ws) s' items)) → Stops l (w ∷ ws) s (Whole u ∷ items)
          (after r u (λ front s'. breach_of l (front ++ ws) s' items))
      by _ i (Refused e) go = AtToken [] u items (w ∷ ws) s l.syntax refl (NotAllowed w ws s u _ e)
      by _ i (Broken front k e g) go =
          AtToken [] u items (w ∷ ws) s k refl (NotRight w ws front s u _ k e g)
      by _ i (Taken front s' e g) go =
          later l w ws front s s' u items _ i (go front s')

-- a token that breaks a rule is the first breach
pub breaks_here : {W U S K : Type 0} (l : Language W U S K) (stack : List W) (s : S) (u : Lexeme)
    (o : Bool) (k : K) (items : List Item) → Breaks l stack s u o k → opens_next l items ≡ o
    → breach_of l stack s (Whole u ∷ items) ≡ Some (at_token u k)
unfolding breach_of
breaks_here l _ s u o _ items (Spare _ _ _) e = refl
breaks_here l _ s u o _ items (NotAllowed w ws _ _ _ f) e = rw (e, f) refl
breaks_here l _ s u o k items (NotRight w ws front _ _ _ _ f g) e = rw (e, f, g) refl

byte : {W U S K : Type 0} (l : Language W U S K) (stack : List W) (s : S) (f : LexFault)
    (items : List Item) → breach_of l stack s (Bad f ∷ items) ≡ Some (at_byte f l.lex)
unfolding breach_of
byte l stack s f items = refl

opens_more : {W U S K : Type 0} (l : Language W U S K) (items more : List Item)
    → opens_next l more ≡ false → opens_next l (items ++ more) ≡ opens_next l items
opens_more l [] more h = h
opens_more l (Bad f ∷ items) more h = refl
opens_more l (Whole u ∷ items) more h = refl

place_in : {K : Type 0} → Breach K → Option ℕ
place_in b = b.at

no_place : {W U S K : Type 0} (l : Language W U S K) (end : List W) (b : Breach K) (place : ℕ)
    → ends l end ≡ Some b → b.at ≡ Some place → ⊥
unfolding place_in
no_place l [] b place h e = cc
no_place {W} {U} {S} {K} l (w ∷ ws) b place h e = by (l.may_end w) h where
  by : (m : Bool) → (Rattle.std.specs.Prelude.if◌then◌else◌ m None (Some (at_end l.syntax)))
      ≡ Some b → ⊥
  by true h = cc
  by false h =
      let f : None ≡ Some place = ap place_in (some_same (at_end l.syntax) b h) ∙ e in cc

-- A fault at a token is that of each text that goes on from these tokens, and not by an opening
-- one: the first one decides.
abbrev pub FirstDecides : {W U S K : Type 0} → Language W U S K → S → Type 0
FirstDecides {K = K} l s = (items more : List Item) (b : Breach K) (place : ℕ)
    → opens_next l more ≡ false → breach_of l (l.first ∷ []) s items ≡ Some b
    → b.at ≡ Some place → breach_of l (l.first ∷ []) s (items ++ more) ≡ Some b

pub first_decides : {W U S K : Type 0} (l : Language W U S K) (s : S) → FirstDecides l s
first_decides {W} {U} {S} {K} l s items more b place shut h e =
    by items _ (stops l items (l.first ∷ []) s) h where
      by : (items : List Item) (found : Option (Breach K)) → Stops l (l.first ∷ []) s items found
          → found ≡ Some b → breach_of l (l.first ∷ []) s (items ++ more) ≡ Some b
      by _ _ (Ended us end s' g) h = absurd (no_place l end b place h e)
      by _ _ (AtByte before f following stack s' g) h =
          ap (breach_of l (l.first ∷ []) s) (append_assoc (whole before) (Bad f ∷ following) more)
          ∙ passes l before (Bad f ∷ (following ++ more)) (l.first ∷ []) s (stack, s') g
          ∙ byte l stack s' f (following ++ more) ∙ h
      by _ _ (AtToken before u following stack s' k g w) h =
          ap (breach_of l (l.first ∷ []) s) (append_assoc (whole before) (Whole u ∷ following) more)
          ∙ passes l before (Whole u ∷ (following ++ more)) (l.first ∷ []) s (stack, s') g
          ∙ breaks_here l stack s' u (opens_next l following) k (following ++ more) w
          (opens_more l following more shut) ∙ h

-- ---- what holds at each token

-- the tokens read, the last first, before those that stood before
abbrev pub behind : {U : Type 0} → List U → List U → List U
behind [] past = past
behind (u ∷ us) past = behind us (u ∷ past)

pub behind_reverse : {U : Type 0} (us past : List U) → behind us past ≡ reverse us ++ past
behind_reverse [] past = refl
behind_reverse (u ∷ us) past = behind_reverse us (u ∷ past)
    ∙ sym (append_assoc (reverse us) (u ∷ []) past)
    ∙ ap (λ vs. vs ++ past) (sym (reverse-append (u ∷ []) us))

-- What each step keeps holds after tokens that break no rule.
pub kept : {W U S K : Type 0} (l : Language W U S K) (Holds : List U → List W → S → Type 0)
    → ((past : List U) (w : W) (ws front : List W) (s s' : S) (u : Lexeme) (o : Bool)
    → Holds past (w ∷ ws) s → step l w s u o ≡ Ok (front, s')
    → Holds (l.seen u ∷ past) (front ++ ws) s')
    → (o : Bool) (us : List Lexeme) (past : List U) (ws : List W) (s : S) (p : List W × S)
    → walk l o ws s us ≡ Some p → Holds past ws s → Holds (behind (all_seen l us) past) p.0 p.1
unfolding walk
kept {W} {U} {S} {K} l Holds keeps o [] past ws s p e h =
    subst (λ (q : List W × S). Holds past q.0 q.1) (some_same (ws, s) p e) h
kept l Holds keeps o (u ∷ us) past [] s p e h = cc
kept {W} {U} {S} {K} l Holds keeps o (u ∷ us) past (w ∷ ws) s p e h =
    by (step l w s u (opens_or l o (all_seen l us))) refl
    (λ front s' i f. kept l Holds keeps o us (l.seen u ∷ past) (front ++ ws) s' p f
    (keeps past w ws front s s' u (opens_or l o (all_seen l us)) h i)) e where
      by : (r : Result (List W × S) K) → step l w s u (opens_or l o (all_seen l us)) ≡ r
          → ((front : List W) (s' : S)
          → step l w s u (opens_or l o (all_seen l us)) ≡ Ok (front, s')
          → walk l o (front ++ ws) s' us ≡ Some p
          → Holds (behind (all_seen l us) (l.seen u ∷ past)) p.0 p.1)
          → on_step r (λ front s'. walk l o (front ++ ws) s' us) ≡ Some p
          → Holds (behind (all_seen l us) (l.seen u ∷ past)) p.0 p.1
      by (Err k) i go e = cc
      by (Ok r) i go e = go r.0 r.1 i e

-- where another rule than the grammar's is broken
pub record RuleBroken {W U S K : Type 0} (l : Language W U S K) (ws : List W) (s : S)
    (items : List Item) (b : Breach K) : Type 0 where
  pub before : List Lexeme
  pub token : Lexeme
  pub others : List Item
  pub w : W
  pub stack : List W
  pub front : List W
  pub stands : S
  pub parts : items ≡ whole before ++ (Whole token ∷ others)
  pub place : b.at ≡ Some token.start
  pub walked : walk l (l.opens (l.seen token)) ws s before ≡ Some (w ∷ stack, stands)
  pub follows : l.follow w (l.seen token) (opens_next l others) ≡ Some front
  pub breaks : l.rules w stands token (opens_next l others) ≡ Err b.kind

kind_in : {K : Type 0} → Breach K → K
kind_in b = b.kind

pub rule_broken : {W U S K : Type 0} (l : Language W U S K) (ws : List W) (s : S)
    (items : List Item) (b : Breach K) → breach_of l ws s items ≡ Some b
    → (b.kind ≡ l.lex → ⊥) → (b.kind ≡ l.syntax → ⊥) → RuleBroken l ws s items b
unfolding place_in kind_in
rule_broken {W} {U} {S} {K} l ws s items b h no_lex no_syntax =
    by items _ (stops l items ws s) h where
      ends_syntax : (end : List W) → ends l end ≡ Some b → b.kind ≡ l.syntax
      ends_syntax [] e = cc
      ends_syntax (w ∷ end) e = one (l.may_end w) e where
        one : (m : Bool)
            → (Rattle.std.specs.Prelude.if◌then◌else◌ m None (Some (at_end l.syntax))) ≡ Some b
            → b.kind ≡ l.syntax
        one true e = cc
        one false e = sym (ap kind_in (some_same (at_end l.syntax) b e))

      at : (before : List Lexeme) (u : Lexeme) (following : List Item) (stack : List W) (t : S)
          (k : K) → walk l (l.opens (l.seen u)) ws s before ≡ Some (stack, t)
          → Breaks l stack t u (opens_next l following) k → at_token u k ≡ b
          → RuleBroken l ws s (whole before ++ (Whole u ∷ following)) b
      at before u following _ _ _ g (Spare _ _ _) e = absurd (no_syntax (sym (ap kind_in e)))
      at before u following _ _ _ g (NotAllowed w stack _ _ _ f) e =
          absurd (no_syntax (sym (ap kind_in e)))
      at before u following _ _ k g (NotRight w stack front t _ _ _ f r) e = record {
        before = before;
        token = u;
        others = following;
        w = w;
        stack = stack;
        front = front;
        stands = t;
        parts = refl;
        place = sym (ap place_in e);
        walked = g;
        follows = f;
        breaks = r ∙ ap (λ (x : K). Err x) (ap kind_in e);
      }

      by : (items : List Item) (found : Option (Breach K)) → Stops l ws s items found
          → found ≡ Some b → RuleBroken l ws s items b
      by _ _ (Ended us end t g) e = absurd (no_syntax (ends_syntax end e))
      by _ _ (AtByte before f following stack t g) e =
          absurd (no_lex (sym (ap kind_in (some_same (at_byte f l.lex) b e))))
      by _ _ (AtToken before u following stack t k g w) e =
          at before u following stack t k g w (some_same (at_token u k) b e)
