-- The first breach is another rule's, or what the grammar finds.
use Rattle.std.proofs.Common.{◌≡◌, Bool, true, false, List, [], ◌∷◌, ◌++◌, Option, Some, None}
use Rattle.std.proofs.Common.{Ok, Err, option_and_then, refl, sym, ap, ◌∙◌, subst}
use Rattle.std.proofs.Common.{IsSome, ◌⊎◌, inl, inr}
use Rattle.std.specs.Prelude.{if◌then◌else◌}
use Rattle.std.proofs.lemmas.List.{map-append}
use Rattle.text_lex.specs.Lexical.{Item, Lexeme, Whole, Bad}
use Rattle.grammar.specs.declared.Breach.{Breach}
use Rattle.grammar.specs.Machine.{Language, at_token, at_end, opens_next, with_rules}
use Rattle.grammar.specs.Machine.{ends, after, breach_of, opens_or, allowed}
use Rattle.grammar.specs.Laws.{IsViable, IsTheGrammar, whole, all_seen, GrammarFinds}
use Rattle.grammar.specs.Laws.{Text, CutShort, Wrong, Strange, IsOther, BreaksRule}
use Rattle.grammar.specs.Laws.{SyntaxIsTheGrammars}
use Rattle.grammar.proofs.Walks.{opens_before, some_same, walk_allowed}
use Rattle.grammar.proofs.Walks.{Spare, NotAllowed, NotRight, Stops, Ended, AtByte, AtToken, stops}

-- What follows a token says only what is wanted after it, not whether it is allowed.
abbrev pub IsAlike : {W U S K : Type 0} → Language W U S K → Type 0
IsAlike {W} {U} l = (w : W) (u : U) (o p : Bool) → l.follow w u o ≡ None → l.follow w u p ≡ None

pub allowed_split : {W U S K : Type 0} (l : Language W U S K) (o : Bool) (xs ys : List U)
    (ws : List W) → allowed l o ws (xs ++ ys)
    ≡ option_and_then (λ stack. allowed l o stack ys) (allowed l (opens_or l o ys) ws xs)
unfolding allowed
allowed_split l o [] ys ws = refl
allowed_split l o (x ∷ xs) ys [] = refl
allowed_split {W} {U} l o (x ∷ xs) ys (w ∷ ws) =
    rw (opens_split xs) (by (l.follow w x (opens_or l (opens_or l o ys) xs))
    (λ front. allowed_split l o xs ys (front ++ ws))) where
      opens_split : (xs : List U) → opens_or l o (xs ++ ys) ≡ opens_or l (opens_or l o ys) xs
      opens_split [] = refl
      opens_split (x ∷ xs) = refl

      by : (f : Option (List W)) → ((front : List W) → allowed l o (front ++ ws) (xs ++ ys)
          ≡ option_and_then (λ stack. allowed l o stack ys)
          (allowed l (opens_or l o ys) (front ++ ws) xs))
          → option_and_then (λ front. allowed l o (front ++ ws) (xs ++ ys)) f
          ≡ option_and_then (λ stack. allowed l o stack ys)
          (option_and_then (λ front. allowed l (opens_or l o ys) (front ++ ws) xs) f)
      by None go = refl
      by (Some front) go = go front

none_along : {A B : Type 0} (f g : A → Option B) (o : Option A)
    → ((x : A) → f x ≡ None → g x ≡ None) → option_and_then f o ≡ None → option_and_then g o ≡ None
none_along f g None k h = refl
none_along f g (Some x) k h = k x h

none_first : {A B : Type 0} (f : A → B) (o : Option A) → option_and_then (λ x. Some (f x)) o ≡ None
    → o ≡ None
none_first f None h = refl
none_first f (Some x) h = cc

-- tokens are refused whatever follows them
pub refused : {W U S K : Type 0} (l : Language W U S K) → IsAlike l → (us : List U) (o p : Bool)
    (ws : List W) → allowed l o ws us ≡ None → allowed l p ws us ≡ None
unfolding allowed
refused l alike [] o p ws h = cc
refused l alike (u ∷ us) o p [] h = refl
refused l alike (u ∷ []) o p (w ∷ ws) h =
    rw (alike w u o p (none_first (λ front. front ++ ws) (l.follow w u o) h)) refl
refused l alike (u ∷ v ∷ us) o p (w ∷ ws) h =
    none_along (λ front. allowed l o (front ++ ws) (v ∷ us))
    (λ front. allowed l p (front ++ ws) (v ∷ us)) (l.follow w u (l.opens v))
    (λ front. refused l alike (v ∷ us) o p (front ++ ws)) h

some_of : {A : Type 0} (o : Option A) → (o ≡ None → ⊥) → IsSome o
some_of None h = absurd (h refl)
some_of (Some x) h = refl

no_some : {A : Type 0} (o : Option A) → IsSome o → o ≡ None → ⊥
no_some None h e = cc
no_some (Some x) h e = cc

the_some : {A : Type 0} (o : Option A) → (o ≡ None → ⊥) → (x : A) × (o ≡ Some x)
the_some None h = absurd (h refl)
the_some (Some x) h = (x, refl)

the_none : {A : Type 0} (o : Option A) → (IsSome o → ⊥) → o ≡ None
the_none None h = refl
the_none (Some x) h = absurd (h refl)

is_some : {A : Type 0} (o : Option A) (x : A) → o ≡ Some x → o ≡ None → ⊥
is_some o x e f = cc

seen_before : {W U S K : Type 0} (l : Language W U S K) (us : List Lexeme) (u : Lexeme)
    → all_seen l (us ++ u ∷ []) ≡ all_seen l us ++ l.seen u ∷ []
seen_before l us u = map-append l.seen us (u ∷ [])

-- the language without its other rules
abbrev bare : {W U S K : Type 0} → Language W U S K → Language W U (Unit {0}) K
bare l = record {
  seen = l.seen;
  opens = l.opens;
  follow = l.follow;
  rules = λ w s u o. Ok tt;
  first = l.first;
  may_end = l.may_end;
  lex = l.lex;
  syntax = l.syntax;
}

-- tokens that the grammar allows are passed
goes_on : {W U S K : Type 0} (l : Language W U S K) (us : List Lexeme) (rest : List Item)
    (ws stack : List W) → allowed l (opens_next l rest) ws (all_seen l us) ≡ Some stack
    → breach_of (bare l) ws tt (whole us ++ rest) ≡ breach_of (bare l) stack tt rest
unfolding allowed breach_of
goes_on l [] rest ws stack h = ap (λ ws. breach_of (bare l) ws tt rest) (some_same ws stack h)
goes_on l (u ∷ us) rest [] stack h = cc
goes_on {W} {U} {S} {K} l (u ∷ us) rest (w ∷ ws) stack h =
    rw (opens_before l us rest)
    (by (l.follow w (l.seen u) (opens_or l (opens_next l rest) (all_seen l us)))
    (λ front g. goes_on l us rest (front ++ ws) stack g) h) where
      by : (f : Option (List W)) → ((front : List W)
          → allowed l (opens_next l rest) (front ++ ws) (all_seen l us) ≡ Some stack
          → breach_of (bare l) (front ++ ws) tt (whole us ++ rest)
          ≡ breach_of (bare l) stack tt rest)
          → option_and_then (λ front. allowed l (opens_next l rest) (front ++ ws) (all_seen l us)) f
          ≡ Some stack
          → after (with_rules {S = Unit {0}} l.syntax f (Ok tt)) u
          (λ front s. breach_of (bare l) (front ++ ws) s (whole us ++ rest))
          ≡ breach_of (bare l) stack tt rest
      by None go h = cc
      by (Some front) go h = go front h

goes_to_end : {W U S K : Type 0} (l : Language W U S K) (us : List Lexeme) (ws end : List W)
    → allowed l false ws (all_seen l us) ≡ Some end → breach_of (bare l) ws tt (whole us) ≡ ends l end
unfolding breach_of
goes_to_end l us ws end h =
    ap (breach_of (bare l) ws tt) (sym (Rattle.std.proofs.Common.append-nil (whole us)))
    ∙ goes_on l us [] ws end h

-- ---- what is found is the grammar's

-- what the laws take of a language: the texts of its grammar, and that no other rule is called as
-- the grammar's are
pub record Facts {W U S K : Type 0} (l : Language W U S K) (IsText : List U → Type 0) : Type 0
  where
    pub grammar : IsTheGrammar l IsText
    pub alike : IsAlike l
    pub others : (w : W) (s : S) (u : Lexeme) (o : Bool) (k : K) → l.rules w s u o ≡ Err k
        → IsOther l k

module _ {W U S K : Type 0} (l : Language W U S K) (IsText : List U → Type 0)
    (facts : Facts l IsText) where
  -- tokens that are allowed begin a text
  pub good : (o : Bool) (us : List U) → (allowed l o (l.first ∷ []) us ≡ None → ⊥) → IsViable IsText us
  good o us h = (facts.grammar.allows us).0
      (some_of _ (λ e. h (refused l facts.alike us false o (l.first ∷ []) e)))

  bad : (o : Bool) (us : List U) → allowed l o (l.first ∷ []) us ≡ None → IsViable IsText us → ⊥
  bad o us e v = no_some _ ((facts.grammar.allows us).1 v)
      (refused l facts.alike us o false (l.first ∷ []) e)

  good_back : (o : Bool) (us : List U) → IsViable IsText us → allowed l o (l.first ∷ []) us ≡ None
      → ⊥
  good_back o us v e = bad o us e v

  bad_back : (us : List U) → (IsViable IsText us → ⊥) → allowed l false (l.first ∷ []) us ≡ None
  bad_back us h = the_none _ (λ g. h ((facts.grammar.allows us).0 g))

  at_ends : (us : List Lexeme) (end : List W) (found : Option (Breach K))
      → allowed l false (l.first ∷ []) (all_seen l us) ≡ Some end → ends l end ≡ found
      → GrammarFinds l IsText (whole us) found
  at_ends us end None e f = Text us ((facts.grammar.accepts (all_seen l us)).0 (end, e, f))
  at_ends us [] (Some b) e f = cc
  at_ends us (w ∷ end) (Some b) e f = by (l.may_end w) refl f where
    by : (m : Bool) → l.may_end w ≡ m → (if m then None else Some (at_end l.syntax)) ≡ Some b
        → GrammarFinds l IsText (whole us) (Some b)
    by true i f = cc
    by false i f = subst (λ b. GrammarFinds l IsText (whole us) (Some b))
        (some_same (at_end l.syntax) b f)
        (CutShort us (good false _ (is_some _ (w ∷ end) e))
        (λ t. let a = (facts.grammar.accepts (all_seen l us)).1 t in
        let same : w ∷ end ≡ a.0 = some_same (w ∷ end) a.0 (sym e ∙ a.1) in
        let none : ends l (w ∷ end) ≡ None = ap (ends l) same ∙ a.2 in
        let some : ends l (w ∷ end) ≡ Some (at_end l.syntax) = rw i refl in
        cc))

  -- a token that is refused after tokens that are allowed
  refused_after : (before : List Lexeme) (u : Lexeme) (o : Bool) (stack : List W)
      → allowed l (l.opens (l.seen u)) (l.first ∷ []) (all_seen l before) ≡ Some stack
      → allowed l o stack (l.seen u ∷ []) ≡ None
      → allowed l o (l.first ∷ []) (all_seen l before ++ l.seen u ∷ []) ≡ None
  refused_after before u o stack e f =
      allowed_split l o (all_seen l before) (l.seen u ∷ []) (l.first ∷ [])
      ∙ ap (option_and_then (λ stack. allowed l o stack (l.seen u ∷ []))) e ∙ f

  finds : (s : S) (items : List Item) (found : Option (Breach K))
      → Stops l (l.first ∷ []) s items found
      → BreaksRule l IsText items found ⊎ GrammarFinds l IsText items found
  unfolding allowed
  finds s _ _ (Ended us end s' h) =
      inr (at_ends us end _ (walk_allowed l false us (l.first ∷ []) s (end, s') h) refl)
  finds s _ _ (AtByte before f following stack s' h) = inr (Strange before f following
      (good false _ (is_some _ stack (walk_allowed l false before _ s (stack, s') h))))
  finds s _ _ (AtToken before u following _ _ _ h (Spare s' _ o)) =
      let e = walk_allowed l (l.opens (l.seen u)) before (l.first ∷ []) s ([], s') h in
      inr (Wrong before u following (good _ _ (is_some _ [] e))
      (bad o _ (refused_after before u o [] e refl)))
  finds s _ _ (AtToken before u following _ _ _ h (NotAllowed w ws s' _ o f)) =
      let e = walk_allowed l (l.opens (l.seen u)) before (l.first ∷ []) s (w ∷ ws, s') h in
      inr (Wrong before u following (good _ _ (is_some _ (w ∷ ws) e))
      (bad o _ (refused_after before u o (w ∷ ws) e (rw f refl))))
  finds s _ _ (AtToken before u following _ _ k h (NotRight w ws front s' _ o _ f g)) =
      let e = walk_allowed l (l.opens (l.seen u)) before (l.first ∷ []) s (w ∷ ws, s') h in
      inl (Grammar_broken before u following k w s' o g
      (is_some _ (front ++ ws) (allowed_split l o (all_seen l before) (l.seen u ∷ []) _
      ∙ ap (option_and_then (λ stack. allowed l o stack (l.seen u ∷ []))) e ∙ rw f refl)))
    where
      Grammar_broken : (before : List Lexeme) (u : Lexeme) (following : List Item) (k : K) (w : W)
          (s' : S) (o : Bool) → l.rules w s' u o ≡ Err k
          → (allowed l o (l.first ∷ []) (all_seen l before ++ l.seen u ∷ []) ≡ None → ⊥)
          → BreaksRule l IsText (whole before ++ (Whole u ∷ following)) (Some (at_token u k))
      Grammar_broken before u following k w s' o g e =
          BreaksRule.Broken before u following k (facts.others w s' u o k g) (good o _ e)

  refused_here : (stack : List W) (u : Lexeme) (following : List Item) (o : Bool)
      → allowed l o stack (l.seen u ∷ []) ≡ None
      → breach_of (bare l) stack tt (Whole u ∷ following) ≡ Some (at_token u l.syntax)
  unfolding allowed breach_of
  refused_here [] u following o h = refl
  refused_here (w ∷ ws) u following o h =
      rw (facts.alike w (l.seen u) o (opens_next l following)
      (none_first (λ front. front ++ ws) (l.follow w (l.seen u) o) h)) refl

  cut : (us : List Lexeme) (end : List W)
      → allowed l false (l.first ∷ []) (all_seen l us) ≡ Some end → (IsText (all_seen l us) → ⊥)
      → ends l end ≡ Some (at_end l.syntax)
  cut us [] e n = absurd (n ((facts.grammar.accepts (all_seen l us)).0 ([], e, refl)))
  cut us (w ∷ end) e n = by (l.may_end w) refl where
    by : (m : Bool) → l.may_end w ≡ m → ends l (w ∷ end) ≡ Some (at_end l.syntax)
    by true i = absurd (n ((facts.grammar.accepts (all_seen l us)).0 (w ∷ end, e, rw i refl)))
    by false i = rw i refl

  is_found : (items : List Item) (found : Option (Breach K)) → GrammarFinds l IsText items found
      → breach_of (bare l) (l.first ∷ []) tt items ≡ found
  unfolding breach_of
  is_found _ _ (Text us t) =
      let a = (facts.grammar.accepts (all_seen l us)).1 t in
      goes_to_end l us (l.first ∷ []) a.0 a.1 ∙ a.2
  is_found _ _ (CutShort us v n) =
      let e = the_some _ (good_back false _ v) in
      goes_to_end l us (l.first ∷ []) e.0 e.1 ∙ cut us e.0 e.1 n
  is_found _ _ (Wrong before u following v n) =
      let e = the_some _ (good_back (l.opens (l.seen u)) _ v) in
      goes_on l before (Whole u ∷ following) (l.first ∷ []) e.0 e.1
      ∙ refused_here e.0 u following false
      (sym (allowed_split l false (all_seen l before) (l.seen u ∷ []) (l.first ∷ [])
      ∙ ap (option_and_then (λ stack. allowed l false stack (l.seen u ∷ []))) e.1)
      ∙ bad_back _ n)
  is_found _ _ (Strange before f following v) =
      let e = the_some _ (good_back false _ v) in
      goes_on l before (Bad f ∷ following) (l.first ∷ []) e.0 e.1

  pub syntax_is_the_grammars : (s : S) (items : List Item) → SyntaxIsTheGrammars l IsText s items
  syntax_is_the_grammars s items = record {
    first = finds s items (breach_of l (l.first ∷ []) s items) (stops l items (l.first ∷ []) s);
    one = λ a b g h. sym (is_found items a g) ∙ is_found items b h;
  }
