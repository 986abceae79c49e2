-- Where a query's text breaks a rule other than the grammar's.
use Rattle.scan_model.proofs.Common.{◌≡◌, ℕ, suc, ◌+◌, ◌^◌, ◌≤◌, ◌⊎◌, Bool, true, false, ◌&&◌, cond}
use Rattle.scan_model.proofs.Common.{leb, ltb, List, [], ◌∷◌, ◌++◌, Option, Some, None, refl, sym}
use Rattle.scan_model.proofs.Common.{◌∙◌, ap, subst, arith, inl, inr, append-nil, Result, Err}
use Rattle.scan_model.proofs.Common.{count_by, option_and_then, ◌||◌, AllByRecursion, WIDTH_MAX}
use Rattle.scan_model.proofs.Common.{nat_tests, sum_by-cons, Item, Lexeme, Bad, fits_name, Breach}
use Rattle.scan_model.proofs.Common.{allowed, all_seen}
use Rattle.std.specs.Prelude.{Ok, option_map, reverse}
use Rattle.std.proofs.lemmas.List.Sorted.{IsPermutation-reverse, sum_by-IsPermutation}
use Rattle.grammar.specs.Laws.{IsViable}
use Rattle.grammar.proofs.Walks.{RuleBroken, behind_reverse, first_decides, kept, rule_broken}
use Rattle.grammar.proofs.Walks.{walk_allowed}
use Rattle.grammar.proofs.Found.{allowed_split, good}
use Rattle.text_lex.specs.Lexical as lex
use Rattle.grammar.specs.Machine as machine
use Rattle.scan_model.specs.declared.QueryKind.{QueryKind}
use Rattle.scan_model.specs.declared.QueryKind.TheVariants as kind
use Rattle.scan_model.specs.Texts.{Word, Name, Number, Opens, Closes, Comma, OpensBits, Colon}
use Rattle.scan_model.specs.Texts.{ClosesBits, Other}
use Rattle.scan_model.specs.Texts.{Lead, Compares, Negates, Ands, Ors, lead_text}
use Rattle.scan_model.specs.Texts.{all_leads, lead_among, Wanted, Start, Open, Object, AtName}
use Rattle.scan_model.specs.Texts.{Low, AtLow, High, AtHigh, AtBits, Between}
use Rattle.scan_model.specs.Texts.{Bound, Close, wanted_after, Begun, tests_in, with_lead, fits}
use Rattle.scan_model.specs.Texts.{checked, started, rules_at, step, queries, breach_of}
use Rattle.scan_model.specs.Texts.{none_begun}
use Rattle.scan_model.specs.TextLaws.{IsText, StandsAt, BreaksName, BreaksNumber, BreaksCount}
use Rattle.scan_model.specs.TextLaws.{is_bad, is_opening, is_name}
use Rattle.scan_model.proofs.Grammar.{lead_is, among_text, facts}

-- ---- how many of the tokens that are wanted open a node, and how many name an object

abbrev opens_one : Wanted → ℕ
opens_one Open = 1
opens_one w = 0

abbrev opens_in : List Wanted → ℕ
opens_in [] = 0
opens_in (w ∷ wanted) = opens_one w + opens_in wanted

abbrev objects_one : Wanted → ℕ
objects_one Object = 1
objects_one w = 0

abbrev objects_in : List Wanted → ℕ
objects_in [] = 0
objects_in (w ∷ wanted) = objects_one w + objects_in wanted

-- after a query that is wanted neither is
abbrev IsTidy : List Wanted → Type 0
IsTidy [] = Unit {0}
IsTidy (Start ∷ wanted) = (opens_in wanted ≡ 0) × (objects_in wanted ≡ 0) × IsTidy wanted
IsTidy (w ∷ wanted) = IsTidy wanted

-- what stands before a token that is wanted, the last first
abbrev Follows : Wanted → List Word → Type 0
Follows Low past = (rest : List Word) × (past ≡ OpensBits ∷ rest)
Follows (AtLow low) past = (rest : List Word) × (past ≡ Number low ∷ rest)
Follows (High low) past = (rest : List Word) × (past ≡ Colon ∷ Number low ∷ rest)
Follows Bound past = (rest : List Word) × (past ≡ Comma ∷ rest)
Follows w past = Unit {0}

-- it may be wanted whatever stands before it
abbrev IsFree : Wanted → Type 0
IsFree Start = Unit {0}
IsFree Open = Unit {0}
IsFree Object = Unit {0}
IsFree Between = Unit {0}
IsFree Close = Unit {0}
IsFree w = ⊥

abbrev AreFree : List Wanted → Type 0
AreFree wanted = AllByRecursion IsFree wanted

-- what is wanted first follows these tokens, and all after it is free
abbrev Fitting : List Word → List Wanted → Type 0
Fitting past [] = Unit {0}
Fitting past (w ∷ wanted) = Follows w past × AreFree wanted

free_follows : (w : Wanted) (past : List Word) → IsFree w → Follows w past
free_follows Start past h = tt
free_follows Open past h = tt
free_follows Object past h = tt
free_follows Between past h = tt
free_follows Close past h = tt
free_follows _ past h = absurd h

free_fitting : (wanted : List Wanted) (past : List Word) → AreFree wanted → Fitting past wanted
free_fitting [] past h = tt
free_fitting (w ∷ wanted) past h = (free_follows w past h.0, h.1)

lead_free : (lead : Lead) (wanted : List Wanted) → AreFree wanted
    → AreFree (wanted_after lead ++ wanted)
lead_free (Compares op) wanted h = (tt, (tt, (tt, h)))
lead_free Negates wanted h = (tt, (tt, (tt, h)))
lead_free Ands wanted h = (tt, (tt, (tt, (tt, (tt, h)))))
lead_free Ors wanted h = (tt, (tt, (tt, (tt, (tt, h)))))

lead_opens : (lead : Lead) (wanted : List Wanted)
    → opens_in (wanted_after lead ++ wanted) ≡ suc (opens_in wanted)
lead_opens (Compares op) wanted = omega arith
lead_opens Negates wanted = omega arith
lead_opens Ands wanted = omega arith
lead_opens Ors wanted = omega arith

lead_objects : (lead : Lead) (wanted : List Wanted)
    → objects_in (wanted_after lead ++ wanted) ≡ tests_in lead + objects_in wanted
lead_objects (Compares op) wanted = omega arith
lead_objects Negates wanted = omega arith
lead_objects Ands wanted = omega arith
lead_objects Ors wanted = omega arith

lead_tidy : (lead : Lead) (wanted : List Wanted) → IsTidy (Start ∷ wanted)
    → IsTidy (wanted_after lead ++ wanted)
lead_tidy (Compares op) wanted t = t.2
lead_tidy Negates wanted t = (omega (arith, t.0), omega (arith, t.1), t.2)
lead_tidy Ands wanted t = (
  omega (arith, t.0),
  omega (arith, t.1),
  (omega (arith, t.0), omega (arith, t.1), t.2),
)
lead_tidy Ors wanted t = (
  omega (arith, t.0),
  omega (arith, t.1),
  (omega (arith, t.0), omega (arith, t.1), t.2),
)

-- ---- what holds before each token

record Kept (past : List Word) (stack : List Wanted) (s : Begun) : Type 0 where
  nodes : count_by is_opening past + opens_in stack ≡ s.nodes
  names : count_by is_name past + objects_in stack ≡ s.nodes + s.tests
  tidy : IsTidy stack
  fitting : Fitting past stack
  fit : fits s ≡ true

count_more : (test : Word → Bool) (word : Word) (words : List Word)
    → count_by test (word ∷ words) ≡ cond (test word) 1 0 + count_by test words
count_more test word words = sum_by-cons (λ (w : Word). cond (test w) 1 0) word words

-- a token after which the same has begun
next : (past : List Word) (word : Word) (w : Wanted) (wanted front : List Wanted) (s : Begun)
    → Kept past (w ∷ wanted) s
    → cond (is_opening word) 1 0 + opens_in (front ++ wanted) ≡ opens_in (w ∷ wanted)
    → cond (is_name word) 1 0 + objects_in (front ++ wanted) ≡ objects_in (w ∷ wanted)
    → IsTidy (front ++ wanted) → Fitting (word ∷ past) (front ++ wanted)
    → Kept (word ∷ past) (front ++ wanted) s
next past word w wanted front s k opened named tidy fitting =
    let more = count_more is_opening word past in
    let names = count_more is_name word past in
    let a = k.nodes in
    let b = k.names in
    record {
      nodes = omega (arith, more, a, opened);
      names = omega (arith, names, b, named);
      tidy = tidy;
      fitting = fitting;
      fit = k.fit;
    }

-- a token after which all that is wanted was wanted before
last : (past : List Word) (word : Word) (w : Wanted) (wanted : List Wanted) (s : Begun)
    → Kept past (w ∷ wanted) s → cond (is_opening word) 1 0 ≡ opens_one w
    → cond (is_name word) 1 0 ≡ objects_one w → IsTidy wanted → Kept (word ∷ past) wanted s
last past word w wanted s k opened named tidy =
    next past word w wanted [] s k (ap (λ n. n + opens_in wanted) opened)
    (ap (λ n. n + objects_in wanted) named) tidy
    (free_fitting wanted (word ∷ past) k.fitting.1)

-- what a step comes to
abbrev Keeps : Wanted → Word → Result (List Wanted × Begun) QueryKind → Begun → Type 0
Keeps w word (Err k) s = Unit {0}
Keeps w word (Ok r) s = (past : List Word) (wanted : List Wanted) → Kept past (w ∷ wanted) s
    → Kept (word ∷ past) (r.0 ++ wanted) r.1

by_rule : (w : Wanted) (word : Word) (front : List Wanted) (b : Bool) (s t : Begun)
    (k : QueryKind) → (b ≡ true → (past : List Word) (wanted : List Wanted)
    → Kept past (w ∷ wanted) s → Kept (word ∷ past) (front ++ wanted) t)
    → Keeps w word (machine.with_rules kind.Syntax (Some front) (checked b t k)) s
by_rule w word front true s t k h = h refl
by_rule w word front false s t k h = tt

lead_keeps : (lead : Lead) (s : Begun) (past : List Word) (wanted : List Wanted)
    → fits (with_lead s lead) ≡ true → Kept past (Start ∷ wanted) s
    → Kept (Name (lead_text lead) ∷ past) (wanted_after lead ++ wanted) (with_lead s lead)
lead_keeps lead s past wanted e k =
    let more = count_more is_opening (Name (lead_text lead)) past in
    let names = count_more is_name (Name (lead_text lead)) past in
    let opened = lead_opens lead wanted in
    let named = lead_objects lead wanted in
    let a = k.nodes in
    let b = k.names in
    record {
      nodes = omega (arith, more, opened, a);
      names = omega (arith, names, named, b);
      tidy = lead_tidy lead wanted k.tidy;
      fitting = free_fitting (wanted_after lead ++ wanted) (Name (lead_text lead) ∷ past)
          (lead_free lead wanted k.fitting.1);
      fit = e;
    }

step_keeps : (w : Wanted) (s : Begun) (word : Word) → Keeps w word (step w s word) s
step_keeps Start s (Name x) = by (lead_among all_leads x) refl where
  by : (found : Option Lead) → lead_among all_leads x ≡ found → Keeps Start (Name x)
      (machine.with_rules kind.Syntax (option_map wanted_after found) (started s found)) s
  by None e = tt
  by (Some lead) e = subst (λ y. Keeps Start (Name y) (machine.with_rules kind.Syntax
      (Some (wanted_after lead)) (started s (Some lead))) s) (sym (among_text all_leads x lead e))
      (by_rule Start (Name (lead_text lead)) (wanted_after lead) (fits (with_lead s lead)) s
      (with_lead s lead) kind.TooMany (λ f past wanted k. lead_keeps lead s past wanted f k))
step_keeps Open s Opens = λ past wanted k. last past Opens Open wanted s k refl refl k.tidy
step_keeps Object s (Name x) =
    by_rule Object (Name x) (AtName ∷ []) (fits_name x) s s kind.BadName
    (λ f past wanted k. next past (Name x) Object wanted (AtName ∷ []) s k (omega arith)
    (omega arith) k.tidy (tt, k.fitting.1))
step_keeps AtName s Comma = λ past wanted k. next past Comma AtName wanted (Bound ∷ []) s k
    (omega arith) (omega arith) k.tidy ((past, refl), k.fitting.1)
step_keeps AtName s OpensBits = λ past wanted k. next past OpensBits AtName wanted (Low ∷ []) s k
    (omega arith) (omega arith) k.tidy ((past, refl), k.fitting.1)
step_keeps Low s (Number v) =
    by_rule Low (Number v) (AtLow v ∷ []) (ltb v WIDTH_MAX) s s kind.BadNumber
    (λ f past wanted k. next past (Number v) Low wanted (AtLow v ∷ []) s k (omega arith)
    (omega arith) k.tidy ((past, refl), k.fitting.1))
step_keeps (AtLow low) s ClosesBits = λ past wanted k. next past ClosesBits (AtLow low) wanted
    (AtBits ∷ []) s k (omega arith) (omega arith) k.tidy (tt, k.fitting.1)
step_keeps (AtLow low) s Colon = λ past wanted k. next past Colon (AtLow low) wanted
    (High low ∷ []) s k (omega arith) (omega arith) k.tidy
    ((k.fitting.0.0, ap (λ ws. Colon ∷ ws) k.fitting.0.1), k.fitting.1)
step_keeps (High low) s (Number v) =
    by_rule (High low) (Number v) (AtHigh ∷ []) (ltb low v && leb v WIDTH_MAX) s s kind.BadNumber
    (λ f past wanted k. next past (Number v) (High low) wanted (AtHigh ∷ []) s k (omega arith)
    (omega arith) k.tidy (tt, k.fitting.1))
step_keeps AtHigh s ClosesBits = λ past wanted k. next past ClosesBits AtHigh wanted
    (AtBits ∷ []) s k (omega arith) (omega arith) k.tidy (tt, k.fitting.1)
step_keeps AtBits s Comma = λ past wanted k. next past Comma AtBits wanted (Bound ∷ []) s k
    (omega arith) (omega arith) k.tidy ((past, refl), k.fitting.1)
step_keeps Between s Comma = λ past wanted k. last past Comma Between wanted s k refl refl k.tidy
step_keeps Bound s (Number v) =
    by_rule Bound (Number v) [] (ltb v (2 ^ 128)) s s kind.BadNumber
    (λ f past wanted k. last past (Number v) Bound wanted s k refl refl k.tidy)
step_keeps Close s Closes = λ past wanted k. last past Closes Close wanted s k refl refl k.tidy
step_keeps _ s Other = tt
step_keeps _ s _ = tt

keeps_ok : (w : Wanted) (s t : Begun) (word : Word) (front : List Wanted)
    (r : Result (List Wanted × Begun) QueryKind) → r ≡ Ok (front, t) → Keeps w word r s
    → Keeps w word (Ok (front, t)) s
keeps_ok w s t word front r e h = subst (λ x. Keeps w word x s) e h

kept_at : (items : List Item) (b : Breach QueryKind)
    (at : RuleBroken queries (Start ∷ []) none_begun items b)
    → Kept (reverse (all_seen queries at.before)) (at.w ∷ at.stack) at.stands
kept_at items b at =
    subst (λ past. Kept past (at.w ∷ at.stack) at.stands)
    (behind_reverse (all_seen queries at.before) [] ∙ append-nil _)
    (kept queries Kept (λ past w ws front s t u o h e.
    keeps_ok w s t (queries.seen u) front (step w s (queries.seen u)) e
    (step_keeps w s (queries.seen u)) past ws h) false at.before [] (Start ∷ []) none_begun
    (at.w ∷ at.stack, at.stands) at.walked (record {
      nodes = refl;
      names = refl;
      tidy = (refl, refl, tt);
      fitting = (tt, tt);
      fit = refl;
    }))

-- ---- the first fault decides

shut : (items : List Item) → machine.opens_next queries items ≡ false
shut [] = refl
shut (Bad f ∷ items) = refl
shut (lex.Whole u ∷ items) = refl

pub stays : (items more : List Item) (b : Breach QueryKind) (place : ℕ)
    → breach_of (Start ∷ []) none_begun items ≡ Some b → b.at ≡ Some place
    → breach_of (Start ∷ []) none_begun (items ++ more) ≡ Some b
stays items more b place h e = first_decides queries none_begun items more b place (shut more) h e

-- ---- the token at fault

abbrev At : List Item → Breach QueryKind → Type 0
At items b = RuleBroken queries (Start ∷ []) none_begun items b

stands : (items : List Item) (b : Breach QueryKind) (word : Word) (at : At items b)
    → word ≡ queries.seen at.token → StandsAt items b.at (all_seen queries at.before) word
stands items b word at e = record {
  front = at.before;
  token = at.token;
  others = at.others;
  parts = at.parts;
  place = at.place;
  before_is = refl;
  word_is = e;
}

-- where the grammar allows more after these tokens
viable_with : (items : List Item) (b : Breach QueryKind) (at : At items b) (more : List Word)
    (rest : List Wanted) → allowed queries false (at.w ∷ at.stack) more ≡ Some rest
    → IsViable IsText (all_seen queries at.before ++ more)
viable_with items b at more rest e =
    good queries IsText facts false (all_seen queries at.before ++ more) (is_some
    (allowed_split queries false (all_seen queries at.before) more (Start ∷ [])
    ∙ ap (option_and_then (λ t. allowed queries false t more))
    (flag more ∙ walk_allowed queries false at.before (Start ∷ []) none_begun
    (at.w ∷ at.stack, at.stands) at.walked) ∙ e)) where
      is_some : {o : Option (List Wanted)} → o ≡ Some rest → o ≡ None → ⊥
      is_some e f = cc

      flag : (more : List Word) → allowed queries (machine.opens_or queries false more) (Start ∷ [])
          (all_seen queries at.before)
          ≡ allowed queries false (Start ∷ []) (all_seen queries at.before)
      flag [] = refl
      flag (u ∷ us) = refl

-- a number that is wanted there, and not this one
abbrev IsWrong : Wanted → ℕ → Type 0
IsWrong Low v = ltb v WIDTH_MAX ≡ false
IsWrong (High low) v = (ltb low v && leb v WIDTH_MAX) ≡ false
IsWrong Bound v = ltb v (2 ^ 128) ≡ false
IsWrong w v = ⊥

-- what is told of a token that breaks a rule
abbrev Fault : Wanted → Begun → Word → QueryKind → Type 0
Fault w s word kind.BadName = (x : List ℕ) × (w ≡ Object) × (word ≡ Name x)
    × (fits_name x ≡ false)
Fault w s word kind.BadNumber = (v : ℕ) × (word ≡ Number v) × IsWrong w v
Fault w s word kind.TooMany = (lead : Lead) × (w ≡ Start) × (word ≡ Name (lead_text lead))
    × (fits (with_lead s lead) ≡ false)
Fault w s word k = Unit {0}

not_met : (b : Bool) (s t : Begun) (w : Wanted) (word : Word) (k found : QueryKind)
    → (b ≡ false → Fault w s word k) → checked b t k ≡ Err found → Fault w s word found
not_met true s t w word k found h e = cc
not_met false s t w word k found h e = let same : k ≡ found = cc in
    subst (Fault w s word) same (h refl)

fault_is : (w : Wanted) (s : Begun) (word : Word) (k : QueryKind) → rules_at w s word ≡ Err k
    → Fault w s word k
fault_is Start s (Name x) k e = by (lead_among all_leads x) refl e where
  by : (found : Option Lead) → lead_among all_leads x ≡ found → started s found ≡ Err k
      → Fault Start s (Name x) k
  by None f e = cc
  by (Some lead) f e = not_met (fits (with_lead s lead)) s (with_lead s lead) Start (Name x)
      kind.TooMany k (λ g. (lead, refl, ap (λ y. Name y) (among_text all_leads x lead f), g)) e
fault_is Object s (Name x) k e = not_met (fits_name x) s s Object (Name x) kind.BadName k
    (λ g. (x, refl, refl, g)) e
fault_is Low s (Number v) k e = not_met (ltb v WIDTH_MAX) s s Low (Number v) kind.BadNumber k
    (λ g. (v, refl, g)) e
fault_is (High low) s (Number v) k e = not_met (ltb low v && leb v WIDTH_MAX) s s (High low)
    (Number v) kind.BadNumber k (λ g. (v, refl, g)) e
fault_is Bound s (Number v) k e = not_met (ltb v (2 ^ 128)) s s Bound (Number v) kind.BadNumber k
    (λ g. (v, refl, g)) e
fault_is Open s Other k e = cc
fault_is AtName s Other k e = cc
fault_is (AtLow low) s Other k e = cc
fault_is AtHigh s Other k e = cc
fault_is AtBits s Other k e = cc
fault_is Between s Other k e = cc
fault_is Close s Other k e = cc
fault_is _ s _ k e = cc

-- the kinds that are told of a token that the grammar allows
abbrev IsRule : QueryKind → Type 0
IsRule kind.Lex = ⊥
IsRule kind.Syntax = ⊥
IsRule k = Unit {0}

fault_of : (items : List Item) (b : Breach QueryKind) (k : QueryKind) → IsRule k
    → breach_of (Start ∷ []) none_begun items ≡ Some b → b.kind ≡ k
    → (at : At items b) × Fault at.w at.stands (queries.seen at.token) k
fault_of items b k rule h e =
    let at : At items b = rule_broken queries (Start ∷ []) none_begun items b h
    (λ f. subst IsRule (sym e ∙ f) rule) (λ f. subst IsRule (sym e ∙ f) rule) in (
      at,
      subst (Fault at.w at.stands (queries.seen at.token)) e
          (fault_is at.w at.stands (queries.seen at.token) b.kind at.breaks),
    )

pub name_faults : (items : List Item) (b : Breach QueryKind)
    → breach_of (Start ∷ []) none_begun items ≡ Some b → b.kind ≡ kind.BadName
    → BreaksName items b.at
unfolding allowed
name_faults items b h e =
    let (at, wrong) = fault_of items b kind.BadName tt h e in
    record {
      before = all_seen queries at.before;
      name = wrong.0;
      stands = stands items b (Name wrong.0) at (sym wrong.2);
      viable = viable_with items b at (Name wrong.0 ∷ []) (AtName ∷ at.stack)
          (ap (λ (w : Wanted). allowed queries false (w ∷ at.stack) (Name wrong.0 ∷ [])) wrong.1);
      long = wrong.3;
    }

over : (a b : ℕ) → ltb a b ≡ false → leb b a ≡ true
over a b h = grind (arith, nat_tests)

not_between : (low v top : ℕ) → (ltb low v && leb v top) ≡ false → (leb v low || ltb top v) ≡ true
not_between low v top h = by_case (ltb low v) (leb v top) refl refl h where
  by_case : (a b : Bool) → ltb low v ≡ a → leb v top ≡ b → (a && b) ≡ false
      → (leb v low || ltb top v) ≡ true
  by_case true true e f h = absurd (cc)
  by_case true false e f h = rw (past v top f) (or_right (leb v low)) where
    past : (a b : ℕ) → leb a b ≡ false → ltb b a ≡ true
    past a b h = grind (arith, nat_tests)

    or_right : (a : Bool) → (a || true) ≡ true
    or_right true = refl
    or_right false = refl
  by_case false b e f h = rw (over low v e) refl

-- a number that is wanted after these tokens, and not this one
wrong_is_bad : (w : Wanted) (v : ℕ) (past : List Word) → Follows w past → IsWrong w v
    → is_bad past v ≡ true
wrong_is_bad Low v past f h = rw (f.1) (over v WIDTH_MAX h)
wrong_is_bad (High low) v past f h = rw (f.1) (not_between low v WIDTH_MAX h)
wrong_is_bad Bound v past f h = rw (f.1) (over v (2 ^ 128) h)
wrong_is_bad _ v past f h = absurd h

-- the grammar allows a number there
wrong_allowed : (w : Wanted) (v : ℕ) (stack : List Wanted) → IsWrong w v → (rest : List Wanted)
    × (allowed queries false (w ∷ stack) (Number v ∷ []) ≡ Some rest)
unfolding allowed
wrong_allowed Low v stack h = (AtLow v ∷ stack, refl)
wrong_allowed (High low) v stack h = (AtHigh ∷ stack, refl)
wrong_allowed Bound v stack h = (stack, refl)
wrong_allowed _ v stack h = absurd h

pub number_faults : (items : List Item) (b : Breach QueryKind)
    → breach_of (Start ∷ []) none_begun items ≡ Some b → b.kind ≡ kind.BadNumber
    → BreaksNumber items b.at
number_faults items b h e =
    let (at, wrong) = fault_of items b kind.BadNumber tt h e in
    let may = wrong_allowed at.w wrong.0 at.stack wrong.2 in
    record {
      before = all_seen queries at.before;
      number = wrong.0;
      stands = stands items b (Number wrong.0) at (sym wrong.1);
      viable = viable_with items b at (Number wrong.0 ∷ []) may.0 may.1;
      bad = wrong_is_bad at.w wrong.0 (reverse (all_seen queries at.before))
          (kept_at items b at).fitting.0 wrong.2;
    }

lead_allowed : (lead : Lead) (stack : List Wanted) → (rest : List Wanted)
    × (allowed queries false (Start ∷ stack) (Name (lead_text lead) ∷ Opens ∷ []) ≡ Some rest)
unfolding allowed
lead_allowed (Compares op) stack = (
  Object ∷ Close ∷ stack,
  rw (lead_is (Compares op)) refl,
)
lead_allowed Negates stack = (Start ∷ Close ∷ stack, refl)
lead_allowed Ands stack = (Start ∷ Between ∷ Start ∷ Close ∷ stack, refl)
lead_allowed Ors stack = (Start ∷ Between ∷ Start ∷ Close ∷ stack, refl)

-- what begins is one too many
few_before : (nodes tests more : ℕ) → more ≤ 1 → (leb nodes 64 && leb tests 32) ≡ true
    → (leb (nodes + 1) 64 && leb (tests + more) 32) ≡ false
    → (nodes ≡ 64) ⊎ (more ≡ 1) × (tests ≡ 32)
few_before nodes tests more l h k =
    by_tests (leb nodes 64) (leb tests 32) (leb (nodes + 1) 64) (leb (tests + more) 32) refl refl
    refl refl h k where
      full : (n : ℕ) → leb n 64 ≡ true → leb (n + 1) 64 ≡ false → n ≡ 64
      full n e f = grind (arith, nat_tests)

      over : (t m : ℕ) → m ≤ 1 → leb t 32 ≡ true → leb (t + m) 32 ≡ false → (m ≡ 1) × (t ≡ 32)
      over t m l e f = (grind (arith, nat_tests), grind (arith, nat_tests))

      by_tests : (a b c d : Bool) → leb nodes 64 ≡ a → leb tests 32 ≡ b
          → leb (nodes + 1) 64 ≡ c → leb (tests + more) 32 ≡ d → (a && b) ≡ true
          → (c && d) ≡ false → (nodes ≡ 64) ⊎ (more ≡ 1) × (tests ≡ 32)
      by_tests true true false d p q r s h k = inl (full nodes p r)
      by_tests true true true false p q r s h k = inr (over tests more l q s)
      by_tests true true true true p q r s h k = absurd (cc)
      by_tests true false c d p q r s h k = absurd (cc)
      by_tests false b c d p q r s h k = absurd (cc)

one_test : (lead : Lead) → tests_in lead ≤ 1
one_test (Compares op) = omega arith
one_test Negates = omega arith
one_test Ands = omega arith
one_test Ors = omega arith

-- in place of the nodes and the tests that have begun, their tokens
counted : (nodes tests opened named more : ℕ) → opened ≡ nodes → named ≡ nodes + tests
    → (nodes ≡ 64) ⊎ (more ≡ 1) × (tests ≡ 32)
    → (opened ≡ 64) ⊎ (more ≡ 1) × (named ≡ opened + 32)
counted nodes tests opened named more e f (inl n) = inl (e ∙ n)
counted nodes tests opened named more e f (inr t) =
    let l = t.1 in inr (t.0, omega (arith, e, f, l))

count_reverse : (test : Word → Bool) (words : List Word)
    → count_by test (reverse words) ≡ count_by test words
count_reverse test words = sum_by-IsPermutation (λ (w : Word). cond (test w) 1 0) words
    (reverse words) (IsPermutation-reverse words)

pub count_faults : (items : List Item) (b : Breach QueryKind)
    → breach_of (Start ∷ []) none_begun items ≡ Some b → b.kind ≡ kind.TooMany
    → BreaksCount items b.at
count_faults items b h e =
    let (at, wrong) = fault_of items b kind.TooMany tt h e in
    let words = all_seen queries at.before in
    let k : Kept (reverse words) (Start ∷ at.stack) at.stands =
    subst (λ (w : Wanted). Kept (reverse words) (w ∷ at.stack) at.stands) wrong.1
    (kept_at items b at) in
    let nodes = k.nodes in
    let names = k.names in
    let none_open = k.tidy.0 in
    let none_named = k.tidy.1 in
    let all_open = count_reverse is_opening words in
    let all_named = count_reverse is_name words in
    let lead = wrong.0 in
    let may = lead_allowed lead at.stack in
    record {
      before = words;
      lead = lead;
      stands = stands items b (Name (lead_text lead)) at (sym wrong.2);
      viable = viable_with items b at (Name (lead_text lead) ∷ Opens ∷ []) may.0
          (ap (λ (w : Wanted). allowed queries false (w ∷ at.stack) (Name (lead_text lead) ∷ Opens
          ∷ [])) wrong.1 ∙ may.1);
      full = counted at.stands.nodes at.stands.tests (count_by is_opening words)
          (count_by is_name words) (tests_in lead)
          (omega (arith, all_open, nodes, none_open))
          (omega (arith, all_named, names, none_named))
          (few_before at.stands.nodes at.stands.tests (tests_in lead) (one_test lead) k.fit
          wrong.3);
    }
