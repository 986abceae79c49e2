-- The grammar of queries allows what spells them.
use Rattle.scan_model.proofs.Common.{◌≡◌, ℕ, zero, suc, ◌<◌, ◌≤◌, Bool, true, false, cond, List, []}
use Rattle.scan_model.proofs.Common.{◌∷◌, ◌++◌, length, Option, Some, None, refl, sym, ◌∙◌, ap}
use Rattle.scan_model.proofs.Common.{subst, arith, Err, codes, option_and_then, bytes_eq}
use Rattle.scan_model.proofs.Common.{same_bytes, allowed}
use Rattle.std.specs.Prelude.{option_map}
use Rattle.grammar.specs.Laws.{IsAccepted, IsOther}
use Rattle.grammar.proofs.Complete.{Completes, is_the_grammar}
use Rattle.grammar.proofs.Found.{Facts}
use Rattle.scan_model.specs.declared.CmpOp.TheVariants as cmp
use Rattle.scan_model.specs.declared.QueryKind.{QueryKind}
use Rattle.scan_model.specs.declared.QueryKind.TheVariants as kind
use Rattle.scan_model.specs.Queries.{Operand, Whole, Bit, Bits}
use Rattle.scan_model.specs.Queries.{Query, Compare, Negate, Both, Either}
use Rattle.scan_model.specs.Texts.{Word, Name, Number, Opens, Closes, Comma, OpensBits, Colon}
use Rattle.scan_model.specs.Texts.{ClosesBits, Other}
use Rattle.scan_model.specs.Texts.{Lead, Compares, Negates, Ands, Ors, lead_text, all_leads}
use Rattle.scan_model.specs.Texts.{lead_among, Wanted, Start, Open, Object, AtName, Low, AtLow}
use Rattle.scan_model.specs.Texts.{High, AtHigh, AtBits, Between, Bound, Close, wanted_after}
use Rattle.scan_model.specs.Texts.{Begun, checked, started, rules_at, queries, in_front}
use Rattle.scan_model.specs.Texts.{spelled}
use Rattle.scan_model.specs.TextLaws.{IsText}

pub lead_is : (lead : Lead) → lead_among all_leads (lead_text lead) ≡ Some lead
lead_is (Compares cmp.Eq) = refl
lead_is (Compares cmp.Gt) = refl
lead_is (Compares cmp.Ge) = refl
lead_is (Compares cmp.Lt) = refl
lead_is (Compares cmp.Le) = refl
lead_is Negates = refl
lead_is Ands = refl
lead_is Ors = refl

among_case : (b : Bool) (l lead : Lead) (x : List ℕ) (found : Option Lead)
    → bytes_eq x (lead_text l) ≡ b → (found ≡ Some lead → x ≡ lead_text lead)
    → cond b (Some l) found ≡ Some lead → x ≡ lead_text lead
among_case true l lead x found e go h = same_bytes x (lead_text l) e ∙ ap lead_text (same h) where
  same : Some l ≡ Some lead → l ≡ lead
  same h = cc
among_case false l lead x found e go h = go h

pub among_text : (leads : List Lead) (x : List ℕ) (lead : Lead) → lead_among leads x ≡ Some lead
    → x ≡ lead_text lead
among_text [] x lead h = cc
among_text (l ∷ leads) x lead h = among_case (bytes_eq x (lead_text l)) l lead x
    (lead_among leads x) refl (among_text leads x lead) h

-- what the grammar wants after tokens
abbrev after : List Wanted → List Word → Option (List Wanted)
after wanted words = allowed queries false wanted words

-- the grammar allows what is spelled
runs : (q : Query) (wanted : List Wanted) (rest : List Word)
    → after (Start ∷ wanted) (spelled q rest) ≡ after wanted rest
unfolding allowed
runs (Compare op (Whole x) v) wanted rest = rw (lead_is (Compares op)) refl
runs (Compare op (Bit x k) v) wanted rest = rw (lead_is (Compares op)) refl
runs (Compare op (Bits x low high) v) wanted rest = rw (lead_is (Compares op)) refl
runs (Negate a) wanted rest = runs a (Close ∷ wanted) (Closes ∷ rest)
runs (Both a b) wanted rest = runs a (Between ∷ Start ∷ Close ∷ wanted)
    (Comma ∷ spelled b (Closes ∷ rest)) ∙ runs b (Close ∷ wanted) (Closes ∷ rest)
runs (Either a b) wanted rest = runs a (Between ∷ Start ∷ Close ∷ wanted)
    (Comma ∷ spelled b (Closes ∷ rest)) ∙ runs b (Close ∷ wanted) (Closes ∷ rest)

-- ---- what is allowed is spelled

-- these tokens, and what is left after them
record Past (text : List Word → List Word) (wanted : List Wanted) (words : List Word) : Type 0 where
  rest : List Word
  is : words ≡ text rest
  goes_on : after wanted rest ≡ Some []

close_at : (wanted : List Wanted) (words : List Word) → after (Close ∷ wanted) words ≡ Some []
    → Past (λ rest. Closes ∷ rest) wanted words
unfolding allowed
close_at wanted (Closes ∷ rest) h = record { rest = rest; is = refl; goes_on = h }
close_at wanted _ h = cc

comma_at : (wanted : List Wanted) (words : List Word) → after (Between ∷ wanted) words ≡ Some []
    → Past (λ rest. Comma ∷ rest) wanted words
unfolding allowed
comma_at wanted (Comma ∷ rest) h = record { rest = rest; is = refl; goes_on = h }
comma_at wanted _ h = cc

bound_at : (wanted : List Wanted) (words : List Word)
    → after (Bound ∷ Close ∷ wanted) words ≡ Some [] → (v : ℕ)
    × Past (λ rest. Number v ∷ Closes ∷ rest) wanted words
unfolding allowed
bound_at wanted (Number v ∷ Closes ∷ rest) h = (v, record { rest = rest; is = refl; goes_on = h })
bound_at wanted _ h = cc

operand_at : (x : List ℕ) (wanted : List Wanted) (words : List Word)
    → after (AtName ∷ wanted) words ≡ Some [] → (o : Operand)
    × Past (λ rest. in_front o (Comma ∷ rest)) (Bound ∷ wanted) (Name x ∷ words)
unfolding allowed
operand_at x wanted (Comma ∷ rest) h =
    (Whole x, record { rest = rest; is = refl; goes_on = h })
operand_at x wanted (OpensBits ∷ Number k ∷ ClosesBits ∷ Comma ∷ rest) h =
    (Bit x k, record { rest = rest; is = refl; goes_on = h })
operand_at x wanted (OpensBits ∷ Number k ∷ Colon ∷ Number j ∷ ClosesBits ∷ Comma ∷ rest) h =
    (Bits x k j, record { rest = rest; is = refl; goes_on = h })
operand_at x wanted _ h = cc

shorter : (o : Operand) (rest : List Word) → length rest < length (in_front o (Comma ∷ rest))
shorter (Whole x) rest = omega arith
shorter (Bit x k) rest = omega arith
shorter (Bits x low high) rest = omega arith

record Parsed (wanted : List Wanted) (words : List Word) : Type 0 where
  query : Query
  rest : List Word
  is : words ≡ spelled query rest
  goes_on : after wanted rest ≡ Some []
  less : length rest < length words

abbrev Parses : ℕ → Type 0
Parses fuel = (wanted : List Wanted) (words : List Word) → length words ≤ fuel
    → after (Start ∷ wanted) words ≡ Some [] → Parsed wanted words

-- two queries after their first word
two_at : (fuel : ℕ) → Parses fuel → (wanted : List Wanted) (words : List Word)
    → length words ≤ fuel → after (Start ∷ Between ∷ Start ∷ Close ∷ wanted) words ≡ Some []
    → (a b : Query) × (rest : List Word) × (words ≡ spelled a (Comma ∷ spelled b (Closes ∷ rest)))
    × (after wanted rest ≡ Some []) × (length rest < length words)
two_at fuel go wanted words l h =
    let a = go (Between ∷ Start ∷ Close ∷ wanted) words l h in
    let c = comma_at (Start ∷ Close ∷ wanted) a.rest a.goes_on in
    let n = ap length c.is in
    let b = go (Close ∷ wanted) c.rest (omega (arith, l, a.less, n)) c.goes_on in
    let d = close_at wanted b.rest b.goes_on in
    let m = ap length d.is in (
      a.query,
      b.query,
      d.rest,
      a.is ∙ ap (spelled a.query) (c.is ∙ ap (λ ws. Comma ∷ ws)
          (b.is ∙ ap (spelled b.query) d.is)),
      d.goes_on,
      omega (arith, a.less, n, b.less, m),
    )

by_lead : (fuel : ℕ) → Parses fuel → (lead : Lead) (wanted : List Wanted) (words : List Word)
    → length words ≤ fuel → after (wanted_after lead ++ wanted) words ≡ Some []
    → Parsed wanted (Name (lead_text lead) ∷ words)
unfolding allowed
by_lead fuel go (Compares op) wanted (Opens ∷ Name x ∷ words) l h =
    let o = operand_at x (Close ∷ wanted) words h in
    let b = bound_at wanted o.1.rest o.1.goes_on in
    let n = ap length o.1.is in
    let m = ap length b.1.is in
    let s = shorter o.0 o.1.rest in
    record {
      query = Compare op o.0 b.0;
      rest = b.1.rest;
      is = ap (λ ws. Name (lead_text (Compares op)) ∷ Opens ∷ ws) (o.1.is
          ∙ ap (λ ws. in_front o.0 (Comma ∷ ws)) b.1.is);
      goes_on = b.1.goes_on;
      less = omega (arith, n, m, s);
    }
by_lead fuel go Negates wanted (Opens ∷ words) l h =
    let a = go (Close ∷ wanted) words (omega (arith, l)) h in
    let c = close_at wanted a.rest a.goes_on in
    let n = ap length c.is in
    record {
      query = Negate a.query;
      rest = c.rest;
      is = ap (λ ws. Name (codes "not") ∷ Opens ∷ ws) (a.is ∙ ap (spelled a.query) c.is);
      goes_on = c.goes_on;
      less = omega (arith, a.less, n);
    }
by_lead fuel go Ands wanted (Opens ∷ words) l h =
    let (a, b, rest, is, goes, less) = two_at fuel go wanted words (omega (arith, l)) h in
    record {
      query = Both a b;
      rest = rest;
      is = ap (λ ws. Name (codes "and") ∷ Opens ∷ ws) is;
      goes_on = goes;
      less = omega (arith, less);
    }
by_lead fuel go Ors wanted (Opens ∷ words) l h =
    let (a, b, rest, is, goes, less) = two_at fuel go wanted words (omega (arith, l)) h in
    record {
      query = Either a b;
      rest = rest;
      is = ap (λ ws. Name (codes "or") ∷ Opens ∷ ws) is;
      goes_on = goes;
      less = omega (arith, less);
    }
by_lead fuel go _ wanted _ l h = cc

parses : (fuel : ℕ) → Parses fuel
unfolding allowed
parses zero wanted (w ∷ words) l h = absurd (omega (arith, l))
parses (suc fuel) wanted (Name x ∷ words) l h = by (parses fuel) (lead_among all_leads x) refl h where
  by : Parses fuel → (found : Option Lead) → lead_among all_leads x ≡ found
      → option_and_then (λ front. after (front ++ wanted) words) (option_map wanted_after found)
      ≡ Some [] → Parsed wanted (Name x ∷ words)
  by go None e h = cc
  by go (Some lead) e h = subst (λ y. Parsed wanted (Name y ∷ words))
      (sym (among_text all_leads x lead e))
      (by_lead fuel go lead wanted words (omega (arith, l)) h)
parses fuel wanted _ l h = cc

nothing_more : (words : List Word) → after [] words ≡ Some [] → words ≡ []
unfolding allowed
nothing_more [] h = refl
nothing_more (w ∷ words) h = cc

ended : (end : List Wanted) → Rattle.grammar.specs.Machine.ends queries end ≡ None → end ≡ []
ended [] e = refl
ended (w ∷ end) e = cc

back : (words : List Word) → IsAccepted queries words → IsText words
back words (end, e, f) =
    let p = parses (length words) [] words (omega arith) (e ∙ ap (λ w. Some w) (ended end f)) in
    (p.query, p.is ∙ ap (spelled p.query) (nothing_more p.rest p.goes_on))

forth : (words : List Word) → IsText words → IsAccepted queries words
unfolding allowed
forth words (q, e) = ([], ap (after (Start ∷ [])) e ∙ runs q [] [], refl)

-- ---- what is allowed can be completed

-- the shortest way to give what is wanted
fill_one : Wanted → List Word → List Word
fill_one Start rest = Name (codes "eq") ∷ Opens ∷ Name [] ∷ Comma ∷ Number 0 ∷ Closes ∷ rest
fill_one Open rest = Opens ∷ rest
fill_one Object rest = Name [] ∷ Comma ∷ Number 0 ∷ rest
fill_one AtName rest = Comma ∷ Number 0 ∷ rest
fill_one Low rest = Number 0 ∷ ClosesBits ∷ Comma ∷ Number 0 ∷ rest
fill_one (AtLow low) rest = ClosesBits ∷ Comma ∷ Number 0 ∷ rest
fill_one (High low) rest = Number 0 ∷ ClosesBits ∷ Comma ∷ Number 0 ∷ rest
fill_one AtHigh rest = ClosesBits ∷ Comma ∷ Number 0 ∷ rest
fill_one AtBits rest = Comma ∷ Number 0 ∷ rest
fill_one Between rest = Comma ∷ rest
fill_one Bound rest = Number 0 ∷ rest
fill_one Close rest = Closes ∷ rest

fill : List Wanted → List Word
fill [] = []
fill (w ∷ wanted) = fill_one w (fill wanted)

filled : (wanted : List Wanted) → after wanted (fill wanted) ≡ Some []
unfolding allowed fill fill_one
filled [] = refl
filled (Start ∷ wanted) = filled wanted
filled (Open ∷ wanted) = filled wanted
filled (Object ∷ wanted) = filled wanted
filled (AtName ∷ wanted) = filled wanted
filled (Low ∷ wanted) = filled wanted
filled (AtLow low ∷ wanted) = filled wanted
filled (High low ∷ wanted) = filled wanted
filled (AtHigh ∷ wanted) = filled wanted
filled (AtBits ∷ wanted) = filled wanted
filled (Between ∷ wanted) = filled wanted
filled (Bound ∷ wanted) = filled wanted
filled (Close ∷ wanted) = filled wanted

completes : Completes queries
completes = record {
  Fine = λ o wanted. Unit {0};
  first = λ o. tt;
  keeps = λ w ws front u o fine e. tt;
  finish = fill;
  finishes = λ wanted fine. ([], filled wanted, refl);
  last = λ w ws front u fine e. e;
}

-- a rule that is not met is another than the grammar's
not_right : (b : Bool) (s : Begun) (k found : QueryKind) → IsOther queries k
    → checked b s k ≡ Err found → IsOther queries found
not_right true s k found other e = cc
not_right false s k found other e = let same : k ≡ found = cc in
    subst (IsOther queries) same other

name_is_other : IsOther queries kind.BadName
name_is_other = (λ e. cc, λ e. cc)

number_is_other : IsOther queries kind.BadNumber
number_is_other = (λ e. cc, λ e. cc)

count_is_other : IsOther queries kind.TooMany
count_is_other = (λ e. cc, λ e. cc)

others : (w : Wanted) (s : Begun) (word : Word) (k : QueryKind) → rules_at w s word ≡ Err k
    → IsOther queries k
others Start s (Name x) k e = by (lead_among all_leads x) e where
  by : (o : Option Lead) → started s o ≡ Err k → IsOther queries k
  by None e = cc
  by (Some lead) e = not_right _ _ kind.TooMany k count_is_other e
others Object s (Name x) k e = not_right _ s kind.BadName k name_is_other e
others Low s (Number v) k e = not_right _ s kind.BadNumber k number_is_other e
others (High low) s (Number v) k e = not_right _ s kind.BadNumber k number_is_other e
others Bound s (Number v) k e = not_right _ s kind.BadNumber k number_is_other e
others Open s Other k e = cc
others AtName s Other k e = cc
others (AtLow low) s Other k e = cc
others AtHigh s Other k e = cc
others AtBits s Other k e = cc
others Between s Other k e = cc
others Close s Other k e = cc
others _ s _ k e = cc

pub facts : Facts queries IsText
facts = record {
  grammar = is_the_grammar queries completes IsText (λ w u o p e. e) back forth;
  alike = λ w u o p e. e;
  others = λ w s t o k e. others w s (queries.seen t) k e;
}
