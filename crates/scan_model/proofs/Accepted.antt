-- Accepted are the spellings of queries within the limits.
use Rattle.scan_model.proofs.Common.{◌≡◌, ℕ, ◌+◌, ◌^◌, ◌<◌, ◌≤◌, Bool, true, false, ◌&&◌, leb, ltb}
use Rattle.scan_model.proofs.Common.{List, [], ◌∷◌, ◌++◌, drop, Option, Some, None, Result, refl}
use Rattle.scan_model.proofs.Common.{sym, ◌∙◌, ap, arith, ◌⊎◌, inl, inr, nat_tests, Item, Lexeme}
use Rattle.scan_model.proofs.Common.{Bad, fits_name, Breach, all_seen, syntax_is_the_grammars}
use Rattle.scan_model.proofs.Common.{WIDTH_MAX}
use Rattle.std.proofs.lemmas.Bool.{and_parts}
use Rattle.std.proofs.Common.{Ok, Err}
use Rattle.std.specs.Prelude.{◌↔◌}
use Rattle.text_lex.specs.Lexical.{Whole as Read}
use Rattle.grammar.specs.Laws.{BreaksRule, GrammarFinds, Broken, Text, CutShort, Wrong, Strange}
use Rattle.grammar.specs.Laws.{whole}
use Rattle.grammar.specs.Machine as machine
use Rattle.scan_model.specs.declared.CmpOp.{CmpOp}
use Rattle.scan_model.specs.declared.QueryKind.{QueryKind}
use Rattle.scan_model.specs.declared.QueryKind.TheVariants as kind
use Rattle.scan_model.specs.Queries.{Operand, Whole, Bit, Bits, place_of, IsPart}
use Rattle.scan_model.specs.Queries.{Query, Compare, Negate, Both, Either, size}
use Rattle.scan_model.specs.Texts.{Word, Name, Number, Closes, Comma, Stranger}
use Rattle.scan_model.specs.Texts.{Lead, Compares, Negates, Ands, Ors, all_leads}
use Rattle.scan_model.specs.Texts.{lead_among, Wanted, Start, Object, AtName, AtLow}
use Rattle.scan_model.specs.Texts.{AtHigh, Between, Bound, Close, wanted_after}
use Rattle.scan_model.specs.Texts.{Begun, with_lead, fits, checked, step, queries, breach_of}
use Rattle.scan_model.specs.Texts.{none_begun, in_front, spelled}
use Rattle.scan_model.specs.TextLaws.{tests, IsWritten, Says, words_of, IsText}
use Rattle.scan_model.proofs.Grammar.{lead_is, facts}

abbrev on_pass : Result (List Wanted × Begun) QueryKind → (List Wanted → Begun → Bool) → Bool
on_pass (Ok r) go = go r.0 r.1
on_pass (Err k) go = false

abbrev is_nothing : List Wanted → Bool
is_nothing [] = true
is_nothing (w ∷ wanted) = false

-- whether words break no rule, and are all that is wanted
passes : List Wanted → Begun → List Word → Bool
passes wanted s [] = is_nothing wanted
passes [] s (u ∷ us) = false
passes (w ∷ wanted) s (u ∷ us) = on_pass (step w s u) (λ front t. passes (front ++ wanted) t us)

no_stranger : (w : Wanted) (s : Begun) (go : List Wanted → Begun → Bool)
    → on_pass (step w s Stranger) go ≡ true → ⊥
no_stranger Start s go h = cc
no_stranger _ s go h = cc

passes_is : (items : List Item) (wanted : List Wanted) (s : Begun)
    → (breach_of wanted s items ≡ None) ↔ (passes wanted s (words_of items) ≡ true)
unfolding machine.breach_of passes
passes_is [] [] s = (λ h. refl, λ h. refl)
passes_is [] (w ∷ wanted) s = (λ h. cc, λ h. cc)
passes_is (Bad f ∷ items) [] s = (λ h. cc, λ h. cc)
passes_is (Bad f ∷ items) (w ∷ wanted) s = (λ h. cc, λ h. absurd (no_stranger w s _ h))
passes_is (Read u ∷ items) [] s = (λ h. cc, λ h. cc)
passes_is (Read u ∷ items) (w ∷ wanted) s =
    by (step w s (queries.seen u)) (λ front t. passes_is items (front ++ wanted) t) where
      by : (r : Result (List Wanted × Begun) QueryKind) → ((front : List Wanted) (t : Begun)
          → (breach_of (front ++ wanted) t items ≡ None)
          ↔ (passes (front ++ wanted) t (words_of items) ≡ true))
          → (machine.after r u (λ front t. breach_of (front ++ wanted) t items) ≡ None)
          ↔ (on_pass r (λ front t. passes (front ++ wanted) t (words_of items)) ≡ true)
      by (Ok r) go = go r.0 r.1
      by (Err k) go = (λ h. cc, λ h. cc)

-- ---- a rule that is met

met : (b : Bool) (s : Begun) (k : QueryKind) (front : List Wanted)
    (go : List Wanted → Begun → Bool)
    → on_pass (machine.with_rules kind.Syntax (Some front) (checked b s k)) go ≡ true
    → (b ≡ true) × (go front s ≡ true)
met true s k front go h = (refl, h)
met false s k front go h = cc

meets : (b : Bool) (s : Begun) (k : QueryKind) (front : List Wanted)
    (go : List Wanted → Begun → Bool) → b ≡ true → go front s ≡ true
    → on_pass (machine.with_rules kind.Syntax (Some front) (checked b s k)) go ≡ true
meets b s k front go e h = rw e h

most_true : (x y : ℕ) → x ≤ y → leb x y ≡ true
most_true x y h = grind (arith, nat_tests)

at_most : (x y : ℕ) → leb x y ≡ true → x ≤ y
at_most x y h = grind (arith, nat_tests)

below_true : (x y : ℕ) → x < y → ltb x y ≡ true
below_true x y h = grind (arith, nat_tests)

true_below : (x y : ℕ) → ltb x y ≡ true → x < y
true_below x y h = grind (arith, nat_tests)

operand_met : (o : Operand) (wanted : List Wanted) (s : Begun) (rest : List Word)
    → passes (Object ∷ wanted) s (in_front o (Comma ∷ rest)) ≡ true
    → (fits_name (place_of o).name ≡ true) × IsPart o × (passes (Bound ∷ wanted) s rest ≡ true)
unfolding passes
operand_met (Whole x) wanted s rest h =
    let n = met (fits_name x) s kind.BadName (AtName ∷ []) _ h in (n.0, tt, n.1)
operand_met (Bit x k) wanted s rest h =
    let n = met (fits_name x) s kind.BadName (AtName ∷ []) _ h in
    let l = met (ltb k WIDTH_MAX) s kind.BadNumber (AtLow k ∷ []) _ n.1 in
    (n.0, true_below k WIDTH_MAX l.0, l.1)
operand_met (Bits x low high) wanted s rest h =
    let n = met (fits_name x) s kind.BadName (AtName ∷ []) _ h in
    let l = met (ltb low WIDTH_MAX) s kind.BadNumber (AtLow low ∷ []) _ n.1 in
    let m = met (ltb low high && leb high WIDTH_MAX) s kind.BadNumber (AtHigh ∷ []) _ l.1 in
    let b = and_parts (ltb low high) (leb high WIDTH_MAX) m.0 in
    (n.0, (true_below low high b.0, at_most high WIDTH_MAX b.1), m.1)

operand_meets : (o : Operand) (wanted : List Wanted) (s : Begun) (rest : List Word)
    → fits_name (place_of o).name ≡ true → IsPart o → passes (Bound ∷ wanted) s rest ≡ true
    → passes (Object ∷ wanted) s (in_front o (Comma ∷ rest)) ≡ true
unfolding passes
operand_meets (Whole x) wanted s rest n p h = rw n h
operand_meets (Bit x k) wanted s rest n p h = rw (n, below_true k WIDTH_MAX p) h
operand_meets (Bits x low high) wanted s rest n p h =
    let l = p.0 in
    let m = p.1 in
    rw (
      n,
      below_true low WIDTH_MAX (omega (arith, l, m)),
      below_true low high l,
      most_true high WIDTH_MAX m,
    ) h

-- ---- a query within the limits

-- what has begun after a query
abbrev plus : Begun → Query → Begun
plus s q = record { nodes = s.nodes + size q; tests = s.tests + tests q }

begun_same : (a b c d : ℕ) → a ≡ b → c ≡ d → let x : Begun = record { nodes = a; tests = c } in
    let y : Begun = record { nodes = b; tests = d } in x ≡ y
begun_same a b c d e f = rw (e, f) refl

fits_true : (s : Begun) → s.nodes ≤ 64 → s.tests ≤ 32 → fits s ≡ true
fits_true s a b = rw (most_true s.nodes 64 a, most_true s.tests 32 b) refl

size_one : (q : Query) → 1 ≤ size q
size_one (Compare op o v) = omega arith
size_one (Negate a) = omega arith
size_one (Both a b) = omega arith
size_one (Either a b) = omega arith

-- a query that fits behind what has begun
record Fits (q : Query) (s : Begun) : Type 0 where
  written : IsWritten q
  nodes : s.nodes + size q ≤ 64
  comparisons : s.tests + tests q ≤ 32

abbrev Met : Query → Type 0
Met q = (wanted : List Wanted) (s : Begun) (rest : List Word)
    → passes (Start ∷ wanted) s (spelled q rest) ≡ true
    → Fits q s × (passes wanted (plus s q) rest ≡ true)

-- two queries with a comma between them
two_met : (a b : Query) → Met a → Met b → (wanted : List Wanted) (s t : Begun) (rest : List Word)
    → t ≡ record { nodes = s.nodes + 1; tests = s.tests }
    → passes (Start ∷ Between ∷ Start ∷ Close ∷ wanted) t
    (spelled a (Comma ∷ spelled b (Closes ∷ rest))) ≡ true → IsWritten a × IsWritten b
    × (s.nodes + (size a + size b + 1) ≤ 64) × (s.tests + (tests a + tests b) ≤ 32)
    × (passes wanted (record {
      nodes = s.nodes + (size a + size b + 1);
      tests = s.tests + (tests a + tests b);
    }) rest ≡ true)
unfolding passes
two_met a b first second wanted s t rest e h =
    let p = first (Between ∷ Start ∷ Close ∷ wanted) t (Comma ∷ spelled b (Closes ∷ rest)) h in
    let r = second (Close ∷ wanted) (plus t a) (Closes ∷ rest) p.1 in
    let n = ap (λ (u : Begun). u.nodes) e in
    let m = ap (λ (u : Begun). u.tests) e in (
      p.0.written,
      r.0.written,
      omega (arith, r.0.nodes, n),
      omega (arith, r.0.comparisons, m),
      ap (λ u. passes wanted u rest) (begun_same _ _ _ _ (omega (arith, n)) (omega (arith, m)))
          ∙ r.1,
    )

query_met : (q : Query) → Met q
unfolding passes
query_met (Compare op o v) wanted s rest h =
    let t = with_lead s (Compares op) in
    let g = rw (lead_is (Compares op)) at h in
    let n = met (fits t) t kind.TooMany (wanted_after (Compares op)) _ g in
    let p = operand_met o (Close ∷ wanted) t (Number v ∷ Closes ∷ rest) n.1 in
    let b = met (ltb v (2 ^ 128)) t kind.BadNumber [] _ p.2 in
    let f = and_parts (leb t.nodes 64) (leb t.tests 32) n.0 in (
      record {
        written = (p.0, p.1, true_below v (2 ^ 128) b.0);
        nodes = at_most (s.nodes + 1) 64 f.0;
        comparisons = at_most (s.tests + 1) 32 f.1;
      },
      b.1,
    )
query_met (Negate a) wanted s rest h =
    let t = with_lead s Negates in
    let n = met (fits t) t kind.TooMany (wanted_after Negates) _ h in
    let p = query_met a (Close ∷ wanted) t (Closes ∷ rest) n.1 in (
      record {
        written = p.0.written;
        nodes = omega (arith, p.0.nodes);
        comparisons = omega (arith, p.0.comparisons);
      },
      ap (λ u. passes wanted u rest) (begun_same _ _ _ _ (omega arith) (omega arith)) ∙ p.1,
    )
query_met (Both a b) wanted s rest h =
    let t = with_lead s Ands in
    let n = met (fits t) t kind.TooMany (wanted_after Ands) _ h in
    let r = two_met a b (λ w s r h. query_met a w s r h) (λ w s r h. query_met b w s r h) wanted s
    t rest (begun_same _ _ _ _ refl (omega arith)) n.1 in
    (record { written = (r.0, r.1); nodes = r.2; comparisons = r.3 }, r.4)
query_met (Either a b) wanted s rest h =
    let t = with_lead s Ors in
    let n = met (fits t) t kind.TooMany (wanted_after Ors) _ h in
    let r = two_met a b (λ w s r h. query_met a w s r h) (λ w s r h. query_met b w s r h) wanted s
    t rest (begun_same _ _ _ _ refl (omega arith)) n.1 in
    (record { written = (r.0, r.1); nodes = r.2; comparisons = r.3 }, r.4)

query_meets : (q : Query) (wanted : List Wanted) (s : Begun) (rest : List Word) → IsWritten q
    → s.nodes + size q ≤ 64 → s.tests + tests q ≤ 32 → passes wanted (plus s q) rest ≡ true
    → passes (Start ∷ wanted) s (spelled q rest) ≡ true
unfolding passes
query_meets (Compare op o v) wanted s rest w a b h =
    let t = with_lead s (Compares op) in
    rw (lead_is (Compares op)) (meets (fits t) t kind.TooMany (wanted_after (Compares op)) _
    (fits_true t a b) (operand_meets o (Close ∷ wanted) t (Number v ∷ Closes ∷ rest) w.0 w.1
    (meets (ltb v (2 ^ 128)) t kind.BadNumber [] _ (below_true v (2 ^ 128) w.2) h)))
query_meets (Negate q) wanted s rest w a b h =
    let t = with_lead s Negates in
    let some = size_one q in
    meets (fits t) t kind.TooMany (wanted_after Negates) _
    (fits_true t (omega (arith, a, some)) (omega (arith, b)))
    (query_meets q (Close ∷ wanted) t (Closes ∷ rest) w (omega (arith, a)) (omega (arith, b))
    (ap (λ u. passes wanted u rest) (begun_same _ _ _ _ (omega arith) (omega arith)) ∙ h))
query_meets (Both p q) wanted s rest w a b h =
    let t = with_lead s Ands in
    let some = size_one q in
    meets (fits t) t kind.TooMany (wanted_after Ands) _
    (fits_true t (omega (arith, a)) (omega (arith, b)))
    (query_meets p (Between ∷ Start ∷ Close ∷ wanted) t (Comma ∷ spelled q (Closes ∷ rest)) w.0
    (omega (arith, a)) (omega (arith, b))
    (query_meets q (Close ∷ wanted) (plus t p) (Closes ∷ rest) w.1 (omega (arith, a))
    (omega (arith, b))
    (ap (λ u. passes wanted u rest) (begun_same _ _ _ _ (omega arith) (omega arith)) ∙ h)))
query_meets (Either p q) wanted s rest w a b h =
    let t = with_lead s Ors in
    let some = size_one q in
    meets (fits t) t kind.TooMany (wanted_after Ors) _
    (fits_true t (omega (arith, a)) (omega (arith, b)))
    (query_meets p (Between ∷ Start ∷ Close ∷ wanted) t (Comma ∷ spelled q (Closes ∷ rest)) w.0
    (omega (arith, a)) (omega (arith, b))
    (query_meets q (Close ∷ wanted) (plus t p) (Closes ∷ rest) w.1 (omega (arith, a))
    (omega (arith, b))
    (ap (λ u. passes wanted u rest) (begun_same _ _ _ _ (omega arith) (omega arith)) ∙ h)))

-- ---- whole texts

words_whole : (us : List Lexeme) → words_of (whole us) ≡ all_seen queries us
words_whole [] = refl
words_whole (u ∷ us) = ap (λ ws. queries.seen u ∷ ws) (words_whole us)

is_text : (items : List Item) (found : Option (Breach QueryKind))
    → BreaksRule queries IsText items found ⊎ GrammarFinds queries IsText items found
    → found ≡ None → IsText (words_of items)
is_text _ _ (inl (Broken before token following kind other viable)) e = cc
is_text _ _ (inr (Text us t)) e = (t.0, words_whole us ∙ t.1)
is_text _ _ (inr (CutShort us v n)) e = cc
is_text _ _ (inr (Wrong before token following v n)) e = cc
is_text _ _ (inr (Strange before f following v)) e = cc

pub accepted : (items : List Item) → (breach_of (Start ∷ []) none_begun items ≡ None) ↔
    ((q : Query) × Says (words_of items) q)
unfolding passes
accepted items = (
  λ h.
      let t = is_text items _ (syntax_is_the_grammars queries IsText facts none_begun items).first
      h in
      let p = query_met t.0 [] none_begun [] (ap (passes (Start ∷ []) none_begun) (sym t.1)
      ∙ (passes_is items (Start ∷ []) none_begun).0 h) in (
        t.0,
        record {
          spelling = t.1;
          query = record {
            small = omega (arith, p.0.nodes);
            few = omega (arith, p.0.comparisons);
            written = p.0.written;
          };
        },
      ),
  λ (q, says).
      (passes_is items (Start ∷ []) none_begun).1
      (ap (passes (Start ∷ []) none_begun) says.spelling
      ∙ query_meets q [] none_begun [] says.query.written (omega (arith, says.query.small))
      (omega (arith, says.query.few)) refl),
)

-- ---- one query per spelling

abbrev lead_of : Query → Lead
lead_of (Compare op o v) = Compares op
lead_of (Negate a) = Negates
lead_of (Both a b) = Ands
lead_of (Either a b) = Ors

lead_at : List Word → Option Lead
lead_at [] = None
lead_at (Name x ∷ rest) = lead_among all_leads x
lead_at (w ∷ rest) = None

lead_at_spelled : (q : Query) (rest : List Word) → lead_at (spelled q rest) ≡ Some (lead_of q)
unfolding lead_at
lead_at_spelled (Compare op o v) rest = lead_is (Compares op)
lead_at_spelled (Negate a) rest = refl
lead_at_spelled (Both a b) rest = refl
lead_at_spelled (Either a b) rest = refl

same_lead : (p q : Query) (xs ys : List Word) → spelled p xs ≡ spelled q ys
    → lead_of p ≡ lead_of q
same_lead p q xs ys e = some_same (lead_of p) (lead_of q) (sym (lead_at_spelled p xs)
    ∙ ap lead_at e ∙ lead_at_spelled q ys) where
      some_same : (a b : Lead) → Some a ≡ Some b → a ≡ b
      some_same a b e = cc

-- no two operands are spelled alike, with a comma after them
operand_once : (o o' : Operand) (xs ys : List Word)
    → in_front o (Comma ∷ xs) ≡ in_front o' (Comma ∷ ys) → (o ≡ o') × (xs ≡ ys)
operand_once (Whole n) (Whole n') xs ys e = (cc, cc)
operand_once (Bit n k) (Bit n' k') xs ys e = (cc, cc)
operand_once (Bits n l h) (Bits n' l' h') xs ys e = (cc, cc)
operand_once _ _ xs ys e = absurd (cc)

same_compare : (op op' : CmpOp) (o o' : Operand) (v v' : ℕ) (xs ys : List Word) → op ≡ op'
    → spelled (Compare op o v) xs ≡ spelled (Compare op' o' v') ys
    → (Compare op o v ≡ Compare op' o' v') × (xs ≡ ys)
same_compare op op' o o' v v' xs ys same e =
    let both = operand_once o o' (Number v ∷ Closes ∷ xs) (Number v' ∷ Closes ∷ ys)
    (ap (drop 2) e) in
    let operands = both.0 in
    let rest = both.1 in
    (cc, cc)

op_same : (op op' : CmpOp) → Compares op ≡ Compares op' → op ≡ op'
op_same op op' e = cc

tail_same : (w : Word) (xs ys : List Word) → w ∷ xs ≡ w ∷ ys → xs ≡ ys
tail_same w xs ys e = ap (drop 1) e

-- no two queries are spelled alike, whatever follows them
pub once : (p q : Query) (xs ys : List Word) → spelled p xs ≡ spelled q ys → (p ≡ q) × (xs ≡ ys)
once (Compare op n v) (Compare op' n' v') xs ys e =
    same_compare op op' n n' v v' xs ys (op_same op op'
    (same_lead (Compare op n v) (Compare op' n' v') xs ys e)) e
once (Negate a) (Negate b) xs ys e = let r = once a b (Closes ∷ xs) (Closes ∷ ys) (ap (drop 2) e)
    in (ap (λ q. Negate q) r.0, tail_same Closes xs ys r.1)
once (Both a c) (Both b d) xs ys e =
    let r = once a b (Comma ∷ spelled c (Closes ∷ xs)) (Comma ∷ spelled d (Closes ∷ ys))
    (ap (drop 2) e) in
    let s = once c d (Closes ∷ xs) (Closes ∷ ys) (tail_same Comma _ _ r.1) in
    (rw (r.0, s.0) refl, tail_same Closes xs ys s.1)
once (Either a c) (Either b d) xs ys e =
    let r = once a b (Comma ∷ spelled c (Closes ∷ xs)) (Comma ∷ spelled d (Closes ∷ ys))
    (ap (drop 2) e) in
    let s = once c d (Closes ∷ xs) (Closes ∷ ys) (tail_same Comma _ _ r.1) in
    (rw (r.0, s.0) refl, tail_same Closes xs ys s.1)
once p q xs ys e = let l = same_lead p q xs ys e in cc
