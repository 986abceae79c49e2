-- The ops of a text are one, and meet the rules.
use Rattle.std.proofs.Common.{◌≡◌, ℕ, Bool, true, false, ◌&&◌, ◌==◌, List, [], ◌∷◌, ◌++◌, map}
use Rattle.std.proofs.Common.{Option, Some, None, Result, Ok, Err, refl, sym, ap, ◌∙◌, arith}
use Rattle.std.specs.Option.{option_map}
use Rattle.std.specs.Char.{is_ascii_digit}
use Rattle.std.specs.List.{list_all, AllByRecursion}
use Rattle.std.proofs.lemmas.Bool.Decides.{nat_tests}
use Rattle.text_lex.specs.Bytes.{is_name_start, is_mark}
use Rattle.text_lex.specs.Lexical.{Item, Lexeme, Whole, Bad, is_token, items_of, IsRight}
use Rattle.text_lex.specs.declared.token.TokenKind.{TokenKind}
use Rattle.text_lex.specs.declared.token.TokenKind.TheVariants as kinds
use Rattle.text_lex.proofs.Right.{items_right}
use Rattle.op_text.specs.declared.fault.OpsKind.{OpsKind}
use Rattle.grammar.specs.Machine as machine
use Rattle.op_text.specs.declared.wanted.Wanted.{Wanted}
use Rattle.op_text.specs.Items.{Breach, texts, opens, terminal_of}
use Rattle.op_text.specs.Rules.{Scope, step, breach_of, first_breach, nothing_yet}
use Rattle.op_text.specs.Language.{Operation}
use Rattle.op_text.specs.Spelling.{kind_of_text, unplaced, items_spelled, bare, operations_text}
use Rattle.op_text.specs.Spelling.{MeetRules}
use Rattle.op_text.specs.Lines.{fault_of}
use Rattle.op_text.specs.OpsOf.{OpsOfATextAreOne, OpsOfATextMeet, TextsOfOps}
use Rattle.op_text.proofs.Places.{places_do_not_matter}
use Rattle.op_text.proofs.Once.{ops_spelled_once}

digit_no_name : (b : ℕ) → is_ascii_digit b ≡ true → is_name_start b ≡ false
digit_no_name b h = grind (arith, nat_tests)

mark_no_name : (b : ℕ) → is_mark b ≡ true → is_name_start b ≡ false
mark_no_name b h = grind (arith, nat_tests)

mark_no_digit : (b : ℕ) → is_mark b ≡ true → is_ascii_digit b ≡ false
mark_no_digit b h = grind (arith, nat_tests)

dash_no_name : (b : ℕ) → (b == 45) ≡ true → is_name_start b ≡ false
dash_no_name b h = grind (arith, nat_tests)

dash_no_digit : (b : ℕ) → (b == 45) ≡ true → is_ascii_digit b ≡ false
dash_no_digit b h = grind (arith, nat_tests)

and_first : (a b : Bool) → (a && b) ≡ true → a ≡ true
and_first true b h = refl
and_first false b h = cc

-- a token's kind shows in its spelling
kind_shows : (k : TokenKind) (text : List ℕ) → is_token k text ≡ true → kind_of_text text ≡ k
kind_shows kinds.Name text h = rw h refl
kind_shows kinds.Number [] h = cc
kind_shows kinds.Number (b ∷ bs) h = let d = and_first (is_ascii_digit b)
    (list_all is_ascii_digit bs) h in rw (digit_no_name b d, h) refl
kind_shows kinds.Symbol [] h = cc
kind_shows kinds.Symbol (b ∷ []) h = rw (mark_no_name b h, mark_no_digit b h) refl
kind_shows kinds.Symbol (b ∷ d ∷ []) h = let e = and_first (b == 45) (d == 62) h in
    rw (dash_no_name b e, dash_no_digit b e) refl
kind_shows kinds.Symbol (b ∷ d ∷ e ∷ bs) h = cc

bare_one : (u : Lexeme) → kind_of_text u.text ≡ u.kind → bare (Whole u) ≡ unplaced u.text
bare_one u e = rw e refl

-- after a token that breaks no rule
following : (r : Result (List Wanted × Scope) OpsKind) (u : Lexeme) (go : List Wanted → Scope
    → Option Breach) (P : Type 0) → ((f : List Wanted) (s : Scope) → go f s ≡ None → P)
    → machine.after r u go ≡ None → P
following (Ok r) u go P f h = f r.0 r.1 h
following (Err why) u go P f h = cc

bare_all : (source : List ℕ) (items : List Item) (wanted : List Wanted) (s : Scope)
    → AllByRecursion (IsRight source) items → breach_of wanted s items ≡ None
    → map bare items ≡ items_spelled (texts items)
unfolding machine.breach_of
bare_all source [] wanted s a h = refl
bare_all source (Bad f ∷ items) wanted s a h = cc
bare_all source (Whole u ∷ items) [] s a h = cc
bare_all source (Whole u ∷ items) (w ∷ wanted) s a h =
    following (step w s (terminal_of u.kind u.text) u.text (opens items)) u
    (λ front s'. breach_of (front ++ wanted) s' items) (map bare (Whole u ∷ items)
    ≡ items_spelled (texts (Whole u ∷ items)))
    (λ front s' g. ap (λ i. i ∷ map bare items) (bare_one u (kind_shows u.kind u.text a.0.1))
    ∙ ap (λ l. unplaced u.text ∷ l) (bare_all source items (front ++ wanted) s' a.1 g)) h

-- ops whose tokens are those of an accepted text meet the rules
pub meets : (text : List ℕ) (all : List Operation) → first_breach (items_of text) ≡ None
    → texts (items_of text) ≡ operations_text all → MeetRules all
meets text all h e =
    let b = (places_do_not_matter (items_of text) _ nothing_yet).0 h in
    ap (λ l. first_breach (items_spelled l)) (sym e)
    ∙ ap first_breach (sym (bare_all text (items_of text) _ nothing_yet (items_right text) h))
    ∙ b

no_breach : {A : Type 0} (f : Breach → A) (found : Option Breach) → option_map f found ≡ None
    → found ≡ None
no_breach f None h = refl
no_breach f (Some b) h = cc

pub ops_of_a_text_meet : OpsOfATextMeet
ops_of_a_text_meet text ops h =
    meets text ops (no_breach (fault_of text) (first_breach (items_of text)) h.accepted) h.spelled

-- a text has one list of ops
pub ops_of_a_text_are_one : OpsOfATextAreOne
ops_of_a_text_are_one text a b g h =
    ops_spelled_once a b g.named h.named (sym g.spelled ∙ h.spelled)

texts_bare : (items : List Item) → texts (map bare items) ≡ texts items
texts_bare [] = refl
texts_bare (Bad f ∷ items) = refl
texts_bare (Whole u ∷ items) = ap (λ l. u.text ∷ l) (texts_bare items)

texts_spelled : (spells : List (List ℕ)) → texts (items_spelled spells) ≡ spells
texts_spelled [] = refl
texts_spelled (t ∷ spells) = ap (λ l. t ∷ l) (texts_spelled spells)

-- each list of ops that meets the rules is that of some text
pub texts_of_ops : TextsOfOps
texts_of_ops text ops h meets same =
    let items = items_of text in
    let good : first_breach items ≡ None = (places_do_not_matter items _ nothing_yet).1
    (ap first_breach same ∙ meets) in record {
      accepted = ap (option_map (fault_of text)) good;
      spelled = sym (texts_bare items) ∙ ap texts same ∙ texts_spelled (operations_text ops);
      named = h;
    }
