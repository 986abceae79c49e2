-- A token is taken.
use Rattle.op_lang.proofs.Common.{◌≡◌, ℕ, Bool, true, List, [], ◌∷◌, ◌++◌, Option, Some, Result, Ok}
use Rattle.op_lang.proofs.Common.{Err, refl, sym, ap, ◌∙◌, subst, IsErrAnd, IfErr, IfOk}
use Rattle.op_lang.proofs.Common.{err_from_is_err_and, Item, Whole, Bad, lexeme_of, Breach, Wanted}
use Rattle.op_lang.proofs.Common.{Terminal, Term, term, term_text, opens, no_token, texts, follow}
use Rattle.op_lang.proofs.Common.{Scope, breach_of, operation_texts}
use Rattle.text_lex.specs.declared.token.Token.{Token}
use Rattle.grammar.specs.Machine as machine
use Rattle.op_text.specs.declared.wanted.Wanted.TheVariants as w
use Rattle.op_text.specs.declared.tree.Expr.{Expr}
use Rattle.grammar.proofs.Steps.{moved, refused}
use Rattle.op_lang.specs.declared.fault.ReadError.{ReadError}
use Rattle.op_lang.specs.declared.fault.ReadError.TheVariants as no
use Rattle.op_lang.specs.declared.parser.Taken.{Taken}
use Rattle.op_lang.specs.Reading.{ParserView, breach, Fails, Moves, MovesTo, Took, Takes, is_due}
use Rattle.op_lang.specs.Reading.{left}
use Rattle.op_lang.specs.Judging.{IsWrong, JudgesToken}

-- where there is no token
pub due_end : (want : Wanted) (s : Scope) (items : List Item) (b : Breach)
    → is_due want (record { scope = s; items = items }) ≡ true → no_token items ≡ Some b
    → (more : List Wanted) → breach_of (want ∷ more) s items ≡ Some b
unfolding machine.breach_of
due_end w.Ops s [] b h e more = cc
due_end _ s [] b h e more = e
due_end want s (Bad f ∷ items) b h e more = e
due_end want s (Whole u ∷ items) b h e more = cc

same_breach : (b : Breach) (n : ℕ) → b.at ≡ Some n → record { at = Some n; kind = b.kind } ≡ b
same_breach b n e = rw (← e) refl

pub wrong_fails : (want : Wanted) (s : Scope) (old : List Item) (token : Token) (new : List Item)
    (o : Bool) (b : Breach) → old ≡ Whole (lexeme_of token) ∷ new → o ≡ opens new
    → IsWrong want s token o b → (more : List Wanted) → breach_of (want ∷ more) s old ≡ Some b
wrong_fails want s old token new o b e f h more =
    refused operation_texts want s old (lexeme_of token) new b.kind e (rw (← f) h.breaks) more
    ∙ ap Some (same_breach b token.start h.place)

pub refused_fails : (want : Wanted) (s : Scope) (old : List Item) (token : Token) (new : List Item)
    (o : Bool) (e : ReadError) (s' : Scope) → old ≡ Whole (lexeme_of token) ∷ new → o ≡ opens new
    → JudgesToken want s token o (Err e) s' → (more : List Wanted)
    → Fails (breach_of (want ∷ more) s old) e
refused_fails want s old token new o no.Memory s' e f h more = tt
refused_fails want s old token new o (no.Breach b) s' e f h more =
    wrong_fails want s old token new o b e f h more

-- what comes after a token that was taken
pub took_moves : (want : Wanted) (old : ParserView) (text : List ℕ) (u : Terminal) (new :
    ParserView)
    → Took want old text u new → (front : List Wanted)
    → follow want u (opens new.items) ≡ Some front
    → (more : List Wanted) → breach (want ∷ more) old ≡ breach (front ++ more) new
took_moves want old text u new h front e more =
    moved operation_texts want old.scope old.items (record { kind = h.kind; text = text; start = h.start })
    new.items front new.scope h.items (rw (h.is, e, h.rules) refl) more

pub took_left : (want : Wanted) (old : ParserView) (text : List ℕ) (u : Terminal) (new : ParserView)
    → Took want old text u new → left old ≡ text ∷ left new
took_left want old text u new h = ap texts h.items

pub fails_along : {a b : Option Breach} (e : ReadError) → a ≡ b → Fails b e → Fails a e
fails_along e h f = let P : Option Breach → Type 0 = λ x. Fails x e in subst P (sym h) f

-- The exit of a `?`.
pub exits : {A : Type 0} (front : List Wanted) (old : ParserView) (e : ReadError) (r : Result A ReadError)
    (following : A → List Wanted) (new : ParserView)
    → IsErrAnd r (λ x. x ≡ e) → ((more : List Wanted) → Fails (breach (front ++ more) old) e)
    → MovesTo front old r following new
exits front old e r following new is h =
    let p = err_from_is_err_and r is in
    rw (p.1, p.2) h

pub take_exits : (want : Wanted) (old : ParserView) (e : ReadError) (r : Result Taken ReadError)
    (new : ParserView)
    → IsErrAnd r (λ x. x ≡ e) → ((more : List Wanted) → Fails (breach (want ∷ more) old) e)
    → Takes want old r new
take_exits want old e r new is h =
    let p = err_from_is_err_and r is in
    rw (p.1, p.2) h

-- where only memory can be lacking
pub then_memory : {A : Type 0} (front : List Wanted) (old : ParserView) (r : Result A ReadError)
    (following : A → List Wanted) (new : ParserView)
    → IfErr r (λ e. e ≡ no.Memory) → ((x : A) (more : List Wanted)
    → breach (front ++ more) old ≡ breach (following x ++ more) new)
    → MovesTo front old r following new
then_memory front old (Ok x) following new h k = k x
then_memory front old (Err e) following new h k = λ more. rw h tt

-- The rest is read after what is read already.
pub continues : {A : Type 0} (front mid back : List Wanted) (old there : ParserView)
    (r : Result A ReadError) (new : ParserView)
    → ((more : List Wanted) → breach (front ++ more) old ≡ breach (mid ++ (back ++ more)) there)
    → Moves mid there r new → MovesTo front old r (λ x. back) new
continues front mid back old there (Ok x) new h k = λ more. h more ∙ k (back ++ more)
continues front mid back old there (Err e) new h k =
    λ more. fails_along e (h more) (k (back ++ more))

pub spells_by : (r : Result Expr ReadError) (t : Term) (x rest : List (List ℕ))
    → IfOk r (λ e. term e ≡ t) → x ≡ term_text t rest → IfOk r (λ e. x ≡ term_text (term e) rest)
spells_by (Ok e) t x rest h k = rw h k
spells_by (Err e) t x rest h k = tt
