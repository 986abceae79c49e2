-- A query's token is taken.
use Rattle.scan_query.proofs.Common.{◌≡◌, ℕ, true, false, List, [], ◌∷◌, ◌++◌, Option, Some, None}
use Rattle.scan_query.proofs.Common.{Result, Ok, Err, cond, refl, sym, ap, ◌∙◌, subst, option_map}
use Rattle.scan_query.proofs.Common.{IsErrAnd, AllByRecursion, err_from_is_err_and, LexFault, Item}
use Rattle.scan_query.proofs.Common.{Whole, Bad, lexeme_of, QueryKind, Breach}
use Rattle.std.proofs.lemmas.Bool.{and_from}
use Rattle.text_lex.specs.declared.token.TokenKind.{TokenKind}
use Rattle.text_lex.specs.declared.token.Token.{Token}
use Rattle.text_lex.specs.Lexical.{IsRight, is_token}
use Rattle.grammar.proofs.Steps.{moved, refused}
use Rattle.text_lex.specs.declared.token.TokenKind.TheVariants as kinds
use Rattle.scan_model.specs.declared.QueryKind.TheVariants as kind
use Rattle.scan_model.specs.Texts as model
use Rattle.grammar.specs.Machine as machine
use Rattle.scan_query.specs.declared.reading.Mark.{Mark}
use Rattle.scan_query.specs.declared.reading.Mark.TheVariants as mark
use Rattle.scan_query.specs.declared.reading.ReadError.{ReadError}
use Rattle.scan_query.specs.declared.reading.Word.{Word}
use Rattle.scan_query.specs.declared.reading.Word.TheVariants as word
use Rattle.scan_query.specs.Digits.{are_digits, is_written}
use Rattle.scan_query.specs.Reading.{Fails, MovesTo, ParserView, Took, after_mark, breach, is_it}
use Rattle.scan_query.specs.Reading.{lead_at, wanted_by, word_view}

pub fails_along : {a b : Option (Breach QueryKind)} (e : ReadError) → a ≡ b → Fails b e → Fails a e
fails_along e h f = let P : Option (Breach QueryKind) → Type 0 = λ x. Fails x e in subst P (sym h) f

-- The exit of a `?`.
pub exits : {A : Type 0} (front : List model.Wanted) (old : ParserView) (e : ReadError)
    (r : Result A ReadError) (following : A → List model.Wanted) (new : ParserView)
    → IsErrAnd r (λ x. x ≡ e)
    → ((more : List model.Wanted) → Fails (breach (front ++ more) old) e)
    → MovesTo front old r following new
exits front old e r following new is h =
    let p = err_from_is_err_and r is in
    rw (p.1, p.2) h

-- at the end of the text, and at a byte that starts no token
pub ends : (old : ParserView) → old.items ≡ [] → (want : model.Wanted) (more : List model.Wanted)
    → breach (want ∷ more) old ≡ Some (record { at = None; kind = kind.Syntax })
unfolding machine.breach_of
ends old e want more = rw e refl

pub strange : (old : ParserView) (f : LexFault) → old.items ≡ Bad f ∷ []
    → (want : model.Wanted) (more : List model.Wanted)
    → breach (want ∷ more) old ≡ Some (record { at = Some f.at; kind = kind.Lex })
unfolding machine.breach_of
strange old f e want more = rw e refl

-- what a token comes to
pub breaks : (old new : ParserView) (w : model.Word) (at : ℕ) (want : model.Wanted)
    (found : QueryKind) → Took w at old new → model.step want old.begun w ≡ Err found
    → (more : List model.Wanted)
    → breach (want ∷ more) old ≡ Some (record { at = Some at; kind = found })
breaks old new w at want found took h more =
    refused model.queries want old.begun old.items took.token new.items found took.items
    (ap (model.step want old.begun) (sym took.is) ∙ h) more
    ∙ ap (λ (n : ℕ). Some (record { at = Some n; kind = found })) took.place

goes : (old mid : ParserView) (w : model.Word) (at : ℕ) (want : model.Wanted)
    (front : List model.Wanted) (s : model.Begun) → Took w at old mid
    → model.step want old.begun w ≡ Ok (front, s) → (more : List model.Wanted)
    → breach (want ∷ more) old ≡ model.breach_of (front ++ more) s mid.items
goes old mid w at want front s took h =
    moved model.queries want old.begun old.items took.token mid.items front s took.items
    (ap (model.step want old.begun) (sym took.is) ∙ h)

-- the symbols
mark_step : (m : Mark) (w : Word) (s : model.Begun)
    → model.step (wanted_by m) s (word_view w)
    ≡ cond (is_it m w) (Ok (after_mark m, s)) (Err kind.Syntax)
mark_step mark.Opens word.Other s = refl
mark_step mark.Closes word.Other s = refl
mark_step mark.Comma word.Other s = refl
mark_step mark.ClosesBits word.Other s = refl
mark_step mark.EndsBits word.Other s = refl
mark_step _ _ s = refl

pub mark_right : (m : Mark) (w : Word) (s : model.Begun) → is_it m w ≡ true
    → model.step (wanted_by m) s (word_view w) ≡ Ok (after_mark m, s)
mark_right m w s e = mark_step m w s ∙ ap (λ b. cond b (Ok (after_mark m, s)) (Err kind.Syntax)) e

pub mark_wrong : (m : Mark) (w : Word) (s : model.Begun) → is_it m w ≡ false
    → model.step (wanted_by m) s (word_view w) ≡ Err kind.Syntax
mark_wrong m w s e = mark_step m w s ∙ ap (λ b. cond b (Ok (after_mark m, s)) (Err kind.Syntax)) e

-- the numbers of a text are digits
written : (k : TokenKind) (t : List ℕ) → is_token k t ≡ true → is_written k t ≡ true
written kinds.Number [] e = cc
written kinds.Number (b ∷ bs) e = e
written kinds.Name t e = refl
written kinds.Symbol t e = refl

pub all_digits : (text : List ℕ) (items : List Item) → AllByRecursion (IsRight text) items
    → are_digits items ≡ true
all_digits text [] all = refl
all_digits text (Whole t ∷ items) all = and_from (is_written t.kind t.text) (are_digits items)
    (written t.kind t.text all.0.1) (all_digits text items all.1)
all_digits text (Bad f ∷ items) all = all_digits text items all.1

-- what a query begins with
abbrev leads : model.Begun → Option model.Lead
    → Result (List model.Wanted × model.Begun) QueryKind
leads s found = machine.with_rules kind.Syntax (option_map model.wanted_after found)
    (model.started s found)

start_is : (w : Word) (s : model.Begun) → model.step model.Start s (word_view w)
    ≡ leads s (lead_at w)
start_is (word.Name text) s = refl
start_is _ s = refl

-- the step of a word that begins a query, or none
start_step : (w : Word) (old mid : ParserView) (at : ℕ) (found : Option model.Lead)
    → Took (word_view w) at old mid → lead_at w ≡ found
    → model.step model.Start old.begun (word_view w) ≡ leads mid.begun found
start_step w old mid at found took e = start_is w old.begun ∙ ap (leads old.begun) e
    ∙ ap (λ s. leads s found) (sym took.begun)

pub start_goes : (w : Word) (old mid new : ParserView) (at : ℕ) (l : model.Lead)
    → Took (word_view w) at old mid → lead_at w ≡ Some l
    → model.fits (model.with_lead mid.begun l) ≡ true
    → new.begun ≡ model.with_lead mid.begun l → new.items ≡ mid.items
    → (more : List model.Wanted)
    → breach (model.Start ∷ more) old ≡ breach (model.wanted_after l ++ more) new
start_goes w old mid new at l took found fits begun items more =
    goes old mid (word_view w) at model.Start (model.wanted_after l)
    (model.with_lead mid.begun l) took (start_step w old mid at (Some l) took found
    ∙ rw fits refl) more
    ∙ rw (begun, items) refl

pub start_full : (w : Word) (old mid : ParserView) (at : ℕ) (l : model.Lead)
    → Took (word_view w) at old mid → lead_at w ≡ Some l
    → model.fits (model.with_lead mid.begun l) ≡ false → (more : List model.Wanted)
    → breach (model.Start ∷ more) old ≡ Some (record { at = Some at; kind = kind.TooMany })
start_full w old mid at l took found fits more =
    breaks old mid (word_view w) at model.Start kind.TooMany took
    (start_step w old mid at (Some l) took found ∙ rw fits refl) more

pub start_wrong : (w : Word) (old mid : ParserView) (at : ℕ) → Took (word_view w) at old mid
    → lead_at w ≡ None → (more : List model.Wanted)
    → breach (model.Start ∷ more) old ≡ Some (record { at = Some at; kind = kind.Syntax })
start_wrong w old mid at took found more =
    breaks old mid (word_view w) at model.Start kind.Syntax took
    (start_step w old mid at None took found) more

-- a word, and what is wanted after it
pub token_goes : (w : model.Word) (old new : ParserView) (at : ℕ) (want : model.Wanted)
    (front : List model.Wanted) → Took w at old new
    → model.step want old.begun w ≡ Ok (front, old.begun)
    → (more : List model.Wanted) → breach (want ∷ more) old ≡ breach (front ++ more) new
token_goes w old new at want front took e more =
    goes old new w at want front old.begun took e more
    ∙ ap (λ s. model.breach_of (front ++ more) s new.items) (sym took.begun)

-- the token that was taken
pub took_one : (t : Token) (w : Word) (old new : ParserView)
    → old.items ≡ Whole (lexeme_of t) ∷ new.items → new.begun ≡ old.begun
    → word_view w ≡ model.word_at t.kind t.text.now → Took (word_view w) t.start old new
took_one t w old new items begun is = record {
  token = lexeme_of t;
  items = items;
  is = is;
  place = refl;
  begun = begun;
}
