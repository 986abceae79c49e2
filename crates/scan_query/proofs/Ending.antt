-- A whole text is read.
use Rattle.scan_query.proofs.Common.{◌≡◌, ℕ, List, [], ◌∷◌, ◌++◌, Option, Some, None, Result, refl}
use Rattle.scan_query.proofs.Common.{sym, ap, ◌∙◌, length, option_map, IsErrAnd}
use Rattle.scan_query.proofs.Common.{err_from_is_err_and, LexFault, Bad, Item, Whole, items_of}
use Rattle.scan_query.proofs.Common.{Breach, QueryKind}
use Rattle.text_lex.specs.Lexical.{Lexeme}
use Rattle.scan_model.specs.TextLaws.{QueryTextLaws, words_of}
use Rattle.scan_model.proofs.Parts.{written_parts}
use Rattle.op_text.specs.Lines.{line_of}
use Rattle.grammar.specs.Machine as machine
use Rattle.scan_model.specs.declared.QueryKind.TheVariants as kind
use Rattle.scan_model.specs.Queries as query
use Rattle.scan_model.specs.Texts as model
use Rattle.scan_query.specs.declared.reading.ReadError.{ReadError}
use Rattle.scan_query.specs.Parsing.{IsQueryOf}
use Rattle.scan_query.specs.Reading.{Fails, Finds, ParserView, Reads, breach, left, start_of}

-- after the query: a token, a byte that starts none, or the end
pub spare_token : (old : ParserView) (u : Lexeme) (items : List Item)
    → old.items ≡ Whole u ∷ items
    → breach [] old ≡ Some (record { at = Some u.start; kind = kind.Syntax })
unfolding machine.breach_of
spare_token old u items e = rw e refl

pub spare_stranger : (old : ParserView) (f : LexFault) → old.items ≡ Bad f ∷ []
    → breach [] old ≡ Some (record { at = Some f.at; kind = kind.Lex })
unfolding machine.breach_of
spare_stranger old f e = rw e refl

pub at_end : (old : ParserView) → old.items ≡ [] → breach [] old ≡ None
unfolding machine.breach_of
at_end old e = rw e refl

-- the query of a text
pub is_query : (laws : QueryTextLaws) (text : List ℕ) (start new : ParserView) (k : ℕ)
    (before nodes : List query.Node) → before ≡ [] → start ≡ start_of text
    → Reads (left start) k new before nodes
    → breach (model.Start ∷ []) start ≡ breach [] new → breach [] new ≡ None → left new ≡ []
    → IsQueryOf text nodes
is_query laws text start new k before nodes empty is reads moves none nothing =
    let found : model.first_breach text ≡ None = ap (breach (model.Start ∷ [])) (sym is) ∙ moves
    ∙ none in
    let (q, says) = (laws.accepted (items_of text)).0 found in
    let words : words_of (items_of text) ≡ model.spelled reads.tree [] =
    ap left (sym is) ∙ reads.spelling ∙ ap (model.spelled reads.tree) nothing in
    let same : reads.tree ≡ q = laws.once reads.tree q (sym words ∙ says.spelling) in
    record {
      accepted = ap (option_map (λ b. record { line = line_of text b.at; kind = b.kind })) found;
      tree = q;
      says = says;
      nodes_are = record {
        nodes_are = reads.nodes
            ∙ ap (λ b. b ++ query.nodes_from (length b) reads.tree) empty
            ∙ ap query.nodes_of same;
        small = says.query.small;
        parts = written_parts q says.query.written;
      };
    }

-- the exit of a `?`
pub exit_finds : {A : Type 0} (found : Option (Breach QueryKind)) (e : ReadError) (r : Result A ReadError)
    → IsErrAnd r (λ x. x ≡ e) → Fails found e → Finds found r
exit_finds found e r is h =
    let p = err_from_is_err_and r is in
    rw (p.1, p.2) h
