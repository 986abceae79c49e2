-- The end of a text.
use Rattle.std.proofs.Common.{◌≡◌, true, List, [], ◌∷◌, map, None, Result, Ok, refl, ap, ◌∙◌}
use Rattle.std.specs.Result.{IsErrAnd}
use Rattle.std.proofs.lemmas.Result.{err_from_is_err_and}
use Rattle.text_lex.specs.Lexical.{Item}
use Rattle.grammar.specs.Machine as machine
use Rattle.op_text.specs.declared.tree.Op.{Op}
use Rattle.op_text.specs.declared.wanted.Wanted.TheVariants as w
use Rattle.op_text.specs.Items.{texts}
use Rattle.op_text.specs.Language.{operation}
use Rattle.op_text.specs.Rules.{Scope, breach_of}
use Rattle.op_text.specs.Spelling.{in_turn, operation_text}
use Rattle.op_lang.specs.declared.fault.ReadError.{ReadError}
use Rattle.op_lang.specs.Tokens.{is_nil}
use Rattle.op_lang.specs.Reading.{ParserView, breach, Fails, left}
use Rattle.op_lang.specs.Parsing.{ReadsOps}
use Rattle.op_lang.proofs.Loops.{HasTurns}

pub ops_exit : {V : Type 0} (list : V → List Op) (old : ParserView) (e : ReadError) (r : Result V
    ReadError)
    → IsErrAnd r (λ x. x ≡ e) → Fails (breach (w.Ops ∷ []) old) e → ReadsOps list old r
ops_exit list old e r is h =
    let p = err_from_is_err_and r is in
    rw (p.1, p.2) h

no_breach : (s : Scope) (items : List Item) → is_nil items ≡ true
    → breach_of (w.Ops ∷ []) s items ≡ None
unfolding machine.breach_of
no_breach s [] h = refl
no_breach s (i ∷ items) h = cc

no_texts : (items : List Item) → is_nil items ≡ true → texts items ≡ []
no_texts [] h = refl
no_texts (i ∷ items) h = cc

pub ops_end : {V : Type 0} (list : V → List Op) (v : V) (old : ParserView) (new : ParserView)
    → HasTurns (w.Ops ∷ []) w.Ops operation_text operation (left old) old (list v) new
    → is_nil new.items ≡ true → ReadsOps list old (Ok v)
ops_end list v old new h e = (
  h.same [] ∙ no_breach new.scope new.items e,
  h.spells
      ∙ ap (in_turn operation_text (map operation (list v))) (no_texts new.items e),
)
