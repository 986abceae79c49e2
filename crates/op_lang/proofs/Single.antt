-- Single tokens.
use Rattle.op_lang.proofs.Common.{◌≡◌, ℕ, zero, suc, Bool, true, false, cond, not, ◌&&◌, ◌||◌, List}
use Rattle.op_lang.proofs.Common.{[], ◌∷◌, ◌++◌, Option, Some, None, Result, Ok, refl, ap, ◌∙◌}
use Rattle.op_lang.proofs.Common.{subst, bytes_eq, codes, bytes_eq-Decides, Wanted, Terminal}
use Rattle.op_lang.proofs.Common.{WordOp, terminal_of, opens, follow, op_named, Scope, rules_at}
use Rattle.op_lang.proofs.Common.{unless, is_plain, is_bad, known_op, gate_named, comma_rules}
use Rattle.op_lang.proofs.Common.{close_rules, kind_text, direction_text, start_text}
use Rattle.text_lex.specs.declared.token.TokenKind.{TokenKind}
use Rattle.text_lex.specs.declared.token.TokenKind.TheVariants as kinds
use Rattle.text_lex.specs.Spelled.{fits_name}
use Rattle.op_text.specs.declared.fault.OpsKind.{OpsKind}
use Rattle.op_text.specs.declared.wanted.Wanted.TheVariants as w
use Rattle.op_text.specs.declared.terminal.Terminal.TheVariants as t
use Rattle.op_text.specs.declared.terminal.Spelling.{Spelling}
use Rattle.op_text.specs.declared.terminal.Spelling.TheVariants as sp
use Rattle.op_text.specs.declared.gate.Gate.{Gate}
use Rattle.op_text.specs.declared.gate.Gate.TheVariants as gates
use Rattle.op_lang.specs.Reading.{ParserView, breach, is_allowed, Took, left}
use Rattle.op_lang.proofs.Taking.{took_moves, took_left}
use Rattle.op_lang.specs.Pieces.{is_mark, mark_text, is_name, is_name_or_end, is_second}
use Rattle.op_lang.specs.Pieces.{after_second, comma_or_end, after_name, end_text, is_more}
use Rattle.op_lang.specs.Pieces.{after_comma_or_close, comma_or_close, is_kind, is_statement}
use Rattle.op_lang.specs.Pieces.{is_named, is_finish, is_serial_word, is_let_word, kind_at, is_down}
use Rattle.op_lang.specs.Pieces.{is_one, is_comma, after_start, after_line, gate_text, after_leaf}
use Rattle.op_lang.specs.Pieces.{leaf_spelled, lacking, bit_leaf}
use Rattle.op_lang.specs.declared.pieces.Start.TheVariants as start
use Rattle.op_lang.specs.declared.pieces.Leaf.{Leaf}
use Rattle.op_lang.specs.declared.pieces.Leaf.TheVariants as leaf

-- a terminal's spelling, if it has only one
abbrev pub IsSpelled : Terminal → List ℕ → Type 0
IsSpelled (t.Name sp.Plain) text = Unit {0}
IsSpelled (t.Name sp.Op) text = text ≡ codes "op"
IsSpelled (t.Name sp.Word) text = text ≡ codes "word"
IsSpelled (t.Name sp.Bit) text = text ≡ codes "bit"
IsSpelled (t.Name sp.Serial) text = text ≡ codes "serial"
IsSpelled (t.Name sp.Up) text = text ≡ codes "up"
IsSpelled (t.Name sp.Down) text = text ≡ codes "down"
IsSpelled (t.Name sp.Let) text = text ≡ codes "let"
IsSpelled t.Zero text = text ≡ codes "0"
IsSpelled t.One text = text ≡ codes "1"
IsSpelled t.Equals text = text ≡ codes "="
IsSpelled t.Opens text = text ≡ codes "("
IsSpelled t.Closes text = text ≡ codes ")"
IsSpelled t.Begins text = text ≡ codes "{"
IsSpelled t.Finishes text = text ≡ codes "}"
IsSpelled t.Comma text = text ≡ codes ","
IsSpelled t.Semi text = text ≡ codes ";"
IsSpelled t.Colon text = text ≡ codes ":"
IsSpelled t.Arrow text = text ≡ codes "->"
IsSpelled t.Other text = Unit {0}

same : (text lit : List ℕ) → bytes_eq text lit ≡ true → text ≡ lit
same text lit h = (bytes_eq-Decides text lit).0 h

pick : (text lit : List ℕ) (b : Bool) (u v : Terminal) → bytes_eq text lit ≡ b
    → (text ≡ lit → IsSpelled u text) → IsSpelled v text → IsSpelled (cond b u v) text
pick text lit true u v e f g = f (same text lit e)
pick text lit false u v e f g = g

pick_name : (text lit : List ℕ) (b : Bool) (n m : Spelling) → bytes_eq text lit ≡ b
    → (text ≡ lit → IsSpelled (t.Name n) text) → IsSpelled (t.Name m) text
    → IsSpelled (t.Name (cond b n m)) text
pick_name text lit true n m e f g = f (same text lit e)
pick_name text lit false n m e f g = g

pub spelled : (k : TokenKind) (text : List ℕ) → IsSpelled (terminal_of k text) text
spelled kinds.Name text =
    pick_name text (codes "op") _ sp.Op _ refl (λ h.
    h) (pick_name text (codes "word") _ sp.Word _ refl (λ h.
    h) (pick_name text (codes "bit") _ sp.Bit _ refl (λ h. h)
    (pick_name text (codes "serial") _ sp.Serial _ refl (λ h.
    h) (pick_name text (codes "up") _ sp.Up _ refl (λ h.
    h) (pick_name text (codes "down") _ sp.Down _ refl (λ h. h)
    (pick_name text (codes "let") _ sp.Let sp.Plain refl (λ h. h) tt))))))
spelled kinds.Number text = pick text (codes "0") _ t.Zero _ refl (λ h.
    h) (pick text (codes "1") _ t.One t.Other refl (λ h. h) tt)
spelled kinds.Symbol text =
    pick text (codes "=") _ t.Equals _ refl (λ h.
    h) (pick text (codes "(") _ t.Opens _ refl (λ h.
    h) (pick text (codes ")") _ t.Closes _ refl (λ h. h)
    (pick text (codes "{") _ t.Begins _ refl (λ h.
    h) (pick text (codes "}") _ t.Finishes _ refl (λ h.
    h) (pick text (codes ",") _ t.Comma _ refl (λ h. h)
    (pick text (codes ";") _ t.Semi _ refl (λ h.
    h) (pick text (codes ":") _ t.Colon _ refl (λ h.
    h) (pick text (codes "->") _ t.Arrow t.Other refl (λ h. h) tt))))))))

pub took_spelled : (want : Wanted) (old : ParserView) (text : List ℕ) (u : Terminal) (new :
    ParserView)
    → Took want old text u new → IsSpelled u text
took_spelled want old text u new h = let P : Terminal → Type 0 = λ v. IsSpelled v text in
    subst P h.is (spelled h.kind text)

-- where a name's rules are met it is a name
pub fits : (p f : Bool) (k : OpsKind) (r : Result Scope OpsKind) (s : Scope)
    → unless (not (p && f)) k r ≡ Ok s → f ≡ true
fits true true k r s h = refl
fits true false k r s h = cc
fits false f k r s h = cc

fits_too : (p f c : Bool) (k : OpsKind) (r : Result Scope OpsKind) (s : Scope)
    → unless (not (p && f) || c) k r ≡ Ok s → f ≡ true
fits_too true true c k r s h = refl
fits_too true false c k r s h = cc
fits_too false f c k r s h = cc

pub no_none : (b : Bool) (text : List ℕ) → b ≡ true → None ≡ cond b (Some text) None → ⊥
no_none true text e h = cc
no_none false text e h = cc

pub mark_follows : (want : Wanted) (u : Terminal) (o : Bool) (text : List ℕ) → is_mark want ≡ true
    → is_allowed (follow want u o) ≡ true → IsSpelled u text → (follow want u o ≡ Some [])
    × (text ≡ mark_text want)
mark_follows w.Open t.Opens o text m a s = (refl, s)
mark_follows w.Begin t.Begins o text m a s = (refl, s)
mark_follows w.Colon t.Colon o text m a s = (refl, s)
mark_follows w.Arrow t.Arrow o text m a s = (refl, s)
mark_follows w.Equals t.Equals o text m a s = (refl, s)
mark_follows w.WordEnd t.Semi o text m a s = (refl, s)
mark_follows w.LetEnd t.Semi o text m a s = (refl, s)
mark_follows w.AssignEnd t.Semi o text m a s = (refl, s)
mark_follows w.GateOpen t.Opens o text m a s = (refl, s)
mark_follows _ _ o text m a s = cc

pub name_follows : (want : Wanted) (u : Terminal) (o : Bool) (text : List ℕ) (s s' : Scope)
    → is_name want ≡ true → is_allowed (follow want u o) ≡ true → rules_at want s u text o ≡ Ok s'
    → (follow want u o ≡ Some []) × (fits_name text ≡ true)
name_follows w.NewOp (t.Name n) o text s s' m a r =
    (refl, fits_too (is_plain n) (fits_name text) _ _ _ s' r)
name_follows w.NewParam (t.Name n) o text s s' m a r =
    (refl, fits (is_plain n) (fits_name text) _ _ s' r)
name_follows w.NewResult (t.Name n) o text s s' m a r =
    (refl, fits (is_plain n) (fits_name text) _ _ s' r)
name_follows w.NewTarget (t.Name n) o text s s' m a r =
    (refl, fits (is_plain n) (fits_name text) _ _ s' r)
name_follows w.ArgName (t.Name n) o text s s' m a r =
    (refl, fits (is_plain n) (fits_name text) _ _ s' r)
name_follows w.StateName (t.Name n) o text s s' m a r =
    (refl, fits (is_plain n) (fits_name text) _ _ s' r)
name_follows w.LetName (t.Name n) o text s s' m a r =
    (refl, fits (is_plain n) (fits_name text) _ _ s' r)
name_follows _ _ o text s s' m a r = cc

pub listed_follows : (want : Wanted) (u : Terminal) (o : Bool) (text : List ℕ) (s s' : Scope)
    → is_name_or_end want ≡ true → is_named u ≡ true → rules_at want s u text o ≡ Ok s'
    → (follow want u o ≡ Some (after_name want)) × (fits_name text ≡ true)
listed_follows w.Args (t.Name n) o text s s' m a r =
    (refl, fits (is_plain n) (fits_name text) _ _ s' r)
listed_follows w.States (t.Name n) o text s s' m a r =
    (refl, fits (is_plain n) (fits_name text) _ _ s' r)
listed_follows w.Assigns (t.Name n) o text s s' m a r =
    (refl, fits (is_plain n) (fits_name text) _ _ s' r)
listed_follows _ _ o text s s' m a r = cc

pub end_follows : (want : Wanted) (u : Terminal) (o : Bool) (text : List ℕ)
    → is_name_or_end want ≡ true → is_named u ≡ false → is_allowed (follow want u o) ≡ true
    → IsSpelled u text
    → (follow want u o ≡ Some []) × (text ≡ end_text want)
end_follows w.Args t.Closes o text m n a s = (refl, s)
end_follows w.States t.Closes o text m n a s = (refl, s)
end_follows w.Assigns t.Finishes o text m n a s = (refl, s)
end_follows _ _ o text m n a s = cc

pub more_follows : (want : Wanted) (u : Terminal) (o : Bool) (text : List ℕ) → is_more want ≡ true
    → is_allowed (follow want u o) ≡ true → IsSpelled u text
    → (follow want u o ≡ Some (after_comma_or_close want (is_comma u)))
    × (text ≡ comma_or_close (is_comma u))
more_follows w.Params t.Comma o text m a s = (refl, s)
more_follows w.Params t.Closes o text m a s = (refl, s)
more_follows w.MoreArgs t.Comma o text m a s = (refl, s)
more_follows w.MoreArgs t.Closes o text m a s = (refl, s)
more_follows w.MoreStates t.Comma o text m a s = (refl, s)
more_follows w.MoreStates t.Closes o text m a s = (refl, s)
more_follows _ _ o text m a s = cc

pub second_follows : (want : Wanted) (u : Terminal) (o : Bool) (text : List ℕ)
    → is_second want ≡ true → is_allowed (follow want u o) ≡ true → IsSpelled u text
    → (follow want u o ≡ Some (after_second want (is_comma u)))
    × (text ≡ comma_or_end want (is_comma u))
second_follows w.SecondResult t.Comma o text m a s = (refl, s)
second_follows w.SecondResult t.Begins o text m a s = (refl, s)
second_follows w.SecondTarget t.Comma o text m a s = (refl, s)
second_follows w.SecondTarget t.Equals o text m a s = (refl, s)
second_follows _ _ o text m a s = cc

pub kind_follows : (want : Wanted) (u : Terminal) (o : Bool) (text : List ℕ) → is_kind want ≡ true
    → is_allowed (follow want u o) ≡ true → IsSpelled u text
    → (follow want u o ≡ Some []) × (text ≡ kind_text (kind_at u))
kind_follows w.ParamKind (t.Name sp.Word) o text m a s = (refl, s)
kind_follows w.ParamKind (t.Name sp.Bit) o text m a s = (refl, s)
kind_follows w.ResultKind (t.Name sp.Word) o text m a s = (refl, s)
kind_follows w.ResultKind (t.Name sp.Bit) o text m a s = (refl, s)
kind_follows _ _ o text m a s = cc

pub direction_follows : (u : Terminal) (o : Bool) (text : List ℕ)
    → is_allowed (follow w.Direction u o) ≡ true → IsSpelled u text
    → (follow w.Direction u o ≡ Some []) × (text ≡ direction_text (is_down u))
direction_follows (t.Name sp.Up) o text a s = (refl, s)
direction_follows (t.Name sp.Down) o text a s = (refl, s)
direction_follows _ o text a s = cc

pub start_follows : (u : Terminal) (o : Bool) (text : List ℕ)
    → is_allowed (follow w.Start u o) ≡ true → IsSpelled u text
    → (follow w.Start u o ≡ Some []) × (text ≡ start_text (is_one u))
start_follows t.Zero o text a s = (refl, s)
start_follows t.One o text a s = (refl, s)
start_follows _ o text a s = cc

pub op_follows : (u : Terminal) (o : Bool) (text : List ℕ) → is_allowed (follow w.Ops u o) ≡ true
    → IsSpelled u text
    → (follow w.Ops u o ≡ Some (w.NewOp ∷ w.Open ∷ w.NewParam ∷ w.Colon ∷ w.ParamKind ∷ w.Params
    ∷ w.Arrow ∷ w.NewResult ∷ w.Colon ∷ w.ResultKind ∷ w.SecondResult ∷ w.FirstStmt ∷ w.Ops ∷ []))
    × (text ≡ codes "op")
op_follows (t.Name sp.Op) o text a s = (refl, s)
op_follows _ o text a s = cc

op_known : (b : Bool) (k : OpsKind) (s s' : Scope) (x : Option WordOp)
    → unless b k (known_op s x) ≡ Ok s' → x ≡ None → ⊥
op_known true k s s' x h e = cc
op_known false k s s' None h e = cc
op_known false k s s' (Some p) h e = cc

pub word_op_follows : (u : Terminal) (o : Bool) (text : List ℕ) (s s' : Scope)
    → is_allowed (follow w.WordOpName u o) ≡ true → rules_at w.WordOpName s u text o ≡ Ok s'
    → (follow w.WordOpName u o ≡ Some []) × (op_named text ≡ None → ⊥)
word_op_follows (t.Name n) o text s s' a r = (
  refl,
  op_known (is_bad n text) _ s s' (op_named text) r,
)
word_op_follows _ o text s s' a r = cc

pub end_statement : (want : Wanted) (u : Terminal) (o : Bool) (text : List ℕ)
    → is_statement want ≡ true → is_finish u ≡ true → is_allowed (follow want u o) ≡ true
    → IsSpelled u text
    → (follow want u o ≡ Some []) × (text ≡ codes "}")
end_statement w.Stmts t.Finishes o text m n a s = (refl, s)
end_statement w.FirstStmt t.Finishes o text m n a s = cc
end_statement _ _ o text m n a s = cc

pub serial_statement : (want : Wanted) (u : Terminal) (o : Bool) (text : List ℕ)
    → is_statement want ≡ true → is_serial_word u ≡ true → IsSpelled u text
    → (follow want u o ≡ Some (after_start start.Serial)) × (text ≡ codes "serial")
serial_statement w.Stmts (t.Name sp.Serial) o text m n s = (refl, s)
serial_statement w.FirstStmt (t.Name sp.Serial) o text m n s = (refl, s)
serial_statement _ _ o text m n s = cc

pub word_statement : (want : Wanted) (u : Terminal) (o : Bool) (text : List ℕ) (s s' : Scope)
    → is_statement want ≡ true → is_finish u ≡ false → is_serial_word u ≡ false
    → is_allowed (follow want u o) ≡ true
    → rules_at want s u text o ≡ Ok s' → (follow want u o ≡ Some (after_start (start.Word text)))
    × (fits_name text ≡ true)
word_statement w.FirstStmt (t.Name sp.Plain) o text s s' m f n a r =
    (refl, fits (is_plain sp.Plain) (fits_name text) _ _ s' r)
word_statement w.Stmts (t.Name sp.Plain) o text s s' m f n a r =
    (refl, fits (is_plain sp.Plain) (fits_name text) _ _ s' r)
word_statement _ _ o text s s' m f n a r = cc

pub let_line : (u : Terminal) (o : Bool) (text : List ℕ) → is_let_word u ≡ true → IsSpelled u text
    → (follow w.Lets u o ≡ Some (after_line None)) × (text ≡ codes "let")
let_line (t.Name sp.Let) o text n s = (refl, s)
let_line _ o text n s = cc

pub target_line : (u : Terminal) (o : Bool) (text : List ℕ) (s s' : Scope) → is_let_word u ≡ false
    → is_allowed (follow w.Lets u o) ≡ true → rules_at w.Lets s u text o ≡ Ok s'
    → (follow w.Lets u o ≡ Some (after_line (Some text))) × (fits_name text ≡ true)
target_line (t.Name sp.Plain) o text s s' n a r =
    (refl, fits (is_plain sp.Plain) (fits_name text) _ _ s' r)
target_line (t.Name sp.Op) o text s s' n a r = cc
target_line (t.Name sp.Word) o text s s' n a r = cc
target_line (t.Name sp.Bit) o text s s' n a r = cc
target_line (t.Name sp.Up) o text s s' n a r = cc
target_line (t.Name sp.Down) o text s s' n a r = cc
target_line (t.Name sp.Serial) o text s s' n a r = cc
target_line _ o text s s' n a r = cc

pub mark_took : (want : Wanted) (old : ParserView) (text : List ℕ) (u : Terminal) (new : ParserView)
    → is_mark want ≡ true → Took want old text u new → (more : List Wanted)
    → breach (want ∷ more) old ≡ breach (more) new
mark_took want old text u new m k more = took_moves want old text u new k []
    (mark_follows want u (opens new.items) text m k.allowed (took_spelled want old text u new k)).0
    more

pub name_took : (want : Wanted) (old : ParserView) (text : List ℕ) (u : Terminal) (new : ParserView)
    → is_name want ≡ true → Took want old text u new → (more : List Wanted)
    → breach (want ∷ more) old ≡ breach (more) new
name_took want old text u new m k more = took_moves want old text u new k []
    (name_follows want u (opens new.items) text old.scope new.scope m k.allowed k.rules).0 more

pub listed_took : (want : Wanted) (old : ParserView) (text : List ℕ) (u : Terminal) (new :
    ParserView)
    → is_name_or_end want ≡ true → is_named u ≡ true → Took want old text u new
    → (more : List Wanted) → breach (want ∷ more) old ≡ breach (after_name want ++ more) new
listed_took want old text u new m n k more = took_moves want old text u new k (after_name want)
    (listed_follows want u (opens new.items) text old.scope new.scope m n k.rules).0 more

pub end_took : (want : Wanted) (old : ParserView) (text : List ℕ) (u : Terminal) (new : ParserView)
    → is_name_or_end want ≡ true → is_named u ≡ false → Took want old text u new
    → (more : List Wanted) → breach (want ∷ more) old ≡ breach (more) new
end_took want old text u new m n k more = took_moves want old text u new k []
    (end_follows want u (opens new.items) text m n k.allowed (took_spelled want old text u new k)).0
    more

pub more_took : (want : Wanted) (old : ParserView) (text : List ℕ) (u : Terminal) (new : ParserView)
    → is_more want ≡ true → Took want old text u new → (more : List Wanted)
    → breach (want ∷ more) old ≡ breach (after_comma_or_close want (is_comma u) ++ more) new
more_took want old text u new m k more = took_moves want old text u new k
    (after_comma_or_close want (is_comma u))
    (more_follows want u (opens new.items) text m k.allowed (took_spelled want old text u new k)).0
    more

pub second_took : (want : Wanted) (old : ParserView) (text : List ℕ) (u : Terminal) (new :
    ParserView)
    → is_second want ≡ true → Took want old text u new → (more : List Wanted)
    → breach (want ∷ more) old ≡ breach (after_second want (is_comma u) ++ more) new
second_took want old text u new m k more = took_moves want old text u new k
    (after_second want (is_comma u))
    (second_follows want u (opens new.items) text m k.allowed
    (took_spelled want old text u new k)).0 more

pub kind_took : (want : Wanted) (old : ParserView) (text : List ℕ) (u : Terminal) (new : ParserView)
    → is_kind want ≡ true → Took want old text u new → (more : List Wanted)
    → breach (want ∷ more) old ≡ breach (more) new
kind_took want old text u new m k more = took_moves want old text u new k []
    (kind_follows want u (opens new.items) text m k.allowed (took_spelled want old text u new k)).0
    more

pub direction_took : (old : ParserView) (text : List ℕ) (u : Terminal) (new : ParserView)
    → Took w.Direction old text u new → (more : List Wanted)
    → breach (w.Direction ∷ more) old ≡ breach (more) new
direction_took old text u new k more = took_moves w.Direction old text u new k []
    (direction_follows u (opens new.items) text k.allowed
    (took_spelled w.Direction old text u new k)).0 more

pub start_took : (old : ParserView) (text : List ℕ) (u : Terminal) (new : ParserView)
    → Took w.Start old text u new → (more : List Wanted)
    → breach (w.Start ∷ more) old ≡ breach (more) new
start_took old text u new k more = took_moves w.Start old text u new k []
    (start_follows u (opens new.items) text k.allowed (took_spelled w.Start old text u new k)).0
    more

pub op_took : (old : ParserView) (text : List ℕ) (u : Terminal) (new : ParserView)
    → Took w.Ops old text u new → (more : List Wanted)
    → breach (w.Ops ∷ more) old ≡ breach (w.NewOp ∷ w.Open ∷ w.NewParam ∷ w.Colon ∷ w.ParamKind
    ∷ w.Params ∷ w.Arrow ∷ w.NewResult ∷ w.Colon ∷ w.ResultKind ∷ w.SecondResult ∷ w.FirstStmt
    ∷ w.Ops
    ∷ more) new
op_took old text u new k more = took_moves w.Ops old text u new k (w.NewOp ∷ w.Open ∷ w.NewParam
    ∷ w.Colon ∷ w.ParamKind ∷ w.Params ∷ w.Arrow ∷ w.NewResult ∷ w.Colon ∷ w.ResultKind
    ∷ w.SecondResult
    ∷ w.FirstStmt ∷ w.Ops ∷ []) (op_follows u (opens new.items) text k.allowed
    (took_spelled w.Ops old text u new k)).0 more

pub word_op_took : (old : ParserView) (text : List ℕ) (u : Terminal) (new : ParserView)
    → Took w.WordOpName old text u new → (more : List Wanted)
    → breach (w.WordOpName ∷ more) old ≡ breach (more) new
word_op_took old text u new k more = took_moves w.WordOpName old text u new k []
    (word_op_follows u (opens new.items) text old.scope new.scope k.allowed k.rules).0 more

pub end_statement_took : (want : Wanted) (old : ParserView) (text : List ℕ) (u : Terminal)
    (new : ParserView) → is_statement want ≡ true → is_finish u ≡ true → Took want old text u new
    → (more : List Wanted) → breach (want ∷ more) old ≡ breach (more) new
end_statement_took want old text u new m n k more =
    took_moves want old text u new k [] (end_statement want u (opens new.items) text m n k.allowed
    (took_spelled want old text u new k)).0 more

pub serial_took : (want : Wanted) (old : ParserView) (text : List ℕ) (u : Terminal) (new :
    ParserView)
    → is_statement want ≡ true → is_serial_word u ≡ true → Took want old text u new
    → (more : List Wanted) → breach (want ∷ more) old
    ≡ breach (after_start start.Serial ++ more) new
serial_took want old text u new m n k more = took_moves want old text u new k
    (after_start start.Serial) (serial_statement want u (opens new.items) text m n
    (took_spelled want old text u new k)).0 more

pub word_took : (want : Wanted) (old : ParserView) (text : List ℕ) (u : Terminal) (new : ParserView)
    → is_statement want ≡ true → is_finish u ≡ false → is_serial_word u ≡ false
    → Took want old text u new → (more : List Wanted)
    → breach (want ∷ more) old ≡ breach (after_start (start.Word text) ++ more) new
word_took want old text u new m f n k more = took_moves want old text u new k
    (after_start (start.Word text)) (word_statement want u (opens new.items) text old.scope
    new.scope m f n k.allowed k.rules).0 more

pub let_took : (old : ParserView) (text : List ℕ) (u : Terminal) (new : ParserView)
    → is_let_word u ≡ true
    → Took w.Lets old text u new → (more : List Wanted)
    → breach (w.Lets ∷ more) old ≡ breach (after_line None ++ more) new
let_took old text u new n k more = took_moves w.Lets old text u new k (after_line None)
    (let_line u (opens new.items) text n (took_spelled w.Lets old text u new k)).0 more

pub target_took : (old : ParserView) (text : List ℕ) (u : Terminal) (new : ParserView)
    → is_let_word u ≡ false → Took w.Lets old text u new → (more : List Wanted)
    → breach (w.Lets ∷ more) old ≡ breach (after_line (Some text) ++ more) new
target_took old text u new n k more = took_moves w.Lets old text u new k (after_line (Some text))
    (target_line u (opens new.items) text old.scope new.scope n k.allowed k.rules).0 more

-- values
gate_is : (text lit : List ℕ) (b : Bool) (g h : Gate) (x : Option Gate) → bytes_eq text lit ≡ b
    → (text ≡ lit → text ≡ gate_text g) → (x ≡ Some h → text ≡ gate_text h)
    → cond b (Some g) x ≡ Some h → text ≡ gate_text h
gate_is text lit true g h x e f k i = let s : g ≡ h = cc in f (same text lit e) ∙ ap gate_text s
gate_is text lit false g h x e f k i = k i

pub gate_spelled : (text : List ℕ) (g : Gate) → gate_named text ≡ Some g → text ≡ gate_text g
gate_spelled text g h =
    gate_is text (codes "not") _ gates.Not g _ refl (λ e.
    e) (gate_is text (codes "and") _ gates.And g _ refl (λ e.
    e) (gate_is text (codes "or") _ gates.Or g _ refl (λ e. e)
    (gate_is text (codes "xor") _ gates.Xor g _ refl (λ e.
    e) (gate_is text (codes "maj") _ gates.Maj g None refl (λ e. e) (λ e. cc))))) h

unless_ok : (b : Bool) (k : OpsKind) (r : Result Scope OpsKind) (s : Scope) → unless b k r ≡ Ok s
    → r ≡ Ok s
unless_ok true k r s h = cc
unless_ok false k r s h = h

ok_missing : (s s' : Scope) → ◌≡◌ {A = Result Scope OpsKind} (Ok s) (Ok s')
    → s'.block.missing ≡ s.block.missing
ok_missing s s' h = let e : s' ≡ s = cc in ap (λ (x : Scope). x.block.missing) e

pub bit_value : (u : Terminal) (o : Bool) (text : List ℕ) (s s' : Scope) → is_named u ≡ false
    → is_allowed (follow w.Value u o) ≡ true → IsSpelled u text
    → rules_at w.Value s u text o ≡ Ok s'
    → (follow w.Value u o ≡ Some (after_leaf (bit_leaf u))) × (text ≡ leaf_spelled (bit_leaf u))
    × (s'.block.missing ≡ lacking (bit_leaf u) s.block.missing)
bit_value t.Zero o text s s' n a k r = (refl, k, ok_missing s s' r)
bit_value t.One o text s s' n a k r = (refl, k, ok_missing s s' r)
bit_value _ o text s s' n a k r = cc

pub gate_value : (u : Terminal) (o : Bool) (text : List ℕ) (s s' : Scope) (g : Gate)
    → is_named u ≡ true → o ≡ true → gate_named text ≡ Some g → rules_at w.Value s u text o ≡ Ok s'
    → (follow w.Value u o ≡ Some (after_leaf (leaf.Gate g)))
    × (s'.block.missing ≡ lacking (leaf.Gate g) s.block.missing)
gate_value (t.Name n) true text s s' g m e k r =
    let r' = rw k at (unless_ok (is_bad n text) _ _ s' r) in
    (refl, ok_missing _ s' (unless_ok _ _ _ s' r'))
gate_value _ o text s s' g m e k r = cc

-- a gate's name, where a parenthesis follows
pub gate_known : (u : Terminal) (o : Bool) (text : List ℕ) (s s' : Scope) → is_named u ≡ true
    → o ≡ true → gate_named text ≡ None → rules_at w.Value s u text o ≡ Ok s' → ⊥
gate_known (t.Name n) true text s s' m e k r =
    let r' = rw k at (unless_ok (is_bad n text) _ _ s' r) in cc
gate_known _ o text s s' m e k r = cc

pub name_value : (u : Terminal) (o : Bool) (text : List ℕ) (s s' : Scope) → is_named u ≡ true
    → o ≡ false → rules_at w.Value s u text o ≡ Ok s'
    → (follow w.Value u o ≡ Some (after_leaf (leaf.Read text))) × (fits_name text ≡ true)
    × (s'.block.missing ≡ s.block.missing)
name_value (t.Name n) false text s s' m e r = (
  refl,
  fits (is_plain n) (fits_name text) _ _ s' r,
  ok_missing s s' (unless_ok _ _ _ s' (unless_ok (is_bad n text) _ _ s' r)),
)
name_value _ o text s s' m e r = cc

-- after an argument
comma_ok : (s s' : Scope) (n : ℕ) (outer m : List ℕ) → m ≡ suc n ∷ outer → comma_rules s m ≡ Ok s'
    → s'.block.missing ≡ n ∷ outer
comma_ok s s' n outer m e r = let r' = rw e at r in ok_missing _ s' r'

comma_no_close : (s s' : Scope) (n : ℕ) (outer m : List ℕ) → m ≡ suc n ∷ outer
    → close_rules s m ≡ Ok s' → ⊥
comma_no_close s s' n outer m e r = let r' = rw e at r in cc

close_ok : (s s' : Scope) (outer m : List ℕ) → m ≡ zero ∷ outer → close_rules s m ≡ Ok s'
    → s'.block.missing ≡ outer
close_ok s s' outer m e r = let r' = rw e at r in ok_missing _ s' r'

close_no_comma : (s s' : Scope) (outer m : List ℕ) → m ≡ zero ∷ outer → comma_rules s m ≡ Ok s' → ⊥
close_no_comma s s' outer m e r = let r' = rw e at r in cc

pub comma_follows : (u : Terminal) (o : Bool) (text : List ℕ) (s s' : Scope) (n : ℕ)
    (outer : List ℕ) → s.block.missing ≡ suc n ∷ outer → is_allowed (follow w.More u o) ≡ true
    → IsSpelled u text → rules_at w.More s u text o ≡ Ok s'
    → (follow w.More u o ≡ Some (w.Value ∷ w.More ∷ [])) × (text ≡ codes ",")
    × (s'.block.missing ≡ n ∷ outer)
comma_follows t.Comma o text s s' n outer e a k r =
    (refl, k, comma_ok s s' n outer s.block.missing e r)
comma_follows t.Closes o text s s' n outer e a k r =
    absurd (comma_no_close s s' n outer s.block.missing e r)
comma_follows _ o text s s' n outer e a k r = cc

pub close_follows : (u : Terminal) (o : Bool) (text : List ℕ) (s s' : Scope) (outer : List ℕ)
    → s.block.missing ≡ zero ∷ outer → is_allowed (follow w.More u o) ≡ true → IsSpelled u text
    → rules_at w.More s u text o ≡ Ok s'
    → (follow w.More u o ≡ Some []) × (text ≡ codes ")") × (s'.block.missing ≡ outer)
close_follows t.Closes o text s s' outer e a k r =
    (refl, k, close_ok s s' outer s.block.missing e r)
close_follows t.Comma o text s s' outer e a k r =
    absurd (close_no_comma s s' outer s.block.missing e r)
close_follows _ o text s s' outer e a k r = cc

-- what one of these was taken as
pub record AsComma (n : ℕ) (outer : List ℕ) (old new : ParserView) : Type 0 where
  pub moves : (more : List Wanted) → breach (w.More ∷ more) old
      ≡ breach (w.Value ∷ w.More ∷ more) new
  pub spells : left old ≡ codes "," ∷ left new
  pub missing : new.scope.block.missing ≡ n ∷ outer

pub comma_took : (old : ParserView) (text : List ℕ) (u : Terminal) (new : ParserView) (n : ℕ)
    (outer : List ℕ) → old.scope.block.missing ≡ suc n ∷ outer → Took w.More old text u new
    → AsComma n outer old new
comma_took old text u new n outer e k =
    let f = comma_follows u (opens new.items) text old.scope new.scope n outer e k.allowed
    (took_spelled w.More old text u new k) k.rules in
    record {
      moves = took_moves w.More old text u new k (w.Value ∷ w.More ∷ []) f.0;
      spells = took_left w.More old text u new k ∙ ap (λ x. x ∷ left new) f.1;
      missing = f.2;
    }

pub record AsClose (outer : List ℕ) (old new : ParserView) : Type 0 where
  pub moves : (more : List Wanted) → breach (w.More ∷ more) old ≡ breach more new
  pub spells : left old ≡ codes ")" ∷ left new
  pub missing : new.scope.block.missing ≡ outer

pub close_took : (old : ParserView) (text : List ℕ) (u : Terminal) (new : ParserView) (outer : List
    ℕ)
    → old.scope.block.missing ≡ zero ∷ outer → Took w.More old text u new → AsClose outer old new
close_took old text u new outer e k =
    let f = close_follows u (opens new.items) text old.scope new.scope outer e k.allowed
    (took_spelled w.More old text u new k) k.rules in
    record {
      moves = took_moves w.More old text u new k [] f.0;
      spells = took_left w.More old text u new k ∙ ap (λ x. x ∷ left new) f.1;
      missing = f.2;
    }

pub record AsLeaf (l : Leaf) (old new : ParserView) : Type 0 where
  pub moves : (more : List Wanted) → breach (w.Value ∷ more) old
      ≡ breach (after_leaf l ++ more) new
  pub spells : left old ≡ leaf_spelled l ∷ left new
  pub missing : new.scope.block.missing ≡ lacking l old.scope.block.missing

pub bit_took : (old : ParserView) (text : List ℕ) (u : Terminal) (new : ParserView)
    → is_named u ≡ false
    → Took w.Value old text u new → AsLeaf (bit_leaf u) old new
bit_took old text u new n k =
    let f = bit_value u (opens new.items) text old.scope new.scope n k.allowed
    (took_spelled w.Value old text u new k) k.rules in
    record {
      moves = took_moves w.Value old text u new k (after_leaf (bit_leaf u)) f.0;
      spells = took_left w.Value old text u new k ∙ ap (λ x. x ∷ left new) f.1;
      missing = f.2;
    }

pub gate_took : (old : ParserView) (text : List ℕ) (u : Terminal) (new : ParserView) (g : Gate)
    → is_named u ≡ true → opens new.items ≡ true → gate_named text ≡ Some g
    → Took w.Value old text u new → AsLeaf (leaf.Gate g) old new
gate_took old text u new g n o e k =
    let f = gate_value u (opens new.items) text old.scope new.scope g n o e k.rules in
    record {
      moves = took_moves w.Value old text u new k (after_leaf (leaf.Gate g)) f.0;
      spells = took_left w.Value old text u new k
          ∙ ap (λ x. x ∷ left new) (gate_spelled text g e);
      missing = f.1;
    }

pub read_took : (old : ParserView) (text : List ℕ) (u : Terminal) (new : ParserView)
    → is_named u ≡ true
    → opens new.items ≡ false → Took w.Value old text u new → AsLeaf (leaf.Read text) old new
read_took old text u new n o k =
    let f = name_value u (opens new.items) text old.scope new.scope n o k.rules in
    record {
      moves = took_moves w.Value old text u new k [] f.0;
      spells = took_left w.Value old text u new k;
      missing = f.2;
    }

open_is : (u : Terminal) (o : Bool) → is_allowed (follow w.GateOpen u o) ≡ true
    → follow w.GateOpen u o ≡ Some []
open_is t.Opens o a = refl
open_is _ o a = cc

pub open_took : (old : ParserView) (text : List ℕ) (u : Terminal) (new : ParserView)
    → Took w.GateOpen old text u new → (more : List Wanted)
    → breach (w.GateOpen ∷ more) old ≡ breach more new
open_took old text u new k more = took_moves w.GateOpen old text u new k []
    (open_is u (opens new.items) k.allowed) more
