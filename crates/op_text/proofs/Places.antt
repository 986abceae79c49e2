-- Places don't matter.
use Rattle.std.proofs.Common.{◌≡◌, List, [], ◌∷◌, ◌++◌, map, Option, None, Result, Ok, Err, refl}
use Rattle.text_lex.specs.Lexical.{Item, Lexeme, Whole, Bad}
use Rattle.op_text.specs.declared.fault.OpsKind.{OpsKind}
use Rattle.grammar.specs.Machine as machine
use Rattle.op_text.specs.Items.{Breach, opens, terminal_of}
use Rattle.op_text.specs.declared.wanted.Wanted.{Wanted}
use Rattle.op_text.specs.Rules.{Scope, step, breach_of}
use Rattle.op_text.specs.Spelling.{bare, PlacesDoNotMatter}

opens_bare : (items : List Item) → opens (map bare items) ≡ opens items
opens_bare [] = refl
opens_bare (Whole u ∷ items) = refl
opens_bare (Bad f ∷ items) = refl

after_same : (r : Result (List Wanted × Scope) OpsKind) (u v : Lexeme) (go go' : List Wanted → Scope
    → Option Breach) → ((f : List Wanted) (s : Scope) → go f s ≡ None → go' f s ≡ None)
    → machine.after r u go ≡ None → machine.after r v go' ≡ None
after_same (Ok r) u v go go' k h = k r.0 r.1 h
after_same (Err why) u v go go' k h = cc

forth : (items : List Item) (wanted : List Wanted) (s : Scope) → breach_of wanted s items ≡ None
    → breach_of wanted s (map bare items) ≡ None
unfolding machine.breach_of
forth [] wanted s h = h
forth (Bad f ∷ items) wanted s h = cc
forth (Whole u ∷ items) [] s h = cc
forth (Whole u ∷ items) (w ∷ wanted) s h =
    rw (opens_bare items) (after_same (step w s (terminal_of u.kind u.text) u.text (opens items)) u
    (record { kind = u.kind; text = u.text; start = 0 })
    (λ front s'. breach_of (front ++ wanted) s' items)
    (λ front s'. breach_of (front ++ wanted) s' (map bare items)) (λ front s' g.
    forth items (front ++ wanted) s' g) h)

back : (items : List Item) (wanted : List Wanted) (s : Scope)
    → breach_of wanted s (map bare items) ≡ None → breach_of wanted s items ≡ None
unfolding machine.breach_of
back [] wanted s h = h
back (Bad f ∷ items) wanted s h = cc
back (Whole u ∷ items) [] s h = cc
back (Whole u ∷ items) (w ∷ wanted) s h =
    after_same (step w s (terminal_of u.kind u.text) u.text (opens items))
    (record { kind = u.kind; text = u.text; start = 0 }) u
    (λ front s'. breach_of (front ++ wanted) s' (map bare items))
    (λ front s'. breach_of (front ++ wanted) s' items) (λ front s' g.
    back items (front ++ wanted) s' g)
    (let h' = rw (opens_bare items) at h in h')

pub places_do_not_matter : PlacesDoNotMatter
places_do_not_matter items wanted s = (forth items wanted s, back items wanted s)
