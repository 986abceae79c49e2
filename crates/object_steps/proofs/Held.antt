-- Text that is put in pieces: what was put, and what is held back.
use Rattle.object_steps.proofs.Common.{◌≡◌, ℕ, List, [], ◌++◌, Option, sym, ◌∙◌, ap, subst}
use Rattle.object_steps.proofs.Common.{append_assoc, append-nil, Known, AppendsPart, AppendsUpTo}
use Rattle.host_edge.proofs.Tells.{Known-trans, Known-map}

held_more : (held left piece : List ℕ) (x y : List ℕ) → AppendsUpTo left held x y
    → AppendsUpTo (left ++ piece) (held ++ piece) x y
held_more held left piece x y so_far = (
  so_far.0,
  (
    sym (append_assoc so_far.0 left piece)
        ∙ ap (λ xs. xs ++ piece) so_far.1.0,
    so_far.1.1,
  ),
)

-- a piece is held back besides
pub more_held : (held left piece new : List ℕ) (a b : Option (List ℕ)) → new ≡ left ++ piece
    → Known (AppendsUpTo left held) a b → Known (AppendsUpTo new (held ++ piece)) a b
more_held held left piece new a b e h =
    subst (λ (xs : List ℕ). Known (AppendsUpTo xs (held ++ piece)) a b) (sym e)
    (Known-map {R = AppendsUpTo left held} {S = AppendsUpTo (left ++ piece) (held ++ piece)} a b
    (held_more held left piece) h)

joined : (all held piece left : List ℕ) (x y z : List ℕ) → AppendsUpTo held all x y
    → AppendsUpTo left (held ++ piece) y z → AppendsUpTo left (all ++ piece) x z
joined all held piece left x y z before after = (
  before.0 ++ after.0,
  (
    append_assoc before.0 after.0 left
        ∙ ap (λ xs. before.0 ++ xs) after.1.0
        ∙ sym (append_assoc before.0 held piece)
        ∙ ap (λ xs. xs ++ piece) before.1.0,
    after.1.1
        ∙ ap (λ xs. xs ++ after.0) before.1.1
        ∙ append_assoc x before.0 after.0,
  ),
)

-- one step and then another
pub then_more : (all held piece left : List ℕ) (a b c : Option (List ℕ))
    → Known (AppendsUpTo held all) a b → Known (AppendsUpTo left (held ++ piece)) b c
    → Known (AppendsUpTo left (all ++ piece)) a c
then_more all held piece left a b c = Known-trans {R = AppendsUpTo held all} {S =
    AppendsUpTo left (held ++ piece)} {U = AppendsUpTo left (all ++ piece)} a b c
    (joined all held piece left)

cut : (all held piece : List ℕ) (x y z : List ℕ) → AppendsUpTo held all x y
    → AppendsPart (held ++ piece) y z → AppendsPart (all ++ piece) x z
cut all held piece x y z before part = (
  before.0 ++ part.0,
  (
    (
      part.1.0.0,
      append_assoc before.0 part.0 part.1.0.0
          ∙ ap (λ xs. before.0 ++ xs) part.1.0.1
          ∙ sym (append_assoc before.0 held piece)
          ∙ ap (λ xs. xs ++ piece) before.1.0,
    ),
    part.1.1
        ∙ ap (λ xs. xs ++ part.0) before.1.1
        ∙ append_assoc x before.0 part.0,
  ),
)

-- a step that was cut short
pub then_cut : (all held piece : List ℕ) (a b c : Option (List ℕ))
    → Known (AppendsUpTo held all) a b
    → Known (AppendsPart (held ++ piece)) b c → Known (AppendsPart (all ++ piece)) a c
then_cut all held piece a b c = Known-trans {R = AppendsUpTo held all} {S =
    AppendsPart (held ++ piece)} {U = AppendsPart (all ++ piece)} a b c (cut all held piece)

longer : (first last : List ℕ) (x y : List ℕ) → AppendsPart first x y
    → AppendsPart (first ++ last) x y
longer first last x y part = (
  part.0,
  (
    (
      part.1.0.0 ++ last,
      sym (append_assoc part.0 part.1.0.0 last)
          ∙ ap (λ xs. xs ++ last) part.1.0.1,
    ),
    part.1.1,
  ),
)

-- a part of the front is a part of all
pub part_of_more : (first last : List ℕ) (a b : Option (List ℕ)) → Known (AppendsPart first) a b
    → Known (AppendsPart (first ++ last)) a b
part_of_more first last a b = Known-map {R = AppendsPart first} {S = AppendsPart (first
    ++ last)} a b
    (longer first last)

so_far_part : (all held : List ℕ) (x y : List ℕ) → AppendsUpTo held all x y → AppendsPart all x y
so_far_part all held x y before = (before.0, ((held, before.1.0), before.1.1))

-- what was put so far is a part
pub put_is_part : (all held : List ℕ) (a b : Option (List ℕ)) → Known (AppendsUpTo held all) a b
    → Known (AppendsPart all) a b
put_is_part all held a b = Known-map {R = AppendsUpTo held all} {S = AppendsPart all} a b
    (so_far_part all held)

ended : (all held : List ℕ) (x y z : List ℕ) → AppendsUpTo held all x y → z ≡ y ++ held
    → z ≡ x ++ all
ended all held x y z before put = put ∙ ap (λ xs. xs ++ held) before.1.1
    ∙ append_assoc x before.0 held ∙ ap (λ xs. x ++ xs) before.1.0

-- the rest was put
pub then_all : (all held : List ℕ) (a b c : Option (List ℕ)) → Known (AppendsUpTo held all) a b
    → Known (λ old new. new ≡ old ++ held) b c → Known (λ old new. new ≡ old ++ all) a c
then_all all held a b c = Known-trans {R = AppendsUpTo held all} {S = λ old new. new
    ≡ old ++ held} {U = λ old new. new ≡ old ++ all} a b c (ended all held)

part_ended : (all held : List ℕ) (x y z : List ℕ) → AppendsUpTo held all x y
    → AppendsPart held y z → AppendsPart all x z
part_ended all held x y z before part =
    let held' = sym (append-nil held) in
    let all' = append-nil all in
    subst (λ (xs : List ℕ). AppendsPart xs x z) all' (cut all held [] x y z before
    (subst (λ (xs : List ℕ). AppendsPart xs y z) held' part))

-- a part of the rest was put
pub then_part : (all held : List ℕ) (a b c : Option (List ℕ)) → Known (AppendsUpTo held all) a b
    → Known (AppendsPart held) b c → Known (AppendsPart all) a c
then_part all held a b c = Known-trans {R = AppendsUpTo held all} {S = AppendsPart held} {U =
    AppendsPart all} a b c (part_ended all held)
