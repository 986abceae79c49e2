-- Operands, as they are gathered term by term.
use Rattle.std.proofs.Common.{◌≡◌, ℕ, Bool, true, false, List, [], ◌∷◌, ◌++◌}
use Rattle.std.proofs.Common.{Option, Some, None, Result, Ok, Err, refl, ap, ◌∙◌}
use Rattle.std.proofs.Common.{append_assoc, append-nil, map}
use Rattle.bbop_isa.specs.declared.operands.Operands.{Operands as KeptOperands}
use Rattle.bbop_isa.specs.declared.instr.LineError.{LineError}
use Rattle.bbop_isa.specs.declared.instr.LineError.TheVariants as line_no
use Rattle.bbop_isa.specs.Operands.{Written, Term, Named, Value, Break, Stray, Operands}
use Rattle.bbop_isa.specs.Operands.{operands_in, with_place, with_number, before_places}
use Rattle.bbop_isa.specs.Reading.{operands_view, written_view, takes, joined, joined_after, left}
use Rattle.bbop_isa.specs.Reading.{Takes, Pushes}

-- one object more
place_moves : (places : List Written) (place : Written) (o : Option Operands)
    → joined_after places [] (with_place place o) ≡ joined_after (places ++ place ∷ []) [] o
place_moves places place None = refl
place_moves places place (Some o) = rw (append_assoc places (place ∷ []) o.places) refl

-- one number more
number_moves : (places : List Written) (numbers : List (Option ℕ)) (number : Option ℕ)
    (o : Option Operands)
    → joined_after places numbers (with_number number o) ≡ joined_after places (numbers ++ number
    ∷ []) o
number_moves places [] number None = refl
number_moves places (n ∷ ns) number None = refl
number_moves places numbers number (Some o) = parts places numbers number o.places o.numbers
  where
    parts : (places : List Written) (numbers : List (Option ℕ)) (number : Option ℕ)
        (more : List Written) (others : List (Option ℕ))
        → joined_after places numbers (before_places number more others)
        ≡ joined places (numbers ++ number ∷ []) more others
    parts places [] number [] others = rw (append-nil places) refl
    parts places (n ∷ ns) number [] others = rw (append_assoc ns (number ∷ []) others) refl
    parts places [] number (m ∷ more) others = refl
    parts places (n ∷ ns) number (m ∷ more) others = refl

place_alone : (places : List Written) (place : Written) (terms : List Term)
    → left false places [] (Named place ∷ terms) ≡ left true (places ++ place ∷ []) [] terms
place_alone places place [] = refl
place_alone places place (Break ∷ terms) = place_moves places place (operands_in terms)
place_alone places place (Named other ∷ terms) = refl
place_alone places place (Value number ∷ terms) = refl
place_alone places place (Stray ∷ terms) = refl

number_alone : (places : List Written) (numbers : List (Option ℕ)) (number : Option ℕ)
    (terms : List Term)
    → left false places numbers (Value number ∷ terms)
    ≡ left true places (numbers ++ number ∷ []) terms
number_alone places [] number [] = rw (append-nil places) refl
number_alone places (n ∷ ns) number [] = refl
number_alone places numbers number (Break ∷ terms) =
    number_moves places numbers number (operands_in terms)
number_alone places numbers number (Named place ∷ terms) = refl
number_alone places numbers number (Value other ∷ terms) = refl
number_alone places numbers number (Stray ∷ terms) = refl

late_place : (places : List Written) (n : Option ℕ) (ns : List (Option ℕ)) (place : Written)
    (terms : List Term) → left false places (n ∷ ns) (Named place ∷ terms) ≡ None
late_place places n ns place [] = refl
late_place places n ns place (Break ∷ terms) = after (operands_in terms)
  where
    after : (o : Option Operands) → joined_after places (n ∷ ns) (with_place place o) ≡ None
    after None = refl
    after (Some o) = refl
late_place places n ns place (Named other ∷ terms) = refl
late_place places n ns place (Value number ∷ terms) = refl
late_place places n ns place (Stray ∷ terms) = refl

abbrev left_of : Option Operands → List Term → Option Operands
left_of None terms = None
left_of (Some o) terms = left true o.places o.numbers terms

-- what the terms come to is what is left with one term taken
pub taken : (places : List Written) (numbers : List (Option ℕ)) (term : Term) (terms : List Term)
    (o : Operands) → takes places numbers term ≡ Some o
    → left false places numbers (term ∷ terms) ≡ left true o.places o.numbers terms
taken places [] (Named place) terms o is = place_alone places place terms ∙ ap (λ p. left_of p terms) is
taken places (n ∷ ns) (Named place) terms o is = absurd (cc)
taken places [] (Value number) terms o is = number_alone places [] number terms
    ∙ ap (λ p. left_of p terms) is
taken places (n ∷ ns) (Value number) terms o is = number_alone places (n ∷ ns) number terms
    ∙ ap (λ p. left_of p terms) is
taken places [] Break terms o is = absurd (cc)
taken places (n ∷ ns) Break terms o is = absurd (cc)
taken places [] Stray terms o is = absurd (cc)
taken places (n ∷ ns) Stray terms o is = absurd (cc)

pub not_taken : (places : List Written) (numbers : List (Option ℕ)) (term : Term)
    (terms : List Term) → takes places numbers term ≡ None
    → left false places numbers (term ∷ terms) ≡ None
not_taken places [] (Named place) terms is = absurd (cc)
not_taken places (n ∷ ns) (Named place) terms is = late_place places n ns place terms
not_taken places [] (Value number) terms is = absurd (cc)
not_taken places (n ∷ ns) (Value number) terms is = absurd (cc)
not_taken places numbers Break terms is = refl
not_taken places numbers Stray terms is = refl

-- a term that was pushed is taken
pub pushed_is_taken : (old : KeptOperands) (term : Term) (answer : Result Bool LineError)
    (new : KeptOperands) → old.at_comma ≡ false → Pushes old term answer new → new.at_comma ≡ true
    → Takes old term answer new
pushed_is_taken old term (Ok true) new was pushed is =
    λ terms. rw (was, is) (taken (map written_view old.places.items) old.numbers.items term terms
    (operands_view new) pushed)
pushed_is_taken old term (Ok false) new was pushed is =
    λ terms. rw was (not_taken (map written_view old.places.items) old.numbers.items term terms
    pushed)
pushed_is_taken old term (Err (line_no.Bad kind)) new was pushed is = pushed
pushed_is_taken old term (Err line_no.NoMemory) new was pushed is = tt

-- before the first term
pub nothing_yet : (o : Option Operands) → o ≡ joined_after [] [] o
nothing_yet None = refl
nothing_yet (Some o) = refl
