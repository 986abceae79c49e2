-- The flips of a text.
use Rattle.guard_model.proofs.Common.{and_parts, ◌≡◌, ℕ, ◌+◌, ◌*◌, ◌<◌, ◌≤◌, Bool, true, false}
use Rattle.guard_model.proofs.Common.{◌&&◌, cond, eqb, leb, List, [], ◌∷◌, ◌++◌, Option, Some, None}
use Rattle.guard_model.proofs.Common.{refl, sym, ◌∙◌, ap, subst, arith, inl, inr, Result, Ok, Err}
use Rattle.guard_model.proofs.Common.{AllByRecursion, nat_tests, eqb_tells, items_of, Geometry}
use Rattle.guard_model.proofs.Common.{lines_of, Word, words_in, number_or_zero}
use Rattle.guard_model.specs.declared.Flip.{Flip}
use Rattle.guard_model.specs.declared.FlipsKind.{FlipsKind}
use Rattle.guard_model.specs.declared.FlipsFault.{FlipsFault}
use Rattle.guard_model.specs.Flips.{due}
use Rattle.guard_model.specs.FlipText.{is_below, is_next, flip_of, numbers_of, flip_by}
use Rattle.guard_model.specs.FlipText.{flip_in, with_flip, and_rest, flips_from, IsFlip, AreSorted}
use Rattle.guard_model.specs.Laws.{FlipsAreRight, DueFirst}

below_is : (limit : ℕ) (n : Option ℕ) → is_below limit n ≡ true → number_or_zero n < limit
below_is limit None h = cc
below_is limit (Some n) h = grind (arith, nat_tests)

next_is : (instrs before : ℕ) (k : Option ℕ) → is_next instrs before k ≡ true → (1 ≤ number_or_zero k)
    × (before ≤ number_or_zero k) × (number_or_zero k ≤ instrs + 1)
next_is instrs before None h = cc
next_is instrs before (Some k) h =
    let a = and_parts (leb 1 k) (leb before k && leb k (instrs + 1)) h in
    let b = and_parts (leb before k) (leb k (instrs + 1)) a.1 in
    let x = a.0 in
    let y = b.0 in
    let z = b.1 in
    (grind (arith, nat_tests), grind (arith, nat_tests), grind (arith, nat_tests))

-- the flip is right, and comes not before that of the line before
abbrev pub Right : Geometry → ℕ → ℕ → Flip → Type 0
Right g instrs before f = IsFlip g instrs f × (before ≤ f.before)

made_case : (g : Geometry) (instrs before : ℕ) (k bank row column : Option ℕ) (t : Bool) (f : Flip)
    (made : Flip) (kind : FlipsKind) → (t ≡ true → Right g instrs before made) → cond t
    (Ok (Some made)) (Err kind) ≡ Ok (Some f) → Right g instrs before f
made_case g instrs before k bank row column true f made kind r h = let e : made ≡ f = cc in subst
    (Right g instrs before) e (r refl)
made_case g instrs before k bank row column false f made kind r h = cc

pub of_is : (g : Geometry) (instrs before : ℕ) (k bank row column : Option ℕ) (f : Flip)
    → flip_of g instrs before k bank row column ≡ Ok (Some f) → Right g instrs before f
of_is g instrs before k bank row column f h =
    made_case g instrs before k bank row column _ f _ _ (λ t.
    let a = and_parts (is_next instrs before k)
    (is_below g.banks bank && (is_below g.rows row && is_below (64 * g.words) column)) t in
    let b = and_parts (is_below g.banks bank)
    (is_below g.rows row && is_below (64 * g.words) column) a.1 in
    let c = and_parts (is_below g.rows row) (is_below (64 * g.words) column) b.1 in
    let n = next_is instrs before k a.0 in (
      record {
        first = n.0;
        last = n.2;
        bank = below_is g.banks bank b.0;
        row =
            below_is g.rows row c.0;
        column = below_is (64 * g.words) column c.1;
      },
      n.1,
    )) h

by_is : (g : Geometry) (instrs before : ℕ) (numbers : Option (List (Option ℕ))) (f : Flip)
    → flip_by g instrs before numbers ≡ Ok (Some f) → Right g instrs before f
by_is g instrs before None f h = cc
by_is g instrs before (Some []) f h = cc
by_is g instrs before (Some (a ∷ [])) f h = cc
by_is g instrs before (Some (a ∷ b ∷ [])) f h = cc
by_is g instrs before (Some (a ∷ b ∷ c ∷ [])) f h = cc
by_is g instrs before (Some (a ∷ b ∷ c ∷ d ∷ [])) f h = of_is g instrs before a b c d f h
by_is g instrs before (Some (a ∷ b ∷ c ∷ d ∷ e ∷ more)) f h = cc

in_is : (g : Geometry) (instrs before : ℕ) (words : Option (List Word)) (f : Flip)
    → flip_in g instrs before words ≡ Ok (Some f) → Right g instrs before f
in_is g instrs before None f h = cc
in_is g instrs before (Some words) f h = by_is g instrs before (numbers_of words) f h

abbrev AllRight : Geometry → ℕ → ℕ → List Flip → Type 0
AllRight g instrs before flips = AllByRecursion (IsFlip g instrs) flips × AreSorted before flips

flip_case : (g : Geometry) (instrs before : ℕ) (f : Flip) (rest : Result (List Flip) FlipsFault)
    (flips : List Flip) → Right g instrs before f
    → ((more : List Flip) → rest ≡ Ok more → AllRight g instrs f.before more) → with_flip f rest
    ≡ Ok flips → AllRight g instrs before flips
flip_case g instrs before f (Ok more) flips r go h =
    let all = go more refl in
    let e : f ∷ more ≡ flips = cc in
    subst (AllRight g instrs before) e ((r.0, all.0), (r.1, all.1))
flip_case g instrs before f (Err fault) flips r go h = cc

line_case : (g : Geometry) (instrs before number : ℕ) (line : Result (Option Flip) FlipsKind)
    (rest : ℕ → Result (List Flip) FlipsFault) (flips : List Flip)
    → ((f : Flip) → line ≡ Ok (Some f) → Right g instrs before f)
    → ((k : ℕ) (more : List Flip) → rest k ≡ Ok more → AllRight g instrs k more)
    → and_rest before number line rest ≡ Ok flips → AllRight g instrs before flips
line_case g instrs before number (Err kind) rest flips r go h = cc
line_case g instrs before number (Ok None) rest flips r go h = go before flips h
line_case g instrs before number (Ok (Some f)) rest flips r go h = flip_case g instrs before f
    (rest f.before) flips (r f refl) (go f.before) h

from_right : (g : Geometry) (instrs number : ℕ) (lines : List (List ℕ)) (before : ℕ)
    (flips : List Flip) → flips_from g instrs number lines before ≡ Ok flips
    → AllRight g instrs before flips
from_right g instrs number [] before flips h = let e : [] ≡ flips = cc in subst
    (AllRight g instrs before) e (tt, tt)
from_right g instrs number (line ∷ lines) before flips h =
    line_case g instrs before number (flip_in g instrs before (words_in (items_of line)))
    (λ k. flips_from g instrs (number + 1) lines k) flips
    (λ f e. in_is g instrs before (words_in (items_of line)) f e)
    (λ k more e. from_right g instrs (number + 1) lines k more e) h

-- from the first on
sorted_from : (g : Geometry) (instrs : ℕ) (flips : List Flip) → AllByRecursion
    (IsFlip g instrs) flips → AreSorted 0 flips → AreSorted 1 flips
sorted_from g instrs [] all s = tt
sorted_from g instrs (f ∷ flips) all s = (all.0.first, s.1)

-- the flips of a text are flips of the chip, in order
pub flips_are_right : FlipsAreRight
flips_are_right g instrs text flips h = let r = from_right g instrs 1 (lines_of text) 0 flips h in
    (r.0, sorted_from g instrs flips r.0 r.1)

-- none of later flips is due
none_due : (k j : ℕ) (flips : List Flip) → k < j → AreSorted j flips → due k flips ≡ []
none_due k j [] l s = refl
none_due k j (f ∷ flips) l s = let ne : eqb f.before k ≡ false = grind (arith, nat_tests, s.0) in
    rw ne (none_due k f.before flips (omega (arith, l, s.0)) s.1)

pub due_first : DueFirst
due_first k [] s = ([], refl, tt)
due_first k (f ∷ flips) s = elim (eqb_tells f.before k) [
  | inl t ↦
      let rest = due_first k flips (subst (λ j. AreSorted j flips) t.1 s.1) in
      (rest.0, ap (λ l. f ∷ l) rest.1 ∙ sym (rw t.0 refl), rest.2)
  | inr t ↦ (
    f ∷ flips,
    sym (rw t.0
        (ap (λ l. l ++ f ∷ flips) (none_due k f.before flips (omega (arith, s.0, t.1)) s.1))),
    (omega (arith, s.0, t.1), s.1),
  )
]
