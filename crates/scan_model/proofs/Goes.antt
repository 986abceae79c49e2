-- Going through a script from a state: an instruction is refused only for want of room, or the
-- state at the end has a property.
use Rattle.scan_model.proofs.Common.{◌≡◌, ℕ, List, [], ◌∷◌, ◌++◌, Option, Some, None, refl, sym}
use Rattle.scan_model.proofs.Common.{◌∙◌, ap, subst, Geometry, Named, Instruction, Why, Routines}
use Rattle.scan_model.proofs.Common.{refusal, Held, table_of, table_after, worded, table_at_end}
use Rattle.machine_model.specs.Steps.{words_after}
use Rattle.machine_model.specs.Script.{words_at_end}
use Rattle.machine_model.proofs.Scripts.{table_step}
use Rattle.scan_model.specs.Checks.{refused_in, or_else}
use Rattle.scan_model.specs.Laws.{IsRoom}

abbrev pub Meaning : Type 0
Meaning = List ℕ → ℕ → List ℕ → List ℕ

pub words-append : (g : Geometry) (operations : Routines) (meaning : Meaning) (s : List Held)
    (xs ys : List Instruction)
    → words_at_end g operations meaning s (xs ++ ys) ≡ words_at_end g operations meaning
    (words_at_end g operations meaning s xs) ys
words-append g operations meaning s [] ys = refl
words-append g operations meaning s (x ∷ xs) ys =
    words-append g operations meaning (words_after g operations meaning s x) xs ys

or_else_assoc : (a b c : Option Why) → or_else (or_else a b) c ≡ or_else a (or_else b c)
or_else_assoc None b c = refl
or_else_assoc (Some w) b c = refl

-- two scripts one after the other are refused by the first refusal
pub refused-append : (g : Geometry) (operations : Routines) (table : List Named)
    (xs ys : List Instruction)
    → refused_in g operations table (xs ++ ys) ≡ or_else (refused_in g operations table xs)
    (refused_in g operations (table_at_end g operations table xs) ys)
refused-append g operations table [] ys = refl
refused-append g operations table (x ∷ xs) ys =
    ap (or_else (refusal g operations table x))
    (refused-append g operations (table_after g operations table x) xs ys)
    ∙ sym (or_else_assoc (refusal g operations table x)
    (refused_in g operations (table_after g operations table x) xs) _)

-- the table at the end is that of the words
pub table_end : (g : Geometry) (operations : Routines) (meaning : Meaning) (s : List Held)
    (xs : List Instruction)
    → table_of (words_at_end g operations meaning s xs) ≡ table_at_end g operations (table_of s)
    xs
table_end g operations meaning s [] = refl
table_end g operations meaning s (x ∷ xs) =
    table_end g operations meaning (words_after g operations meaning s x) xs
    ∙ ap (λ t. table_at_end g operations t xs) (table_step g operations meaning s x)

pub data Goes (g : Geometry) (operations : Routines) (meaning : Meaning) (s : List Held)
    (xs : List Instruction) (P : List Held → Type 0) : Type 0 where
  ends : refused_in g operations (table_of s) xs ≡ None
      → P (words_at_end g operations meaning s xs) → Goes g operations meaning s xs P
  stops : (w : Why) → refused_in g operations (table_of s) xs ≡ Some w → IsRoom w
      → Goes g operations meaning s xs P

-- one after the other
pub then : (g : Geometry) (operations : Routines) (meaning : Meaning) (s : List Held)
    (xs ys : List Instruction) (P Q : List Held → Type 0)
    → Goes g operations meaning s xs P → ((t : List Held) → P t
    → Goes g operations meaning t ys Q) → Goes g operations meaning s (xs ++ ys) Q
then g operations meaning s xs ys P Q (stops w e r) go =
    stops w (refused-append g operations (table_of s) xs ys
    ∙ ap (λ a. or_else a (refused_in g operations (table_at_end g operations (table_of s) xs)
    ys)) e) r
then g operations meaning s xs ys P Q (ends e p) go =
    rest (go (words_at_end g operations meaning s xs) p) where
      same : refused_in g operations (table_of s) (xs ++ ys)
          ≡ refused_in g operations (table_of (words_at_end g operations meaning s xs)) ys
      same =
          refused-append g operations (table_of s) xs ys
          ∙ ap (λ a. or_else a (refused_in g operations
          (table_at_end g operations (table_of s) xs) ys)) e
          ∙ ap (λ t. refused_in g operations t ys) (sym (table_end g operations meaning s xs))

      rest : Goes g operations meaning (words_at_end g operations meaning s xs) ys Q
          → Goes g operations meaning s (xs ++ ys) Q
      rest (ends f q) = ends (same ∙ f) (subst Q
          (sym (words-append g operations meaning s xs ys)) q)
      rest (stops w f r) = stops w (same ∙ f) r

-- done, or refused for want of room
pub data Allowed : Option Why → Type 0 where
  done : Allowed None
  full : (w : Why) → IsRoom w → Allowed (Some w)

-- one instruction
one_case : (g : Geometry) (operations : Routines) (meaning : Meaning) (s new : List Held)
    (x : Instruction) (P : List Held → Type 0) (r : Option Why)
    → refusal g operations (table_of s) x ≡ r → Allowed r → worded g operations meaning s x ≡ new
    → P new → Goes g operations meaning s (x ∷ []) P
one_case g operations meaning s new x P None e a is p =
    ends (rw e refl) (subst P (sym (rw e is)) p)
one_case g operations meaning s new x P (Some w) e (full _ room) is p = stops w (rw e refl) room

pub one : (g : Geometry) (operations : Routines) (meaning : Meaning) (s new : List Held)
    (x : Instruction) (P : List Held → Type 0)
    → Allowed (refusal g operations (table_of s) x) → worded g operations meaning s x ≡ new
    → P new → Goes g operations meaning s (x ∷ []) P
one g operations meaning s new x P a is p = one_case g operations meaning s new x P
    (refusal g operations (table_of s) x) refl a is p

-- one instruction, and then others
pub next : (g : Geometry) (operations : Routines) (meaning : Meaning) (s new : List Held)
    (x : Instruction) (xs : List Instruction) (Q : List Held → Type 0)
    → Allowed (refusal g operations (table_of s) x) → worded g operations meaning s x ≡ new
    → Goes g operations meaning new xs Q → Goes g operations meaning s (x ∷ xs) Q
next g operations meaning s new x xs Q a is go =
    then g operations meaning s (x ∷ []) xs (λ t. t ≡ new) Q
    (one g operations meaning s new x (λ t. t ≡ new) a is refl)
    (λ t e. subst (λ u. Goes g operations meaning u xs Q) (sym e) go)
