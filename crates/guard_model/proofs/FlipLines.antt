-- The text of the flips, line by line.
use Rattle.guard_model.proofs.Common.{◌≡◌, ℕ, suc, ◌+◌, ◌*◌, ◌<◌, ◌≤◌, Bool, true, false, ◌&&◌}
use Rattle.guard_model.proofs.Common.{cond, leb, ltb, List, [], ◌∷◌, ◌++◌, length, map, Option}
use Rattle.guard_model.proofs.Common.{Some, None, refl, sym, ◌∙◌, ap, subst, arith, Result, Ok, Err}
use Rattle.guard_model.proofs.Common.{flat_map, nat_tests, items_of, Geometry, lines_of, Word}
use Rattle.guard_model.proofs.Common.{words_in, number_or_zero}
use Rattle.std.specs.Option.{option_to_list}
use Rattle.bbop_isa.specs.Words.{Name, Number, Comma, Open, Colon, Close, Other}
use Rattle.bbop_isa.proofs.Kinded.{none_any, any_none}
use Rattle.guard_model.specs.declared.Flip.{Flip}
use Rattle.guard_model.specs.declared.FlipsKind.{FlipsKind}
use Rattle.guard_model.specs.declared.FlipsKind.TheVariants.{Lex, Syntax, Number as BadNumber}
use Rattle.guard_model.specs.declared.FlipsFault.{FlipsFault}
use Rattle.guard_model.specs.FlipText.{is_below, is_next, flip_of, with_number, numbers_of}
use Rattle.guard_model.specs.FlipText.{flip_by, flip_in, with_flip, and_rest, flips_from, IsFlip}
use Rattle.guard_model.specs.FlipText.{AreSorted}
use Rattle.guard_model.specs.FlipLaws.{four_numbers, flip_words, SaysFlip, EachSays, SayFlips}
use Rattle.guard_model.specs.FlipLaws.{last_from, IsWrongFlip, FirstWrong, FlipsGoByLines}
use Rattle.guard_model.proofs.Texts.{Right, of_is}

abbrev Said : Type 0
Said = Result (Option Flip) FlipsKind

abbrev fault : FlipsKind → Said
fault kind = Err kind

abbrev says : Option Flip → Said
says s = Ok s

-- ---- words that are numbers

some_numbers : (a b : List (Option ℕ)) → Some a ≡ Some b → a ≡ b
some_numbers a b e = cc

with_case : (n : Option ℕ) (words : List Word) (o : Option (List (Option ℕ)))
    (numbers : List (Option ℕ)) → ((more : List (Option ℕ)) → o ≡ Some more
    → words ≡ map Number more) → with_number n o ≡ Some numbers
    → Number n ∷ words ≡ map Number numbers
with_case n words None numbers go h = absurd (cc)
with_case n words (Some more) numbers go h =
    ap (λ (ws : List Word). Number n ∷ ws) (go more refl)
    ∙ ap (map Number) (some_numbers (n ∷ more) numbers h)

numbers_are : (words : List Word) (numbers : List (Option ℕ)) → numbers_of words ≡ Some numbers
    → words ≡ map Number numbers
numbers_are [] numbers h = ap (map Number) (some_numbers [] numbers h)
numbers_are (Number n ∷ words) numbers h =
    with_case n words (numbers_of words) numbers (λ more e. numbers_are words more e) h
numbers_are (Name name ∷ words) numbers h = absurd (cc)
numbers_are (Comma ∷ words) numbers h = absurd (cc)
numbers_are (Open ∷ words) numbers h = absurd (cc)
numbers_are (Colon ∷ words) numbers h = absurd (cc)
numbers_are (Close ∷ words) numbers h = absurd (cc)
numbers_are (Other ∷ words) numbers h = absurd (cc)

-- ---- the flip of four numbers

below_some : (limit : ℕ) (n : Option ℕ) → is_below limit n ≡ true → n ≡ Some (number_or_zero n)
below_some limit None h = cc
below_some limit (Some n) h = refl

next_some : (instrs k : ℕ) (n : Option ℕ) → is_next instrs k n ≡ true → n ≡ Some (number_or_zero n)
next_some instrs k None h = cc
next_some instrs k (Some n) h = refl

abbrev flip_with : (k bank row column : Option ℕ) → Flip
flip_with k bank row column = record {
  before = number_or_zero k;
  bank = number_or_zero bank;
  row = number_or_zero row;
  column = number_or_zero column;
}

-- the flip that four numbers are
record Four (g : Geometry) (instrs before : ℕ) (k bank row column : Option ℕ) (s : Option Flip)
    : Type 0 where
  flip : Flip
  said : s ≡ Some flip
  words : four_numbers k bank row column ≡ flip_words flip
  right : Right g instrs before flip

said_is : (s t : Option Flip) → says s ≡ says t → t ≡ s
said_is s t e = cc

four_words : (a b c d e f g h : Option ℕ) → a ≡ e → b ≡ f → c ≡ g → d ≡ h
    → four_numbers a b c d ≡ four_numbers e f g h
four_words a b c d e f g h i j k l = rw (i, j, k, l) refl

four_case : (g : Geometry) (instrs before : ℕ) (k bank row column : Option ℕ) (s : Option Flip)
    (p q r t : Bool) → is_next instrs before k ≡ p → is_below g.banks bank ≡ q
    → is_below g.rows row ≡ r → is_below (64 * g.words) column ≡ t
    → cond (p && (q && (r && t))) (says (Some (flip_with k bank row column))) (fault BadNumber)
    ≡ says s → Four g instrs before k bank row column s
four_case g instrs before k bank row column s true true true true a b c d h =
    let flip = flip_with k bank row column in
    let whole : flip_of g instrs before k bank row column ≡ says (Some flip) =
    rw (a, b, c, d) refl in
    record {
      flip = flip;
      said = said_is (Some flip) s h;
      words = four_words k bank row column (Some (number_or_zero k)) (Some (number_or_zero bank))
          (Some (number_or_zero row)) (Some (number_or_zero column)) (next_some instrs before k a)
          (below_some g.banks bank b) (below_some g.rows row c)
          (below_some (64 * g.words) column d);
      right = of_is g instrs before k bank row column flip whole;
    }
four_case g instrs before k bank row column s true true true false a b c d h = absurd (cc)
four_case g instrs before k bank row column s true true false t a b c d h = absurd (cc)
four_case g instrs before k bank row column s true false r t a b c d h = absurd (cc)
four_case g instrs before k bank row column s false q r t a b c d h = absurd (cc)

four_is : (g : Geometry) (instrs before : ℕ) (k bank row column : Option ℕ) (s : Option Flip)
    → flip_of g instrs before k bank row column ≡ says s → Four g instrs before k bank row column s
four_is g instrs before k bank row column s h =
    four_case g instrs before k bank row column s (is_next instrs before k)
    (is_below g.banks bank) (is_below g.rows row) (is_below (64 * g.words) column) refl refl refl
    refl h

at_most : (a b : ℕ) → a ≤ b → leb a b ≡ true
at_most a b h = grind (arith, nat_tests)

below : (a b : ℕ) → a < b → ltb a b ≡ true
below a b h = grind (arith, nat_tests)

flip_again : (g : Geometry) (instrs before : ℕ) (f : Flip) → IsFlip g instrs f
    → before ≤ f.before
    → flip_of g instrs before (Some f.before) (Some f.bank) (Some f.row) (Some f.column)
    ≡ says (Some f)
flip_again g instrs before f r l =
    rw (
      at_most 1 f.before r.first,
      at_most before f.before l,
      at_most f.before (instrs + 1) r.last,
      below f.bank g.banks r.bank,
      below f.row g.rows r.row,
      below f.column (64 * g.words) r.column,
    ) refl

-- ---- one line

-- a flip does not come before this instruction
abbrev IsLate : ℕ → Option Flip → Type 0
IsLate before None = Unit {0}
IsLate before (Some f) = before ≤ f.before

abbrev SaysLate : Geometry → ℕ → ℕ → List ℕ → Option Flip → Type 0
SaysLate g instrs before line s = SaysFlip g instrs line s × IsLate before s

four_says : (g : Geometry) (instrs before : ℕ) (line : List ℕ) (words : List Word)
    (k bank row column : Option ℕ) (s : Option Flip) → words_in (items_of line) ≡ Some words
    → words ≡ four_numbers k bank row column → Four g instrs before k bank row column s
    → SaysLate g instrs before line s
four_says g instrs before line words k bank row column s e w f =
    subst (SaysLate g instrs before line) (sym f.said)
    ((e ∙ ap (λ (ws : List Word). Some ws) (w ∙ f.words), f.right.0), f.right.1)

numbers_say : (g : Geometry) (instrs before : ℕ) (line : List ℕ) (words : List Word)
    (numbers : List (Option ℕ)) (s : Option Flip) → words_in (items_of line) ≡ Some words
    → words ≡ map Number numbers → flip_by g instrs before (Some numbers) ≡ says s
    → SaysLate g instrs before line s
numbers_say g instrs before line words [] s e w h =
    subst (SaysLate g instrs before line) (sym (said_is None s h))
    (e ∙ ap (λ (ws : List Word). Some ws) w, tt)
numbers_say g instrs before line words (a ∷ []) s e w h = absurd (cc)
numbers_say g instrs before line words (a ∷ b ∷ []) s e w h = absurd (cc)
numbers_say g instrs before line words (a ∷ b ∷ c ∷ []) s e w h = absurd (cc)
numbers_say g instrs before line words (a ∷ b ∷ c ∷ d ∷ []) s e w h =
    four_says g instrs before line words a b c d s e w (four_is g instrs before a b c d s h)
numbers_say g instrs before line words (a ∷ b ∷ c ∷ d ∷ more ∷ others) s e w h = absurd (cc)

by_says : (g : Geometry) (instrs before : ℕ) (line : List ℕ) (words : List Word)
    (o : Option (List (Option ℕ))) (s : Option Flip) → words_in (items_of line) ≡ Some words
    → numbers_of words ≡ o → flip_by g instrs before o ≡ says s → SaysLate g instrs before line s
by_says g instrs before line words None s e n h = absurd (cc)
by_says g instrs before line words (Some numbers) s e n h =
    numbers_say g instrs before line words numbers s e (numbers_are words numbers n) h

in_says : (g : Geometry) (instrs before : ℕ) (line : List ℕ) (o : Option (List Word))
    (s : Option Flip) → words_in (items_of line) ≡ o → flip_in g instrs before o ≡ says s
    → SaysLate g instrs before line s
in_says g instrs before line None s e h = absurd (cc)
in_says g instrs before line (Some words) s e h =
    by_says g instrs before line words (numbers_of words) s e refl h

says_in : (g : Geometry) (instrs before : ℕ) (line : List ℕ) (s : Option Flip)
    → SaysLate g instrs before line s
    → flip_in g instrs before (words_in (items_of line)) ≡ says s
says_in g instrs before line None h = ap (flip_in g instrs before) h.0
says_in g instrs before line (Some f) h =
    ap (flip_in g instrs before) h.0.0 ∙ flip_again g instrs before f h.0.1 h.1

-- ---- one line at fault

kind_is : (a b : FlipsKind) → fault a ≡ fault b → a ≡ b
kind_is a b e = cc

-- words that are no four numbers
abbrev NoFour : List Word → Type 0
NoFour words = (a b c d : Option ℕ) → words ≡ four_numbers a b c d → ⊥

syntax_wrong : (g : Geometry) (instrs before : ℕ) (line : List ℕ) (words : List Word)
    (kind : FlipsKind) → words_in (items_of line) ≡ Some words → 1 ≤ length words → NoFour words
    → fault Syntax ≡ fault kind → IsWrongFlip g instrs before line kind
syntax_wrong g instrs before line words kind e some never h =
    subst (IsWrongFlip g instrs before line) (kind_is Syntax kind h)
    (words, record { read = e; some = some }, never)

four_wrong : (g : Geometry) (instrs before : ℕ) (line : List ℕ) (kind : FlipsKind)
    (a b c d : Option ℕ) (t : Bool) → words_in (items_of line) ≡ Some (four_numbers a b c d)
    → cond t (says (Some (flip_with a b c d))) (fault BadNumber) ≡ fault kind
    → flip_of g instrs before a b c d ≡ fault kind → IsWrongFlip g instrs before line kind
four_wrong g instrs before line kind a b c d true e h whole = absurd (cc)
four_wrong g instrs before line kind a b c d false e h whole =
    subst (IsWrongFlip g instrs before line) (kind_is BadNumber kind h) (
      a,
      b,
      c,
      d,
      e,
      λ f said late.
          let one = says_in g instrs before line (Some f) (said, late) in
          let other = ap (flip_in g instrs before) e ∙ whole in
          cc,
    )

length_is : (words : List Word) (numbers : List (Option ℕ)) → words ≡ map Number numbers
    → length words ≡ length (map Number numbers)
length_is words numbers w = ap length w

numbers_wrong : (g : Geometry) (instrs before : ℕ) (line : List ℕ) (words : List Word)
    (numbers : List (Option ℕ)) (kind : FlipsKind) → words_in (items_of line) ≡ Some words
    → words ≡ map Number numbers → flip_by g instrs before (Some numbers) ≡ fault kind
    → IsWrongFlip g instrs before line kind
numbers_wrong g instrs before line words [] kind e w h = absurd (cc)
numbers_wrong g instrs before line words (a ∷ []) kind e w h =
    syntax_wrong g instrs before line words kind e (omega (arith, length_is words (a ∷ []) w))
    (λ i j k l f. let clash = sym w ∙ f in cc) h
numbers_wrong g instrs before line words (a ∷ b ∷ []) kind e w h =
    syntax_wrong g instrs before line words kind e
    (omega (arith, length_is words (a ∷ b ∷ []) w)) (λ i j k l f. let clash = sym w ∙ f in cc) h
numbers_wrong g instrs before line words (a ∷ b ∷ c ∷ []) kind e w h =
    syntax_wrong g instrs before line words kind e
    (omega (arith, length_is words (a ∷ b ∷ c ∷ []) w)) (λ i j k l f. let clash = sym w ∙ f in cc)
    h
numbers_wrong g instrs before line words (a ∷ b ∷ c ∷ d ∷ []) kind e w h =
    four_wrong g instrs before line kind a b c d _ (e ∙ ap (λ (ws : List Word). Some ws) w) h h
numbers_wrong g instrs before line words (a ∷ b ∷ c ∷ d ∷ more ∷ others) kind e w h =
    let long = length_is words (a ∷ b ∷ c ∷ d ∷ more ∷ others) w in
    syntax_wrong g instrs before line words kind e (omega (arith, long))
    (λ i j k l f. let clash = sym w ∙ f in cc) h

no_numbers : (g : Geometry) (instrs before : ℕ) (line : List ℕ) (words : List Word)
    (kind : FlipsKind) → words_in (items_of line) ≡ Some words → numbers_of words ≡ None
    → fault Syntax ≡ fault kind → IsWrongFlip g instrs before line kind
no_numbers g instrs before line [] kind e n h = absurd (cc)
no_numbers g instrs before line (word ∷ words) kind e n h =
    syntax_wrong g instrs before line (word ∷ words) kind e (omega arith)
    (λ i j k l f. let all : numbers_of (word ∷ words) ≡ Some (i ∷ j ∷ k ∷ l ∷ []) =
    ap numbers_of f in cc) h

by_wrong : (g : Geometry) (instrs before : ℕ) (line : List ℕ) (words : List Word)
    (o : Option (List (Option ℕ))) (kind : FlipsKind) → words_in (items_of line) ≡ Some words
    → numbers_of words ≡ o → flip_by g instrs before o ≡ fault kind
    → IsWrongFlip g instrs before line kind
by_wrong g instrs before line words None kind e n h =
    no_numbers g instrs before line words kind e n h
by_wrong g instrs before line words (Some numbers) kind e n h =
    numbers_wrong g instrs before line words numbers kind e (numbers_are words numbers n) h

in_wrong : (g : Geometry) (instrs before : ℕ) (line : List ℕ) (o : Option (List Word))
    (kind : FlipsKind) → words_in (items_of line) ≡ o → flip_in g instrs before o ≡ fault kind
    → IsWrongFlip g instrs before line kind
in_wrong g instrs before line None kind e h =
    subst (IsWrongFlip g instrs before line) (kind_is Lex kind h) (none_any (items_of line) e)
in_wrong g instrs before line (Some words) kind e h =
    by_wrong g instrs before line words (numbers_of words) kind e refl h

-- the other way
numbers_refused : (g : Geometry) (instrs before : ℕ) (words : List Word)
    (numbers : List (Option ℕ)) → words ≡ map Number numbers → 1 ≤ length words → NoFour words
    → flip_by g instrs before (Some numbers) ≡ fault Syntax
numbers_refused g instrs before words [] w some never =
    let l = length_is words [] w in absurd (omega (arith, l, some))
numbers_refused g instrs before words (a ∷ []) w some never = refl
numbers_refused g instrs before words (a ∷ b ∷ []) w some never = refl
numbers_refused g instrs before words (a ∷ b ∷ c ∷ []) w some never = refl
numbers_refused g instrs before words (a ∷ b ∷ c ∷ d ∷ []) w some never = absurd (never a b c d w)
numbers_refused g instrs before words (a ∷ b ∷ c ∷ d ∷ more ∷ others) w some never = refl

words_refused : (g : Geometry) (instrs before : ℕ) (words : List Word)
    (o : Option (List (Option ℕ))) → numbers_of words ≡ o → 1 ≤ length words → NoFour words
    → flip_by g instrs before o ≡ fault Syntax
words_refused g instrs before words None n some never = refl
words_refused g instrs before words (Some numbers) n some never =
    numbers_refused g instrs before words numbers (numbers_are words numbers n) some never

four_refused : (g : Geometry) (instrs before : ℕ) (line : List ℕ) (a b c d : Option ℕ) (t : Bool)
    → words_in (items_of line) ≡ Some (four_numbers a b c d)
    → ((f : Flip) → SaysFlip g instrs line (Some f) → before ≤ f.before → ⊥)
    → flip_of g instrs before a b c d ≡ cond t (says (Some (flip_with a b c d))) (fault BadNumber)
    → flip_of g instrs before a b c d ≡ fault BadNumber
four_refused g instrs before line a b c d true e never h =
    let f = flip_with a b c d in
    let four = four_is g instrs before a b c d (Some f) h in
    let late = four_says g instrs before line (four_numbers a b c d) a b c d (Some f) e refl four
    in
    absurd (never f late.0 late.1)
four_refused g instrs before line a b c d false e never h = h

wrong_in : (g : Geometry) (instrs before : ℕ) (line : List ℕ) (kind : FlipsKind)
    → IsWrongFlip g instrs before line kind
    → flip_in g instrs before (words_in (items_of line)) ≡ fault kind
wrong_in g instrs before line Lex h =
    ap (flip_in g instrs before) (any_none (items_of line) h)
wrong_in g instrs before line Syntax h =
    ap (flip_in g instrs before) h.1.read
    ∙ words_refused g instrs before h.0 (numbers_of h.0) refl h.1.some h.2
wrong_in g instrs before line BadNumber h =
    ap (flip_in g instrs before) h.4
    ∙ four_refused g instrs before line h.0 h.1 h.2 h.3 _ h.4 h.5 refl

-- ---- all lines

abbrev Read : Type 0
Read = Result (List Flip) FlipsFault

abbrev read : List Flip → Read
read flips = Ok flips

abbrev stopped : FlipsFault → Read
stopped f = Err f

flips_same : (a b : List Flip) → read a ≡ read b → b ≡ a
flips_same a b e = cc

-- with a line before
nothing_more : (g : Geometry) (instrs k : ℕ) (line : List ℕ) (lines : List (List ℕ))
    (flips : List Flip) → SaysFlip g instrs line None → SayFlips g instrs k lines flips
    → SayFlips g instrs k (line ∷ lines) flips
nothing_more g instrs k line lines flips s more = record {
  said = None ∷ more.said;
  each = (s, more.each);
  flips_are = more.flips_are;
  sorted = more.sorted;
}

flip_more : (g : Geometry) (instrs k : ℕ) (line : List ℕ) (lines : List (List ℕ)) (f : Flip)
    (flips : List Flip) → SaysFlip g instrs line (Some f) → k ≤ f.before
    → SayFlips g instrs f.before lines flips → SayFlips g instrs k (line ∷ lines) (f ∷ flips)
flip_more g instrs k line lines f flips s late more = record {
  said = Some f ∷ more.said;
  each = (s, more.each);
  flips_are = ap (λ (fs : List Flip). f ∷ fs) more.flips_are;
  sorted = (late, more.sorted);
}

with_said : (g : Geometry) (instrs k : ℕ) (line : List ℕ) (lines : List (List ℕ)) (f : Flip)
    (rest : Read) (flips : List Flip) → SaysLate g instrs k line (Some f)
    → ((more : List Flip) → rest ≡ read more → SayFlips g instrs f.before lines more)
    → with_flip f rest ≡ read flips → SayFlips g instrs k (line ∷ lines) flips
with_said g instrs k line lines f (Ok more) flips s go h =
    subst (SayFlips g instrs k (line ∷ lines)) (sym (flips_same (f ∷ more) flips h))
    (flip_more g instrs k line lines f more s.0 s.1 (go more refl))
with_said g instrs k line lines f (Err fault) flips s go h = absurd (cc)

rest_said : (g : Geometry) (instrs number k : ℕ) (line : List ℕ) (lines : List (List ℕ))
    (one : Said) (rest : ℕ → Read) (flips : List Flip)
    → ((s : Option Flip) → one ≡ says s → SaysLate g instrs k line s)
    → ((j : ℕ) (more : List Flip) → rest j ≡ read more → SayFlips g instrs j lines more)
    → and_rest k number one rest ≡ read flips → SayFlips g instrs k (line ∷ lines) flips
rest_said g instrs number k line lines (Err kind) rest flips said go h = absurd (cc)
rest_said g instrs number k line lines (Ok None) rest flips said go h =
    nothing_more g instrs k line lines flips (said None refl).0 (go k flips h)
rest_said g instrs number k line lines (Ok (Some f)) rest flips said go h =
    with_said g instrs k line lines f (rest f.before) flips (said (Some f) refl) (go f.before) h

all_said : (g : Geometry) (instrs number : ℕ) (lines : List (List ℕ)) (k : ℕ)
    (flips : List Flip) → flips_from g instrs number lines k ≡ read flips
    → SayFlips g instrs k lines flips
all_said g instrs number [] k flips h =
    subst (SayFlips g instrs k []) (sym (flips_same [] flips h))
    (record { said = []; each = tt; flips_are = refl; sorted = tt })
all_said g instrs number (line ∷ lines) k flips h =
    rest_said g instrs number k line lines (flip_in g instrs k (words_in (items_of line)))
    (λ j. flips_from g instrs (number + 1) lines j) flips
    (λ s e. in_says g instrs k line (words_in (items_of line)) s refl e)
    (λ j more e. all_said g instrs (number + 1) lines j more e) h

-- the other way
say_all : (g : Geometry) (instrs number : ℕ) (lines : List (List ℕ)) (k : ℕ)
    (said : List (Option Flip)) → EachSays g instrs lines said
    → AreSorted k (flat_map option_to_list said)
    → flips_from g instrs number lines k ≡ read (flat_map option_to_list said)
say_all g instrs number [] k [] each sorted = refl
say_all g instrs number [] k (s ∷ said) each sorted = absurd each
say_all g instrs number (line ∷ lines) k [] each sorted = absurd each
say_all g instrs number (line ∷ lines) k (None ∷ said) each sorted =
    ap (λ (one : Said). and_rest k number one (λ j. flips_from g instrs (number + 1) lines j))
    (says_in g instrs k line None (each.0, tt))
    ∙ say_all g instrs (number + 1) lines k said each.1 sorted
say_all g instrs number (line ∷ lines) k (Some f ∷ said) each sorted =
    ap (λ (one : Said). and_rest k number one (λ j. flips_from g instrs (number + 1) lines j))
    (says_in g instrs k line (Some f) (each.0, sorted.0))
    ∙ ap (with_flip f) (say_all g instrs (number + 1) lines f.before said each.1 sorted.1)

-- a line at fault, with a line before
nothing_wrong : (g : Geometry) (instrs number k : ℕ) (line : List ℕ) (lines : List (List ℕ))
    (f : FlipsFault) → SaysFlip g instrs line None
    → FirstWrong g instrs (number + 1) k lines f → FirstWrong g instrs number k (line ∷ lines) f
nothing_wrong g instrs number k line lines f s w =
    let place = w.place in
    record {
      before = line ∷ w.before;
      line = w.line;
      following = w.following;
      parted = ap (λ (ls : List (List ℕ)). line ∷ ls) w.parted;
      place = omega (arith, place);
      earlier = w.earlier;
      right = nothing_more g instrs k line w.before w.earlier s w.right;
      wrong = w.wrong;
    }

flip_wrong : (g : Geometry) (instrs number k : ℕ) (line : List ℕ) (lines : List (List ℕ))
    (flip : Flip) (f : FlipsFault) → SaysFlip g instrs line (Some flip) → k ≤ flip.before
    → FirstWrong g instrs (number + 1) flip.before lines f
    → FirstWrong g instrs number k (line ∷ lines) f
flip_wrong g instrs number k line lines flip f s late w =
    let place = w.place in
    record {
      before = line ∷ w.before;
      line = w.line;
      following = w.following;
      parted = ap (λ (ls : List (List ℕ)). line ∷ ls) w.parted;
      place = omega (arith, place);
      earlier = flip ∷ w.earlier;
      right = flip_more g instrs k line w.before flip w.earlier s late w.right;
      wrong = w.wrong;
    }

fault_is : (a b : FlipsFault) → stopped a ≡ stopped b → a ≡ b
fault_is a b e = cc

with_wrong : (flip : Flip) (rest : Read) (f : FlipsFault) → with_flip flip rest ≡ stopped f
    → rest ≡ stopped f
with_wrong flip (Ok more) f h = absurd (cc)
with_wrong flip (Err other) f h = ap stopped (fault_is other f h)

first_wrong : (g : Geometry) (instrs number k : ℕ) (line : List ℕ) (lines : List (List ℕ))
    (kind : FlipsKind) → IsWrongFlip g instrs k line kind
    → FirstWrong g instrs number k (line ∷ lines) (record { line = number; kind = kind })
first_wrong g instrs number k line lines kind w = record {
  before = [];
  line = line;
  following = lines;
  parted = refl;
  place = omega arith;
  earlier = [];
  right = record { said = []; each = tt; flips_are = refl; sorted = tt };
  wrong = w;
}

rest_wrong : (g : Geometry) (instrs number k : ℕ) (line : List ℕ) (lines : List (List ℕ))
    (one : Said) (rest : ℕ → Read) (f : FlipsFault)
    → ((kind : FlipsKind) → one ≡ fault kind → IsWrongFlip g instrs k line kind)
    → ((s : Option Flip) → one ≡ says s → SaysLate g instrs k line s)
    → ((j : ℕ) → rest j ≡ stopped f → FirstWrong g instrs (number + 1) j lines f)
    → and_rest k number one rest ≡ stopped f → FirstWrong g instrs number k (line ∷ lines) f
rest_wrong g instrs number k line lines (Err kind) rest f wrong said go h =
    subst (FirstWrong g instrs number k (line ∷ lines))
    (fault_is (record { line = number; kind = kind }) f h)
    (first_wrong g instrs number k line lines kind (wrong kind refl))
rest_wrong g instrs number k line lines (Ok None) rest f wrong said go h =
    nothing_wrong g instrs number k line lines f (said None refl).0 (go k h)
rest_wrong g instrs number k line lines (Ok (Some flip)) rest f wrong said go h =
    let s = said (Some flip) refl in
    flip_wrong g instrs number k line lines flip f s.0 s.1
    (go flip.before (with_wrong flip (rest flip.before) f h))

all_wrong : (g : Geometry) (instrs number : ℕ) (lines : List (List ℕ)) (k : ℕ) (f : FlipsFault)
    → flips_from g instrs number lines k ≡ stopped f → FirstWrong g instrs number k lines f
all_wrong g instrs number [] k f h = absurd (cc)
all_wrong g instrs number (line ∷ lines) k f h =
    rest_wrong g instrs number k line lines (flip_in g instrs k (words_in (items_of line)))
    (λ j. flips_from g instrs (number + 1) lines j) f
    (λ kind e. in_wrong g instrs k line (words_in (items_of line)) kind refl e)
    (λ s e. in_says g instrs k line (words_in (items_of line)) s refl e)
    (λ j e. all_wrong g instrs (number + 1) lines j f e) h

-- the other way
wrong_all : (g : Geometry) (instrs number k : ℕ) (before : List (List ℕ)) (line : List ℕ)
    (following : List (List ℕ)) (said : List (Option Flip)) (kind : FlipsKind)
    → EachSays g instrs before said → AreSorted k (flat_map option_to_list said)
    → IsWrongFlip g instrs (last_from k (flat_map option_to_list said)) line kind
    → flips_from g instrs number (before ++ line ∷ following) k
    ≡ stopped (record { line = number + length before; kind = kind })
wrong_all g instrs number k [] line following [] kind each sorted w =
    let same : number ≡ number + 0 = omega arith in
    ap (λ (one : Said). and_rest k number one
    (λ j. flips_from g instrs (number + 1) following j)) (wrong_in g instrs k line kind w)
    ∙ ap (λ (n : ℕ). stopped (record { line = n; kind = kind })) same
wrong_all g instrs number k [] line following (s ∷ said) kind each sorted w = absurd each
wrong_all g instrs number k (one ∷ before) line following [] kind each sorted w = absurd each
wrong_all g instrs number k (one ∷ before) line following (None ∷ said) kind each sorted w =
    let same : number + 1 + length before ≡ number + suc (length before) = omega arith in
    ap (λ (r : Said). and_rest k number r
    (λ j. flips_from g instrs (number + 1) (before ++ line ∷ following) j))
    (says_in g instrs k one None (each.0, tt))
    ∙ wrong_all g instrs (number + 1) k before line following said kind each.1 sorted w
    ∙ ap (λ (n : ℕ). stopped (record { line = n; kind = kind })) same
wrong_all g instrs number k (one ∷ before) line following (Some f ∷ said) kind each sorted w =
    let same : number + 1 + length before ≡ number + suc (length before) = omega arith in
    ap (λ (r : Said). and_rest k number r
    (λ j. flips_from g instrs (number + 1) (before ++ line ∷ following) j))
    (says_in g instrs k one (Some f) (each.0, sorted.0))
    ∙ ap (with_flip f) (wrong_all g instrs (number + 1) f.before before line following said kind
    each.1 sorted.1 w)
    ∙ ap (λ (n : ℕ). stopped (record { line = n; kind = kind })) same

accepted : (g : Geometry) (instrs k : ℕ) (lines : List (List ℕ)) (flips : List Flip)
    → SayFlips g instrs k lines flips → flips_from g instrs 1 lines k ≡ read flips
accepted g instrs k lines flips s =
    say_all g instrs 1 lines k s.said s.each (subst (AreSorted k) s.flips_are s.sorted)
    ∙ ap read (sym s.flips_are)

same_fault : (f : FlipsFault) (line : ℕ) → f.line ≡ line
    → stopped (record { line = line; kind = f.kind }) ≡ stopped f
same_fault f line e = rw (sym e) refl

refused : (g : Geometry) (instrs : ℕ) (lines : List (List ℕ)) (f : FlipsFault)
    → FirstWrong g instrs 1 0 lines f → flips_from g instrs 1 lines 0 ≡ stopped f
refused g instrs lines f w =
    let are = w.right.flips_are in
    ap (λ (ls : List (List ℕ)). flips_from g instrs 1 ls 0) w.parted
    ∙ wrong_all g instrs 1 0 w.before w.line w.following w.right.said f.kind w.right.each
    (subst (AreSorted 0) are w.right.sorted)
    (subst (λ (fs : List Flip). IsWrongFlip g instrs (last_from 0 fs) w.line f.kind) are w.wrong)
    ∙ same_fault f (1 + length w.before) w.place

pub flips_go_by_lines : FlipsGoByLines
flips_go_by_lines = record {
  accepted = λ g instrs text flips. (
    λ h. all_said g instrs 1 (lines_of text) 0 flips h,
    λ s. accepted g instrs 0 (lines_of text) flips s,
  );
  refused = λ g instrs text f. (
    λ h. all_wrong g instrs 1 (lines_of text) 0 f h,
    λ w. refused g instrs (lines_of text) f w,
  );
}
