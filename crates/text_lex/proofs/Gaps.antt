-- Between the items of a text stand only blanks and comments.
use Rattle.std.proofs.Common.{◌≡◌, ℕ, zero, suc, ◌+◌, ◌-◌, ◌==◌, Bool, true, false, cond, List, []}
use Rattle.std.proofs.Common.{◌∷◌, ◌++◌, length, take, drop, ◌&&◌, refl, ap, ◌∙◌, subst, arith}
use Rattle.std.proofs.Common.{length-take, drop-drop}
use Rattle.std.specs.List.{list_all, prefix_len}
use Rattle.std.proofs.lemmas.Bool.Decides.{nat_tests}
use Rattle.std.specs.Char.{is_ascii_digit}
use Rattle.text_lex.specs.Bytes.{is_blank, is_no_newline, is_name_start, is_mark}
use Rattle.text_lex.specs.declared.token.TokenKind.TheVariants.{Name, Number, Symbol}
use Rattle.text_lex.specs.declared.token.Front.{Front}
use Rattle.text_lex.specs.declared.token.Front.TheVariants.{Gap, Piece, Stranger}
use Rattle.text_lex.specs.Lexical.{Item, Whole, Bad, items_from, items_of, with_front, front_of}
use Rattle.text_lex.specs.Lexical.{front_len, IsWithin, IsAtLineEnd, OnlyGaps, Nothing, Blank}
use Rattle.text_lex.specs.Lexical.{Comment, AreApart, begins_with}
use Rattle.text_lex.proofs.Items.{front_within}

-- what a front passes over, if it is a gap
abbrev Passed : List ℕ → Front → Type 0
Passed bytes (Gap n) = OnlyGaps bytes (drop n bytes)
Passed bytes (Piece k n) = Unit {0}
Passed bytes Stranger = Unit {0}

is_newline : (b : ℕ) → is_no_newline b ≡ false → b ≡ 10
is_newline b h = grind (arith, nat_tests)

is_hash : (b : ℕ) → (b == 35) ≡ true → b ≡ 35
is_hash b h = grind (arith, nat_tests)

one_more : (n : ℕ) → 1 + n ≡ suc n
one_more n = omega arith

-- the rest of a line, and what follows it
record Line (bs : List ℕ) (n : ℕ) : Type 0 where
  words : list_all is_no_newline (take n bs) ≡ true
  ends : IsAtLineEnd (drop n bs)
  is : take n bs ++ drop n bs ≡ bs

one_line : (b : ℕ) (bs : List ℕ) (x : Bool) → is_no_newline b ≡ x
    → Line bs (prefix_len is_no_newline bs) → Line (b ∷ bs) (prefix_len is_no_newline (b ∷ bs))
one_line b bs true e h =
    let n : prefix_len is_no_newline (b ∷ bs) ≡ suc (prefix_len is_no_newline bs) =
    rw e (one_more (prefix_len is_no_newline bs)) in
    rw n (record {
      words = rw e h.words;
      ends = h.ends;
      is = ap (λ l. b ∷ l) h.is;
    })
one_line b bs false e h =
    let n : prefix_len is_no_newline (b ∷ bs) ≡ 0 = rw e refl in
    rw n (record { words = refl; ends = is_newline b e; is = refl })

line : (bs : List ℕ) → Line bs (prefix_len is_no_newline bs)
line [] = record { words = refl; ends = tt; is = refl }
line (b ∷ bs) = one_line b bs (is_no_newline b) refl (line bs)

comment : (b : ℕ) (bs : List ℕ) (n : ℕ) → b ≡ 35 → Line bs n
    → OnlyGaps (b ∷ bs) (drop (1 + n) (b ∷ bs))
comment b bs n e h =
    rw (one_more n, e) (subst (λ l. OnlyGaps (35 ∷ l) (drop n bs)) h.is
    (Comment (take n bs) (drop n bs) h.words h.ends Nothing))

-- a choice, with which way it went
chosen : (bytes : List ℕ) (x : Bool) (f g : Front) → (x ≡ true → Passed bytes f)
    → (x ≡ false → Passed bytes g) → Passed bytes (cond x f g)
chosen bytes true f g h k = h refl
chosen bytes false f g h k = k refl

no_gap : (bytes : List ℕ) (name digit mark arrow : Bool) (n m : ℕ)
    → Passed bytes (cond name (Piece Name n) (cond digit (Piece Number m)
    (cond mark (Piece Symbol 1) (cond arrow (Piece Symbol 2) Stranger))))
no_gap bytes true digit mark arrow n m = tt
no_gap bytes false true mark arrow n m = tt
no_gap bytes false false true arrow n m = tt
no_gap bytes false false false true n m = tt
no_gap bytes false false false false n m = tt

front_passed : (b : ℕ) (bs : List ℕ) → Passed (b ∷ bs) (front_of b bs)
unfolding front_of
front_passed b bs =
    chosen (b ∷ bs) (is_blank b) (Gap 1) _ (λ h. Blank h Nothing)
    (λ _. chosen (b ∷ bs) (b == 35) (Gap (1 + prefix_len is_no_newline bs)) _
    (λ h. comment b bs (prefix_len is_no_newline bs) (is_hash b h) (line bs))
    (λ _. no_gap (b ∷ bs) (is_name_start b) (is_ascii_digit b) (is_mark b) (b == 45
    && begins_with 62 bs) _ _))

-- from an earlier place the items are apart too, where only gaps stand between the places
earlier : (text : List ℕ) (at later : ℕ) (items : List Item)
    → ((rest : List ℕ) → OnlyGaps (drop later text) rest → OnlyGaps (drop at text) rest)
    → AreApart text later items → AreApart text at items
earlier text at later [] f h = f [] h
earlier text at later (Whole t ∷ items) f h = (f (drop t.start text) h.0, h.1)
earlier text at later (Bad e ∷ items) f h = (f (drop e.at text) h.0, h.1)

longer : {a b rest : List ℕ} → OnlyGaps a b → OnlyGaps b rest → OnlyGaps a rest
longer Nothing h = h
longer (Blank e g) h = Blank e (longer g h)
longer (Comment words bs w e g) h = Comment words bs w e (longer g h)

apart_front : (text : List ℕ) (at b : ℕ) (bs : List ℕ) (f : Front) (others : List Item)
    → b ∷ bs ≡ drop at text → IsWithin (length bs) f → Passed (b ∷ bs) f
    → AreApart text (at + front_len f) others → AreApart text at (with_front f at b bs others)
apart_front text at b bs (Gap n) others e w p h =
    let gap : OnlyGaps (drop at text) (drop (at + n) text) =
    rw (← drop-drop n at text, ← e) p in
    earlier text at (at + n) others (λ rest g. longer gap g) h
apart_front text at b bs (Piece k n) others e w p h =
    let size : length (take n (b ∷ bs)) ≡ n = omega (arith, length-take n (b ∷ bs), w.fits) in
    (Nothing, rw size h)
apart_front text at b bs Stranger others e w p h = (Nothing, refl)

apart_from : (text : List ℕ) (at inside : ℕ) (bs : List ℕ) → bs ≡ drop at text
    → AreApart text (at + inside) (items_from at inside bs)
unfolding items_from
apart_from text at inside [] e =
    rw (← drop-drop inside at text, ← e) (none_left inside)
  where
    none_left : (n : ℕ) → OnlyGaps (drop n []) []
    none_left zero = Nothing
    none_left (suc n) = Nothing
apart_from text at (suc n) (b ∷ bs) e =
    let same : at + suc n ≡ at + 1 + n = omega arith in
    rw same (apart_from text (at + 1) n bs (ap (drop 1) e ∙ drop-drop 1 at text))
apart_from text at zero (b ∷ bs) e =
    let w = front_within b bs in
    let same : at + 1 + (front_len (front_of b bs) - 1) ≡ at + front_len (front_of b bs) =
    omega (arith, w.some) in
    let none : at + 0 ≡ at = omega arith in
    rw none (apart_front text at b bs (front_of b bs) _ e w (front_passed b bs)
    (rw same at (apart_from text (at + 1) (front_len (front_of b bs) - 1) bs (ap (drop 1) e
    ∙ drop-drop 1 at text))))

pub items_apart : (text : List ℕ) → AreApart text 0 (items_of text)
items_apart text = apart_from text 0 0 text refl
